use Rattle.record.proofs.Cells.{cleared_filled}
use Rattle.record.proofs.clear.Goals as goal

pub returns-then-m-ge-ERRORS_AT : goal.returns-then-m-ge-ERRORS_AT
returns-then-m-ge-ERRORS_AT c = λ h. cleared_filled _ _ 6144 h (c.fill.ensures.after (λ y e. e))

use Rattle.record.specs.Writes.{emit_full}
use Rattle.record.proofs.Cells.{error_counted}
use Rattle.record.proofs.emit.Goals as goal

pub returns-then-c-ge-MOST_ERRORS : goal.returns-then-c-ge-MOST_ERRORS
returns-then-c-ge-MOST_ERRORS c = emit_full _ _ _ c.if-c-ge-MOST_ERRORS.true

pub returns : goal.returns
returns c = error_counted _ _ _ _ c.write_error.ensures

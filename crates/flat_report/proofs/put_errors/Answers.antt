use Rattle.std.proofs.Common.{◌∙◌, arith}
use Rattle.flat_report.proofs.FlatLaws.{put_none, put_more}
use Rattle.flat_report.proofs.put_errors.Goals as goal

pub loop-i-init : goal.loop-i-init
loop-i-init c = put_none _ _

pub loop-i-preserved : goal.loop-i-preserved
loop-i-preserved c = put_more _ _ _ _ _ _ _ c.loop-i.invariant c.error_row.ensures (c.copy_from_slice.ensures.after ∙ c.numbers-row.ensures) (omega arith) (omega arith)

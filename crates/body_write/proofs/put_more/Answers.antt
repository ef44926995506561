use Rattle.output.specs.Turns.{rows_none, rows_next}
use Rattle.body_write.proofs.put_more.Goals as goal

pub loop-i-init : goal.loop-i-init
loop-i-init c = rows_none _ _ _

pub loop-i-preserved : goal.loop-i-preserved
loop-i-preserved c = rows_next _ _ c.loop-i.invariant c.put_next-d.ensures

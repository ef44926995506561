use Rattle.output.proofs.OutputLaws.{next_of}
use Rattle.output.proofs.put_all.Goals as goal

pub loop-b-preserved : goal.loop-b-preserved
loop-b-preserved c = next_of _ _ c.loop-b-test.true c.loop-b.invariant c.put-d.ensures

use Rattle.rules.proofs.Laws.{op_assign_is}
use Rattle.rules.proofs.op_assign.Goals as goal

pub returns : goal.returns
returns c = op_assign_is _ _ _ _ (c.mismatch.ensures) (c.equate_for.ensures)

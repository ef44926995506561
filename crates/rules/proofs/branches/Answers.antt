use Rattle.rules.proofs.Laws.{branches_is}
use Rattle.rules.proofs.branches.Goals as goal

pub returns : goal.returns
returns c = branches_is _ _ _ _ _ (c.mismatch.ensures) (c.equate_for.ensures)

use Rattle.rules.proofs.Laws.{returned_is}
use Rattle.rules.proofs.returned.Goals as goal

pub returns : goal.returns
returns c = returned_is _ _ _ _ (c.mismatch.ensures) (c.equate_for.ensures)

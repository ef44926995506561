use Rattle.rules.proofs.Laws.{element_is}
use Rattle.rules.proofs.element.Goals as goal

pub returns : goal.returns
returns c = element_is _ _ _ _ _ (c.mismatch.ensures) (c.equate_on.ensures)

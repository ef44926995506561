use Rattle.rules.proofs.Laws.{assign_is}
use Rattle.rules.proofs.assign.Goals as goal

pub returns : goal.returns
returns c = assign_is _ _ _ _ _ _ (c.between.ensures) (c.equate_for.ensures)

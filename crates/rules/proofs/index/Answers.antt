use Rattle.rules.proofs.Laws.{index_is}
use Rattle.rules.proofs.index.Goals as goal

pub returns : goal.returns
returns c = index_is _ _ _ _ (c.mismatch.ensures) (c.equate_for.ensures)

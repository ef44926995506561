use Rattle.conflict_set.specs.Laws.{side_0}
use Rattle.conflict_set.proofs.expected.Goals as goal

pub returns : goal.returns
returns c = side_0 _ _ _ _ _ (c.read-x.ensures) (c.clip.ensures)

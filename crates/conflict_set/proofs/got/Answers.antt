use Rattle.conflict_set.specs.Laws.{side_1}
use Rattle.conflict_set.proofs.got.Goals as goal

pub returns : goal.returns
returns c = side_1 _ _ _ _ _ (c.read-x.ensures) (c.clip.ensures)

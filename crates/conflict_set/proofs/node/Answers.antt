use Rattle.conflict_set.specs.Laws.{node_law}
use Rattle.conflict_set.proofs.node.Goals as goal

pub returns : goal.returns
returns c = node_law _ _ _ (c.read.ensures)

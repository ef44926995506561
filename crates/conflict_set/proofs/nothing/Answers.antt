use Rattle.conflict_set.specs.TextLaws.{nothing_law}
use Rattle.conflict_set.proofs.nothing.Goals as goal

pub returns : goal.returns
returns c = nothing_law _ _ _ (c.finish.ensures)

use Rattle.conflict_set.specs.TextLaws.{below_law}
use Rattle.conflict_set.proofs.put_below.Goals as goal

pub returns : goal.returns
returns c = below_law _ _ _ _ _ _ _ _ _ _ _ _ (c.put_set-d.ensures) (c.put_line-e.ensures) (c.written.ensures)

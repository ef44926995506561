use Rattle.conflict_set.specs.TextLaws.{line_number, line_place}
use Rattle.conflict_set.proofs.put_equation.Goals as goal

pub returns-in-Numbers : goal.returns-in-Numbers
returns-in-Numbers c = line_number _ _ _ _ (c.in-Numbers.is) (c.put_line.ensures)

pub returns-in-Places : goal.returns-in-Places
returns-in-Places c = line_place _ _ _ _ _ _ _ (c.in-Places.is) (c.node.ensures) (c.expected.ensures) (c.got.ensures) (c.put_place.ensures)

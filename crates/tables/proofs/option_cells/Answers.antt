use Rattle.tables.proofs.NodeLaws.{option_some, option_none}
use Rattle.tables.proofs.option_cells.Goals as goal

pub returns-then-read-eq1 : goal.returns-then-read-eq1
returns-then-read-eq1 c = option_some _ _ _ _ _ _ _ c.read.ensures c.if-read-eq1.true c.read-then-read-eq1.ensures c.put_two.ensures

pub returns-else-read-eq1 : goal.returns-else-read-eq1
returns-else-read-eq1 c = option_none _ _ _ _ _ _ c.read.ensures c.if-read-eq1.false c.put_two-else-read-eq1.ensures

use Rattle.tables.proofs.LogLaws.{row_stored}
use Rattle.tables.proofs.equation_row.Goals as goal

pub returns : goal.returns
returns c = row_stored _ _ _ _ _ _ _ _ _ c.read.ensures c.read-2.ensures c.read-3.ensures c.put_two.ensures c.write.ensures

use Rattle.table_cells.proofs.ZeroLaws.{two_stores}
use Rattle.table_cells.proofs.put_two.Goals as goal

pub returns : goal.returns
returns c = two_stores c.args.t.now _ _ _ _ c.args.b c.write.ensures c.write-2.ensures

use Rattle.tables.proofs.TypeLaws.{type_stores}
use Rattle.tables.proofs.put_type.Goals as goal

pub returns : goal.returns
returns c = type_stores _ _ _ _ c.fitted_cell.ensures _ _ _ _ c.put_two.ensures c.put_two-2.ensures c.write.ensures

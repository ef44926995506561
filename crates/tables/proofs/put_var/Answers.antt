use Rattle.tables.proofs.VarLaws.{var_stores}
use Rattle.tables.proofs.put_var.Goals as goal

pub returns : goal.returns
returns c = var_stores _ _ _ _ _ _ _ c.kind_of.ensures c.bound_to-bound.ensures c.origin_of-origin.ensures c.is_marked.ensures _ _ _ _ _ _ c.kind_cell-kind.ensures c.bound_flag.ensures c.bound_cell.ensures c.origin_flag.ensures c.origin_cell.ensures c.flag_cell-mark.ensures _ _ _ _ c.put_two.ensures c.put_two-2.ensures c.put_two-3.ensures

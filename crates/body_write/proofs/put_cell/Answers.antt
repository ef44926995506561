use mathlib.Core.Path.{refl}
use Rattle.body_write.proofs.WriteLaws.{cell_as}
use Rattle.body_write.proofs.put_cell.Goals as goal

pub returns : goal.returns
returns c = cell_as _ _ _ _ _ _ _ _ _ c.kind_at-w.ensures refl c.name_of-b.ensures c.tag_of-t.ensures c.value_of-v.ensures c.put_way.ensures

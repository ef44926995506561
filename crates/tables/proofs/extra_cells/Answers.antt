use Rattle.tables.proofs.NodeLaws.{extra_stores}
use Rattle.tables.proofs.extra_cells.Goals as goal

pub returns : goal.returns
returns c = extra_stores _ _ _ _ _ _ _ _ _ c.read-a.ensures c.read-b.ensures c.extra_tag.ensures c.extra_value.ensures c.put_two.ensures

use Rattle.tables.proofs.NodeLaws.{node_stores}
use mathlib.Core.Path.{refl}
use Rattle.tables.proofs.node_row.Goals as goal

pub returns : goal.returns
returns c = node_stores _ _ _ _ _ _ _ _ refl refl c.option_cells.ensures c.extra_cells.ensures c.option_cells-2.ensures

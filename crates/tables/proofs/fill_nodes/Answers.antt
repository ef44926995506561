use Rattle.tables.proofs.NodeLaws.{nodes_more, nodes_filled}
use mathlib.Core.Path.{refl, ◌∙◌}
use Rattle.tables.proofs.CellLaws.{cells_none}
use Rattle.tables.proofs.fill_nodes.Goals as goal

pub loop-i-init : goal.loop-i-init
loop-i-init c = (cells_none _ _ _, refl)

pub loop-i-preserved : goal.loop-i-preserved
loop-i-preserved c = (nodes_more _ _ _ _ _ c.loop-i.invariant.0 c.node_row.ensures, c.node_row.auto.t ∙ c.loop-i.invariant.1)

pub shape_of-t : goal.shape_of-t
shape_of-t c = c.zero_from.auto.t ∙ c.loop-i.invariant.1

pub returns : goal.returns
returns c = nodes_filled _ _ _ _ _ _ _ c.loop-i.auto.i-end c.loop-i-test.false c.loop-i.invariant.0 c.zero_from.ensures

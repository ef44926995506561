use Rattle.record.proofs.Cells.{node_out, node_typed, node_untyped}
use Rattle.record.proofs.node_type.Goals as goal

pub returns-then-n-ge-MOST_NODES : goal.returns-then-n-ge-MOST_NODES
returns-then-n-ge-MOST_NODES c = node_out _ _ c.if-n-ge-MOST_NODES.true

pub returns-then-read-eq1 : goal.returns-then-read-eq1
returns-then-read-eq1 c = node_typed _ _ c.if-n-ge-MOST_NODES.false _ c.read.ensures _ c.if-read-eq1.true c.read-then-read-eq1.ensures

pub returns-else-read-eq1 : goal.returns-else-read-eq1
returns-else-read-eq1 c = node_untyped _ _ c.if-n-ge-MOST_NODES.false _ c.read.ensures c.if-read-eq1.false

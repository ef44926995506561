use Rattle.record.specs.Writes.{untyped_does}
use Rattle.record.proofs.Cells.{typed_stores}
use Rattle.record.proofs.set_node_type.Goals as goal

pub returns-then-n-lt-MOST_NODES : goal.returns-then-n-lt-MOST_NODES
returns-then-n-lt-MOST_NODES c = typed_stores _ _ _ _ c.if-n-lt-MOST_NODES.true _ c.write.ensures c.write-then-n-lt-MOST_NODES.ensures

pub returns-else-n-lt-MOST_NODES : goal.returns-else-n-lt-MOST_NODES
returns-else-n-lt-MOST_NODES c = untyped_does _ _ c.if-n-lt-MOST_NODES.false _

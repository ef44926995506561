use Rattle.record.specs.Writes.{unresolved_does}
use Rattle.record.proofs.Cells.{resolved_stores}
use Rattle.record.proofs.set_final.Goals as goal

pub returns-then-n-lt-MOST_NODES : goal.returns-then-n-lt-MOST_NODES
returns-then-n-lt-MOST_NODES c = resolved_stores _ _ _ _ c.if-n-lt-MOST_NODES.true _ c.write.ensures c.write-then-n-lt-MOST_NODES.ensures

pub returns-else-n-lt-MOST_NODES : goal.returns-else-n-lt-MOST_NODES
returns-else-n-lt-MOST_NODES c = unresolved_does _ _ c.if-n-lt-MOST_NODES.false _

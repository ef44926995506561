use Rattle.record.specs.Writes.{unmarked_does}
use Rattle.record.proofs.Cells.{marked_stores}
use Rattle.record.proofs.set_extra.Goals as goal

pub returns-then-n-lt-MOST_NODES : goal.returns-then-n-lt-MOST_NODES
returns-then-n-lt-MOST_NODES c = marked_stores _ _ _ _ c.if-n-lt-MOST_NODES.true _ _ _ c.extra_tag.ensures c.extra_value.ensures c.write.ensures c.write-then-n-lt-MOST_NODES.ensures

pub returns-else-n-lt-MOST_NODES : goal.returns-else-n-lt-MOST_NODES
returns-else-n-lt-MOST_NODES c = unmarked_does _ _ c.if-n-lt-MOST_NODES.false _

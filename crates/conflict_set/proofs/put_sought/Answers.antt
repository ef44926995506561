use Rattle.conflict_set.specs.TextLaws.{sought_minimal, sought_shortest}
use Rattle.conflict_set.proofs.put_sought.Goals as goal

pub returns-in-Minimal : goal.returns-in-Minimal
returns-in-Minimal c = sought_minimal _ _ _ _ _ _ _ _ _ (c.in-Minimal.is) (c.put_conflict.ensures)

pub returns-in-Shortest : goal.returns-in-Shortest
returns-in-Shortest c = sought_shortest _ _ _ _ _ _ _ _ _ _ (c.in-Shortest.is) (c.put_shortest.ensures)

use Rattle.rules.proofs.Laws.{element_none, element_there}
use Rattle.rules.proofs.element_of.Goals as goal

pub returns-then-head-eq-HEAD_ARRAY : goal.returns-then-head-eq-HEAD_ARRAY
returns-then-head-eq-HEAD_ARRAY c = record { by = element_there _ _ _ c.head.ensures _ c.if-head-eq-HEAD_ARRAY.true c.element.ensures }

pub returns-else-head-eq-HEAD_ARRAY : goal.returns-else-head-eq-HEAD_ARRAY
returns-else-head-eq-HEAD_ARRAY c = record { by = element_none _ _ _ c.head.ensures c.if-head-eq-HEAD_ARRAY.false c.own_error.ensures }

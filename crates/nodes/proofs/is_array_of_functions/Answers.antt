use mathlib.Core.Path.{◌∙◌}
use borrow.Author.Tests.{ne_eqb}
use Rattle.nodes.proofs.Laws.{array_elements, no_array}
use Rattle.nodes.proofs.is_array_of_functions.Goals as goal

pub returns-then-head-eq-HEAD_ARRAY : goal.returns-then-head-eq-HEAD_ARRAY
returns-then-head-eq-HEAD_ARRAY c = array_elements _ _ _ _ c.head.ensures _ _ c.if-head-eq-HEAD_ARRAY.true c.element.ensures c.head-then-head-eq-HEAD_ARRAY.ensures

pub returns-else-head-eq-HEAD_ARRAY : goal.returns-else-head-eq-HEAD_ARRAY
returns-else-head-eq-HEAD_ARRAY c = ne_eqb _ 8 c.if-head-eq-HEAD_ARRAY.false ∙ no_array _ _ _ _ c.head.ensures c.if-head-eq-HEAD_ARRAY.false

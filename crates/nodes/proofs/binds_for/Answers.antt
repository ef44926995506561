use mathlib.Core.Path.{◌∙◌}
use borrow.Author.Tests.{eq-eqb, ne_eqb}
use Rattle.nodes.proofs.Laws.{binds_same, binds_array, binds_none}
use Rattle.nodes.proofs.binds_for.Goals as goal

pub returns-then-receiver-on : goal.returns-then-receiver-on
returns-then-receiver-on c = eq-eqb _ _ c.if-receiver-on.true ∙ binds_same _ _ _ c.if-receiver-on.true

pub returns-then-head-eq-HEAD_ARRAY : goal.returns-then-head-eq-HEAD_ARRAY
returns-then-head-eq-HEAD_ARRAY c = binds_array _ _ _ _ c.head.ensures _ _ c.if-receiver-on.false c.if-head-eq-HEAD_ARRAY.true c.is_array_of_functions.ensures

pub returns-else-head-eq-HEAD_ARRAY : goal.returns-else-head-eq-HEAD_ARRAY
returns-else-head-eq-HEAD_ARRAY c = ne_eqb _ 8 c.if-head-eq-HEAD_ARRAY.false ∙ binds_none _ _ _ _ c.head.ensures _ c.if-receiver-on.false c.if-head-eq-HEAD_ARRAY.false

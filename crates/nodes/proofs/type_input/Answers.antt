use Rattle.nodes.proofs.Laws.{nth_inputs, no_input}
use Rattle.nodes.proofs.type_input.Goals as goal

pub returns-then-i-r : goal.returns-then-i-r
returns-then-i-r c = rw (← c.type_inputs-r.ensures, c.input.ensures) (nth_inputs _ _ _ _ c.if-i-r.true)

pub returns-else-i-r : goal.returns-else-i-r
returns-else-i-r c = rw (← c.type_inputs-r.ensures) (no_input _ _ _ _ c.if-i-r.false)

use Rattle.nodes.proofs.Laws.{def_input_in, def_input_out}
use Rattle.nodes.proofs.Body.def_input.Goals as goal

pub returns-then-i-t : goal.returns-then-i-t
returns-then-i-t c = def_input_in _ _ _ _ c.def_inputs-t.ensures _ _ c.if-i-t.true c.item.ensures

pub returns-else-i-t : goal.returns-else-i-t
returns-else-i-t c = def_input_out _ _ _ _ c.def_inputs-t.ensures _ c.if-i-t.false

use borrow.Author.Rules.{rules}
use Rattle.nodes.proofs.Laws.{inputs_made, inputs_none}
use Rattle.nodes.proofs.type_inputs.Goals as goal

pub returns-in-6 : goal.returns-in-6
returns-in-6 c = inputs_made _ _ _ _ c.head.ensures _ _ c.in-6.is c.inputs.ensures.0 c.inputs.ensures.1

pub returns-in_default : goal.returns-in_default
returns-in_default c = inputs_none _ _ _ _ c.head.ensures (search rules) (search rules)

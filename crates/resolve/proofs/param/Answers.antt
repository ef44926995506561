use borrow.Author.Rules.{rules}
use Rattle.resolve.proofs.Laws.{param_typed, param_untyped}
use Rattle.resolve.proofs.param.Goals as goal

pub returns-in-Some : goal.returns-in-Some
returns-in-Some c = (λ k. param_typed _ _ _ _ c.declared.ensures c.in-Some.is (c.set_node_type.ensures k))

pub returns-in_default : goal.returns-in_default
returns-in_default c = (λ k. param_untyped _ _ _ c.declared.ensures (search rules))

use Rattle.resolve.proofs.Laws.{node_typed, node_untyped}
use Rattle.resolve.proofs.resolve_node.Goals as goal

pub returns-in-Some : goal.returns-in-Some
returns-in-Some c = node_typed _ _ c.node_type.ensures _ _ c.in-Some.is c.resolve_type_variable-r.ensures (c.set_final.ensures _)

pub returns-in-None : goal.returns-in-None
returns-in-None c = node_untyped _ _ c.node_type.ensures c.in-None.is

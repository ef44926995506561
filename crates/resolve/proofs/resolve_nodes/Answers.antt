use borrow.Author.Rules.{rules}
use Rattle.resolve.proofs.Laws.{nodes_first, nodes_last, nodes_next}
use Rattle.resolve.proofs.resolve_nodes.Goals as goal

pub loop-i-init : goal.loop-i-init
loop-i-init c = (nodes_first _, search rules)

pub loop-i-preserved : goal.loop-i-preserved
loop-i-preserved c = (nodes_next _ _ c.loop-i-test.true c.loop-i.invariant.0 c.resolve_node-d.ensures, search rules)

pub returns : goal.returns
returns c = nodes_last _ _ c.loop-i-test.false c.loop-i.invariant.0

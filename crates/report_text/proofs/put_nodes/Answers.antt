use Rattle.std.proofs.Common.{rules}
use Rattle.output.specs.Turns.{rows_none, rows_next, rows_all}
use Rattle.report_text.proofs.put_nodes.Goals as goal

pub loop-i-init : goal.loop-i-init
loop-i-init c = rows_none _ _ _

pub loop-i-preserved : goal.loop-i-preserved
loop-i-preserved c = rows_next _ _ c.loop-i.invariant c.put_node-d.ensures

pub returns : goal.returns
returns c = rows_all _ _ _ (search rules) c.loop-i-test.false c.loop-i.invariant

use Rattle.std.proofs.Common.{rules}
use Rattle.output.specs.Turns.{rows_none, rows_next, rows_all}
use Rattle.report_text.specs.Lines.{type_lines}
use Rattle.output.specs.Appending.{then}
use Rattle.report_text.proofs.put_types.Goals as goal

pub loop-i-init : goal.loop-i-init
loop-i-init c = rows_none _ _ _

pub loop-i-preserved : goal.loop-i-preserved
loop-i-preserved c = rows_next _ _ c.loop-i.invariant c.put_type-d.ensures

pub returns : goal.returns
unfolding type_lines
returns c = then c.put_line-d.ensures (rows_all _ _ _ (search rules) c.loop-i-test.false c.loop-i.invariant)

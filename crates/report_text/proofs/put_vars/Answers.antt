use Rattle.std.proofs.Common.{rules}
use Rattle.output.specs.Turns.{rows_none, rows_next, rows_all}
use Rattle.report_text.specs.Lines.{var_lines}
use Rattle.output.specs.Appending.{then}
use Rattle.report_text.proofs.put_vars.Goals as goal

pub loop-v-init : goal.loop-v-init
loop-v-init c = rows_none _ _ _

pub loop-v-preserved : goal.loop-v-preserved
loop-v-preserved c = rows_next _ _ c.loop-v.invariant c.put_var-d.ensures

pub returns : goal.returns
unfolding var_lines
returns c = then c.put_line-d.ensures (rows_all _ _ _ (search rules) c.loop-v-test.false c.loop-v.invariant)

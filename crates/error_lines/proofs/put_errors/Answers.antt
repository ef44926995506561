use Rattle.std.proofs.Common.{rules, ap}
use Rattle.output.specs.Turns.{rows_none, rows_next, rows_all}
use Rattle.error_lines.specs.ErrorLines.{error_line, error_lines}
use Rattle.output.specs.Appending.{then, appends_as}
use Rattle.error_lines.proofs.put_errors.Goals as goal

pub loop-i-init : goal.loop-i-init
loop-i-init c = rows_none _ _ _

pub loop-i-preserved : goal.loop-i-preserved
loop-i-preserved c = rows_next _ _ c.loop-i.invariant (appends_as (ap error_line c.error_row-r.ensures) c.put_error-d.ensures)

pub returns : goal.returns
unfolding error_lines
returns c = then c.put_line-d.ensures (rows_all _ _ _ (search rules) c.loop-i-test.false c.loop-i.invariant)

use Rattle.std.proofs.Common.{rules, ◌+◌}
use Rattle.output.specs.Turns.{rows_none, rows_next, rows_all}
use Rattle.body_write.specs.Writing.{row_line}
use Rattle.body_write.proofs.put_rows.Goals as goal

pub loop-i-init : goal.loop-i-init
loop-i-init c = rows_none _ _ _

pub loop-i-preserved : goal.loop-i-preserved
loop-i-preserved c = rows_next (λ i. row_line c.args.rows.now c.args.cells.now (c.args.p + i)) _ c.loop-i.invariant c.put_at-d.ensures

pub returns : goal.returns
returns c = rows_all (λ i. row_line c.args.rows.now c.args.cells.now (c.args.p + i)) _ _ (search rules) c.loop-i-test.false c.loop-i.invariant

use Rattle.report_text.specs.Lines.{var_line}
use Rattle.tables.specs.Rows.{cells_to}
use Rattle.output.specs.Output.{Appends}
use Rattle.report_text.proofs.put_vars.Given as goal

abbrev pub invariant-loop-v : goal.invariant-loop-v
invariant-loop-v l = Appends (cells_to (var_line l.t) l.v) l.initial.d l.initial.out l.d l.out

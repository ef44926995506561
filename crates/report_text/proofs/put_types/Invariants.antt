use Rattle.report_text.specs.Lines.{type_line}
use Rattle.tables.specs.Rows.{cells_to}
use Rattle.output.specs.Output.{Appends}
use Rattle.report_text.proofs.put_types.Given as goal

abbrev pub invariant-loop-i : goal.invariant-loop-i
invariant-loop-i l = Appends (cells_to (type_line l.t) l.i) l.initial.d l.initial.out l.d l.out

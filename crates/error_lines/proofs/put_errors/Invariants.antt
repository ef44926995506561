use Rattle.error_lines.specs.ErrorLines.{error_line}
use Rattle.errors.specs.Rows.{row_in}
use Rattle.tables.specs.Rows.{cells_to}
use Rattle.output.specs.Output.{Appends}
use Rattle.error_lines.proofs.put_errors.Given as goal

abbrev pub invariant-loop-i : goal.invariant-loop-i
invariant-loop-i l = Appends (cells_to (λ j. error_line (row_in l.m l.n j)) l.i) l.initial.d l.initial.out l.d l.out

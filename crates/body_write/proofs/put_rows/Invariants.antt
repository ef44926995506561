use Rattle.std.proofs.Common.{◌+◌}
use Rattle.output.specs.Turns.{cells_to}
use Rattle.output.specs.Output.{Appends}
use Rattle.body_write.specs.Writing.{row_line}
use Rattle.body_write.proofs.put_rows.Given as goal

abbrev pub invariant-loop-i : goal.invariant-loop-i
invariant-loop-i l = Appends (cells_to (λ j. row_line l.rows l.cells (l.p + j)) l.i) l.c l.initial.out l.d l.out

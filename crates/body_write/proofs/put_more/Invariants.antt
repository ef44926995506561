use Rattle.output.specs.Turns.{cells_to}
use Rattle.output.specs.Output.{Appends}
use Rattle.body_write.specs.Writing.{behind_comma}
use Rattle.body_write.proofs.put_more.Given as goal

abbrev pub invariant-loop-i : goal.invariant-loop-i
invariant-loop-i l = Appends (cells_to (behind_comma l.f l.cells l.j l.a) l.i) l.c l.initial.out l.d l.out

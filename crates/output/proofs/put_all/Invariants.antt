use Rattle.std.proofs.Common.{take}
use Rattle.output.specs.Output.{Appends}
use Rattle.output.proofs.put_all.Given as goal

abbrev pub invariant-loop-b : goal.invariant-loop-b
invariant-loop-b l = Appends (take l.b-index l.s) l.c l.initial.out l.d l.out

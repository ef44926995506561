use Rattle.std.proofs.Common.{take}
use Rattle.error_lines.specs.ErrorLines.{each_text}
use Rattle.output.specs.Output.{Appends}
use Rattle.report_text.proofs.put_each.Given as goal

abbrev pub invariant-loop-x : goal.invariant-loop-x
invariant-loop-x l = Appends (each_text (take l.x-index l.t)) l.c l.initial.out l.d l.out

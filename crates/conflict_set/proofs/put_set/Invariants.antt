use mathlib.Core.Path.{◌≡◌}
use lib.ListN.{length}
use Rattle.output.specs.Output.{Appends}
use Rattle.conflict_set.specs.Text.{line_in, set_text}
use Rattle.conflict_set.specs.In.{list_in}
use Rattle.conflict_set.proofs.put_set.Given as goal

abbrev pub invariant-loop-place : goal.invariant-loop-place
invariant-loop-place l = Appends (set_text (line_in l.m l.c l.l) (list_in l.set l.place)) l.initial.d l.initial.out l.d l.out × (length l.out ≡ length l.initial.out)

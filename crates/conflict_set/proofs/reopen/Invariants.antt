use mathlib.Core.Path.{◌≡◌}
use Rattle.conflict_set.specs.In.{reopened}
use Rattle.conflict_set.proofs.reopen.Given as goal

abbrev pub invariant-loop-v : goal.invariant-loop-v
invariant-loop-v l = l.m ≡ reopened l.initial.m l.v

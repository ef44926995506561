use mathlib.Core.Path.{◌≡◌}
use Prim.Native.Nat.{◌-◌}
use Rattle.type_table.specs.View.{end_from, end_in}
use Rattle.type_table.proofs.follow.Given as goal

abbrev pub invariant-loop-step : goal.invariant-loop-step
invariant-loop-step l = end_from l.m l.c (l._step-end - l._step) l.y.0 ≡ end_in l.m l.c l.initial.y.0

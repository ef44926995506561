use Prim.Native.Nat.{◌-◌}
use Prim.Native.Nat.{◌-◌}
use mathlib.Core.Path.{◌≡◌}
use Rattle.conflict_theory.specs.Plains.{is_plain, plain_in}
use Rattle.unify.specs.Promise.{rows_in}
use Rattle.conflict_set.proofs.is_plain.Given as goal

abbrev pub invariant-loop-step : goal.invariant-loop-step
invariant-loop-step l = is_plain (rows_in l.m l.c) l.initial.y.0 ≡ plain_in (rows_in l.m l.c) (l._step-end - l._step) l.y.0

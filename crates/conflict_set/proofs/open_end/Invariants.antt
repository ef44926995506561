use Prim.Native.Nat.{◌-◌}
use Rattle.conflict_set.specs.SearchLaws.{Leads}
use Rattle.conflict_set.proofs.open_end.Given as goal

abbrev pub invariant-loop-step : goal.invariant-loop-step
invariant-loop-step l = Leads l.m l.c l.initial.y.0 l.y.0 (l.n - l._step)

use Prim.Native.Nat.{◌-◌}
use Rattle.search.proofs.SearchLaws.{Seeking}
use Rattle.search.proofs.seek.Given as goal

abbrev pub invariant-loop-step : goal.invariant-loop-step
invariant-loop-step l = Seeking l.m l.c l.v.0 l.initial.x.0 l.x.0 (l._step-end - l._step)

use Prim.Native.Nat.{◌-◌}
use Rattle.search.proofs.SearchLaws.{Walking}
use Rattle.search.proofs.stands_in.Given as goal

abbrev pub invariant-loop-step : goal.invariant-loop-step
invariant-loop-step l = Walking l.m l.c l.v.0 l.initial.x.0 l.x.0 (l.c.types - l._step)

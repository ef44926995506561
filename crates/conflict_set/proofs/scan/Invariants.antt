use Prim.Native.Nat.{◌≤◌}
use mathlib.Core.Path.{◌≡◌}
use lib.ListN.{length}
use Rattle.conflict_set.specs.Laws.{Scans}
use Rattle.conflict_set.proofs.scan.Given as goal

abbrev pub invariant-loop-k : goal.invariant-loop-k
invariant-loop-k l = Scans l.initial.m l.c l.n l.initial.set l.m l.set l.k l.lo × (l.k ≤ l.n) × (length l.set ≡ length l.initial.set) × (length l.m ≡ length l.initial.m)

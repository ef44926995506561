use Prim.Native.Nat.{◌≤◌}
use mathlib.Core.Path.{◌≡◌}
use lib.ListN.{length}
use Rattle.conflict_set.specs.SearchLaws.{Pops}
use Rattle.conflict_set.proofs.pop.Given as goal

abbrev pub invariant-loop-i : goal.invariant-loop-i
invariant-loop-i l = Pops l.initial.m l.c l.bound l.p l.k l.m l.i × (l.p ≤ l.k → l.p ≤ l.i) × (l.i ≤ l.k) × (length l.m ≡ length l.initial.m)

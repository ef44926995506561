use Prim.Native.Nat.{◌-◌, ◌≤◌}
use mathlib.Core.Path.{◌≡◌}
use lib.ListN.{length}
use Rattle.conflict_set.specs.SearchLaws.{Tries}
use Rattle.conflict_set.proofs.tries_from.Given as goal

abbrev pub invariant-loop-left : goal.invariant-loop-left
invariant-loop-left l = Tries l.initial.m l.c l.initial.set l.initial.bound l.k l.n l.b l.m l.set l.bound l.left l.j × (l.j ≤ l.k - 1) × (length l.set ≡ length l.initial.set) × (length l.bound ≡ length l.initial.bound) × (length l.m ≡ length l.initial.m)

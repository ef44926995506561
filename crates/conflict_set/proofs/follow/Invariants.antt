use Prim.Native.Nat.{◌≤◌}
use mathlib.Core.Path.{◌≡◌}
use lib.ListN.{length}
use Rattle.conflict_set.specs.SearchLaws.{Follows}
use Rattle.conflict_set.proofs.follow.Given as goal

abbrev pub invariant-loop-i : goal.invariant-loop-i
invariant-loop-i l = Follows l.initial.set l.p l.k l.f l.set l.i × (l.p ≤ l.i) × (l.i ≤ l.k) × (length l.set ≡ length l.initial.set)

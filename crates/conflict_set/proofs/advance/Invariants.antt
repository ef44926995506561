use Prim.Native.Nat.{◌≤◌}
use mathlib.Core.Path.{◌≡◌}
use Rattle.conflict_set.specs.SearchLaws.{Last}
use Rattle.conflict_set.proofs.advance.Given as goal

abbrev pub invariant-loop-p : goal.invariant-loop-p
invariant-loop-p l = Last l.set l.k l.n l.p × (l.p ≤ l.k) × (l.set ≡ l.initial.set)

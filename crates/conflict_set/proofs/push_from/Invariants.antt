use Prim.Native.Nat.{◌≤◌}
use mathlib.Core.Path.{◌≡◌}
use lib.ListN.{length}
use Rattle.conflict_set.specs.SearchLaws.{Pushes}
use Rattle.conflict_set.proofs.push_from.Given as goal

abbrev pub invariant-loop-i : goal.invariant-loop-i
invariant-loop-i l = Pushes l.initial.m l.c l.set l.initial.bound l.j l.k l.m l.bound l.i × (length l.bound ≡ length l.initial.bound) × (length l.m ≡ length l.initial.m) × (l.j ≤ l.k → l.i ≤ l.k)

use Prim.Native.Nat.{◌≤◌}
use mathlib.Core.Path.{◌≡◌}
use lib.ListN.{length}
use Rattle.conflict_set.specs.Laws.{Goes}
use Rattle.conflict_set.proofs.add_all.Given as goal

abbrev pub invariant-loop-i : goal.invariant-loop-i
invariant-loop-i l = Goes l.initial.m l.c l.set l.k l.m l.i × (l.i ≤ l.k) × (length l.m ≡ length l.initial.m)

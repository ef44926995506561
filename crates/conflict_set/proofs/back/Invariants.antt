use Prim.Native.Nat.{◌≤◌}
use mathlib.Core.Path.{◌≡◌}
use lib.ListN.{length}
use Rattle.conflict_set.specs.Laws.{Falls}
use Rattle.conflict_set.proofs.back.Given as goal

abbrev pub invariant-loop-i : goal.invariant-loop-i
invariant-loop-i l = Falls l.initial.m l.c l.lo l.n l.m l.i × (l.i ≤ l.n) × (length l.m ≡ length l.initial.m)

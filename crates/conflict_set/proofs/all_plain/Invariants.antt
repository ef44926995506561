use Prim.Native.Nat.{◌≤◌}
use Rattle.conflict_set.specs.Laws.{Tested}
use Rattle.conflict_set.proofs.all_plain.Given as goal

abbrev pub invariant-loop-i : goal.invariant-loop-i
invariant-loop-i l = Tested l.m l.c l.n l.known l.i × (l.i ≤ l.n)

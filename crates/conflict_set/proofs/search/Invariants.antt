use Prim.Native.Nat.{◌≤◌, ◌<◌}
use mathlib.Core.Path.{◌≡◌}
use lib.ListN.{length}
use Rattle.conflict_set.specs.SearchLaws.{Searches}
use Rattle.conflict_set.proofs.search.Given as goal

abbrev pub invariant-loop-k : goal.invariant-loop-k
invariant-loop-k l = Searches l.initial.m l.c l.initial.set l.initial.bound l.most l.n l.b l.m l.k l.left × (length l.set ≡ length l.initial.set) × (length l.bound ≡ length l.initial.bound) × (length l.m ≡ length l.initial.m) × (0 < l.k) × (l.most ≤ 1 → l.k ≤ 1)

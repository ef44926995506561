use Prim.Native.Nat.{◌+◌, ◌*◌, ◌-◌}
use mathlib.Core.Path.{◌≡◌}
use lib.ListN.{length}
use Rattle.unify.proofs.UniLaws.{Loop, EachLoop}
use Rattle.unify.proofs.+each_into_uni.Given as goal

abbrev pub decreases-each : goal.decreases-each
decreases-each l = l.n * 4 + 1

abbrev pub invariant-each-loop-i : goal.invariant-each-loop-i
invariant-each-loop-i l = EachLoop l.initial.m l.c l.first l.second l.count l.n l.m (l.first + l.i) (l.second + l.i) (l.count - l.i) × (length l.m ≡ length l.initial.m)

abbrev pub decreases-into : goal.decreases-into
decreases-into l = l.n * 4 + 3

abbrev pub decreases-uni : goal.decreases-uni
decreases-uni l = l.n * 4

abbrev pub invariant-uni-loop-left : goal.invariant-uni-loop-left
invariant-uni-loop-left l = Loop l.initial.m l.c l.initial.a l.initial.b l.n l.m l.a l.b l.left × (length l.m ≡ length l.initial.m)

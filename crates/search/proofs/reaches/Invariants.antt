use Rattle.search.proofs.SearchLaws.{Working}
use Prim.Native.Nat.{◌≤◌, ◌-◌}
use Rattle.search.proofs.reaches.Given as goal

abbrev pub invariant-loop-head : goal.invariant-loop-head
invariant-loop-head l = (l.q.tail ≤ 4622) × Working l.m l.c l.v.0 l.initial.q l.q l.head

abbrev pub decreases-loop-head : goal.decreases-loop-head
decreases-loop-head l = 4622 - l.head

use Rattle.std.proofs.Common.{◌≡◌, ◌+◌, ◌-◌, ◌≤◌, length, drop, max}
use Rattle.lex.specs.Text.{before}
use Rattle.lex.proofs.field_end.Given as goal

abbrev pub invariant-loop-rest : goal.invariant-loop-rest
invariant-loop-rest l = (l.p ≤ l.e) × (l.e + length l.rest ≡ max l.p (length l.s)) × (l.p + before l.c (drop l.p l.s) ≡ l.e + before l.c l.rest)

abbrev pub decreases-loop-rest : goal.decreases-loop-rest
decreases-loop-rest l = length l.rest

abbrev pub invariant-loop-x : goal.invariant-loop-x
invariant-loop-x l = (l.p ≤ l.e) × (l.e + length (drop l.x-index l.x-items) ≡ max l.p (length l.s)) × (l.p + before l.c (drop l.p l.s) ≡ l.e + before l.c (drop l.x-index l.x-items))

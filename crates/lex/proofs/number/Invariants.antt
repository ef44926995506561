use Rattle.std.proofs.Common.{◌≡◌, ◌≤◌, drop}
use Rattle.lex.specs.Text.{number_of, digits_from}
use Rattle.lex.proofs.number.Given as goal

abbrev pub invariant-loop-x : goal.invariant-loop-x
invariant-loop-x l = (l.n ≤ 65535) × (number_of l.s ≡ digits_from l.n (drop l.x-index l.s))

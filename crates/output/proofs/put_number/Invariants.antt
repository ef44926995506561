use Rattle.std.proofs.Common.{◌≡◌}
use Rattle.output.proofs.OutputLaws.{Digits}
use Rattle.output.proofs.put_number.Given as goal

abbrev pub invariant-loop-at : goal.invariant-loop-at
invariant-loop-at l = (l.out ≡ l.initial.out) × Digits l.n l.at l.rest l.digits

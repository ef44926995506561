use Rattle.std.proofs.Common.{◌≡◌, ◌<◌, drop}
use Rattle.decimal.specs.Digits.{most, digits_from, number_of}
use Rattle.decimal.proofs.number.Given as goal

abbrev pub invariant-loop-b : goal.invariant-loop-b
invariant-loop-b l = record {
  within : l.n < most;
  left : number_of l.s ≡ digits_from l.n (drop l.b-index l.s);
}

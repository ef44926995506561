use Rattle.std.proofs.Common.{sym, ◌∙◌, arith}
use Rattle.std.proofs.lemmas.Bool.Decides.{nat_tests}
use Rattle.decimal.proofs.Laws.{empty, some, digit, no_digit, large, last}
use Rattle.decimal.proofs.number.Goals as goal

pub returns-then-is_empty : goal.returns-then-is_empty
returns-then-is_empty c = empty _ (grind (arith, nat_tests))

pub loop-b-init : goal.loop-b-init
loop-b-init c = record {
  within = omega arith;
  left = some _ (grind (arith, nat_tests));
}

pub returns-then-not-is_ascii_digit : goal.returns-then-not-is_ascii_digit
returns-then-not-is_ascii_digit c = sym (c.loop-b.invariant.left ∙ no_digit _ _ _ c.loop-b-test.true c.if-not-is_ascii_digit.ensures.cases)

pub returns-in_err-checked_mul : goal.returns-in_err-checked_mul
returns-in_err-checked_mul c = c.from_residual.ensures ∙ sym (c.loop-b.invariant.left ∙ large _ _ _ c.loop-b-test.true c.if-not-is_ascii_digit.ensures.cases (omega (arith, c.in_err-checked_mul.ensures)))

pub returns-in_err-n : goal.returns-in_err-n
returns-in_err-n c = c.from_residual-in_err-n.ensures ∙ sym (c.loop-b.invariant.left ∙ large _ _ _ c.loop-b-test.true c.if-not-is_ascii_digit.ensures.cases (omega (arith, c.in_err-n.ensures)))

pub loop-b-preserved : goal.loop-b-preserved
loop-b-preserved c = record {
  within = omega arith;
  left = c.loop-b.invariant.left ∙ digit _ _ _ c.loop-b-test.true _ c.if-not-is_ascii_digit.ensures.cases (omega (arith, c.in_ok-n.ensures, c.in_ok-checked_mul.ensures));
}

pub returns : goal.returns
returns c = sym (c.loop-b.invariant.left ∙ last _ _ _ c.loop-b-test.false c.loop-b.invariant.within)

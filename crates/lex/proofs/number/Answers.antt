use Rattle.std.proofs.Common.{rules, arith, sym, ◌∙◌, ◌≡◌, length, eqb-true, ltb-true}
use Rattle.std.proofs.lemmas.Bool.{eqb-false}
use Rattle.lex.proofs.Laws.{no_digits, leading, single, plain, stopped, digit, last}
use Rattle.lex.proofs.number.Goals as goal
use Rattle.lex.proofs.number.Goals.{then-is_empty-via-then-is_empty, then-is_empty-via-else-is_empty+then-leading_zero, then-s-gt1, else-s-gt1}

pub returns-then-is_empty : goal.returns-then-is_empty
returns-then-is_empty c =
    elim c.then-is_empty.branch [
      | then-is_empty-via-then-is_empty w ↦ no_digits _ (eqb-true _ _ (sym c.is_empty.ensures ∙ w.if-is_empty.true))
      | then-is_empty-via-else-is_empty+then-leading_zero w ↦ elim c.if-s-gt1.branch [
        | then-s-gt1 v ↦ leading _ v.if-s-gt1.true (eqb-true _ _ (sym v.leading_zero-is ∙ w.if-leading_zero.true))
        | else-s-gt1 v ↦ absurd (omega (arith, ltb-true 1 (length c.args.s.now) (sym v.leading_zero-is ∙ w.if-leading_zero.true)))
      ]
    ]

pub loop-x-init : goal.loop-x-init
loop-x-init c =
    let some : length c.args.s.now ≡ 0 → ⊥ = eqb-false _ _ (sym c.is_empty.ensures ∙ c.if-is_empty.false) in
    elim c.if-s-gt1.branch [
      | then-s-gt1 w ↦ (search rules, plain _ (eqb-false _ _ (sym w.leading_zero-is ∙ c.if-leading_zero.false)) some)
      | else-s-gt1 w ↦ (search rules, single _ (omega arith))
    ]

pub returns-in_err-n : goal.returns-in_err-n
returns-in_err-n c = search (rules, stopped)

pub loop-x-preserved : goal.loop-x-preserved
loop-x-preserved c = search (rules, digit)

pub returns : goal.returns
returns c = search (rules, last)

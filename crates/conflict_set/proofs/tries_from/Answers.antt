use native.Mathlib.Omega.{arith}
use mathlib.Core.Path.{refl, subst, ◌∙◌}
use Rattle.conflict_set.specs.SearchLaws.{tries_out, tries_found, tries_through, tries_on}
use Rattle.conflict_set.specs.Searching.{SetTested, AdvancedBy, place_below}
use Rattle.conflict_set.proofs.tries_from.Goals as goal

pub loop-left-preserved : goal.loop-left-preserved
loop-left-preserved c =
    let h = subst (place_below _) (c.in-Some.is) (c.advance.ensures.within) in (
      tries_on _ _ _ _ _ _ _ _ _ _ _ _ (c.loop-left.invariant.2) (c.loop-left.invariant.3) (c.loop-left.invariant.0) _ _ _ (λ q. omega (arith, c.loop-left-test.true)) refl (c.loop-left.invariant.1) (subst (SetTested _ _ _ _ _ _ _ _) (c.if-not-test_set.false) (c.test_set.ensures)) _ _ _ (subst (AdvancedBy _ _ _ _) (c.in-Some.is) (c.advance.ensures)) (c.pop.ensures),
      omega (arith, h),
      (c.advance.ensures.size) ∙ (c.loop-left.invariant.2),
      (c.test_set.ensures.size) ∙ (c.loop-left.invariant.3),
      (c.pop.auto.m) ∙ (c.test_set.auto.m) ∙ (c.loop-left.invariant.4),
    )

pub returns-in_default : goal.returns-in_default
returns-in_default c = tries_through _ _ _ _ _ _ _ _ _ _ _ _ (c.loop-left.invariant.2) (c.loop-left.invariant.3) (c.loop-left.invariant.0) _ _ _ (λ q. omega (arith, c.loop-left-test.true)) refl (c.loop-left.invariant.1) (subst (SetTested _ _ _ _ _ _ _ _) (c.if-not-test_set.false) (c.test_set.ensures)) _ (subst (AdvancedBy _ _ _ _) (c.in_default.is) (c.advance.ensures))

pub returns-then-not-test_set : goal.returns-then-not-test_set
returns-then-not-test_set c = tries_found _ _ _ _ _ _ _ _ _ _ _ _ (c.loop-left.invariant.2) (c.loop-left.invariant.3) (c.loop-left.invariant.0) _ _ _ (λ q. omega (arith, c.loop-left-test.true)) refl (c.loop-left.invariant.1) (subst (SetTested _ _ _ _ _ _ _ _) (c.if-not-test_set.true) (c.test_set.ensures))

pub returns : goal.returns
returns c = tries_out _ _ _ _ _ _ _ _ _ _ _ _ (c.loop-left.invariant.2) (c.loop-left.invariant.3) (c.loop-left.invariant.0) (omega arith)

use native.Mathlib.Omega.{arith}
use mathlib.Core.Path.{refl, subst, ◌∙◌}
use Rattle.conflict_set.specs.SearchLaws.{pushes_start, pushes_on, pushes_stop, pushes_end}
use Rattle.conflict_set.specs.Searching.{PushedBy}
use Rattle.conflict_set.proofs.push_from.Goals as goal

pub loop-i-init : goal.loop-i-init
loop-i-init c = (pushes_start _ _ _ _ _ _, refl, refl, (λ h. h))

pub loop-i-preserved : goal.loop-i-preserved
loop-i-preserved c = (pushes_on _ _ _ _ _ _ _ _ _ _ (c.loop-i.invariant.1) (c.loop-i-test.true) (c.read-q.ensures) (c.loop-i.invariant.0) _ _ _ (c.write.ensures) (subst (PushedBy _ _ _ _) (c.in-Some.is) (c.push.ensures)), (c.write.auto.m) ∙ (c.loop-i.invariant.1), (c.push.auto.m) ∙ (c.loop-i.invariant.2), (λ h. omega (arith, c.loop-i-test.true)))

pub returns-in_default : goal.returns-in_default
returns-in_default c = pushes_stop _ _ _ _ _ _ _ _ _ _ (c.loop-i.invariant.1) (c.loop-i-test.true) (c.read-q.ensures) (c.loop-i.invariant.0) _ (subst (PushedBy _ _ _ _) (c.in_default.is) (c.push.ensures))

pub returns : goal.returns
returns c = pushes_end _ _ _ _ _ _ _ _ _ (c.loop-i.invariant.1) (c.loop-i.invariant.3) (c.loop-i-test.false) (c.loop-i.invariant.0)

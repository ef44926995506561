use native.Mathlib.Omega.{arith}
use mathlib.Core.Path.{refl, ◌∙◌}
use Rattle.conflict_set.specs.SearchLaws.{pops_start, pops_on, pops_end}
use borrow.Author.Rules.{rules}
use Rattle.conflict_set.proofs.pop.Goals as goal

pub loop-i-init : goal.loop-i-init
loop-i-init c = (pops_start _ _ _ _ _, (λ h. h), search rules, refl)

pub loop-i-preserved : goal.loop-i-preserved
loop-i-preserved c = (pops_on _ _ _ _ _ _ _ _ _ _ (c.loop-i-test.true) refl (c.read.ensures) (c.open_again.ensures) (c.loop-i.invariant.0), (λ h. omega (arith, c.loop-i-test.true)), omega (arith, c.loop-i.invariant.2), (c.open_again.auto.m) ∙ (c.loop-i.invariant.3))

pub shape_of-m : goal.shape_of-m
shape_of-m c = (c.loop-i.invariant.3)

pub returns : goal.returns
returns c = pops_end _ _ _ _ _ _ _ (c.loop-i.invariant.1) (c.loop-i-test.false) (c.loop-i.invariant.0)

use native.Mathlib.Omega.{arith}
use mathlib.Core.Path.{refl, ◌∙◌}
use Rattle.conflict_set.specs.SearchLaws.{follows_start, follows_on, follows_end}
use borrow.Author.Rules.{rules}
use Rattle.conflict_set.proofs.follow.Goals as goal

pub loop-i-init : goal.loop-i-init
loop-i-init c = (follows_start _ _ _ _, omega arith, omega (arith, c.requires.0), refl)

pub loop-i-preserved : goal.loop-i-preserved
loop-i-preserved c = (follows_on _ _ _ _ _ _ _ _ (c.loop-i.invariant.3) (c.loop-i.invariant.1) (c.loop-i-test.true) refl (c.write.ensures) (c.loop-i.invariant.0), omega (arith, c.loop-i.invariant.1), search rules, (c.write.auto.m) ∙ (c.loop-i.invariant.3))

pub returns : goal.returns
returns c = follows_end _ _ _ _ _ _ (c.loop-i.invariant.3) (c.loop-i.invariant.2) (c.loop-i-test.false) (c.loop-i.invariant.0)

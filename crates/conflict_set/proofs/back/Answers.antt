use borrow.Author.Rules.{rules}
use mathlib.Core.Path.{refl, subst, ◌∙◌}
use Rattle.conflict_set.specs.Laws.{falls_start, falls_on, falls_stop, falls_end}
use Rattle.conflict_set.specs.In.{AddedBy}
use Rattle.conflict_set.proofs.back.Goals as goal

pub loop-i-init : goal.loop-i-init
loop-i-init c = (falls_start _ _ _ _, search rules, refl)

pub loop-i-preserved : goal.loop-i-preserved
loop-i-preserved c = (falls_on _ _ _ _ _ _ _ _ (c.loop-i-test.true) refl (c.loop-i.invariant.0) (subst (AddedBy _ _ _ _) (c.if-not-add.false) (c.add.ensures)), search rules, (c.add.auto.m) ∙ (c.loop-i.invariant.2))

pub returns-then-not-add : goal.returns-then-not-add
returns-then-not-add c = falls_stop _ _ _ _ _ _ _ _ (c.loop-i-test.true) refl (c.loop-i.invariant.0) (c.loop-i.invariant.1) (subst (AddedBy _ _ _ _) (c.if-not-add.true) (c.add.ensures))

pub returns : goal.returns
returns c = falls_end _ _ _ _ _ _ (c.loop-i-test.false) (c.loop-i.invariant.0)

use borrow.Author.Rules.{rules}
use mathlib.Core.Path.{refl, subst, ◌∙◌}
use Rattle.conflict_set.specs.Laws.{goes_start, goes_on, goes_stop, goes_end}
use Rattle.conflict_set.specs.In.{AddedBy}
use Rattle.conflict_set.proofs.add_all.Goals as goal

pub loop-i-init : goal.loop-i-init
loop-i-init c = (goes_start _ _ _ _, search rules, refl)

pub loop-i-preserved : goal.loop-i-preserved
loop-i-preserved c = (goes_on _ _ _ _ _ _ _ _ (c.loop-i-test.true) (c.read-q.ensures) (c.loop-i.invariant.0) (subst (AddedBy _ _ _ _) (c.if-not-add.false) (c.add.ensures)), search rules, c.add.auto.m ∙ c.loop-i.invariant.2)

pub returns-then-not-add : goal.returns-then-not-add
returns-then-not-add c = goes_stop _ _ _ _ _ _ _ _ (c.loop-i-test.true) (c.read-q.ensures) (c.loop-i.invariant.0) (subst (AddedBy _ _ _ _) (c.if-not-add.true) (c.add.ensures))

pub returns : goal.returns
returns c = goes_end _ _ _ _ _ _ (c.loop-i-test.false) (c.loop-i.invariant.0)

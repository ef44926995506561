use borrow.Author.Rules.{rules}
use mathlib.Core.Path.{sym, ◌∙◌}
use Rattle.conflict_set.specs.Laws.{worked_start, first_hit, first_on, first_end}
use Rattle.conflict_set.proofs.worked.Goals as goal

pub loop-i-init : goal.loop-i-init
loop-i-init c = (worked_start _ _, search rules)

pub returns-then-is_failed : goal.returns-then-is_failed
returns-then-is_failed c = sym (c.loop-i.invariant.0 ∙ first_hit _ _ _ (c.loop-i-test.true) (sym (c.is_failed.ensures) ∙ (c.if-is_failed.true)))

pub loop-i-preserved : goal.loop-i-preserved
loop-i-preserved c = (c.loop-i.invariant.0 ∙ first_on _ _ _ (c.loop-i-test.true) (sym (c.is_failed.ensures) ∙ (c.if-is_failed.false)), search rules)

pub returns : goal.returns
returns c = sym (c.loop-i.invariant.0 ∙ first_end _ _ _ (c.loop-i-test.false))

use mathlib.Core.Path.{sym, ◌∙◌}
use Rattle.conflict_set.specs.Laws.{tested_start, tested_on, tested_stop, tested_end}
use borrow.Author.Rules.{rules}
use Rattle.conflict_set.proofs.all_plain.Goals as goal

pub loop-i-init : goal.loop-i-init
loop-i-init c = (tested_start _ _ _, search rules)

pub loop-i-preserved : goal.loop-i-preserved
loop-i-preserved c = (tested_on _ _ _ _ _ (c.loop-i.invariant.0) (c.loop-i-test.true) _ (c.expected-known.ensures) (λ k. sym (c.if-not-sides_plain.false) ∙ (c.sides_plain.ensures k)), search rules)

pub returns-then-not-sides_plain : goal.returns-then-not-sides_plain
returns-then-not-sides_plain c = tested_stop _ _ _ _ _ (c.loop-i.invariant.0) (c.loop-i-test.true) (λ k. sym (c.if-not-sides_plain.true) ∙ (c.sides_plain.ensures k))

pub returns : goal.returns
returns c = tested_end _ _ _ _ _ (c.loop-i.invariant.0) (c.loop-i-test.false)

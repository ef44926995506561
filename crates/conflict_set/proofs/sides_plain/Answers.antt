use mathlib.Core.Path.{sym, ◌∙◌}
use Rattle.conflict_set.specs.Laws.{sides_yes, sides_no}
use Rattle.conflict_set.proofs.sides_plain.Goals as goal

pub returns-then-expected_plain : goal.returns-then-expected_plain
returns-then-expected_plain c = λ k. sides_yes _ _ _ _ _ (c.expected-x.ensures) (c.got-y.ensures) (sym (c.if-expected_plain.true) ∙ (c.expected_plain.ensures k)) (c.got_plain.ensures)

pub returns-else-expected_plain : goal.returns-else-expected_plain
returns-else-expected_plain c = λ k. c.if-expected_plain.false ∙ sides_no _ _ _ (c.expected-x.ensures) (sym (c.if-expected_plain.false) ∙ (c.expected_plain.ensures k))

use mathlib.Core.Path.{subst}
use Rattle.conflict_set.specs.SearchLaws.{set_last, set_failed}
use Rattle.conflict_set.specs.Searching.{PushedFrom}
use Rattle.conflict_set.proofs.test_set.Goals as goal

pub returns-then-push_from : goal.returns-then-push_from
returns-then-push_from c = set_last _ _ _ _ _ _ (c.requires) _ _ _ _ _ (subst (PushedFrom _ _ _ _ _ _ _ _) (c.if-push_from.true) (c.push_from.ensures)) (c.read-q.ensures) (c.test_last.ensures)

pub returns : goal.returns
returns c = set_failed _ _ _ _ _ _ (c.requires) _ _ (subst (PushedFrom _ _ _ _ _ _ _ _) (c.if-push_from.false) (c.push_from.ensures))

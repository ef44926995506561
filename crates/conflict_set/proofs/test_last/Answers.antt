use mathlib.Core.Path.{sym, subst, ◌∙◌}
use Rattle.conflict_set.specs.SearchLaws.{last_free, last_bound, last_failed}
use Rattle.conflict_set.specs.Searching.{PushedBy}
use Rattle.conflict_set.proofs.test_last.Goals as goal

pub returns-then-is_free : goal.returns-then-is_free
returns-then-is_free c = last_free (c.args.m.now) (c.args.c) (c.args.i) _ _ (c.expected-x.ensures) (c.got-y.ensures) (sym (c.if-is_free.true) ∙ c.is_free.ensures)

pub returns-in_default : goal.returns-in_default
returns-in_default c = last_failed (c.args.m.now) (c.args.c) (c.args.i) _ (subst (PushedBy _ _ _ _) (c.in_default.is) (c.push.ensures))

pub returns : goal.returns
returns c = last_bound (c.args.m.now) (c.args.c) (c.args.i) _ _ _ (subst (PushedBy _ _ _ _) (c.in-Some.is) (c.push.ensures)) (c.open_again.ensures)

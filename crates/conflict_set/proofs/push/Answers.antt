use mathlib.Core.Path.{subst}
use Rattle.conflict_set.specs.SearchLaws.{push_bound, push_failed}
use Rattle.conflict_set.specs.In.{AddedBy}
use Rattle.conflict_set.proofs.push.Goals as goal

pub returns-then-add : goal.returns-then-add
returns-then-add c = push_bound (c.args.m.now) (c.args.c) (c.args.i) _ _ _ _ (c.expected-x.ensures) (c.got-y.ensures) (c.open_end-a.ensures) (c.open_end-b.ensures) _ _ (subst (AddedBy _ _ _ _) (c.if-add.true) (c.add.ensures)) (c.bound_of.ensures)

pub returns-else-add : goal.returns-else-add
returns-else-add c = push_failed (c.args.m.now) (c.args.c) (c.args.i) _ _ _ _ (c.expected-x.ensures) (c.got-y.ensures) (c.open_end-a.ensures) (c.open_end-b.ensures) _ (subst (AddedBy _ _ _ _) (c.if-add.false) (c.add.ensures))

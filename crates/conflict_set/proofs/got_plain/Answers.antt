use borrow.Author.Tests.{eq-eqb}
use Rattle.conflict_set.specs.Laws.{got_yes, got_no}
use Rattle.conflict_set.proofs.got_plain.Goals as goal

pub returns-then-head-eq-HEAD_DIVERGES : goal.returns-then-head-eq-HEAD_DIVERGES
returns-then-head-eq-HEAD_DIVERGES c = rw (eq-eqb _ _ (c.if-head-eq-HEAD_DIVERGES.true)) (got_yes (c.args.m.now) (c.args.c) _ _ (c.head.ensures) (c.if-head-eq-HEAD_DIVERGES.true))

pub returns-else-head-eq-HEAD_DIVERGES : goal.returns-else-head-eq-HEAD_DIVERGES
returns-else-head-eq-HEAD_DIVERGES c = got_no (c.args.m.now) (c.args.c) _ _ _ (c.head.ensures) (c.if-head-eq-HEAD_DIVERGES.false) (c.is_plain.ensures)

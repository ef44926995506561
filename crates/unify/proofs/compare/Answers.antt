use Rattle.unify.proofs.Laws.{compare_none, compare_same, compare_differ}
use Rattle.unify.proofs.compare.Goals as goal
use Rattle.unify.proofs.compare.Goals.{else-i-ne0-via-then-i-ne0+else-i-j, else-i-ne0-via-else-i-ne0}

pub returns-then-i-j : goal.returns-then-i-j
returns-then-i-j c = compare_same (c.args.m.now) (c.args.c) (c.args.x) (c.args.y) _ _ _ _ _ _ c.head.ensures c.number.ensures c.base_code-i.ensures c.head-2.ensures c.number-2.ensures c.base_code-j.ensures c.if-i-ne0.true c.if-i-j.true

pub returns-else-i-ne0 : goal.returns-else-i-ne0
returns-else-i-ne0 c =
    elim c.else-i-ne0.branch [
      | else-i-ne0-via-then-i-ne0+else-i-j w ↦ compare_differ (c.args.m.now) (c.args.c) (c.args.x) (c.args.y) _ _ _ _ _ _ c.head.ensures c.number.ensures c.base_code-i.ensures c.head-2.ensures c.number-2.ensures c.base_code-j.ensures w.if-i-ne0.true w.if-i-j.false
      | else-i-ne0-via-else-i-ne0 w ↦ compare_none (c.args.m.now) (c.args.c) (c.args.x) (c.args.y) _ _ _ _ _ _ c.head.ensures c.number.ensures c.base_code-i.ensures c.head-2.ensures c.number-2.ensures c.base_code-j.ensures w.if-i-ne0.false
    ]

use Rattle.unify.proofs.Laws.{signed_int, signed_other}
use Rattle.unify.proofs.signed.Goals as goal

pub returns-then-h-eq-HEAD_INT : goal.returns-then-h-eq-HEAD_INT
returns-then-h-eq-HEAD_INT c = signed_int (c.args.m.now) (c.args.c) (c.args.z) _ c.head-h.ensures c.if-h-eq-HEAD_INT.true

pub returns-else-h-eq-HEAD_INT : goal.returns-else-h-eq-HEAD_INT
returns-else-h-eq-HEAD_INT c = signed_other (c.args.m.now) (c.args.c) (c.args.z) _ c.head-h.ensures c.if-h-eq-HEAD_INT.false

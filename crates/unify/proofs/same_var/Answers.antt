use Rattle.unify.proofs.Laws.{same_yes, same_no}
use Rattle.unify.proofs.same_var.Goals as goal

pub returns-then-head-eq-HEAD_INFER_TY : goal.returns-then-head-eq-HEAD_INFER_TY
returns-then-head-eq-HEAD_INFER_TY c = same_yes (c.args.m.now) (c.args.c) (c.args.z) _ c.head.ensures _ _ c.if-head-eq-HEAD_INFER_TY.true c.var_of.ensures

pub returns-else-head-eq-HEAD_INFER_TY : goal.returns-else-head-eq-HEAD_INFER_TY
returns-else-head-eq-HEAD_INFER_TY c = same_no (c.args.m.now) (c.args.c) (c.args.z) _ c.head.ensures (c.args.v) c.if-head-eq-HEAD_INFER_TY.false

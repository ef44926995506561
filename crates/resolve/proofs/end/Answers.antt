use Rattle.resolve.proofs.Laws.{end_open, end_settled}
use Rattle.resolve.proofs.end.Goals as goal

pub returns-then-head-eq-HEAD_INFER_TY : goal.returns-then-head-eq-HEAD_INFER_TY
returns-then-head-eq-HEAD_INFER_TY c = end_open _ _ _ c.follow-y.ensures c.head.ensures _ _ c.if-head-eq-HEAD_INFER_TY.true c.var_of.ensures c.open_type.ensures

pub returns-else-head-eq-HEAD_INFER_TY : goal.returns-else-head-eq-HEAD_INFER_TY
returns-else-head-eq-HEAD_INFER_TY c = end_settled _ _ _ c.follow-y.ensures c.head.ensures c.if-head-eq-HEAD_INFER_TY.false

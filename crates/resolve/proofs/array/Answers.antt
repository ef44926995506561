use Rattle.resolve.proofs.Laws.{array_of_var, array_other}
use Rattle.resolve.proofs.array.Goals as goal

pub returns-then-head-eq-HEAD_INFER_TY : goal.returns-then-head-eq-HEAD_INFER_TY
returns-then-head-eq-HEAD_INFER_TY c = array_of_var _ _ c.head.ensures _ _ _ c.if-head-eq-HEAD_INFER_TY.true c.end-r.ensures c.array_of.ensures

pub returns-else-head-eq-HEAD_INFER_TY : goal.returns-else-head-eq-HEAD_INFER_TY
returns-else-head-eq-HEAD_INFER_TY c = array_other _ _ c.head.ensures _ c.if-head-eq-HEAD_INFER_TY.false

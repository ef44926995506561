use Rattle.search.proofs.SearchLaws.{visit_hit, visit_open, visit_bound, visit_parts}
use Rattle.search.proofs.Queue.visit.Goals as goal

pub returns-then-head-ne-HEAD_INFER_TY : goal.returns-then-head-ne-HEAD_INFER_TY
returns-then-head-ne-HEAD_INFER_TY c = visit_parts (c.args.m.now) (c.args.c) (c.args.x) _ c.head.ensures (c.args.v) c.if-head-ne-HEAD_INFER_TY.true _ _ c.push_parts.ensures

pub returns-then-u-v : goal.returns-then-u-v
returns-then-u-v c = visit_hit (c.args.m.now) (c.args.c) (c.args.x) _ c.head.ensures (c.args.v) _ c.if-head-ne-HEAD_INFER_TY.false c.var_of-u.ensures (c.args.self.now) c.if-u-v.true

pub returns-in-Some : goal.returns-in-Some
returns-in-Some c = visit_bound (c.args.m.now) (c.args.c) (c.args.x) _ c.head.ensures (c.args.v) _ c.if-head-ne-HEAD_INFER_TY.false c.var_of-u.ensures _ _ _ _ c.if-u-v.false c.bound_to.ensures (c.in-Some.is) c.push.ensures

pub returns-in_default : goal.returns-in_default
returns-in_default c = visit_open (c.args.m.now) (c.args.c) (c.args.x) _ c.head.ensures (c.args.v) _ c.if-head-ne-HEAD_INFER_TY.false c.var_of-u.ensures _ _ c.if-u-v.false c.bound_to.ensures (c.in_default.is)

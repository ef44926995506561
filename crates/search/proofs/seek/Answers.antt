use Prim.Native.Nat.{◌-◌}
use native.Mathlib.Omega.{arith}
use Rattle.search.proofs.SearchLaws.{seek_start, seek_lost, seek_ring, seek_free, seek_on, seek_inside, seek_outside}
use Rattle.search.proofs.seek.Goals as goal

pub loop-step-init : goal.loop-step-init
loop-step-init c = seek_start _ _ _ _ _ (omega arith)

pub returns-in-At : goal.returns-in-At
returns-in-At c = seek_ring (c.args.m.now) (c.args.c) (c.args.v) _ _ _ (c.loop-step.invariant) (c.args.c.types - c.loop-step._step) (omega arith) _ c.head.ensures _ c.if-head-ne-HEAD_INFER_TY.false c.var_of.ensures _ c.leads_var.ensures (c.in-At.is)

pub returns-in-End : goal.returns-in-End
returns-in-End c = seek_free (c.args.m.now) (c.args.c) (c.args.v) _ _ _ (c.loop-step.invariant) (c.args.c.types - c.loop-step._step) (omega arith) _ c.head.ensures _ c.if-head-ne-HEAD_INFER_TY.false c.var_of.ensures _ c.leads_var.ensures (c.in-End.is)

pub returns-then-stands_in : goal.returns-then-stands_in
returns-then-stands_in c = seek_inside (c.args.m.now) (c.args.c) (c.args.v) _ _ _ (c.loop-step.invariant) (c.args.c.types - c.loop-step._step) (omega arith) _ c.head.ensures c.if-head-ne-HEAD_INFER_TY.true _ c.stands_in.ensures c.if-stands_in.true

pub returns-else-stands_in : goal.returns-else-stands_in
returns-else-stands_in c = seek_outside (c.args.m.now) (c.args.c) (c.args.v) _ _ _ (c.loop-step.invariant) (c.args.c.types - c.loop-step._step) (omega arith) _ c.head.ensures c.if-head-ne-HEAD_INFER_TY.true _ c.stands_in.ensures c.if-stands_in.false

pub loop-step-preserved : goal.loop-step-preserved
loop-step-preserved c = seek_on (c.args.m.now) (c.args.c) (c.args.v) _ _ _ (c.loop-step.invariant) _ (omega arith) _ c.head.ensures _ c.if-head-ne-HEAD_INFER_TY.false c.var_of.ensures _ c.leads_var.ensures _ (c.in-To.is)

pub returns : goal.returns
returns c = seek_lost (c.args.m.now) (c.args.c) (c.args.v) _ _ _ (c.loop-step.invariant) (omega arith)

use Prim.Native.Nat.{◌+◌, ◌-◌}
use mathlib.Core.Path.{refl, ◌∙◌}
use native.Mathlib.Omega.{arith}
use Rattle.unify.proofs.UniLaws.{is_met, is_other, loop_dry, loop-done, loop_on, loop_into, into_stop, into_lengths, into_inputs, each_start, each_end, each_more, each_stop}
use Rattle.unify.proofs.+each_into_uni.Goals as goal

pub each-loop-i-init : goal.each-loop-i-init
each-loop-i-init t c = (each_start _ _ _ _ _ _ _ _ _ (omega arith) (omega arith) (omega arith), refl)

pub each-returns-then-ne : goal.each-returns-then-ne
each-returns-then-ne t c =
    each_stop (c.args.m.now) (c.args.c) (c.args.first) (c.args.second) (c.args.count) (c.args.n) _ _ _ _ (c.loop-i.invariant.0) (c.args.first + (c.loop-i.i + 1)) (c.args.second + (c.loop-i.i + 1)) (c.args.count - (c.loop-i.i + 1)) (omega arith) (omega arith) (omega arith) _ _ c.input-x.ensures c.input-y.ensures _ (c.uni-a.result) c.uni-a.ensures (is_other _ c.if-ne.ensures)

pub each-loop-i-preserved : goal.each-loop-i-preserved
each-loop-i-preserved t c = (
  each_more (c.args.m.now) (c.args.c) (c.args.first) (c.args.second) (c.args.count) (c.args.n) _ _ _ _ (c.loop-i.invariant.0) _ _ _ (omega arith) (omega arith) (omega arith) _ _ c.input-x.ensures c.input-y.ensures _ (c.uni-a.result) c.uni-a.ensures (is_met _ c.if-ne.ensures),
  c.uni-a.auto.m ∙ c.loop-i.invariant.1,
)

pub each-returns : goal.each-returns
each-returns t c = each_end (c.args.m.now) (c.args.c) (c.args.first) (c.args.second) (c.args.count) (c.args.n) _ _ _ _ (c.loop-i.invariant.0) (omega arith)

pub into-returns : goal.into-returns
into-returns t c = into_inputs (c.args.m.now) (c.args.c) (c.args.x) (c.args.y) (c.args.n) (c.output-o.result) (c.output-p.result) (c.inputs-r.result) (c.inputs-s.result) c.output-o.ensures c.output-p.ensures c.inputs-r.ensures c.inputs-s.ensures _ (c.uni-a.result) c.uni-a.ensures _ (c.each.result) (is_met _ c.if-ne.ensures) c.if-r-s.false c.each.ensures

pub into-returns-then-r-s : goal.into-returns-then-r-s
into-returns-then-r-s t c = into_lengths (c.args.m.now) (c.args.c) (c.args.x) (c.args.y) (c.args.n) (c.output-o.result) (c.output-p.result) (c.inputs-r.result) (c.inputs-s.result) c.output-o.ensures c.output-p.ensures c.inputs-r.ensures c.inputs-s.ensures _ (c.uni-a.result) c.uni-a.ensures (is_met _ c.if-ne.ensures) c.if-r-s.true

pub into-returns-then-ne : goal.into-returns-then-ne
into-returns-then-ne t c = into_stop (c.args.m.now) (c.args.c) (c.args.x) (c.args.y) (c.args.n) (c.output-o.result) (c.output-p.result) (c.inputs-r.result) (c.inputs-s.result) c.output-o.ensures c.output-p.ensures c.inputs-r.ensures c.inputs-s.ensures _ (c.uni-a.result) c.uni-a.ensures (is_other _ c.if-ne.ensures)

pub uni-returns-in-Done : goal.uni-returns-in-Done
uni-returns-in-Done t c = loop-done (c.args.m.now) (c.args.c) (c.args.x) (c.args.y) (c.args.n) _ _ _ _ (c.loop-left.invariant.0) c.loop-left-test.true _ (c.step.result) c.step.ensures _ (c.in-Done.is)

pub uni-loop-left-preserved : goal.uni-loop-left-preserved
uni-loop-left-preserved t c = (loop_on (c.args.m.now) (c.args.c) (c.args.x) (c.args.y) (c.args.n) _ _ _ _ (c.loop-left.invariant.0) c.loop-left-test.true _ (c.step.result) c.step.ensures _ _ (c.in-On.is), c.step.auto.m ∙ c.loop-left.invariant.1)

pub uni-returns-in-Into : goal.uni-returns-in-Into
uni-returns-in-Into t c = loop_into (c.args.m.now) (c.args.c) (c.args.x) (c.args.y) (c.args.n) _ _ _ _ (c.loop-left.invariant.0) c.loop-left-test.true _ (c.step.result) c.step.ensures _ _ _ (c.into.result) (c.in-Into.is) c.into.ensures

pub uni-returns : goal.uni-returns
uni-returns t c = loop_dry (c.args.m.now) (c.args.c) (c.args.x) (c.args.y) (c.args.n) _ _ _ _ (c.loop-left.invariant.0) (omega arith)

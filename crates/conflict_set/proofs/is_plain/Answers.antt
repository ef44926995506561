use mathlib.Core.Path.{◌≡◌, sym, ◌∙◌}
use Prim.Native.Nat.{◌+◌, ◌-◌, suc}
use native.Mathlib.Omega.{arith}
use Rattle.conflict_theory.specs.Plains.{is_plain}
use Rattle.conflict_set.specs.Laws.{plain_end, plain_next, plain_zero}
use Rattle.conflict_set.proofs.is_plain.Goals as goal

pub loop-step-init : goal.loop-step-init
unfolding is_plain
loop-step-init c = let e : c.args.x.0 + 1 - 0 ≡ suc (c.args.x.0) = omega arith in rw e

pub returns-then-h-ne-HEAD_ARRAY : goal.returns-then-h-ne-HEAD_ARRAY
returns-then-h-ne-HEAD_ARRAY c =
    let e : c.args.x.0 + 1 - c.loop-step._step ≡ suc (c.args.x.0 - c.loop-step._step) = omega arith in
    plain_end (c.args.m.now) (c.args.c) _ _ _ _ (c.head-h.ensures) (c.if-h-ne-HEAD_ARRAY.true) (c.plain_head.ensures) ∙ sym (rw e at c.loop-step.invariant)

pub loop-step-preserved : goal.loop-step-preserved
loop-step-preserved c =
    let e : c.args.x.0 + 1 - c.loop-step._step ≡ suc (c.args.x.0 + 1 - (c.loop-step._step + 1)) = omega arith in
    (rw e at c.loop-step.invariant) ∙ plain_next (c.args.m.now) (c.args.c) _ _ _ _ (c.head-h.ensures) (c.if-h-ne-HEAD_ARRAY.false) (c.element-y.ensures)

pub returns : goal.returns
returns c =
    let e : c.args.x.0 + 1 - c.loop-step._step ≡ 0 = omega arith in
    plain_zero (c.args.m.now) (c.args.c) _ ∙ sym (rw e at c.loop-step.invariant)

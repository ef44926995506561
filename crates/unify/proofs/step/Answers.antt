use Rattle.unify.proofs.StepLaws.{step_same, step_compare, step_left, step_right, step_down, step_swap, step_differ}
use Rattle.unify.proofs.step.Goals as goal

pub returns-in-Same : goal.returns-in-Same
returns-in-Same c = step_same (c.args.m.now) (c.args.c) (c.args.x) (c.args.y) _ _ c.head.ensures c.head-2.ensures _ c.choose.ensures (c.in-Same.is)

pub returns-in-Compare : goal.returns-in-Compare
returns-in-Compare c = step_compare (c.args.m.now) (c.args.c) (c.args.x) (c.args.y) _ _ c.head.ensures c.head-2.ensures _ c.choose.ensures _ (c.in-Compare.is) c.compare.ensures

pub returns-in-Left : goal.returns-in-Left
returns-in-Left c = step_left (c.args.m.now) (c.args.c) (c.args.x) (c.args.y) _ _ c.head.ensures c.head-2.ensures _ c.choose.ensures _ _ (c.in-Left.is) c.variable.ensures

pub returns-in-Right : goal.returns-in-Right
returns-in-Right c = step_right (c.args.m.now) (c.args.c) (c.args.x) (c.args.y) _ _ c.head.ensures c.head-2.ensures _ c.choose.ensures _ _ (c.in-Right.is) c.variable-in-Right.ensures

pub returns-in-Down : goal.returns-in-Down
returns-in-Down c = step_down (c.args.m.now) (c.args.c) (c.args.x) (c.args.y) _ _ c.head.ensures c.head-2.ensures _ c.choose.ensures _ (c.in-Down.is) c.down.ensures

pub returns-in-Swap : goal.returns-in-Swap
returns-in-Swap c = step_swap (c.args.m.now) (c.args.c) (c.args.x) (c.args.y) _ _ c.head.ensures c.head-2.ensures _ c.choose.ensures (c.in-Swap.is)

pub returns-in-Differ : goal.returns-in-Differ
returns-in-Differ c = step_differ (c.args.m.now) (c.args.c) (c.args.x) (c.args.y) _ _ c.head.ensures c.head-2.ensures _ c.choose.ensures (c.in-Differ.is)

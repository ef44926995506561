use Rattle.unify.proofs.Laws.{class_integer, class_floating, class_var, class_other}
use native.Mathlib.Omega.{arith}
use Rattle.unify.proofs.class.Goals as goal

pub returns-in-1 : goal.returns-in-1
returns-in-1 c = class_integer (c.args.m.now) (c.args.c) (c.args.z) _ c.head.ensures (grind arith)

pub returns-in-3 : goal.returns-in-3
returns-in-3 c = class_floating (c.args.m.now) (c.args.c) (c.args.z) _ c.head.ensures (grind arith)

pub returns-in-12 : goal.returns-in-12
returns-in-12 c = class_var (c.args.m.now) (c.args.c) (c.args.z) _ c.head.ensures _ _ (c.in-12.is) c.var_of.ensures c.kind_of.ensures

pub returns-in_default : goal.returns-in_default
returns-in_default c = class_other (c.args.m.now) (c.args.c) (c.args.z) _ c.head.ensures (grind arith) (grind arith) (grind arith) (grind arith) (grind arith)

pub returns-in_default-2 : goal.returns-in_default-2
returns-in_default-2 c = class_other (c.args.m.now) (c.args.c) (c.args.z) _ c.head.ensures (grind arith) (grind arith) (grind arith) (grind arith) (grind arith)

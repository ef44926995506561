use native.Mathlib.Omega.{arith}
use Rattle.search.proofs.SearchLaws.{parts_of_two, parts_of_one, parts_of_none}
use Rattle.search.proofs.Queue.push_parts.Goals as goal

pub returns-in-6 : goal.returns-in-6
returns-in-6 c = parts_of_two (c.args.m.now) (c.args.c) (c.args.x) _ c.head.ensures c.in-6.is _ _ _ _ _ c.output.ensures c.inputs.ensures c.push.ensures c.push_inputs.ensures

pub returns-in-8 : goal.returns-in-8
returns-in-8 c = parts_of_one (c.args.m.now) (c.args.c) (c.args.x) _ c.head.ensures c.in-8.is _ _ _ c.element.ensures c.push-in-8.ensures

pub returns-in_default : goal.returns-in_default
returns-in_default c = parts_of_none (c.args.m.now) (c.args.c) (c.args.x) _ c.head.ensures (grind arith) (grind arith) (grind arith) (grind arith) _

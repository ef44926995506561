use native.Mathlib.Omega.{arith}
use Rattle.search.proofs.SearchLaws.{led_one, led_var, led_none}
use Rattle.search.proofs.leads.Goals as goal

pub returns-in-8 : goal.returns-in-8
returns-in-8 c = led_one (c.args.m.now) (c.args.c) (c.args.v) (c.args.x) _ c.head.ensures c.in-8.is _ c.element.ensures

pub returns-in-12 : goal.returns-in-12
returns-in-12 c = led_var (c.args.m.now) (c.args.c) (c.args.v) (c.args.x) _ c.head.ensures _ c.in-12.is c.var_of.ensures (c.leads_var.result) c.leads_var.ensures

pub returns-in_default : goal.returns-in_default
returns-in_default c = led_none (c.args.m.now) (c.args.c) (c.args.v) (c.args.x) _ c.head.ensures (grind arith) (grind arith) (grind arith) (grind arith) (grind arith)

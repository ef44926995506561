use Rattle.search.proofs.SearchLaws.{led_var_open, led_var_to}
use Rattle.search.proofs.leads_var.Goals as goal

pub returns-in-None : goal.returns-in-None
returns-in-None c = led_var_open (c.args.m.now) (c.args.c) (c.args.v) _ _ c.if-u-v.false c.bound_to.ensures (c.in-None.is)

pub returns-in-Some : goal.returns-in-Some
returns-in-Some c = led_var_to (c.args.m.now) (c.args.c) (c.args.v) _ _ _ c.if-u-v.false c.bound_to.ensures (c.in-Some.is)

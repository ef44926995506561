use native.Mathlib.Omega.{arith}
use Rattle.conflict_set.specs.SearchLaws.{lead_array, lead_bound, lead_open, lead_nowhere}
use Rattle.conflict_set.proofs.lead_from.Goals as goal

pub returns-in-8 : goal.returns-in-8
returns-in-8 c = lead_array c.args.m.now c.args.c _ _ c.head.ensures c.in-8.is _ c.element.ensures

pub returns-in-Some : goal.returns-in-Some
returns-in-Some c = lead_bound c.args.m.now c.args.c _ _ c.head.ensures (λ q. omega (arith, c.in-12.is)) c.in-12.is _ _ c.var_of-v.ensures c.bound_to.ensures _ c.in-Some.is

pub returns-in-None : goal.returns-in-None
returns-in-None c = lead_open c.args.m.now c.args.c _ _ c.head.ensures (λ q. omega (arith, c.in-12.is)) c.in-12.is _ _ c.var_of-v.ensures c.bound_to.ensures c.in-None.is

pub returns-in_default : goal.returns-in_default
returns-in_default c = lead_nowhere c.args.m.now c.args.c _ _ c.head.ensures (grind arith) (grind arith)

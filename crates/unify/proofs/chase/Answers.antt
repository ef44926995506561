use Rattle.unify.proofs.StepLaws.{chase_open, chase_bound}
use Rattle.unify.proofs.chase.Goals as goal

pub returns-in-None : goal.returns-in-None
returns-in-None c = chase_open (c.args.m.now) (c.args.c) (c.args.v) _ c.bound_to.ensures (c.args.z) _ _ (c.in-None.is) c.settle.ensures

pub returns-in-Some : goal.returns-in-Some
returns-in-Some c = chase_bound (c.args.m.now) (c.args.c) (c.args.v) _ c.bound_to.ensures (c.args.z) _ (c.in-Some.is)

use Rattle.unify.proofs.StepLaws.{variable_meets, variable_unfit}
use Rattle.unify.proofs.variable.Goals as goal

pub returns-in-Some : goal.returns-in-Some
returns-in-Some c = variable_meets c.args.m.now c.args.c c.args.x c.args.z c.roles.result _ _ _ _ c.roles.ensures c.in-Some.is c.meet.ensures

pub returns-in-None : goal.returns-in-None
returns-in-None c = variable_unfit c.args.m.now c.args.c c.args.x c.args.z c.roles.result c.roles.ensures c.in-None.is

use Rattle.unify.proofs.StepLaws.{roles_none, roles_fit, roles_unfit}
use Rattle.unify.proofs.roles.Goals as goal

pub returns-then-head-ne-HEAD_INFER_TY : goal.returns-then-head-ne-HEAD_INFER_TY
returns-then-head-ne-HEAD_INFER_TY c = roles_none c.args.m.now c.args.c c.args.x c.args.z _ c.head.ensures c.if-head-ne-HEAD_INFER_TY.true

pub returns-then-kind_test : goal.returns-then-kind_test
returns-then-kind_test c = roles_fit c.args.m.now c.args.c c.args.x c.args.z _ c.head.ensures c.var_of-u.result.0 c.if-head-ne-HEAD_INFER_TY.false c.var_of-u.ensures c.kind_of.result c.class.result c.kind_of.ensures c.class.ensures c.kind_test.result c.kind_test.ensures c.if-kind_test.true

pub returns-else-kind_test : goal.returns-else-kind_test
returns-else-kind_test c = roles_unfit c.args.m.now c.args.c c.args.x c.args.z _ c.head.ensures c.var_of-u.result.0 c.if-head-ne-HEAD_INFER_TY.false c.var_of-u.ensures c.kind_of.result c.class.result c.kind_of.ensures c.class.ensures c.kind_test.result c.kind_test.ensures c.if-kind_test.false c.exchange.result c.exchange.ensures

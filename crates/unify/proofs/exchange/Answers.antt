use Rattle.unify.proofs.StepLaws.{exchange_none, exchange_regular, exchange_numbers}
use Rattle.unify.proofs.exchange.Goals as goal

pub returns-then-head-ne-HEAD_INFER_TY : goal.returns-then-head-ne-HEAD_INFER_TY
returns-then-head-ne-HEAD_INFER_TY c = exchange_none c.args.m.now c.args.c c.args.x c.args.z _ c.head.ensures c.if-head-ne-HEAD_INFER_TY.true

pub returns-in-Regular : goal.returns-in-Regular
returns-in-Regular c = exchange_regular c.args.m.now c.args.c c.args.x c.args.z _ c.head.ensures _ c.if-head-ne-HEAD_INFER_TY.false c.var_of-u.ensures _ c.kind_of.ensures c.in-Regular.is

pub returns-in-Integer : goal.returns-in-Integer
returns-in-Integer c = exchange_numbers c.args.m.now c.args.c c.args.x c.args.z _ c.head.ensures _ c.if-head-ne-HEAD_INFER_TY.false c.var_of-u.ensures _ c.kind_of.ensures c.in-Integer.is

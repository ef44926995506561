use Rattle.unify.proofs.StepLaws.{meet_same, meet_unsigned, meet_on}
use Rattle.unify.proofs.meet.Goals as goal

pub returns-then-same_var : goal.returns-then-same_var
returns-then-same_var c = meet_same (c.args.m.now) (c.args.c) (c.args.v) (c.args.z) _ c.same_var.ensures c.if-same_var.true

pub returns-then-unsigned : goal.returns-then-unsigned
returns-then-unsigned c = meet_unsigned c.args.m.now c.args.c c.args.v c.args.z _ c.same_var.ensures c.if-same_var.false _ c.unsigned.ensures c.if-unsigned.true

pub returns : goal.returns
returns c = meet_on c.args.m.now c.args.c c.args.v c.args.z _ c.same_var.ensures c.if-same_var.false _ _ _ _ c.unsigned.ensures c.if-unsigned.false c.pass.ensures c.chase.ensures

use Rattle.unify.proofs.StepLaws.{settle_free, settle_ring, settle_inside, settle_lost}
use Rattle.unify.proofs.settle.Goals as goal

pub returns-in-Free : goal.returns-in-Free
returns-in-Free c = settle_free (c.args.m.now) (c.args.c) (c.args.v) (c.args.z) _ c.seek.ensures _ (c.in-Free.is) c.bind.ensures

pub returns-in-Ring : goal.returns-in-Ring
returns-in-Ring c = settle_ring (c.args.m.now) (c.args.c) (c.args.v) (c.args.z) _ c.seek.ensures (c.in-Ring.is)

pub returns-in-Inside : goal.returns-in-Inside
returns-in-Inside c = settle_inside (c.args.m.now) (c.args.c) (c.args.v) (c.args.z) _ c.seek.ensures (c.in-Inside.is)

pub returns-in-Lost : goal.returns-in-Lost
returns-in-Lost c = settle_lost (c.args.m.now) (c.args.c) (c.args.v) (c.args.z) _ c.seek.ensures (c.in-Lost.is)

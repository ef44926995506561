use Rattle.search.proofs.SearchLaws.{stands_at, stands_none, stands_on, stands_parts}
use native.Mathlib.Omega.{arith}
use Rattle.search.proofs.stands_in.Goals as goal

pub returns-in-At : goal.returns-in-At
returns-in-At c = stands_at (c.args.m.now) (c.args.c) (c.args.v) _ _ _ (c.loop-step.invariant) _ c.leads.ensures (c.in-At.is)

pub returns-in-End : goal.returns-in-End
returns-in-End c = stands_none (c.args.m.now) (c.args.c) (c.args.v) _ _ _ (c.loop-step.invariant) _ c.leads.ensures (c.in-End.is)

pub loop-step-preserved : goal.loop-step-preserved
loop-step-preserved c = stands_on (c.args.m.now) (c.args.c) (c.args.v) _ _ _ (c.loop-step.invariant) _ _ _ (omega arith) c.leads.ensures (c.in-To.is)

pub returns : goal.returns
returns c = stands_parts (c.args.m.now) (c.args.c) (c.args.v) _ _ _ (c.loop-step.invariant) _ c.reaches.ensures

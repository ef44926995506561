use Rattle.search.proofs.SearchLaws.{reach_start, reach_more, reach_hit, reach_end, visited_le, first_le}
use mathlib.Core.Path.{refl}
use Rattle.search.proofs.reaches.Goals as goal

pub loop-head-init : goal.loop-head-init
loop-head-init c = (first_le _ _ _ c.push.ensures, reach_start _ _ _ _)

pub returns-then-visit : goal.returns-then-visit
returns-then-visit c = reach_hit (c.args.m.now) (c.args.c) (c.args.v) _ _ _ (c.loop-head.invariant.1) (c.args.z) _ (c.visit.new.self) c.push.ensures c.loop-head-test.true refl (rw c.if-visit.true at c.visit.ensures)

pub loop-head-preserved : goal.loop-head-preserved
loop-head-preserved c =
    let h = rw c.if-visit.false at c.visit.ensures in
    (visited_le _ (c.args.c) _ _ _ _ h (c.loop-head.invariant.0), reach_more (c.args.m.now) (c.args.c) (c.args.v) _ _ _ (c.loop-head.invariant.1) _ _ c.loop-head-test.true refl h)

pub returns : goal.returns
returns c = reach_end (c.args.m.now) (c.args.c) (c.args.v) _ _ _ (c.loop-head.invariant.1) (c.args.z) c.push.ensures c.loop-head-test.false

use Rattle.conflict_set.specs.SearchLaws.{meet_law}
use Rattle.conflict_set.proofs.can_meet.Goals as goal

pub returns-then-a-b : goal.returns-then-a-b
returns-then-a-b c = meet_law (c.args.m.now) (c.args.c) _ _ _ _ _ (c.if-a-b.true) (c.kind_of.ensures) (c.kind_of-then-a-b.ensures) (c.kinds_meet.ensures)

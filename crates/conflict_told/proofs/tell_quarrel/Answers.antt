use Rattle.conflict_told.proofs.QuarrelNumberLaws.{tell_refused, tell_written, tell_nothing, tell_no_room}
use Rattle.conflict_told.proofs.tell_quarrel.Goals as goal

pub returns-in-Refused : goal.returns-in-Refused
returns-in-Refused c = tell_refused (c.args.t.now) _ (c.args.r) _ _ (c.in-Refused.is) (c.tell.ensures)

pub returns-in-Written : goal.returns-in-Written
returns-in-Written c = tell_written (c.args.t.now) _ (c.args.r) _ _ _ (c.in-Written.is) (c.tell_own.ensures)

pub returns-in-Nothing : goal.returns-in-Nothing
returns-in-Nothing c = tell_nothing (c.args.t.now) _ (c.args.r) _ _ (c.in-Nothing.is) (c.tell_own-in-Nothing.ensures)

pub returns-in-NoRoom : goal.returns-in-NoRoom
returns-in-NoRoom c = tell_no_room (c.args.t.now) _ (c.args.r) _ _ (c.in-NoRoom.is) (c.tell_own-in-NoRoom.ensures)

use Rattle.told.proofs.NumberLaws.{tell_written, tell_no_room}
use Rattle.told.proofs.tell_report.Goals as goal

pub returns-in-Written : goal.returns-in-Written
returns-in-Written c = tell_written c.args.t.now _ c.args.r _ _ _ c.in-Written.is c.tell.ensures

pub returns-in-NoRoom : goal.returns-in-NoRoom
returns-in-NoRoom c = tell_no_room c.args.t.now _ c.args.r _ _ c.in-NoRoom.is c.tell-in-NoRoom.ensures

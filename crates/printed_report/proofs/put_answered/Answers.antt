use Rattle.printed_report.proofs.Laws.{written_printed, nine_printed}
use Rattle.printed_report.proofs.put_answered.Goals as goal

pub returns-in-Written : goal.returns-in-Written
returns-in-Written c = written_printed _ _ _ _ (c.in-Written.is)

pub returns-in-NoRoom : goal.returns-in-NoRoom
returns-in-NoRoom c = nine_printed _ _ _ _ _ (c.in-NoRoom.is) (c.put_nine.ensures)

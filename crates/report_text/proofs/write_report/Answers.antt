use Rattle.report_text.proofs.WriteLaws.{write_at, write_full}
use Rattle.report_text.proofs.write_report.Goals as goal

pub returns-in-Some : goal.returns-in-Some
returns-in-Some c = write_at _ c.put_report-c.ensures c.finish.ensures c.in-Some.is

pub returns-in-None : goal.returns-in-None
returns-in-None c = write_full c.put_report-c.ensures c.finish.ensures c.in-None.is

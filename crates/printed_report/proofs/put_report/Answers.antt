use Rattle.printed_report.proofs.Laws.{report_printed}
use Rattle.printed_report.proofs.put_report.Goals as goal

pub returns : goal.returns
returns c = report_printed _ _ _ _ _ _ _ (c.report_tables-r.ensures) (c.put_answered.ensures)

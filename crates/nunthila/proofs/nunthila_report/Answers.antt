use Rattle.nunthila.proofs.ToldLaws.{report_law}
use Rattle.nunthila.proofs.nunthila_report.Goals as goal

pub returns : goal.returns
returns c = report_law _ _ _ _ _ _ _ _ _ c.report-r.ensures c.tell_report.ensures

use Rattle.report.proofs.ReportLaws.{tables_reported}
use Rattle.report.proofs.report_tables.Goals as goal

pub returns : goal.returns
returns c = tables_reported _ _ _ _ _ _ _ _ (c.check_tables-a.ensures) (c.write_report.ensures)

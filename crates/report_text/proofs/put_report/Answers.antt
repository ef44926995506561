use Rattle.report_text.proofs.WriteLaws.{text_checked, text_long, text_short, text_refused, text_declined}
use Rattle.report_text.proofs.put_report.Goals as goal

pub returns-in-Checked : goal.returns-in-Checked
returns-in-Checked c = text_checked _ _ _ _ c.in-Checked.is c.put_checked.ensures

pub returns-in-TooLong : goal.returns-in-TooLong
returns-in-TooLong c = text_long _ _ _ _ c.in-TooLong.is c.put_answer.ensures

pub returns-in-ShortTable : goal.returns-in-ShortTable
returns-in-ShortTable c = text_short _ _ _ _ c.in-ShortTable.is c.put_answer-in-ShortTable.ensures

pub returns-in-Refused : goal.returns-in-Refused
returns-in-Refused c = text_refused _ _ _ _ c.in-Refused.is c.fault_number.ensures c.put_refusal.ensures

pub returns-in-Declined : goal.returns-in-Declined
returns-in-Declined c = text_declined _ _ _ _ c.in-Declined.is c.put_refusal-in-Declined.ensures

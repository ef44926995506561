use Rattle.report_text.specs.Written.{text_of}
use Rattle.output.specs.Appending.{then}
use Rattle.report_text.proofs.put_checked.Goals as goal

pub returns : goal.returns
unfolding text_of
returns c = then c.put_answer-c.ensures c.put_tables.ensures

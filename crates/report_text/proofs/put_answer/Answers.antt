use Rattle.report_text.specs.Lines.{answer_line}
use Rattle.output.specs.Appending.{then}
use Rattle.report_text.proofs.put_answer.Goals as goal

pub returns : goal.returns
unfolding answer_line
returns c = then (then c.put_field-c.ensures c.put_all-d.ensures) c.put.ensures

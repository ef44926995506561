use Rattle.report_text.specs.Lines.{answer_line}
use Rattle.output.specs.Appending.{then}
use Rattle.report_text.proofs.put_refusal.Goals as goal

pub returns : goal.returns
unfolding answer_line
returns c = then (then c.put_field-c.ensures c.put_field-d.ensures) c.put.ensures

use Rattle.report_text.specs.Lines.{lambda_text}
use Rattle.output.specs.Appending.{then}
use Rattle.report_text.proofs.put_lambda.Goals as goal

pub returns : goal.returns
unfolding lambda_text
returns c = rw (← c.read.ensures, ← c.read-f.ensures, ← c.read-k.ensures) (then (then c.put_field-a.ensures c.put_cell-b.ensures) c.put_part.ensures)

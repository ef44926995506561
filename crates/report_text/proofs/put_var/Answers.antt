use Rattle.report_text.specs.Lines.{var_line}
use Rattle.output.specs.Appending.{then}
use Rattle.report_text.proofs.put_var.Goals as goal

pub returns : goal.returns
unfolding var_line
returns c = rw (← c.read.ensures) (then (then (then c.put_kind-a.ensures c.put_option-b.ensures) c.put_option-d.ensures) c.put.ensures)

use Rattle.report_text.specs.Lines.{type_line}
use Rattle.output.specs.Appending.{then}
use Rattle.report_text.proofs.put_type.Goals as goal

pub returns : goal.returns
unfolding type_line
returns c = then c.put_made-d.ensures c.put.ensures

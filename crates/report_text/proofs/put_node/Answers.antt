use Rattle.report_text.specs.Lines.{node_line}
use Rattle.output.specs.Appending.{then}
use Rattle.report_text.proofs.put_node.Goals as goal

pub returns : goal.returns
unfolding node_line
returns c = rw (← c.read-e.ensures, ← c.read.ensures) (then (then (then c.put_option-a.ensures c.put_option-b.ensures) c.put_extra-d.ensures) c.put.ensures)

use Rattle.output.specs.Appending.{then}
use Rattle.body_write.specs.Writing.{behind_comma}
use Rattle.body_write.proofs.put_next.Goals as goal

pub returns : goal.returns
unfolding behind_comma
returns c = then c.put-d.ensures c.put_cell.ensures

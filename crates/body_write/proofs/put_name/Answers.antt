use Rattle.output.specs.Appending.{then}
use Rattle.body_write.proofs.put_name.Goals as goal

pub returns : goal.returns
returns c = then c.put_number-d.ensures c.put.ensures

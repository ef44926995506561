use Rattle.output.specs.Appending.{then}
use Rattle.conflict_set.proofs.put_place.Goals as goal

pub returns : goal.returns
returns c = then (c.put_field-a.ensures) (then (c.put_field-b.ensures) (then (c.put_field-e.ensures) (c.put_line.ensures)))

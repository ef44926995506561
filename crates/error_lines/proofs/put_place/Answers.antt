use Rattle.errors.specs.Rows.{error_of}
use Rattle.output.specs.Appending.{then}
use Rattle.error_lines.proofs.put_place.Goals as goal

pub returns : goal.returns
unfolding error_of
returns c = then (c.put_span-d.ensures) (c.put_second.ensures)

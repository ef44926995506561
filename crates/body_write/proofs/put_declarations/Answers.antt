use Rattle.output.specs.Appending.{then}
use Rattle.body_write.specs.Writing.{declaration_lines}
use Rattle.body_write.proofs.put_declarations.Goals as goal

pub returns : goal.returns
unfolding declaration_lines
returns c = then (then (then c.put_rows-c0.ensures c.put_rows-c1.ensures) c.put_rows-c2.ensures) c.put_rows.ensures

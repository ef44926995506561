use Rattle.report_text.specs.Lines.{tables_text}
use Rattle.output.specs.Appending.{then}
use Rattle.report_text.proofs.put_tables.Goals as goal

pub returns : goal.returns
unfolding tables_text
returns c = then (then (then c.put_types-a.ensures c.put_vars-b.ensures) c.put_nodes-d.ensures) c.put_errors.ensures

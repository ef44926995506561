use Rattle.type_table.specs.Tables.{length_inputs}
use Rattle.nodes.proofs.Laws.{length_def}
use Rattle.nodes.proofs.Body.input_count.Goals as goal

pub returns-in-Def : goal.returns-in-Def
returns-in-Def c = rw c.in-Def.is (length_def _ _ _ _ c.def_inputs.ensures)

pub returns-in-Type : goal.returns-in-Type
returns-in-Type c = rw (c.in-Type.is, ← c.type_inputs.ensures, length_inputs)

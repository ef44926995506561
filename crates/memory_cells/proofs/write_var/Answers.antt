use Rattle.memory_cells.proofs.CellLaws.{var_written_lem}
use Rattle.memory_cells.proofs.write_var.Goals as goal

pub returns : goal.returns
returns c = var_written_lem _ _ _ _ _ _ _ _ _ c.write.ensures c.write-2.ensures c.write-3.ensures c.write-4.ensures c.write-5.ensures

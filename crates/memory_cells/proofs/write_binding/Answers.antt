use Rattle.memory_cells.proofs.CellLaws.{binding_written_lem}
use Rattle.memory_cells.proofs.write_binding.Goals as goal

pub returns : goal.returns
returns c = binding_written_lem _ _ _ _ _ c.write.ensures c.write-2.ensures

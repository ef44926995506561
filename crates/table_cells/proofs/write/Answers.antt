use lib.Seq.{set_out}
use mathlib.Core.Path.{sym}
use Rattle.table_cells.proofs.write.Goals as goal

pub returns-else-i-t : goal.returns-else-i-t
returns-else-i-t c = sym (set_out _ _ _ c.if-i-t.false)

use Rattle.std.proofs.Common.{rules}
use Rattle.table_cells.proofs.ZeroLaws.{zeros_none, zeros_all}
use Rattle.table_cells.proofs.zero_cells.Goals as goal

pub returns-then-i-end : goal.returns-then-i-end
returns-then-i-end c = search (rules, zeros_all)

pub returns-else-i-end : goal.returns-else-i-end
returns-else-i-end c = search (rules, zeros_none)

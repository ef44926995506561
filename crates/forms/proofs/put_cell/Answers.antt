use native.Mathlib.Omega.{arith}
use lib.ListN.{length-set}
use Rattle.forms.proofs.Laws.{stored, not_stored}
use Rattle.forms.proofs.put_cell.Goals as goal

pub bounds-t-j-then-j-t : goal.bounds-t-j-then-j-t
bounds-t-j-then-j-t c = simp length-set (omega arith)

pub bounds-t-j-then-j-t-2 : goal.bounds-t-j-then-j-t-2
bounds-t-j-then-j-t-2 c = simp length-set (omega arith)

pub returns-then-j-t : goal.returns-then-j-t
returns-then-j-t c = search stored

pub returns-else-j-t : goal.returns-else-j-t
returns-else-j-t c = search not_stored

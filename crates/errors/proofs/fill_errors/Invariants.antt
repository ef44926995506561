use Rattle.std.proofs.Common.{◌≡◌}
use Rattle.errors.specs.Rows.{row_in, filled_to}
use Rattle.errors.proofs.fill_errors.Given as goal

-- the first i rows are filled
abbrev pub invariant-loop-i : goal.invariant-loop-i
invariant-loop-i l = l.errors ≡ filled_to l.fn.errors (row_in l.m l.n) l.i

use Rattle.std.proofs.Common.{◌≡◌}
use Rattle.errors.specs.Rows.{row_in}
use Rattle.flat_report.specs.Flat.{put_rows}
use Rattle.flat_report.proofs.put_errors.Given as goal

abbrev pub invariant-loop-i : goal.invariant-loop-i
invariant-loop-i l = l.t ≡ put_rows l.initial.t (row_in l.m l.n) l.i

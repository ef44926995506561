use mathlib.Core.Path.{◌≡◌}
use Prim.Native.Nat.{◌≤◌, ◌*◌}
use lib.ListN.{length}
use lib.Seq.{sets}
use Rattle.tables.specs.Rows.{cells_to}
use Rattle.tables.specs.Log.{equation_in}
use Rattle.tables.proofs.fill_log.Given as goal

abbrev pub invariant-loop-i : goal.invariant-loop-i
invariant-loop-i l = (l.t ≡ sets l.initial.t 0 (cells_to (equation_in l.m) l.i)) × (length l.t ≡ length l.initial.t) × (l.i * 3 ≤ length l.initial.t)

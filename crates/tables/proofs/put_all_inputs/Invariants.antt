use mathlib.Core.Path.{◌≡◌}
use Prim.Native.Nat.{◌≤◌, ◌*◌}
use lib.ListN.{length}
use lib.Seq.{sets}
use Rattle.tables.specs.Rows.{cells_to}
use Rattle.tables.specs.Types.{inputs_from_lem, inputs_in}
use Rattle.tables.proofs.put_all_inputs.Given as goal

abbrev pub invariant-loop-i : goal.invariant-loop-i
invariant-loop-i l = (l.t ≡ sets l.initial.t inputs_from_lem (cells_to (inputs_in l.m l.c l.first) l.i)) × (l.k ≡ length (cells_to (inputs_in l.m l.c l.first) l.i)) × (l.k ≤ l.i * 65535) × (length l.t ≡ length l.initial.t)

use mathlib.Core.Path.{◌≡◌}
use lib.ListN.{length}
use lib.Seq.{sets}
use Rattle.type_table.specs.Memory.{inputs_from}
use Rattle.tables.proofs.put_inputs.Given as goal

abbrev pub invariant-loop-i : goal.invariant-loop-i
invariant-loop-i l = (l.t ≡ sets l.initial.t l.at (inputs_from l.m l.f l.i)) × (length l.t ≡ length l.initial.t)

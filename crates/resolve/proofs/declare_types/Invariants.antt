use mathlib.Core.Path.{◌≡◌}
use Prim.Native.Nat.{◌-◌}
use lib.ListN.{length}
use Rattle.record.specs.Steps.{for_each}
use Rattle.record.specs.Loops.{Onto}
use Rattle.resolve.specs.Resolve.{declare_type, declare_types}
use Rattle.resolve.proofs.declare_types.Given as goal

abbrev pub invariant-loop-i : goal.invariant-loop-i
invariant-loop-i l = Onto l.initial.m l.initial.d l.m l.d (declare_types l.body.rows.now l.body.cells.now l.n) (for_each l.i (l.n - l.i) (declare_type l.body.rows.now l.body.cells.now)) × (length l.m ≡ length l.initial.m)

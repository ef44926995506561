use mathlib.Core.Path.{◌≡◌}
use Prim.Native.Nat.{◌-◌}
use lib.ListN.{length}
use Rattle.record.specs.Steps.{for_each}
use Rattle.record.specs.Loops.{Onto}
use Rattle.record.specs.declared.Record.{Record}
use Rattle.resolve.specs.Resolve.{param, params}
use Rattle.resolve.proofs.params.Given as goal

abbrev pub invariant-loop-i : goal.invariant-loop-i
invariant-loop-i l = ((c : Record) → Onto l.initial.m c l.m c (params l.body.rows.now l.body.cells.now l.t) (for_each l.i (l.t.count - l.i) (param l.body.rows.now l.body.cells.now l.t))) × (length l.m ≡ length l.initial.m)

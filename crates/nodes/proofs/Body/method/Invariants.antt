use mathlib.Core.Path.{◌≡◌}
use Prim.Native.Nat.{◌-◌}
use Rattle.type_table.specs.Memory.{rows_of}
use Rattle.nodes.specs.Nodes.{method_from}
use Rattle.nodes.proofs.Body.method.Given as goal

abbrev pub invariant-loop-j : goal.invariant-loop-j
invariant-loop-j l = method_from (rows_of l.m l.c.types) l.self.rows.now l.self.cells.now 0 l.self.binds l.receiver.0 l.name ≡ method_from (rows_of l.m l.c.types) l.self.rows.now l.self.cells.now l.j (l.self.binds - l.j) l.receiver.0 l.name

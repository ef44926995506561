use mathlib.Core.Path.{◌≡◌}
use Prim.Native.Nat.{◌-◌, ◌+◌}
use Rattle.nodes.specs.Nodes.{failed_from}
use Rattle.nodes.proofs.Body.is_partly_failed.Given as goal

abbrev pub invariant-loop-i : goal.invariant-loop-i
invariant-loop-i l = failed_from l.self.cells.now (l.t.first + l.t.from) l.t.count ≡ failed_from l.self.cells.now (l.t.first + l.t.from + l.i) (l.t.count - l.i)

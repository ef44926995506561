use mathlib.Core.Path.{◌≡◌}
use Prim.Native.Nat.{◌-◌, ◌+◌}
use Rattle.nodes.specs.Nodes.{named_from}
use Rattle.nodes.proofs.Body.named.Given as goal

abbrev pub invariant-loop-i : goal.invariant-loop-i
invariant-loop-i l = named_from l.self.cells.now (l.t.first + l.t.from) l.t.count l.name ≡ named_from l.self.cells.now (l.t.first + l.t.from + l.i) (l.t.count - l.i) l.name

abbrev pub invariant-loop-k : goal.invariant-loop-k
invariant-loop-k l = named_from l.self.cells.now (l.t.first + l.t.from) l.t.count l.name ≡ named_from l.self.cells.now (l.t.first + l.t.from + l.k) (l.t.count - l.k) l.name

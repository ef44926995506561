use mathlib.Core.Path.{◌≡◌}
use Prim.Native.Nat.{◌-◌}
use lib.ListN.{length}
use Rattle.record.specs.Steps.{for_each}
use Rattle.record.specs.Loops.{Onto}
use Rattle.resolve.specs.Resolve.{resolve_node, resolve_nodes}
use Rattle.resolve.proofs.resolve_nodes.Given as goal

abbrev pub invariant-loop-i : goal.invariant-loop-i
invariant-loop-i l = Onto l.initial.m l.initial.d l.m l.d (resolve_nodes l.k) (for_each l.i (l.k - l.i) resolve_node) × (length l.m ≡ length l.initial.m)

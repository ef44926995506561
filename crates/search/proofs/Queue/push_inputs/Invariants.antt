use mathlib.Core.Path.{◌≡◌}
use Prim.Native.Nat.{◌-◌}
use Rattle.type_table.specs.Memory.{inputs_from}
use Rattle.search.specs.Search.{push_all}
use Rattle.search.proofs.Queue.push_inputs.Given as goal

abbrev pub invariant-loop-at : goal.invariant-loop-at
invariant-loop-at l = push_all l.n l.self (inputs_from l.m l.at (l.at-end - l.at)) ≡ push_all l.n l.initial.self (inputs_from l.m l.fn.r.first l.fn.r.count)

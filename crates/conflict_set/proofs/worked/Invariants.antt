use Prim.Native.Nat.{◌+◌, ◌-◌, ◌*◌, ◌≤◌}
use mathlib.Core.Path.{◌≡◌}
use Rattle.conflict_set.specs.In.{is_failed, worked_in, first_behind}
use Rattle.type_table.specs.Memory.{cell}
use Rattle.record.specs.Own.{log_at}
use Rattle.conflict_set.proofs.worked.Given as goal

abbrev pub invariant-loop-i : goal.invariant-loop-i
invariant-loop-i l = (worked_in l.m l.q ≡ first_behind (λ j. is_failed (cell l.m (log_at + j * 3 + 2))) l.i (l.q - l.i)) × (l.i ≤ l.q)

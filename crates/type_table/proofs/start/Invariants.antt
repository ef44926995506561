use mathlib.Core.Path.{◌≡◌}
use Rattle.type_table.specs.Made.{fixed_rows}
use Rattle.type_table.proofs.start.Given as goal

abbrev pub invariant-loop-x : goal.invariant-loop-x
invariant-loop-x l = l.m ≡ fixed_rows l.initial.m l.x

use Rattle.std.proofs.Common.{◌≡◌, ◌+◌, ◌-◌}
use Rattle.refs.specs.Refs.{same_values}
use Rattle.refs.proofs.same_values.Given as goal

abbrev pub invariant-loop-i : goal.invariant-loop-i
invariant-loop-i l = same_values l.m l.a l.b l.cells ≡ same_values (l.m - l.i) (l.a + l.i) (l.b + l.i) l.cells

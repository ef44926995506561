use Rattle.std.proofs.Common.{◌≡◌, ◌-◌}
use Rattle.refs.specs.Refs.{types_at, is_repeated}
use Rattle.refs.proofs.is_repeated.Given as goal

abbrev pub invariant-loop-r : goal.invariant-loop-r
invariant-loop-r l = is_repeated l.n types_at l.rows l.cells l.f l.b l.m ≡ is_repeated (l.n - l.r) l.r l.rows l.cells l.f l.b l.m

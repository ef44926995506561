use Rattle.std.proofs.Common.{◌≡◌, ◌-◌}
use Rattle.body.specs.Body.{first_ahead}
use Rattle.body.proofs.first_ahead.Given as goal

abbrev pub invariant-loop-r : goal.invariant-loop-r
invariant-loop-r l = first_ahead l.n.types 0 l.n l.cells l.rows ≡ first_ahead (l.n.types - l.r) l.r l.n l.cells l.rows

use Rattle.std.proofs.Common.{◌≡◌, ◌≤◌, ◌+◌, ◌-◌}
use Rattle.refs.specs.Refs.{refs_from, links_of}
use Rattle.refs.proofs.link_fields.Given as goal

abbrev pub invariant-loop-i : goal.invariant-loop-i
invariant-loop-i l = (l.n.fields + l.m ≤ 65535) × (links_of l.n l.f l.m l.cells l.initial.rows ≡ refs_from (l.m - l.i) l.n l.f l.i (l.n.fields + l.i) l.cells l.d l.rows)

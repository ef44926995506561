use mathlib.Core.Path.{◌≡◌}
use Rattle.nodes.specs.Nodes.{items_of}
use Rattle.record.specs.Answers.{push_all}
use Rattle.record.specs.InTables.{InTables}
use Rattle.record.proofs.InputLaws.{rest_pushed}
use Rattle.record.proofs.push_types.Given as goal

abbrev pub invariant-loop-i : goal.invariant-loop-i
invariant-loop-i l = (rest_pushed (λ x. x) l.m l.d l.body.cells.now l.t l.t.count l.i ≡ push_all l.initial.m l.initial.d (items_of l.body.cells.now l.t)) × InTables l.initial.m l.m

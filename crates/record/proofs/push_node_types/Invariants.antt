use mathlib.Core.Path.{◌≡◌}
use mathlib.Core.List.{map}
use Rattle.nodes.specs.Nodes.{items_of}
use Rattle.record.specs.Answers.{type_in, push_all}
use Rattle.record.specs.InTables.{InTables}
use Rattle.record.proofs.InputLaws.{rest_pushed}
use Rattle.record.proofs.push_node_types.Given as goal

abbrev pub invariant-loop-i : goal.invariant-loop-i
invariant-loop-i l = (rest_pushed (type_in l.initial.m) l.m l.d l.body.cells.now l.t l.t.count l.i ≡ push_all l.initial.m l.initial.d (map (type_in l.initial.m) (items_of l.body.cells.now l.t))) × InTables l.initial.m l.m

use mathlib.Core.Path.{◌≡◌}
use lib.ListN.{length}
use lib.Seq.{sets}
use Rattle.tables.specs.Rows.{cells_to}
use Rattle.tables.specs.Nodes.{node_in}
use Rattle.tables.proofs.fill_nodes.Given as goal

abbrev pub invariant-loop-i : goal.invariant-loop-i
invariant-loop-i l = (l.t ≡ sets l.initial.t 0 (cells_to (node_in l.m) l.i)) × (length l.t ≡ length l.initial.t)

use mathlib.Core.Path.{◌≡◌}
use lib.ListN.{length}
use lib.Seq.{sets}
use Rattle.tables.specs.Rows.{cells_to}
use Rattle.tables.specs.Vars.{var_in}
use Rattle.tables.proofs.fill_vars.Given as goal

abbrev pub invariant-loop-v : goal.invariant-loop-v
invariant-loop-v l = (l.t ≡ sets l.initial.t 0 (cells_to (var_in l.m l.c.counts) l.v)) × (length l.t ≡ length l.initial.t)

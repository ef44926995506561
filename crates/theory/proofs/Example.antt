-- The equations of document 01's worked body as a program of the steps: it runs as the paper prints it, and demand 3's premises are met by it.
use Rattle.std.specs.Prelude.{refl, ◌↔◌}
use Rattle.std.proofs.Common.{inr}
use Rattle.std.proofs.Math.Decide.{ℕ_discrete}
use Rattle.theory.specs.Rules.{w32, int, choose, split, at_var, act, pass, bind, leads, seek, unify}
use Rattle.theory.specs.Program.{drawn, raised, emitted, refused, solve, run}
use Rattle.theory.specs.Basics.{All}
use Rattle.theory.specs.Ways.{Way, Kinded, Agrees, Sided, Meets, plain_base, plain_var}
use Rattle.theory.specs.Start.{start}
use Rattle.theory.proofs.Claims.{demand_3_without_error}
use Rattle.theory.specs.Example.{fields, worked, end, worked_end}

-- the sides are plain
worked_sides : All (Sided end.rows) end.log
unfolding worked start run drawn raised emitted refused solve unify choose split at_var act leads seek pass bind ℕ_discrete
worked_sides = (inr (plain_base (int w32) refl, plain_base (int w32) refl), (inr (plain_base (int w32) refl, plain_var 0 refl), tt))

-- so demand 3 holds of it: the ways that meet both equations are those that agree with the binding, and there is one
pub worked_ways : ((w : Way) → Kinded end.kinds w → All (Meets end.rows w) end.log ↔ Agrees end.rows end.mem.binds w) × ((w : Way) × Kinded end.kinds w × All (Meets end.rows w) end.log)
worked_ways = demand_3_without_error fields tt worked refl worked_end.4 worked_end.5 worked_sides

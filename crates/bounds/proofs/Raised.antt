-- Of Raised: the theorems that rest on a declaration which an edit of a definition in specs/ refuses. The definitions and the other theorems stand in
-- specs/Raised.antt. Assumes nothing.
use Rattle.std.specs.Prelude.{List, ℕ}
use Rattle.theory.specs.Program.{run}
use Rattle.theory.specs.Start.{start}
use Rattle.type_table.specs.Sound.{fixed_types}
use Rattle.refs.specs.declared.Counts.{Counts}
use Rattle.record.specs.Own.{Own}
use Rattle.resolve.specs.Resolve.{body_with, type_body}
use Rattle.well_formed.specs.Good.{WellFormed}
use Rattle.bounds.specs.Declared.{declared, behind_types, body_behind}
use Rattle.bounds.specs.Confined.{any_known}
use Rattle.bounds.proofs.ConfinedWalk.{behind_types_confined}
use Rattle.bounds.specs.Raised.{AtNodes, run_raised}

-- so a body
pub body_raised : (n : Counts) (rows cells : List ℕ) → WellFormed n rows cells → (own : Own) → AtNodes n.nodes (run (type_body n rows cells) (start fixed_types own)).1.log
unfolding start
body_raised n rows cells w own =
    rw (body_behind n rows cells w own)
    (run_raised n (behind_types n rows cells) (behind_types_confined n rows cells w (any_known n (body_with n rows cells))).by (start (declared rows cells n.types) own) tt)

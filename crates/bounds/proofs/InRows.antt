-- Of InRows: the theorems that rest on a declaration which an edit of a definition in specs/ refuses. The definitions and the other theorems stand in
-- specs/InRows.antt. Assumes nothing.
use Rattle.std.specs.Prelude.{List}
use Prim.Native.Nat.{ℕ}
use Rattle.theory.specs.Start.{start}
use Rattle.refs.specs.declared.Counts.{Counts}
use Rattle.well_formed.specs.Good.{WellFormed}
use Rattle.bounds.specs.Declared.{behind_types}
use Rattle.bounds.proofs.ConfinedWalk.{behind_types_confined}
use Rattle.bounds.specs.InRows.{InRows, declared_state, known, run_in_rows, start_stands}

-- ── a body ──

module _ (n : Counts) (rows cells : List ℕ) (w : WellFormed n rows cells) where
  -- what a body runs behind its type lines uses only rows
  pub body_in_rows : InRows (behind_types n rows cells) (declared_state n rows cells)
  unfolding start
  body_in_rows = run_in_rows n (behind_types n rows cells) (declared_state n rows cells) (start_stands n rows cells w) (λ T h. (behind_types_confined n rows cells w (known n rows cells w T h)).by)

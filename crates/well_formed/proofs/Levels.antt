-- Of Levels: the theorems that rest on a declaration which an edit of a definition in specs/ refuses. The definitions and the other theorems stand in
-- specs/Levels.antt. Assumes nothing.
use Rattle.std.specs.Prelude.{ℕ, ◌+◌, ◌<◌, ◌≤◌, List, [], ◌∷◌, length}
use native.Mathlib.Omega.{arith}
use Rattle.refs.specs.declared.Counts.{Counts}
use Rattle.refs.specs.Refs.{nodes_at, levels_in}
use Rattle.well_formed.specs.Good.{WellFormed}
use Rattle.well_formed.specs.UsedOnce.{ChildAt}
use Rattle.well_formed.specs.Weight.{node_level, child_levels}
use Rattle.well_formed.specs.Levels.{Chain, Parent, child_lower}

module _ (n : Counts) (rows cells : List ℕ) (w : WellFormed n rows cells) where
  -- and fewer levels
  pub child_fewer : (a i x : ℕ) → a < n.nodes → ChildAt rows cells (nodes_at + a) i x → levels_in rows (nodes_at + x) < levels_in rows (nodes_at + a)
  child_fewer a i x h c = rw c.value at (child_levels n rows cells w a h i c.there c.child)

  -- of nodes each a child of the one before, there are no more than the first has levels
  nodes_levels : (a : ℕ) (xs : List ℕ) → a < n.nodes → Chain (Parent rows cells) (a ∷ xs) → length (a ∷ xs) ≤ levels_in rows (nodes_at + a)
  nodes_levels a [] h c = node_level n rows cells w a h
  nodes_levels a (x ∷ xs) h ((i, t), c) = omega (arith, child_fewer a i x h t, nodes_levels x xs (omega (arith, child_lower n rows cells w a i x h t)) c)

  -- so at most 64
  pub nodes_nested : (a : ℕ) (xs : List ℕ) → a < n.nodes → Chain (Parent rows cells) (a ∷ xs) → length (a ∷ xs) ≤ 64
  nodes_nested a xs h c = omega (arith, nodes_levels a xs h c, w.depth a h)

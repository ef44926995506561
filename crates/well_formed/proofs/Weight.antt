-- Of Weight: the theorems that rest on a declaration which an edit of a definition in specs/ refuses. The definitions and the other theorems stand in
-- specs/Weight.antt. Assumes nothing.
use Prim.Native.Nat.{ℕ, zero, suc, ◌+◌, ◌<◌, ◌≤◌}
use native.Mathlib.Omega.{arith}
use Rattle.std.specs.Prelude.{◌≡◌, List}
use Rattle.refs.specs.declared.Counts.{Counts}
use Rattle.refs.specs.Refs.{nodes_at, levels_in}
use Rattle.well_formed.specs.Good.{WellFormed}
use Rattle.well_formed.specs.UsedOnce.{child_in}
use Rattle.well_formed.specs.Weight.{below, below_le, child_levels, child_lower, node_level, weight}

module _ (n : Counts) (rows cells : List ℕ) (w : WellFormed n rows cells) where
  -- a depth of as many levels as the node has reaches every node
  weight_enough : (l l' x : ℕ) → x < n.nodes → levels_in rows (nodes_at + x) ≤ l' → weight rows cells l x ≤ weight rows cells l' x
  unfolding weight
  weight_enough zero l' x h d = omega arith
  weight_enough (suc l) zero x h d = absurd (omega (arith, node_level n rows cells w x h))
  weight_enough (suc l) (suc l') x h d =
      omega (
        arith,
        below_le (weight rows cells l) (weight rows cells l') rows cells (nodes_at + x)
            (λ i b c. weight_enough l l' (child_in rows cells (nodes_at + x) i) (child_lower n rows cells w x h i b c) (omega (arith, child_levels n rows cells w x h i b c))),
      )

  -- so a greater depth changes nothing
  pub weight_fixed : (l l' x : ℕ) → x < n.nodes → levels_in rows (nodes_at + x) ≤ l → levels_in rows (nodes_at + x) ≤ l' → weight rows cells l x ≡ weight rows cells l' x
  weight_fixed l l' x h d d' = omega (arith, weight_enough l l' x h d', weight_enough l' l x h d)

  -- a tree has its root and the trees of its children
  pub weight_tree : (l x : ℕ) → x < n.nodes → levels_in rows (nodes_at + x) ≤ l → weight rows cells l x ≡ 1 + below (weight rows cells l) rows cells (nodes_at + x)
  unfolding weight
  weight_tree l x h d = weight_fixed l (suc l) x h d (omega arith)

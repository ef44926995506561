-- Of WalkAlike: the theorems that rest on a declaration which an edit of a definition in specs/ refuses. The definitions and the other theorems stand in
-- specs/WalkAlike.antt. Assumes nothing.
use Rattle.std.specs.Prelude.{◌≡◌}
use Rattle.std.proofs.Common.{arith}
use mathlib.Core.List.{List}
use Rattle.std.proofs.Math.Bool.{true}
use Prim.Native.Nat.{ℕ, suc, zero, ◌+◌, ◌<◌, ◌≤◌}
use Rattle.refs.specs.declared.Counts.{Counts}
use Rattle.refs.specs.Refs.{nodes_at, form_in, levels_in, is_expr}
use Rattle.record.specs.Own.{typed}
use Rattle.walk.specs.Walk.{typeck_rule, typeck_expr}
use Rattle.resolve.specs.Resolve.{body_with}
use Rattle.well_formed.specs.Good.{WellFormed}
use Rattle.well_formed.specs.Weight.{node_level}
use Rattle.bounds.specs.Adds.{nothing_then}
use Rattle.bounds.specs.Steps.{done_adds, set_node_type_adds}
use Rattle.bounds.specs.Alike.{Alike, leaf, bind_alike}
use Rattle.bounds.specs.Defaults.{Defaults, other_expr}
use Rattle.bounds.specs.WalkAlike.{b, rule_alike}

-- ── the nodes of a well-formed body ──

module _ (n : Counts) (rows cells : List ℕ) (w : WellFormed n rows cells) (D : Defaults) where
  -- an expression is typed alike with as many levels as it has, or more
  pub expr_alike : (k x : ℕ) → x < n.nodes → levels_in rows (nodes_at + x) ≤ k → is_expr (form_in rows (nodes_at + x)) ≡ true → Alike n.nodes (typeck_expr (body_with n rows cells) k x) (other_expr D (body_with n rows cells) k x)
  unfolding typeck_expr typeck_rule other_expr
  expr_alike zero x h l q = absurd (omega (arith, node_level n rows cells w x h))
  expr_alike (suc k) x h l q =
      bind_alike
      (rule_alike n rows cells w D k (typeck_expr (body_with n rows cells) k) (other_expr D (body_with n rows cells) k) (λ y b m c. expr_alike k y b m c) x h l q)
      (λ t. leaf (nothing_then _ (set_node_type_adds x t) (λ u. done_adds t)))

-- A node is a child of at most one field.
-- Assumes nothing.
use Rattle.std.specs.Prelude.{ℕ, ◌+◌, ◌<◌, ◌≤◌, ◌≡◌, refl, List, Bool, true, false, ltb}
use Rattle.std.proofs.Common.{arith, sym, ap, ◌∙◌, inr, ltb-true, ltb-false}
use Rattle.forms.specs.Form.{key_node, key_fn}
use Rattle.refs.specs.declared.Counts.{Counts}
use Rattle.refs.specs.Refs.{nodes_at, fn_at, first_in, count_in, user_in, tag_in, value_in, is_child}
use Rattle.body.specs.Body.{count_of, base_of}
use Rattle.well_formed.specs.Good.{RowGood, kind_in, behind, WellFormed}

-- the field i of the row r is a child
abbrev pub has_child : List ℕ → List ℕ → ℕ → ℕ → Bool
has_child rows cells r i = is_child (kind_in rows r i) (tag_in cells (first_in rows r + i))

-- the child in the field i of the row r
abbrev pub child_in : List ℕ → List ℕ → ℕ → ℕ → ℕ
child_in rows cells r i = value_in cells (first_in rows r + i)

-- the field i of the row r is a child, the node x
pub record ChildAt (rows cells : List ℕ) (r i x : ℕ) : Type 0 where
  pub there : i < count_in rows r
  pub child : has_child rows cells r i ≡ true
  pub value : child_in rows cells r i ≡ x

-- the user of a child of a good row is the child's field
pub child_used : (n : Counts) (m k r i x : ℕ) (rows cells : List ℕ) → RowGood n m k r rows cells → ChildAt rows cells r i x
    → user_in rows (nodes_at + x) ≡ first_in rows r + i + 1
child_used n m k r i x rows cells g c = ap (λ (y : ℕ). user_in rows (nodes_at + y)) (sym c.value) ∙ ((g.fields i c.there).child c.child).used

module _ (n : Counts) (rows cells : List ℕ) (w : WellFormed n rows cells) where
  -- the user of a child of a node
  pub node_child_used : (a i x : ℕ) → a < n.nodes → ChildAt rows cells (nodes_at + a) i x → user_in rows (nodes_at + x) ≡ first_in rows (nodes_at + a) + i + 1
  unfolding base_of count_of
  node_child_used a i x h = child_used (behind n key_node a) n.fields key_node (nodes_at + a) i x rows cells (w.nodes a h)

  -- the user of a child of `fn`
  pub fn_child_used : (i x : ℕ) → ChildAt rows cells fn_at i x → user_in rows (nodes_at + x) ≡ first_in rows fn_at + i + 1
  fn_child_used i x = child_used n n.fields key_fn fn_at i x rows cells w.fn

  -- the fields of a node stand before those of a later node
  pub nodes_ordered : (a b : ℕ) → a < b → b < n.nodes → first_in rows (nodes_at + a) + count_in rows (nodes_at + a) ≤ first_in rows (nodes_at + b)
  unfolding base_of count_of
  nodes_ordered a b h l = w.ordered key_node a key_node b (omega arith) l (inr (refl, h))

  -- and before those of `fn`
  pub node_fn_ordered : (a : ℕ) → a < n.nodes → first_in rows (nodes_at + a) + count_in rows (nodes_at + a) ≤ first_in rows fn_at
  unfolding base_of count_of
  node_fn_ordered a h = w.fn_last key_node a h

  -- a field of two nodes is of one node
  field_once : (a b i j : ℕ) → a < n.nodes → b < n.nodes → i < count_in rows (nodes_at + a) → j < count_in rows (nodes_at + b)
      → first_in rows (nodes_at + a) + i ≡ first_in rows (nodes_at + b) + j → a ≡ b
  field_once a b i j ha hb hi hj e = by (ltb a b) refl (ltb b a) refl
    where
      by : (c : Bool) → ltb a b ≡ c → (d : Bool) → ltb b a ≡ d → a ≡ b
      by true p d q = absurd (omega (arith, nodes_ordered a b (ltb-true a b p) hb))
      by false p true q = absurd (omega (arith, nodes_ordered b a (ltb-true b a q) ha))
      by false p false q = omega (arith, ltb-false a b p, ltb-false b a q)

  -- two fields of nodes with one child are one field
  pub node_child_once : (a b i j x : ℕ) → a < n.nodes → b < n.nodes → ChildAt rows cells (nodes_at + a) i x → ChildAt rows cells (nodes_at + b) j x → (a ≡ b) × (i ≡ j)
  node_child_once a b i j x ha hb c d =
      let e : first_in rows (nodes_at + a) + i ≡ first_in rows (nodes_at + b) + j = omega (arith, node_child_used a i x ha c, node_child_used b j x hb d) in
      let same : a ≡ b = field_once a b i j ha hb c.there d.there e in
      (same, omega (arith, e, ap (λ (y : ℕ). first_in rows (nodes_at + y)) same))

  -- a child of a node is no child of `fn`
  pub node_child_not_fn : (a i j x : ℕ) → a < n.nodes → ChildAt rows cells (nodes_at + a) i x → ChildAt rows cells fn_at j x → ⊥
  node_child_not_fn a i j x h c d = omega (arith, node_child_used a i x h c, fn_child_used j x d, node_fn_ordered a h, c.there)

  -- two fields of `fn` with one child are one field
  pub fn_child_once : (i j x : ℕ) → ChildAt rows cells fn_at i x → ChildAt rows cells fn_at j x → i ≡ j
  fn_child_once i j x c d = omega (arith, fn_child_used i x c, fn_child_used j x d)

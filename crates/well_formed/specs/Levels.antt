-- A type stands behind those in it and a node behind its children; at most 4 of fun stand in fun, and at most 64 nodes in one another.
-- Assumes nothing.
use Rattle.std.specs.Prelude.{ℕ, ◌+◌, ◌-◌, ◌<◌, ◌≤◌, ◌≡◌, refl, List, [], ◌∷◌, Bool, true, false, cond, ltb, eqb}
use Rattle.std.proofs.Common.{zero-add, ap}
use native.Mathlib.Omega.{arith}
use borrow.Author.Tests.{le-leb, eqb-true}
use Rattle.forms.specs.Form.{key_type, LowType}
use Rattle.refs.specs.declared.Counts.{Counts}
use Rattle.refs.specs.Refs.{nodes_at, fn_at, fixed_types, form_in, first_in, count_in, levels_in, tag_in, value_in, refers_to, is_child, levels_of}
use Rattle.body.specs.Body.{count_of, base_of, deeper, levels_over}
use Rattle.well_formed.specs.Good.{written_as, FieldGood, RowGood, kind_in, behind, WellFormed}
use Rattle.well_formed.specs.UsedOnce.{ChildAt}
use Rattle.well_formed.specs.Weight.{deeper_more, node_good}

-- the field j of the type row i is the declared type of the row x
pub record TypeIn (rows cells : List ℕ) (i j x : ℕ) : Type 0 where
  pub there : j < count_in rows i
  pub kind : kind_in rows i j ≡ LowType
  pub value : value_in cells (first_in rows i + j) ≡ x + fixed_types

-- the row x is a type in the type of the row i
abbrev pub Contains : List ℕ → List ℕ → ℕ → ℕ → Type 0
Contains rows cells i x = (j : ℕ) × TypeIn rows cells i j x

-- the node x is a child of the node a
abbrev pub Parent : List ℕ → List ℕ → ℕ → ℕ → Type 0
Parent rows cells a x = (i : ℕ) × ChildAt rows cells (nodes_at + a) i x

-- R holds of each number and the next
abbrev pub Chain : (ℕ → ℕ → Type 0) → List ℕ → Type 0
Chain R [] = Unit {0}
Chain R (a ∷ []) = Unit {0}
Chain R (a ∷ x ∷ xs) = R a x × Chain R (x ∷ xs)

-- how many of some type rows are a fun
abbrev pub funs : List ℕ → List ℕ → ℕ
funs rows [] = 0
funs rows (i ∷ is) = cond (eqb (form_in rows i) 1) 1 0 + funs rows is

-- what stands over d levels has no fewer, where it has at most 64
over_le : (f d m : ℕ) → levels_over f d ≤ m → m ≤ 64 → d ≤ m
unfolding levels_over
over_le f d m h b = by (eqb f 1) (ltb f 7) (ltb 28 f) h
  where
    by : (x y z : Bool) → cond x (deeper d) (cond y d (cond z d (deeper d))) ≤ m → d ≤ m
    by true y z h = omega (arith, deeper_more d m h b)
    by false true z h = h
    by false false true h = h
    by false false false h = omega (arith, deeper_more d m h b)

-- the value of a good field that is a type in a type
pub low_type : (n : Counts) (k j : ℕ) (rows cells : List ℕ) → k ≡ LowType → FieldGood n k j rows cells → value_in cells j < n.types + fixed_types
unfolding refers_to written_as
low_type n k j rows cells e g =
    let tag : tag_in cells j ≡ 1 = eqb-true (tag_in cells j) 1 (rw e at g.written) in
    g.type (ap refers_to e) (λ z. omega (arith, tag, z))

module _ (n : Counts) (rows cells : List ℕ) (w : WellFormed n rows cells) where
  -- the row of a type is good
  pub type_good : (i : ℕ) → i < n.types → RowGood (behind n key_type i) n.fields key_type i rows cells
  unfolding base_of count_of
  type_good i h = rw (zero-add i) at (w.types i h)

  -- a type in a type has a lower row
  pub type_lower : (i j x : ℕ) → i < n.types → TypeIn rows cells i j x → x < i
  unfolding behind
  type_lower i j x h t =
      omega (arith, t.value, low_type (behind n key_type i) (kind_in rows i j) (first_in rows i + j) rows cells t.kind ((type_good i h).fields j t.there))

  -- a type has at least the levels of its form over a type in it
  type_levels : (i j x : ℕ) → i < n.types → TypeIn rows cells i j x → levels_over (form_in rows i) (levels_in rows x) ≤ levels_in rows i
  unfolding levels_of is_child refers_to
  type_levels i j x h t =
      let row : x + fixed_types - fixed_types ≡ x = omega arith in
      rw (t.kind, t.value, le-leb fixed_types (x + fixed_types) (omega arith), row) at ((type_good i h).levels j t.there)

  -- a fun has more levels than a type in it
  pub fun_levels : (i j x : ℕ) → i < n.types → form_in rows i ≡ 1 → TypeIn rows cells i j x → levels_in rows x < levels_in rows i
  unfolding levels_over
  fun_levels i j x h f t = deeper_more (levels_in rows x) (levels_in rows i) (rw f at (type_levels i j x h t)) (omega (arith, w.nesting i h))

  -- a fun has a level
  fun_level : (i : ℕ) → i < n.types → form_in rows i ≡ 1 → 0 < levels_in rows i
  unfolding levels_over deeper
  fun_level i h f = rw f at (type_good i h).level

  -- any type has no fewer levels than a type in it
  pub part_levels : (i j x : ℕ) → i < n.types → TypeIn rows cells i j x → levels_in rows x ≤ levels_in rows i
  part_levels i j x h t = over_le (form_in rows i) (levels_in rows x) (levels_in rows i) (type_levels i j x h t) (omega (arith, w.nesting i h))

  -- of types each in the one before, no more are a fun than the first has levels
  funs_levels : (i : ℕ) (is : List ℕ) → i < n.types → Chain (Contains rows cells) (i ∷ is) → funs rows (i ∷ is) ≤ levels_in rows i
  funs_levels i [] h c = by (eqb (form_in rows i) 1) refl
    where
      by : (b : Bool) → eqb (form_in rows i) 1 ≡ b → cond b 1 0 + 0 ≤ levels_in rows i
      by true p = omega (arith, fun_level i h (eqb-true (form_in rows i) 1 p))
      by false p = omega arith
  funs_levels i (x ∷ xs) h ((j, t), c) = by (eqb (form_in rows i) 1) refl (funs_levels x xs (omega (arith, type_lower i j x h t)) c)
    where
      by : (b : Bool) → eqb (form_in rows i) 1 ≡ b → funs rows (x ∷ xs) ≤ levels_in rows x → cond b 1 0 + funs rows (x ∷ xs) ≤ levels_in rows i
      by true p g = omega (arith, fun_levels i j x h (eqb-true (form_in rows i) 1 p) t)
      by false p g = omega (arith, part_levels i j x h t)

  -- so at most 4
  pub funs_nested : (i : ℕ) (is : List ℕ) → i < n.types → Chain (Contains rows cells) (i ∷ is) → funs rows (i ∷ is) ≤ 4
  funs_nested i is h c = omega (arith, funs_levels i is h c, w.nesting i h)

  -- a child of a node has a lower number
  pub child_lower : (a i x : ℕ) → a < n.nodes → ChildAt rows cells (nodes_at + a) i x → x < a
  unfolding behind
  child_lower a i x h c = omega (arith, c.value, (((node_good n rows cells w a h).fields i c.there).child c.child).lower)

  -- a child of `fn` is a node
  pub fn_child : (i x : ℕ) → ChildAt rows cells fn_at i x → x < n.nodes
  fn_child i x c = omega (arith, c.value, ((w.fn.fields i c.there).child c.child).lower)

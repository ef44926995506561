-- Laws of the loops over a line's fields, over the values of two rows and over the rows of types.
-- Assumes nothing.
use Prim.Native.Nat.{ℕ, suc, max, ◌+◌, ◌-◌, ◌<◌, ◌≤◌}
use mathlib.Core.Path.{◌≡◌, refl, sym, ◌∙◌}
use mathlib.Core.List.{List}
use mathlib.Core.Bool.{Bool, true, false, cond}
use lib.Dec.{ltb}
use native.Mathlib.Omega.{arith}
use native.Mathlib.Nat.{add_assoc, add-zero, sub-zero, zero-add}
use borrow.Author.Tests.{eq-eqb, ne_eqb, lt-ltb, le-ltb, ltb-true, ltb-false}
use Rattle.forms.specs.declared.Form.{Form}
use Rattle.forms.specs.Form.{kind_at}
use Rattle.refs.specs.declared.Counts.{Counts}
use Rattle.refs.specs.Refs.{types_at, tag_in, value_in, right, levels_of, larger, taken, Linked, unlinked, linked, refs_from, most_fields, links_of, same_values, is_same, is_repeated}

-- where one more is to come, that one comes first
one_more_lem : (m i : ℕ) → i < m → m - i ≡ suc (m - (i + 1))
one_more_lem m i h = omega arith

-- where i has come to m, none is left
none_left : (m i : ℕ) → m ≤ i → m - i ≡ 0
none_left m i h = omega arith

-- the larger of two numbers is the greatest
larger_max : (a b : ℕ) → larger a b ≡ max a b
unfolding larger
larger_max a b = by (ltb a b) refl
  where
    by : (t : Bool) → ltb a b ≡ t → cond t b a ≡ max a b
    by true e = omega (arith, ltb-true a b e)
    by false e = omega (arith, ltb-false a b e)

-- too many fields for a body
pub links_none : (n : Counts) (f : Form) (m : ℕ) (cells rows : List ℕ) → most_fields < n.fields + m → unlinked rows ≡ links_of n f m cells rows
unfolding links_of
links_none n f m cells rows h = rw (lt-ltb most_fields (n.fields + m) h)

-- not too many: what is asked comes down to the fields from the first on
pub links_all : (n : Counts) (f : Form) (m : ℕ) (cells rows : List ℕ) → n.fields + m ≤ most_fields → links_of n f m cells rows ≡ refs_from m n f 0 n.fields cells 0 rows
unfolding links_of
links_all n f m cells rows h = rw (le-ltb most_fields (n.fields + m) h)

pub links_start : (n : Counts) (f : Form) (m : ℕ) (cells rows : List ℕ) → n.fields + m ≤ most_fields → links_of n f m cells rows ≡ refs_from (m - 0) n f 0 (n.fields + 0) cells 0 rows
links_start n f m cells rows h = links_all n f m cells rows h ∙ rw (sub-zero m, add-zero n.fields)

-- what is asked (w) comes down to the fields from i on
module _ (w : Linked) (m i b : ℕ) (n : Counts) (f : Form) (cells : List ℕ) (d : ℕ) (rows : List ℕ) (inv : w ≡ refs_from (m - i) n f i (b + i) cells d rows) where
  -- every field met its rule
  pub linked_all : m ≤ i → linked d rows ≡ w
  unfolding refs_from
  linked_all h = sym (inv ∙ rw (none_left m i h))

  module _ (h : i < m) (k tag x : ℕ) (kq : k ≡ kind_at f i) (tq : tag ≡ tag_in cells (b + i)) (xq : x ≡ value_in cells (b + i)) (y : Bool) (yq : y ≡ right n k tag x rows cells) where
    -- the field i breaks its rule
    pub turn_bad : y ≡ false → unlinked rows ≡ w
    unfolding refs_from
    turn_bad q = sym (inv ∙ rw (one_more_lem m i h, ← kq, ← tq, ← xq, ← yq, q))

    -- the field i meets its rule
    pub turn : (e g : ℕ) (u : List ℕ) → y ≡ true → e ≡ levels_of k tag x rows → g ≡ max d e → u ≡ taken k tag x (b + i) rows → w ≡ refs_from (m - (i + 1)) n f (i + 1) (b + (i + 1)) cells g u
    unfolding refs_from
    turn e g u q eq gq uq = inv ∙ rw (one_more_lem m i h, ← kq, ← tq, ← xq, ← yq, q, ← eq, larger_max d e, ← gq, ← uq, add_assoc b i 1)

-- what is asked (w) comes down to the values from i on
module _ (w : Bool) (m i a b : ℕ) (cells : List ℕ) (inv : w ≡ same_values (m - i) (a + i) (b + i) cells) where
  -- every pair is the same
  pub same_all : m ≤ i → true ≡ w
  unfolding same_values
  same_all h = sym (inv ∙ rw (none_left m i h))

  module _ (h : i < m) (x y : ℕ) (xq : x ≡ value_in cells (a + i)) (yq : y ≡ value_in cells (b + i)) where
    -- the pair i differs
    pub same_not : (x ≡ y → ⊥) → false ≡ w
    unfolding same_values
    same_not q = sym (inv ∙ rw (one_more_lem m i h, ← xq, ← yq, ne_eqb x y q))

    -- the pair i is the same
    pub same_more : x ≡ y → w ≡ same_values (m - (i + 1)) (a + (i + 1)) (b + (i + 1)) cells
    unfolding same_values
    same_more q = inv ∙ rw (one_more_lem m i h, ← xq, ← yq, eq-eqb x y q, add_assoc a i 1, add_assoc b i 1)

-- what is asked (w) comes down to the rows from r on
module _ (w : Bool) (n r : ℕ) (rows cells : List ℕ) (f b m : ℕ) (inv : w ≡ is_repeated (n - r) r rows cells f b m) where
  -- no row is the same
  pub repeated_none : n ≤ r → false ≡ w
  unfolding is_repeated
  repeated_none h = sym (inv ∙ rw (none_left n r h))

  module _ (h : r < n) (x : Bool) (xq : x ≡ is_same rows cells (types_at + r) f b m) where
    -- the row r of the types is the row r of the table
    at_row : x ≡ is_same rows cells r f b m
    at_row = rw zero-add at xq

    -- the row r is the same
    pub repeated_here : x ≡ true → true ≡ w
    unfolding is_repeated
    repeated_here q = sym (inv ∙ rw (one_more_lem n r h, ← at_row, q))

    -- the row r is not
    pub repeated_more : x ≡ false → w ≡ is_repeated (n - (r + 1)) (r + 1) rows cells f b m
    unfolding is_repeated
    repeated_more q = inv ∙ rw (one_more_lem n r h, ← at_row, q)

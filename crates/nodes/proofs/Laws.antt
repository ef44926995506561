-- What each return of a reading function shows, and each turn of its loop, over plain variables.
use Rattle.std.specs.Prelude.{None, Option, Some}
use mathlib.Core.Path.{◌≡◌, refl, sym, ◌∙◌}
use mathlib.Core.List.{List, [], ◌∷◌}
use mathlib.Core.Logic.{◌⊎◌, inl, inr}
use mathlib.Core.Bool.{Bool, true, false}
use Prim.Native.Nat.{ℕ, suc, zero, ◌+◌, ◌*◌, ◌-◌, ◌<◌, ◌≤◌}
use native.Mathlib.Omega.{arith}
use native.Mathlib.Numerals.{add-one}
use lib.ListN.{length, get_or}
use lib.Dec.{eqb}
use borrow.Author.Tests.{eq-eqb, ne_eqb}
use Rattle.theory.specs.Rules.{Shape, row}
use Rattle.type_table.specs.Memory.{cell, inputs_at, head_at, number_at, first_at, count_at, inputs_from, rows_of}
use Rattle.type_table.specs.declared.DefId.{DefId}
use Rattle.refs.specs.Refs.{name_in, tag_in, value_in}
use Rattle.nodes.specs.declared.Items.{Items}
use Rattle.nodes.specs.Nodes.{numbers_from, shape_inputs, def_inputs, item, items_of, nth, named_from, as_arr, of_functions, binds_for, method_in, method_from, failed_from}
use Rattle.nodes.specs.Numbers.{length_items}
use Rattle.nodes.specs.Shapes.{row_inputs, row_element, row_is_fun, row_fun, row_lam, row_arr}

-- where one more is to come, that one comes first
one_more_lem : (k i : ℕ) → i < k → k - i ≡ suc (k - (i + 1))
one_more_lem k i h = omega arith

-- where i has come to k, none is left
none_left : (k i : ℕ) → k ≤ i → k - i ≡ 0
none_left k i h = omega arith

-- the place behind j + i
next_place : (j i : ℕ) → j + (i + 1) ≡ suc (j + i)
next_place j i = omega arith

-- ── signatures ──

-- L j k are the numbers g j, g (j + 1) and on, k of them
module _ (L : ℕ → ℕ → List ℕ) (g : ℕ → ℕ) (none : (j : ℕ) → L j 0 ≡ []) (more : (j k : ℕ) → L j (suc k) ≡ g j ∷ L (suc j) k) where
  -- the number i of those from j on is g (j + i)
  nth_there : (j k i : ℕ) → i < k → Some (record { 0 = g (j + i) }) ≡ nth (L j k) i
  nth_there j zero i h = absurd (omega arith)
  nth_there j (suc k) zero h = let e : j + 0 ≡ j = omega arith in rw (more j k, e)
  nth_there j (suc k) (suc i) h = let e : j + suc i ≡ suc j + i = omega arith in rw (more j k, e) (nth_there (suc j) k i (omega arith))

  -- behind the last number there is none
  nth_behind : (j k i : ℕ) → k ≤ i → None ≡ nth (L j k) i
  nth_behind j zero i h = rw (none j)
  nth_behind j (suc k) zero h = absurd (omega arith)
  nth_behind j (suc k) (suc i) h = rw (more j k) (nth_behind (suc j) k i (omega arith))

-- the number i of those from j on stands at j + i
nth_numbers : (cells : List ℕ) (j k i : ℕ) → i < k → Some (record { 0 = value_in cells (j + i) }) ≡ nth (numbers_from cells j k) i
unfolding numbers_from
nth_numbers cells = nth_there (numbers_from cells) (value_in cells) (λ j. refl) (λ j k. refl)

-- behind the last number there is none
no_number : (cells : List ℕ) (j k i : ℕ) → k ≤ i → None ≡ nth (numbers_from cells j k) i
unfolding numbers_from
no_number cells = nth_behind (numbers_from cells) (value_in cells) (λ j. refl) (λ j k. refl)

-- the input i of those from f on stands at f + i
pub nth_inputs : (m : List ℕ) (f k i : ℕ) → i < k → Some (record { 0 = cell m (inputs_at + (f + i)) }) ≡ nth (inputs_from m f k) i
unfolding inputs_from
nth_inputs m = nth_there (inputs_from m) (λ f. cell m (inputs_at + f)) (λ f. refl) (λ f k. refl)

-- behind the last input there is none
pub no_input : (m : List ℕ) (f k i : ℕ) → k ≤ i → None ≡ nth (inputs_from m f k) i
unfolding inputs_from
no_input m = nth_behind (inputs_from m) (λ f. cell m (inputs_at + f)) (λ f. refl) (λ f k. refl)

-- the items t are IN of the definition d
module _ (rows cells : List ℕ) (d : ℕ) (t : Items) (tq : t ≡ def_inputs rows d) where
  -- there are as many inputs as items
  pub length_def : t.count ≡ length (items_of cells (def_inputs rows d))
  length_def = rw tq (sym (length_items cells (def_inputs rows d)))

  -- the input i is the item i
  pub def_input_in : (i v : ℕ) → i < t.count → v ≡ item cells t i → Some (record { 0 = v }) ≡ nth (items_of cells (def_inputs rows d)) i
  unfolding item
  def_input_in i v h vq = let e : Some (record { 0 = v }) ≡ nth (items_of cells t) i = rw vq (nth_numbers cells (t.first + t.from) t.count i h) in rw tq at e

  -- behind the last item there is no input
  pub def_input_out : (i : ℕ) → t.count ≤ i → None ≡ nth (items_of cells (def_inputs rows d)) i
  def_input_out i h = let e : None ≡ nth (items_of cells t) i = no_number cells (t.first + t.from) t.count i h in rw tq at e

module _ (m : List ℕ) (n x h : ℕ) (hq : h ≡ head_at m n x) where
  -- function types and lambdas have the inputs of their places
  pub inputs_made : (f k : ℕ) → (h ≡ 6) ⊎ (h ≡ 13) → f ≡ first_at m n x → k ≡ count_at m n x → inputs_from m f k ≡ shape_inputs (row (rows_of m n) x)
  inputs_made f k (inl e) fq kq = rw (row_fun m n x (sym hq ∙ e), fq, kq)
  inputs_made f k (inr e) fq kq = rw (row_lam m n x (sym hq ∙ e), fq, kq)

  -- another type has none
  pub inputs_none : (h ≡ 6 → ⊥) → (h ≡ 13 → ⊥) → inputs_from m 0 0 ≡ shape_inputs (row (rows_of m n) x)
  unfolding inputs_from
  inputs_none d e = sym (row_inputs m n x ∙ rw (← hq, ne_eqb h 6 d, ne_eqb h 13 e))

-- ── fields and methods ──

-- the name and the value of the field at a place, read from their cells
pub name_at : (cells : List ℕ) (p j : ℕ) → p ≡ j → get_or cells (p * 3) 0 ≡ name_in cells j
unfolding name_in
name_at cells p j e = rw e refl

pub value_at : (cells : List ℕ) (p j : ℕ) → p ≡ j → get_or cells (p * 3 + 2) 0 ≡ value_in cells j
unfolding value_in
value_at cells p j e = rw e refl

-- what is asked (w) comes down to the fields from i on
module _ (w : Option ℕ) (cells : List ℕ) (j k i name : ℕ) (inv : w ≡ named_from cells (j + i) (k - i) name) where
  -- none has the name
  pub named_none : k ≤ i → None ≡ w
  unfolding named_from
  named_none h = sym (inv ∙ rw (none_left k i h))

  module _ (h : i < k) (x : ℕ) (xq : x ≡ name_in cells (j + i)) where
    -- the field i has it
    pub named_here : (y : ℕ) → x ≡ name → y ≡ value_in cells (j + i) → Some y ≡ w
    unfolding named_from
    named_here y e yq = sym (inv ∙ rw (one_more_lem k i h, ← xq, eq-eqb x name e, ← yq))

    -- the field i has another
    pub named_more : (x ≡ name → ⊥) → w ≡ named_from cells (j + (i + 1)) (k - (i + 1)) name
    unfolding named_from
    named_more e = inv ∙ rw (one_more_lem k i h, ← xq, ne_eqb x name e, next_place j i)

module _ (m : List ℕ) (n x h : ℕ) (hq : h ≡ head_at m n x) where
  -- an array is one of functions where its element has that head
  pub array_elements : (e g : ℕ) → h ≡ 8 → e ≡ number_at m n x → g ≡ head_at m n e → eqb g 6 ≡ of_functions (rows_of m n) (as_arr (row (rows_of m n) x))
  array_elements e g q eq gq = rw (row_arr m n x (sym hq ∙ q), ← eq, row_is_fun m n e, gq)

  -- another type is none
  pub no_array : (h ≡ 8 → ⊥) → false ≡ of_functions (rows_of m n) (as_arr (row (rows_of m n) x))
  no_array d = rw (row_element m n x, ← hq, ne_eqb h 8 d)

  -- a bind on an array of functions is one for every array
  pub binds_array : (y : ℕ) (r : Bool) → (x ≡ y → ⊥) → h ≡ 8 → r ≡ of_functions (rows_of m n) (as_arr (row (rows_of m n) y)) → r ≡ binds_for (rows_of m n) x y
  unfolding binds_for
  binds_array y r d e rq = rw (ne_eqb x y d, row_arr m n x (sym hq ∙ e)) rq

  -- and for no other type
  pub binds_none : (y : ℕ) → (x ≡ y → ⊥) → (h ≡ 8 → ⊥) → false ≡ binds_for (rows_of m n) x y
  unfolding binds_for
  binds_none y d e = rw (ne_eqb x y d, row_element m n x, ← hq, ne_eqb h 8 e)

-- a bind on the type itself
pub binds_same : (ts : List Shape) (x y : ℕ) → x ≡ y → true ≡ binds_for ts x y
unfolding binds_for
binds_same ts x y e = rw (eq-eqb x y e)

-- what is asked (w) comes down to the binds from j on
module _ (w : Option DefId) (ts : List Shape) (rows cells : List ℕ) (k j x name : ℕ) (inv : w ≡ method_from ts rows cells j (k - j) x name) where
  -- no bind has the method
  pub method_none : k ≤ j → None ≡ w
  unfolding method_from
  method_none h = sym (inv ∙ rw (none_left k j h))

  module _ (h : j < k) (r : Option DefId) (rq : r ≡ method_in ts rows cells j x name) where
    -- the bind j has it
    pub method_here : (d : DefId) → r ≡ Some d → Some d ≡ w
    unfolding method_from
    method_here d e = sym (inv ∙ rw (one_more_lem k j h, ← rq, e))

    -- the bind j has not
    pub method_more : r ≡ None → w ≡ method_from ts rows cells (j + 1) (k - (j + 1)) x name
    unfolding method_from
    method_more e = inv ∙ rw (one_more_lem k j h, ← rq, e, add-one j)

-- ── segments ──

-- what is asked (w) comes down to the segments from i on
module _ (w : Bool) (cells : List ℕ) (j k i : ℕ) (inv : w ≡ failed_from cells (j + i) (k - i)) where
  -- none is `e`
  pub failed_none : k ≤ i → false ≡ w
  unfolding failed_from
  failed_none h = sym (inv ∙ rw (none_left k i h))

  module _ (h : i < k) (x : ℕ) (xq : x ≡ tag_in cells (j + i)) where
    -- the segment i is
    pub failed_here : x ≡ 5 → true ≡ w
    unfolding failed_from
    failed_here e = sym (inv ∙ rw (one_more_lem k i h, ← xq, e))

    -- the segment i is not
    pub failed_more : (x ≡ 5 → ⊥) → w ≡ failed_from cells (j + (i + 1)) (k - (i + 1))
    unfolding failed_from
    failed_more e = inv ∙ rw (one_more_lem k i h, ← xq, ne_eqb x 5 e, next_place j i)

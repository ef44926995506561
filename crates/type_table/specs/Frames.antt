-- What the stores change in a memory's tables, and what they keep.
use Rattle.std.specs.Prelude.{◌≡◌, refl, ◌≢◌, List, [], ◌∷◌, ◌++◌, false, ℕ, suc, zero, ◌+◌, ◌*◌, ◌≤◌, ◌<◌, length, ltb, leb}
use Rattle.std.proofs.Math.Path.{ap}
use Rattle.std.proofs.Common.{◌∙◌, add-one, get_or-set_other}
use Rattle.std.proofs.Math.Option.{none, some}
use Rattle.std.proofs.Math.Bool.{true}
use native.Mathlib.Omega.{arith}
use Rattle.std.proofs.Math.Decide.{ℕ_discrete, dec_lt}
use Rattle.std.proofs.Math.ListN.{set, length-set}
use Rattle.std.proofs.Math.Seq.{get_or-set_same}
use Rattle.std.proofs.Math.Dec.{eqb}
use borrow.Author.Tests.{le-leb, lt-leb, lt-ltb, le-ltb}
use Rattle.type_table.specs.Memory.{pick, most_types, cell, rows_at, inputs_at, arrays_at, row_cell, head_at, number_at, output_at, first_at, count_at, inputs_from, shape_of, shape_at, rows_of, var_cell, kind_of, kind_at, kinds_of, numbered, origin_at, origins_of, binding_at, binds_of, mark_at, marks_of}
use Rattle.type_table.specs.Made.{row_written, var_written, cleared}
use Rattle.type_table.specs.Tables.{tab_ext, tab_set, tab_grow}
use Rattle.type_table.specs.Sound.{InputsBelow}

-- ── definitions ──

-- five cells from i on are stored
abbrev five : List ℕ → ℕ → ℕ → ℕ → ℕ → ℕ → ℕ → List ℕ
five m i a b c d e = set (set (set (set (set m i a) (i + 1) b) (i + 2) c) (i + 3) d) (i + 4) e

-- the cells from lo to hi are the same
abbrev pub SameIn : List ℕ → List ℕ → ℕ → ℕ → Type 0
SameIn m w lo hi = (i : ℕ) → lo ≤ i → i < hi → cell w i ≡ cell m i

-- the first n rows and the first i inputs are the same
pub record SameRows (m w : List ℕ) (n i : ℕ) : Type 0 where
  -- the cells of the rows
  pub rows : SameIn m w rows_at (rows_at + n * 5)
  -- the cells of the inputs
  pub inputs : SameIn m w inputs_at (inputs_at + i)

-- the cell k of the first n variables is the same
abbrev pub SameVars : List ℕ → List ℕ → ℕ → ℕ → Type 0
SameVars m w n k = (v : ℕ) → v < n → cell w (v * 5 + k) ≡ cell m (v * 5 + k)

-- ── one cell ──

module _ (m : List ℕ) (i j a : ℕ) where
  -- a store above a cell keeps it
  pub set_above : j < i → cell (set m i a) j ≡ cell m j
  set_above h = get_or-set_other m i j a 0 (λ e. omega arith)

  -- a store below a cell keeps it
  pub set_below : i < j → cell (set m i a) j ≡ cell m j
  set_below h = get_or-set_other m i j a 0 (λ e. omega arith)

-- a value that is chosen by a limit
pub below_cases : {A : Type 0} (P : A → Type 0) (v n : ℕ) (a b : A) → (v < n → P a) → (n ≤ v → P b) → P (pick (ltb v n) a b)
below_cases P v n a b f g = by (dec_lt v n)
  where
    by : Dec (v < n) → P (pick (ltb v n) a b)
    by (yes h) = rw (lt-ltb v n h) (f h)
    by (no h) = let l : n ≤ v = omega arith in rw (le-ltb v n l) (g l)

-- a value that is chosen where a limit is reached
pub limit_cases : {A : Type 0} (P : A → Type 0) (n v : ℕ) (a b : A) → (n ≤ v → P a) → (v < n → P b) → P (pick (leb n v) a b)
limit_cases P n v a b f g = by (dec_lt v n)
  where
    by : Dec (v < n) → P (pick (leb n v) a b)
    by (yes h) = rw (lt-leb n v h) (g h)
    by (no h) = let l : n ≤ v = omega arith in rw (le-leb n v l) (f l)

-- ── five cells ──

module _ (m : List ℕ) (i a b c d e : ℕ) where
  five_length : length (five m i a b c d e) ≡ length m
  five_length = simp length-set

  five_below : (j : ℕ) → j < i → cell (five m i a b c d e) j ≡ cell m j
  five_below j h = rw (set_above _ (i + 4) j e (omega arith), set_above _ (i + 3) j d (omega arith), set_above _ (i + 2) j c (omega arith), set_above _ (i + 1) j b (omega arith), set_above m i j a h)

  five_above : (j : ℕ) → i + 5 ≤ j → cell (five m i a b c d e) j ≡ cell m j
  five_above j h = rw (set_below _ (i + 4) j e (omega arith), set_below _ (i + 3) j d (omega arith), set_below _ (i + 2) j c (omega arith), set_below _ (i + 1) j b (omega arith), set_below m i j a (omega arith))

  module _ (room : i + 4 < length m) where
    five_0 : cell (five m i a b c d e) i ≡ a
    five_0 = rw (set_above _ (i + 4) i e (omega arith), set_above _ (i + 3) i d (omega arith), set_above _ (i + 2) i c (omega arith), set_above _ (i + 1) i b (omega arith)) (get_or-set_same m i a 0 (omega arith))

    five_1 : cell (five m i a b c d e) (i + 1) ≡ b
    five_1 = rw (set_above _ (i + 4) (i + 1) e (omega arith), set_above _ (i + 3) (i + 1) d (omega arith), set_above _ (i + 2) (i + 1) c (omega arith)) (get_or-set_same (set m i a) (i + 1) b 0 (simp length-set (omega arith)))

    five_2 : cell (five m i a b c d e) (i + 2) ≡ c
    five_2 = rw (set_above _ (i + 4) (i + 2) e (omega arith), set_above _ (i + 3) (i + 2) d (omega arith)) (get_or-set_same (set (set m i a) (i + 1) b) (i + 2) c 0 (simp length-set (omega arith)))

    five_3 : cell (five m i a b c d e) (i + 3) ≡ d
    five_3 = rw (set_above _ (i + 4) (i + 3) e (omega arith)) (get_or-set_same (set (set (set m i a) (i + 1) b) (i + 2) c) (i + 3) d 0 (simp length-set (omega arith)))

    five_4 : cell (five m i a b c d e) (i + 4) ≡ e
    five_4 = get_or-set_same (set (set (set (set m i a) (i + 1) b) (i + 2) c) (i + 3) d) (i + 4) e 0 (simp length-set (omega arith))

-- ── what rows keep ──

inputs_kept : (m w : List ℕ) (f k : ℕ) → SameIn m w (inputs_at + f) (inputs_at + f + k) → inputs_from w f k ≡ inputs_from m f k
unfolding inputs_from
inputs_kept m w f zero h = refl
inputs_kept m w f (suc k) h = rw (h (inputs_at + f) (omega arith) (omega arith), inputs_kept m w (suc f) k (λ j l r. h j (omega arith) (omega arith)))

-- one more input is the last
pub inputs_snoc : (m : List ℕ) (f k : ℕ) → inputs_from m f (k + 1) ≡ inputs_from m f k ++ cell m (inputs_at + (f + k)) ∷ []
unfolding inputs_from
inputs_snoc m f k = rw (add-one k) (by f k)
  where
    by : (f k : ℕ) → inputs_from m f (suc k) ≡ inputs_from m f k ++ cell m (inputs_at + (f + k)) ∷ []
    by f zero = let z : f + 0 ≡ f = omega arith in rw z
    by f (suc k) = let z : f + suc k ≡ suc f + k = omega arith in rw (z, ← by (suc f) k)

-- the five cells of a row are the same
module _ (m w : List ℕ) (n n' x : ℕ) (old : x < n) (new : x < n') (same : SameIn m w (rows_at + x * 5) (rows_at + x * 5 + 5)) where
  row_cell_kept : (k : ℕ) → k < 5 → row_cell w n' x k ≡ row_cell m n x k
  row_cell_kept k l = rw (lt-leb n' x new, lt-leb n x old, same (rows_at + x * 5 + k) (omega arith) (omega arith))

  head_kept : head_at w n' x ≡ head_at m n x
  unfolding head_at
  head_kept = rw (lt-leb n' x new, lt-leb n x old, same (rows_at + x * 5) (omega arith) (omega arith))

  first-kept : first_at w n' x ≡ first_at m n x
  unfolding first_at
  first-kept = row_cell_kept 3 (omega arith)

  count_kept : count_at w n' x ≡ count_at m n x
  unfolding count_at
  count_kept = row_cell_kept 4 (omega arith)

  -- its inputs end where they ended
  end_kept : first_at w n' x + count_at w n' x ≡ first_at m n x + count_at m n x
  end_kept = rw (first-kept, count_kept)

  -- and with its inputs it reads as before
  shape_kept : SameIn m w inputs_at (inputs_at + (first_at m n x + count_at m n x)) → shape_at w n' x ≡ shape_at m n x
  unfolding shape_at number_at output_at
  shape_kept inputs = rw (head_kept, row_cell_kept 1 (omega arith), row_cell_kept 2 (omega arith), first-kept, count_kept, inputs_kept m w (first_at m n x) (count_at m n x) (λ j l r. inputs j (omega arith) (omega arith)))

-- a memory that differs only below the rows has the same inputs
pub inputs_low : (m w : List ℕ) → ((j : ℕ) → rows_at ≤ j → cell w j ≡ cell m j) → (f k : ℕ) → inputs_from w f k ≡ inputs_from m f k
inputs_low m w same f k = inputs_kept m w f k (λ j l r. same j (omega arith))

-- a memory that differs only below the rows has the same rows
pub rows_low : (m w : List ℕ) (n : ℕ) → ((j : ℕ) → rows_at ≤ j → cell w j ≡ cell m j) → rows_of w n ≡ rows_of m n
unfolding rows_of
rows_low m w n same = tab_ext (shape_at m n) (shape_at w n) n (λ x h. shape_kept m w n n x h h (λ j l r. same j (omega arith)) (λ j l r. same j (omega arith)))

module _ (m w : List ℕ) (n i : ℕ) (below : InputsBelow m n i) (same : SameRows m w n i) where
  in_row : (x : ℕ) → x < n → SameIn m w (rows_at + x * 5) (rows_at + x * 5 + 5)
  in_row x h j l r = same.rows j (omega arith) (omega arith)

  in_inputs : (x : ℕ) → x < n → SameIn m w inputs_at (inputs_at + (first_at m n x + count_at m n x))
  in_inputs x h j l r = same.inputs j l (omega (arith, below x h))

  -- the rows are the same
  pub rows-kept : rows_of w n ≡ rows_of m n
  unfolding rows_of
  rows-kept = tab_ext (shape_at m n) (shape_at w n) n (λ x h. shape_kept m w n n x h h (in_row x h) (in_inputs x h))

  -- one more row
  pub rows_grow : rows_of w (n + 1) ≡ rows_of m n ++ shape_at w (n + 1) n ∷ []
  unfolding rows_of
  rows_grow = tab_grow (shape_at m n) (shape_at w (n + 1)) n (λ x h. shape_kept m w n (n + 1) x h (omega arith) (in_row x h) (in_inputs x h))

  -- the inputs are the same
  pub inputs_same : (f k : ℕ) → f + k ≤ i → inputs_from w f k ≡ inputs_from m f k
  inputs_same f k h = inputs_kept m w f k (λ j l r. same.inputs j (omega arith) (omega arith))

  -- the inputs of the rows stand where they stood
  pub below_kept : (n' : ℕ) → n ≤ n' → (x : ℕ) → x < n → first_at w n' x + count_at w n' x ≤ i
  below_kept n' more x h = rw (end_kept m w n n' x h (omega arith) (in_row x h)) (below x h)

-- ── a row is written ──

module _ (m : List ℕ) (x h a o f k : ℕ) where
  -- the memory has its length
  pub row_length : length (row_written m x h a o f k) ≡ length m
  unfolding row_written
  row_length = five_length m (rows_at + x * 5) h a o f k

  -- the cells below the row stay
  pub row_below : (j : ℕ) → j < rows_at + x * 5 → cell (row_written m x h a o f k) j ≡ cell m j
  unfolding row_written
  row_below j l = five_below m (rows_at + x * 5) h a o f k j l

  -- the cells above the row stay
  pub row_above : (j : ℕ) → rows_at + x * 5 + 5 ≤ j → cell (row_written m x h a o f k) j ≡ cell m j
  unfolding row_written
  row_above j l = five_above m (rows_at + x * 5) h a o f k j l

  module _ (room : rows_at + x * 5 + 4 < length m) where
    at_0 : cell (row_written m x h a o f k) (rows_at + x * 5) ≡ h
    unfolding row_written
    at_0 = five_0 m (rows_at + x * 5) h a o f k room

    at_1 : cell (row_written m x h a o f k) (rows_at + x * 5 + 1) ≡ a
    unfolding row_written
    at_1 = five_1 m (rows_at + x * 5) h a o f k room

    at-2 : cell (row_written m x h a o f k) (rows_at + x * 5 + 2) ≡ o
    unfolding row_written
    at-2 = five_2 m (rows_at + x * 5) h a o f k room

    at-3 : cell (row_written m x h a o f k) (rows_at + x * 5 + 3) ≡ f
    unfolding row_written
    at-3 = five_3 m (rows_at + x * 5) h a o f k room

    at_4 : cell (row_written m x h a o f k) (rows_at + x * 5 + 4) ≡ k
    unfolding row_written
    at_4 = five_4 m (rows_at + x * 5) h a o f k room

    -- the new row's inputs stand where it says
    pub row_inputs : (i : ℕ) → f + k ≤ i → first_at (row_written m x h a o f k) (x + 1) x + count_at (row_written m x h a o f k) (x + 1) x ≤ i
    unfolding first_at count_at
    row_inputs i l = rw (lt-leb (x + 1) x (omega arith), at-3, at_4) l

    -- the new row reads as it was written
    pub row_shape : h < 15 → x < most_types → shape_at (row_written m x h a o f k) (x + 1) x ≡ shape_of h a o (inputs_from m f k)
    unfolding shape_at head_at number_at output_at first_at count_at
    row_shape l q = rw (lt-leb (x + 1) x (omega arith), at_0, at_1, at-2, at-3, at_4, lt-ltb h 15 l, inputs_kept m (row_written m x h a o f k) f k (λ j r s. row_above j (omega arith)))

-- ── what variables keep ──

var_cell_kept : (m w : List ℕ) (n n' k : ℕ) → n ≤ n' → SameVars m w n k → (v : ℕ) → v < n → var_cell w n' v k ≡ var_cell m n v k
var_cell_kept m w n n' k more same v h = rw (lt-leb n' v (omega arith), lt-leb n v h, same v h)

module _ (m w : List ℕ) (n : ℕ) where
  kind_kept : (n' : ℕ) → n ≤ n' → SameVars m w n 0 → (v : ℕ) → v < n → kind_at w n' v ≡ kind_at m n v
  unfolding kind_at
  kind_kept n' more same v h = ap kind_of (var_cell_kept m w n n' 0 more same v h)

  origin_kept : (n' : ℕ) → n ≤ n' → SameVars m w n 1 → (v : ℕ) → v < n → origin_at w n' v ≡ origin_at m n v
  unfolding origin_at
  origin_kept n' more same v h = ap numbered (var_cell_kept m w n n' 1 more same v h)

  binding_kept : (n' : ℕ) → n ≤ n' → SameVars m w n 2 → SameVars m w n 3 → (v : ℕ) → v < n → binding_at w n' v ≡ binding_at m n v
  unfolding binding_at
  binding_kept n' more same same' v h = rw (var_cell_kept m w n n' 2 more same v h, var_cell_kept m w n n' 3 more same' v h)

  mark_kept : (n' : ℕ) → n ≤ n' → SameVars m w n 4 → (v : ℕ) → v < n → mark_at w n' v ≡ mark_at m n v
  unfolding mark_at
  mark_kept n' more same v h = ap (λ (k : ℕ). eqb k 1) (var_cell_kept m w n n' 4 more same v h)

  -- the kinds are the same
  pub kinds_kept : SameVars m w n 0 → kinds_of w n ≡ kinds_of m n
  unfolding kinds_of
  kinds_kept same = tab_ext (kind_at m n) (kind_at w n) n (kind_kept n (omega arith) same)

  -- the origins are the same
  pub origins_kept : SameVars m w n 1 → origins_of w n ≡ origins_of m n
  unfolding origins_of
  origins_kept same = tab_ext (origin_at m n) (origin_at w n) n (origin_kept n (omega arith) same)

  -- the bindings are the same
  pub binds_kept : SameVars m w n 2 → SameVars m w n 3 → binds_of w n ≡ binds_of m n
  unfolding binds_of
  binds_kept same same' = tab_ext (binding_at m n) (binding_at w n) n (binding_kept n (omega arith) same same')

  -- the marks are the same
  pub marks_kept : SameVars m w n 4 → marks_of w n ≡ marks_of m n
  unfolding marks_of
  marks_kept same = tab_ext (mark_at m n) (mark_at w n) n (mark_kept n (omega arith) same)

  -- one more kind
  pub kinds_grow : SameVars m w n 0 → kinds_of w (n + 1) ≡ kinds_of m n ++ kind_at w (n + 1) n ∷ []
  unfolding kinds_of
  kinds_grow same = tab_grow (kind_at m n) (kind_at w (n + 1)) n (kind_kept (n + 1) (omega arith) same)

  -- one more origin
  pub origins_grow : SameVars m w n 1 → origins_of w (n + 1) ≡ origins_of m n ++ origin_at w (n + 1) n ∷ []
  unfolding origins_of
  origins_grow same = tab_grow (origin_at m n) (origin_at w (n + 1)) n (origin_kept (n + 1) (omega arith) same)

  -- one more binding
  pub binds_grow : SameVars m w n 2 → SameVars m w n 3 → binds_of w (n + 1) ≡ binds_of m n ++ binding_at w (n + 1) n ∷ []
  unfolding binds_of
  binds_grow same same' = tab_grow (binding_at m n) (binding_at w (n + 1)) n (binding_kept (n + 1) (omega arith) same same')

  -- one more mark
  pub marks_grow : SameVars m w n 4 → marks_of w (n + 1) ≡ marks_of m n ++ mark_at w (n + 1) n ∷ []
  unfolding marks_of
  marks_grow same = tab_grow (mark_at m n) (mark_at w (n + 1)) n (mark_kept (n + 1) (omega arith) same)

-- ── a variable is written ──

module _ (m : List ℕ) (v k o : ℕ) where
  -- the memory has its length
  pub var_length : length (var_written m v k o) ≡ length m
  unfolding var_written
  var_length = five_length m (v * 5) k o 0 0 0

  -- the cells below the variable stay
  pub var_below : (j : ℕ) → j < v * 5 → cell (var_written m v k o) j ≡ cell m j
  unfolding var_written
  var_below j l = five_below m (v * 5) k o 0 0 0 j l

  -- the cells above the variable stay
  pub var_above : (j : ℕ) → v * 5 + 5 ≤ j → cell (var_written m v k o) j ≡ cell m j
  unfolding var_written
  var_above j l = five_above m (v * 5) k o 0 0 0 j l

  -- w has the cells of the new variable
  module _ (room : v * 5 + 4 < length m) (w : List ℕ) (same : (j : ℕ) → j < v * 5 + 5 → cell w j ≡ cell (var_written m v k o) j) where
    -- its kind
    pub var_kind : kind_at w (v + 1) v ≡ kind_of k
    unfolding kind_at var_written
    var_kind = let z : v * 5 + 0 ≡ v * 5 = omega arith in rw (lt-leb (v + 1) v (omega arith), z, same (v * 5) (omega arith), five_0 m (v * 5) k o 0 0 0 room)

    -- its origin
    pub var_origin : origin_at w (v + 1) v ≡ numbered o
    unfolding origin_at var_written
    var_origin = rw (lt-leb (v + 1) v (omega arith), same (v * 5 + 1) (omega arith), five_1 m (v * 5) k o 0 0 0 room)

    -- it is not bound
    pub var_binding : binding_at w (v + 1) v ≡ none
    unfolding binding_at var_written
    var_binding = rw (lt-leb (v + 1) v (omega arith), same (v * 5 + 2) (omega arith), five_2 m (v * 5) k o 0 0 0 room)

    -- it is not marked
    pub var_mark : mark_at w (v + 1) v ≡ false
    unfolding mark_at var_written
    var_mark = rw (lt-leb (v + 1) v (omega arith), same (v * 5 + 4) (omega arith), five_4 m (v * 5) k o 0 0 0 room)

-- ── a mark and a binding are stored ──

module _ (m : List ℕ) (v d a : ℕ) (in-five : d < 5) where
  -- the other cells of all variables
  pub cell_other : (n e : ℕ) → e < 5 → e ≢ d → SameVars m (set m (v * 5 + d) a) n e
  cell_other n e h q x l = get_or-set_other m (v * 5 + d) (x * 5 + e) a 0 (λ r. q (omega arith))

  -- the same cell of the other variables
  var_other : (x : ℕ) → x ≢ v → cell (set m (v * 5 + d) a) (x * 5 + d) ≡ cell m (x * 5 + d)
  var_other x q = get_or-set_other m (v * 5 + d) (x * 5 + d) a 0 (λ r. q (omega arith))

module _ (m : List ℕ) (n v : ℕ) (room : n * 5 ≤ length m) where
  -- a mark is set
  pub marks_set : marks_of (set m (v * 5 + 4) 1) n ≡ set (marks_of m n) v true
  unfolding marks_of mark_at
  marks_set =
      tab_set (λ x. eqb (var_cell m n x 4) 1) (λ x. eqb (var_cell (set m (v * 5 + 4) 1) n x 4) 1) n v true (λ x h q. rw (var_other m v 4 1 (omega arith) x q))
      (λ h. rw (lt-leb n v h, get_or-set_same m (v * 5 + 4) 1 0 (omega arith)))

  -- a variable is bound
  pub binds_set : (z : ℕ) → binds_of (set (set m (v * 5 + 2) 1) (v * 5 + 3) z) n ≡ set (binds_of m n) v (some z)
  unfolding binds_of binding_at
  binds_set z =
      let m₁ = set m (v * 5 + 2) 1 in
      let m₂ = set m₁ (v * 5 + 3) z in
      tab_set (λ x. pick (eqb (var_cell m n x 2) 1) (some (var_cell m n x 3)) none) (λ x. pick (eqb (var_cell m₂ n x 2) 1) (some (var_cell m₂ n x 3)) none) n v (some z)
      (λ x h q. rw (cell_other m₁ v 3 z (omega arith) n 2 (omega arith) (λ r. omega arith) x h, var_other m v 2 1 (omega arith) x q, var_other m₁ v 3 z (omega arith) x q, cell_other m v 2 1 (omega arith) n 3 (omega arith) (λ r. omega arith) x h))
      (λ h. rw (lt-leb n v h, cell_other m₁ v 3 z (omega arith) n 2 (omega arith) (λ r. omega arith) v h, get_or-set_same m (v * 5 + 2) 1 0 (omega arith), get_or-set_same m₁ (v * 5 + 3) z 0 (simp length-set (omega arith))))

-- ── the pool is cleared ──

-- the memory has its length
pub cleared_length : (m : List ℕ) (k : ℕ) → length (cleared m k) ≡ length m
unfolding cleared
cleared_length m zero = refl
cleared_length m (suc k) = length-set (cleared m k) (arrays_at + k) 0 ∙ cleared_length m k

-- a cleared cell is 0
pub cleared_cell : (m : List ℕ) (k j : ℕ) → arrays_at ≤ j → j < arrays_at + k → j < length m → cell (cleared m k) j ≡ 0
unfolding cleared
cleared_cell m zero j l r h = absurd (omega arith)
cleared_cell m (suc k) j l r h = by (ℕ_discrete j (arrays_at + k)) (λ q. cleared_cell m k j l q h)
  where
    by : Dec (j ≡ arrays_at + k) → (j < arrays_at + k → cell (cleared m k) j ≡ 0) → cell (set (cleared m k) (arrays_at + k) 0) j ≡ 0
    by (yes e) f = rw e (get_or-set_same (cleared m k) (arrays_at + k) 0 0 (omega (arith, cleared_length m k)))
    by (no n) f = get_or-set_other (cleared m k) (arrays_at + k) j 0 0 n ∙ f (omega arith)

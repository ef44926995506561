-- What each return and turn of a function over the table of made types shows, over plain variables.
use mathlib.Core.Path.{◌≡◌, refl, sym, ap, ◌∙◌}
use mathlib.Core.List.{List, [], ◌∷◌, ◌++◌}
use Prim.Native.Nat.{ℕ, suc, zero, ◌+◌, ◌-◌, ◌*◌, ◌≤◌, ◌<◌}
use native.Mathlib.Omega.{arith}
use native.Mathlib.Numerals.{add-one, towards_suc}
use native.Mathlib.Decide.{dec_lt}
use lib.ListN.{length, drop, set, replicate, length-append}
use lib.Seq.{sets, length-sets}
use borrow.Author.Tests.{lt-ltb, le-ltb}
use Rattle.theory.specs.Rules.{Shape, base, var, arr, ref, fn, fun, lam, err, div}
use Rattle.type_table.specs.declared.Counts.{Counts}
use Rattle.type_table.specs.declared.Row.{Row}
use Rattle.type_table.specs.declared.Row.TheVariants.{Bool, Uint, Int, Float, Double, Instance, Param, FnDef, Array, Nil, Error, Diverges, InferTy, Lambda, Ref}
use Rattle.type_table.specs.Memory.{tab, cell, inputs_at, inputs_from, shape_at, rows_of}
use Rattle.type_table.specs.View.{type, view_in}
use Rattle.type_table.specs.Reads.{row_meant, view_row}
use Rattle.type_table.specs.Tables.{tab_ext, tab_snoc, row_at, length_tab}
use Rattle.type_table.specs.Sound.{state_of}
use Rattle.record.specs.declared.Record.{Record}
use Rattle.record.specs.Steps.{State}
use Rattle.record.specs.Encodes.{input_count, input_total}
use Rattle.tables.specs.declared.Fields.{Fields}
use Rattle.tables.specs.Rows.{padded, cells_to, cells_of, Fills}
use Rattle.tables.specs.RowLaws.{length_cells, cells_ext, cells_tab, length-padded, types_append}
use Rattle.tables.specs.Types.{inputs_from_lem, shape_inputs, type_row, type_rows, inputs_of, type_table, type_room, fields_of, fields_in, fitted, type_in, inputs_in, type_from}
use Rattle.table_cells.specs.Stores.{sets_behind, sets_whole}
use Rattle.tables.proofs.CellLaws.{cells_more, rows_more, padded_part}

-- ── the fields of a row ──

-- the fields of a row of the memory
pub fields_read : (m : List ℕ) (c : Counts) (x : ℕ) (row : Row) (r : Fields) → row ≡ view_in m c (type x) → r ≡ fields_of row → r ≡ fields_in m c x
unfolding fields_in
fields_read m c x row r p q = q ∙ ap fields_of p

-- a number that fits
pub fitted_small : (k : ℕ) → k < 65536 → k ≡ fitted k
unfolding fitted
fitted_small k h = rw (lt-ltb k 65536 h)

-- a number that does not fit
pub fitted_large : (k : ℕ) → 65536 ≤ k → 0 ≡ fitted k
unfolding fitted
fitted_large k h = rw (le-ltb k 65536 h)

-- the stores of a row
pub type_stores : (r : Fields) (k f i : ℕ) → f ≡ fitted k → (t t₁ t₂ u : List ℕ) → let j = i * 5 in t₁ ≡ sets t j (r.head ∷ r.number ∷ []) → t₂ ≡ sets t₁ (j + 2) (r.output ∷ f ∷ []) → u ≡ set t₂ (j + 4) r.count → u ≡ sets t j (type_in r k)
unfolding type_in
type_stores r k f i e t t₁ t₂ u p q s = rw (← e, s, q, p) (simp towards_suc)

-- ── inputs of a row ──

-- as many inputs as were asked for
length_inputs : (m : List ℕ) (f k : ℕ) → length (inputs_from m f k) ≡ k
unfolding inputs_from
length_inputs m f zero = refl
length_inputs m f (suc k) = ap suc (length_inputs m (suc f) k)

-- the last input
inputs_snoc : (m : List ℕ) (f k : ℕ) → inputs_from m f (suc k) ≡ inputs_from m f k ++ cell m (inputs_at + (f + k)) ∷ []
unfolding inputs_from
inputs_snoc m f zero = let z : f + 0 ≡ f = omega arith in rw z
inputs_snoc m f (suc k) = let z : f + suc k ≡ suc f + k = omega arith in rw z (ap (λ (l : List ℕ). cell m (inputs_at + f) ∷ l) (inputs_snoc m (suc f) k))

-- before the first turn none is stored
pub inputs_none : (m : List ℕ) (f : ℕ) (t : List ℕ) (at : ℕ) → t ≡ sets t at (inputs_from m f 0)
unfolding inputs_from
inputs_none m f t at = refl

-- a turn stores one input more
pub inputs_more : (m : List ℕ) (f : ℕ) (t w u : List ℕ) (at j x : ℕ) → x ≡ cell m (inputs_at + (f + j)) → w ≡ sets t at (inputs_from m f j) → u ≡ set w (at + j) x → u ≡ sets t at (inputs_from m f (j + 1))
inputs_more m f t w u at j x e p q = rw (q, p, e, add-one j, inputs_snoc m f j) (sets_behind t at (at + j) (inputs_from m f j) (cell m (inputs_at + (f + j)) ∷ []) (ap (λ (n : ℕ). at + n) (length_inputs m f j)))

-- all are stored
pub inputs_all : (m : List ℕ) (f : ℕ) (t w : List ℕ) (at j k : ℕ) → j ≤ k → k ≤ j → w ≡ sets t at (inputs_from m f j) → w ≡ sets t at (inputs_from m f k)
inputs_all m f t w at j k l r p = let z : j ≡ k = omega arith in rw z at p

-- ── one row after another ──

-- a row has five cells
length_type : (m : List ℕ) (c : Counts) (first j : ℕ) → length (type_from m c first j) ≡ 5
unfolding type_from type_in
length_type m c first j = refl

-- before the first row there are no inputs
pub count_none : (m : List ℕ) (c : Counts) (first : ℕ) → 0 ≡ length (cells_to (inputs_in m c first) 0)
unfolding cells_to
count_none m c first = refl

module _ (m : List ℕ) (c : Counts) (first i : ℕ) (r : Fields) (p : r ≡ fields_in m c (first + i)) where
  -- the inputs of a row of the memory
  inputs_are : inputs_from m r.first r.count ≡ inputs_in m c first i
  unfolding inputs_in
  inputs_are = rw p

  -- one row more counts its inputs
  pub count_more : (k : ℕ) → k ≡ length (cells_to (inputs_in m c first) i) → k + r.count ≡ length (cells_to (inputs_in m c first) (i + 1))
  unfolding cells_to
  count_more k q =
      let a : length (inputs_in m c first i) ≡ r.count = ap length (sym inputs_are) ∙ length_inputs m r.first r.count in
      rw (add-one i, length-append (cells_to (inputs_in m c first) i) (inputs_in m c first i), a, q)

  -- the row of the memory
  row_is : (k : ℕ) → k ≡ length (cells_to (inputs_in m c first) i) → type_in r k ≡ type_from m c first i
  unfolding type_from
  row_is k q = rw (p, q)

  -- a turn stores one row more
  pub types_more : (k : ℕ) (t w u : List ℕ) → k ≡ length (cells_to (inputs_in m c first) i) → w ≡ sets t 0 (cells_to (type_from m c first) i) → u ≡ sets w (i * 5) (type_in r k) → u ≡ sets t 0 (cells_to (type_from m c first) (i + 1))
  types_more k t w u q s v = rows_more (type_from m c first) 5 (length_type m c first) t w u i s (v ∙ ap (λ (l : List ℕ). sets w (i * 5) l) (row_is k q))

  -- a turn stores the inputs of one row more
  pub all_more : (k : ℕ) (t w u : List ℕ) → k ≡ length (cells_to (inputs_in m c first) i) → w ≡ sets t inputs_from_lem (cells_to (inputs_in m c first) i) → u ≡ sets w (inputs_from_lem + k) (inputs_from m r.first r.count) → u ≡ sets t inputs_from_lem (cells_to (inputs_in m c first) (i + 1))
  all_more k t w u q s v = cells_more (inputs_in m c first) t w u inputs_from_lem i (inputs_from_lem + k) (ap (λ (n : ℕ). inputs_from_lem + n) (sym q)) s (v ∙ ap (λ (l : List ℕ). sets w (inputs_from_lem + k) l) inputs_are)

-- the rows are stored, and zeros behind them
pub types_all : (m : List ℕ) (c : Counts) (first i n : ℕ) (t w u : List ℕ) → n ≡ c.types - first → i ≤ n → n ≤ i → w ≡ sets t 0 (cells_to (type_from m c first) i) → u ≡ sets w (n * 5) (replicate (inputs_from_lem - n * 5) 0) → u ≡ sets t 0 (padded inputs_from_lem (cells_to (type_from m c first) (c.types - first)))
types_all m c first i n t w u e l r p q =
    let z : i ≡ n = omega arith in
    let a : length (cells_to (type_from m c first) n) ≡ n * 5 = length_cells (type_from m c first) 5 (length_type m c first) n in
    rw (← e) (padded_part (cells_to (type_from m c first) n) t w u 0 (n * 5) inputs_from_lem (omega arith) (rw z at p) (rw a q))

-- the inputs are stored, and zeros behind them
pub all_filled : (m : List ℕ) (c : Counts) (first i n k : ℕ) (t w u : List ℕ) → n ≡ c.types - first → i ≤ n → n ≤ i → length w ≡ length t → k ≡ length (cells_to (inputs_in m c first) i) → w ≡ sets t inputs_from_lem (cells_to (inputs_in m c first) i) → u ≡ sets w (inputs_from_lem + k) (replicate (length w - (inputs_from_lem + k)) 0) → u ≡ sets t inputs_from_lem (padded (length t - inputs_from_lem) (cells_to (inputs_in m c first) (c.types - first)))
all_filled m c first i n k t w u e l r h q p v =
    let z : i ≡ c.types - first = omega arith in
    let a : length w - (inputs_from_lem + k) ≡ length t - inputs_from_lem - length (cells_to (inputs_in m c first) i) = omega arith in
    rw (← z) (padded_part (cells_to (inputs_in m c first) i) t w u inputs_from_lem (inputs_from_lem + k) (length t - inputs_from_lem) (ap (λ (j : ℕ). inputs_from_lem + j) (sym q)) p (rw a at v))

-- ── the types of the memory are those of the state ──

-- the row of a type, by its fields
fields_row : (m : List ℕ) (k : ℕ) (r : Row) → type_in (fields_of r) k ≡ type_row (fitted k) (row_meant m r)
unfolding type_in fields_of
fields_row m k Bool = refl
fields_row m k (Uint w) = refl
fields_row m k (Int w) = refl
fields_row m k Float = refl
fields_row m k Double = refl
fields_row m k (Instance a) = refl
fields_row m k (Param s o i) = rw (length_inputs m i.first i.count)
fields_row m k (FnDef d) = refl
fields_row m k (Array e) = refl
fields_row m k Nil = refl
fields_row m k Error = refl
fields_row m k Diverges = refl
fields_row m k (InferTy v) = refl
fields_row m k (Lambda n o i) = rw (length_inputs m i.first i.count)
fields_row m k (Ref e) = refl

-- its inputs, by its fields
fields_inputs : (m : List ℕ) (r : Row) → inputs_from m (fields_of r).first (fields_of r).count ≡ shape_inputs (row_meant m r)
unfolding fields_of inputs_from
fields_inputs m Bool = refl
fields_inputs m (Uint w) = refl
fields_inputs m (Int w) = refl
fields_inputs m Float = refl
fields_inputs m Double = refl
fields_inputs m (Instance a) = refl
fields_inputs m (Param s o i) = refl
fields_inputs m (FnDef d) = refl
fields_inputs m (Array e) = refl
fields_inputs m Nil = refl
fields_inputs m Error = refl
fields_inputs m Diverges = refl
fields_inputs m (InferTy v) = refl
fields_inputs m (Lambda n o i) = refl
fields_inputs m (Ref e) = refl

-- the rows behind the first k
drop_tab : {A : Type 0} (f : ℕ → A) (k n : ℕ) → drop k (tab f n) ≡ tab (λ j. f (k + j)) (n - k)
drop_tab f zero n = let z : n - 0 ≡ n = omega arith in rw z (tab_ext (λ j. f (0 + j)) f n (λ j h. let e : j ≡ 0 + j = omega arith in ap f e))
drop_tab f (suc k) zero = let z : 0 - suc k ≡ 0 = omega arith in rw z
drop_tab f (suc k) (suc n) =
    let z : suc n - suc k ≡ n - k = omega arith in
    rw z (drop_tab (λ j. f (suc j)) k n ∙ tab_ext (λ j. f (suc k + j)) (λ j. f (suc (k + j))) (n - k) (λ j h. let e : suc (k + j) ≡ suc k + j = omega arith in ap f e))

-- the rows of a list of types, row after row
rows_tab : (f : ℕ → Shape) (n : ℕ) → type_rows 0 (tab f n) ≡ cells_to (λ j. type_row (length (inputs_of (tab f j))) (f j)) n
unfolding type_rows cells_to
rows_tab f zero = refl
rows_tab f (suc n) = ap (type_rows 0) (tab_snoc f n) ∙ types_append 0 (tab f n) (f n ∷ []) ∙ (let z : 0 + length (inputs_of (tab f n)) ≡ length (inputs_of (tab f n)) = omega arith in rw (z, rows_tab f n))

-- fewer rows have no more cells
cells_fewer : (f : ℕ → List ℕ) (n i : ℕ) → i ≤ n → length (cells_to f i) ≤ length (cells_to f n)
unfolding cells_to
cells_fewer f zero i h = let z : i ≡ 0 = omega arith in rw z (omega arith)
cells_fewer f (suc n) i h = by (dec_lt n i) (λ l. cells_fewer f n i l)
  where
    by : Dec (n < i) → (i ≤ n → length (cells_to f i) ≤ length (cells_to f n)) → length (cells_to f i) ≤ length (cells_to f n ++ f n)
    by (yes l) rec = let z : i ≡ suc n = omega arith in rw z (omega arith)
    by (no l) rec = omega (arith, rec (omega arith), length-append (cells_to f n) (f n))

-- a row's count of inputs
input_count_lem : (x : Shape) → length (shape_inputs x) ≡ input_count x
input_count_lem (base b) = refl
input_count_lem (var v) = refl
input_count_lem (arr e) = refl
input_count_lem (ref e) = refl
input_count_lem (fn d) = refl
input_count_lem (fun s o i) = refl
input_count_lem (lam n o i) = refl
input_count_lem err = refl
input_count_lem div = refl

-- the types from a number on have no more inputs than all
inputs_fewer : (k : ℕ) (l : List Shape) → length (inputs_of (drop k l)) ≤ input_total l
unfolding cells_of input_total
inputs_fewer zero [] = omega arith
inputs_fewer zero (x ∷ l) = omega (arith, inputs_fewer zero l, length-append (shape_inputs x) (inputs_of l), input_count_lem x)
inputs_fewer (suc k) [] = omega arith
inputs_fewer (suc k) (x ∷ l) = omega (arith, inputs_fewer k l)

module _ (m : List ℕ) (c : Counts) (first : ℕ) where
  -- the type first + j
  abbrev shape_from : ℕ → Shape
  shape_from j = shape_at m c.types (first + j)

  -- it is what the row in the memory stands for
  made_meant : (j : ℕ) → row_meant m (view_in m c (type (first + j))) ≡ shape_from j
  made_meant j = view_row m c (type (first + j)) ∙ row_at m c.types (first + j)

  -- its inputs
  made_inputs : (j : ℕ) → inputs_in m c first j ≡ shape_inputs (shape_from j)
  unfolding inputs_in fields_in
  made_inputs j = fields_inputs m (view_in m c (type (first + j))) ∙ ap shape_inputs (made_meant j)

  -- the inputs of the first n
  all_inputs : (n : ℕ) → cells_to (inputs_in m c first) n ≡ inputs_of (tab shape_from n)
  all_inputs n = cells_ext (inputs_in m c first) (λ j. shape_inputs (shape_from j)) n (λ j h. made_inputs j) ∙ sym (cells_tab shape_inputs shape_from n)

  -- its row
  made_row : (j : ℕ) → length (inputs_of (tab shape_from j)) < 65536 → type_from m c first j ≡ type_row (length (inputs_of (tab shape_from j))) (shape_from j)
  unfolding type_from fields_in
  made_row j h = rw (all_inputs j) (fields_row m (length (inputs_of (tab shape_from j))) (view_in m c (type (first + j))) ∙ rw (← fitted_small (length (inputs_of (tab shape_from j))) h, made_meant j))

  -- the rows of the first n
  all_rows : (n : ℕ) → length (inputs_of (tab shape_from n)) < 65536 → cells_to (type_from m c first) n ≡ type_rows 0 (tab shape_from n)
  all_rows n h = cells_ext (type_from m c first) (λ j. type_row (length (inputs_of (tab shape_from j))) (shape_from j)) n (λ j l. made_row j (small j l)) ∙ sym (rows_tab shape_from n)
    where
      small : (j : ℕ) → j < n → length (inputs_of (tab shape_from j)) < 65536
      small j l = omega (arith, h, rw (all_inputs j, all_inputs n) at (cells_fewer (inputs_in m c first) n j (omega arith)))

  -- the types from the number first on
  made_tab : (s : State) → drop first (state_of m c s).rows ≡ tab shape_from (c.types - first)
  unfolding state_of rows_of
  made_tab s = drop_tab (shape_at m c.types) first c.types

-- rows and inputs, zeros behind both, are the whole table
both_parts : (rs is t t₁ u : List ℕ) → length rs ≤ inputs_from_lem → inputs_from_lem + length is ≤ length t → t₁ ≡ sets t 0 (padded inputs_from_lem rs) → u ≡ sets t₁ inputs_from_lem (padded (length t₁ - inputs_from_lem) is) → u ≡ padded inputs_from_lem rs ++ padded (length t - inputs_from_lem) is
both_parts rs is t t₁ u h g p q =
    let n = length t - inputs_from_lem in
    let low : length (padded inputs_from_lem rs) ≡ inputs_from_lem = length-padded inputs_from_lem rs h in
    let high : length (padded n is) ≡ n = length-padded n is (omega arith) in
    let same : length t₁ ≡ length t = rw p (length-sets t 0 (padded inputs_from_lem rs)) in
    q ∙ ap (λ (k : ℕ). sets t₁ inputs_from_lem (padded (k - inputs_from_lem) is)) same ∙ ap (λ (v : List ℕ). sets v inputs_from_lem (padded n is)) p ∙ sets_behind t 0 inputs_from_lem (padded inputs_from_lem rs) (padded n is) (omega arith)
    ∙ sets_whole t (padded inputs_from_lem rs ++ padded n is) (omega (arith, length-append (padded inputs_from_lem rs) (padded n is)))

-- the types, their inputs, and zeros behind both
pub types_filled : (m : List ℕ) (c : Record) (first : ℕ) (t t₁ u : List ℕ) → let d = c.counts in let n = d.types - first in
    t₁ ≡ sets t 0 (padded inputs_from_lem (cells_to (type_from m d first) n)) → u ≡ sets t₁ inputs_from_lem (padded (length t₁ - inputs_from_lem) (cells_to (inputs_in m d first) n))
    → Fills m c (type_room first (length t)) (λ s. type_table (length t) (drop first s.rows)) u
types_filled m c first t t₁ u p q = record {
  fills = λ s e room.
      let d = c.counts in
      let n = d.types - first in
      let made : drop first s.rows ≡ tab (shape_from m d first) n = ap (λ (x : State). drop first x.rows) (sym e.tables) ∙ made_tab m d first s in
      let few : length (inputs_of (drop first s.rows)) < 65536 = omega (arith, inputs_fewer first s.rows, e.inputs, e.sound.laid.inputs) in
      let rows : cells_to (type_from m d first) n ≡ type_rows 0 (drop first s.rows) = all_rows m d first n (rw made at few) ∙ ap (type_rows 0) (sym made) in
      let inputs : cells_to (inputs_in m d first) n ≡ inputs_of (drop first s.rows) = all_inputs m d first n ∙ ap inputs_of (sym made) in
      let count : length (drop first s.rows) ≡ n = ap length made ∙ length_tab (shape_from m d first) n in
      let five : length (cells_to (type_from m d first) n) ≡ n * 5 = length_cells (type_from m d first) 5 (length_type m d first) n in
      rw (← rows, ← inputs) (both_parts (cells_to (type_from m d first) n) (cells_to (inputs_in m d first) n) t t₁ u (rw (five, ← count) room.0) (rw inputs room.1) p q);
}

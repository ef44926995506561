-- What was written into the table of variables and into that of made types is read back from them.
use Rattle.std.specs.Prelude.{◌≡◌, get_or}
use Rattle.std.proofs.Math.Path.{refl, ap}
use Rattle.std.proofs.Common.{sym, ◌∙◌, suc-mul, zero-mul, get_or-append-add, drop_at}
use mathlib.Core.List.{List, [], ◌∷◌, ◌++◌, append_assoc}
use Rattle.std.proofs.Math.Option.{Option, none, some}
use Prim.Native.Nat.{ℕ, suc, zero, ◌+◌, ◌-◌, ◌*◌, ◌≤◌, ◌<◌}
use native.Mathlib.Omega.{arith}
use Rattle.std.proofs.Math.Decide.{dec_lt}
use Rattle.std.proofs.Math.ListN.{length, take, replicate, length-append, get_or-append}
use Rattle.std.proofs.Math.Seq.{take_at}
use Rattle.theory.specs.Rules.{w8, w16, w32, w64, bool, nil, float, double, uint, int, inst, Shape, base, var, arr, ref, fn, fun, lam, err, div, head, Kind, regular, integer, floating, kind, bound}
use Rattle.type_table.specs.Memory.{tab, cell, kind_of, shape_of}
use Rattle.type_table.specs.Tables.{tab_ext}
use Rattle.record.specs.Own.{flagged}
use Rattle.record.specs.Steps.{State}
use Rattle.tables.specs.Rows.{padded, cells_to, cells_of, given, or_zero}
use Rattle.tables.specs.Vars.{kind_cell, var_row, var_table}
use Rattle.tables.specs.Types.{inputs_from_lem, shape_number, shape_output, shape_inputs, type_row, type_rows, inputs_of, type_table}
use Rattle.tables.specs.Read.{kinds_in, binds_in, cells_at, made_at}
use Rattle.tables.specs.RowLaws.{length_cells, cells_append, types_append, length-padded}

-- ── cells ──

-- a cell behind other cells
cell_behind : (xs ys : List ℕ) (i j : ℕ) → i ≡ length xs + j → cell (xs ++ ys) i ≡ cell ys j
cell_behind xs ys i j e = ap (λ (k : ℕ). cell (xs ++ ys) k) e ∙ get_or-append-add xs ys j 0

-- the cell j of the row i, of n rows of w cells each, whatever stands behind them
cell_of_row : (f : ℕ → List ℕ) (w : ℕ) → ((i : ℕ) → length (f i) ≡ w) → (n i j : ℕ) (r : List ℕ) → i < n → j < w → cell (cells_to f n ++ r) (i * w + j) ≡ cell (f i) j
unfolding cells_to
cell_of_row f w e zero i j r h l = absurd (omega arith)
cell_of_row f w e (suc n) i j r h l = by (dec_lt i n) (λ k. cell_of_row f w e n i j (f n ++ r) k l)
  where
    by : Dec (i < n) → (i < n → cell (cells_to f n ++ (f n ++ r)) (i * w + j) ≡ cell (f i) j) → cell ((cells_to f n ++ f n) ++ r) (i * w + j) ≡ cell (f i) j
    by (yes k) rec = rw (append_assoc (cells_to f n) (f n) r) (rec k)
    by (no k) rec =
        let z : i ≡ n = omega arith in
        rw (append_assoc (cells_to f n) (f n) r, z) (cell_behind (cells_to f n) (f n ++ r) (n * w + j) j (omega (arith, length_cells f w e n)) ∙ get_or-append (f n) r 0 j (rw (e n) l))

-- a list by its values
tab_list : {A : Type 0} (l : List A) (f : ℕ → A) (d : A) → ((i : ℕ) → i < length l → f i ≡ get_or l i d) → tab f (length l) ≡ l
tab_list [] f d e = refl
tab_list (x ∷ l) f d e = rw (e 0 (omega arith), tab_list l (λ i. f (suc i)) d (λ i h. e (suc i) (omega arith)))

-- ── variables ──

-- KIND from its number
kind_back : (k : Kind) → kind_of (kind_cell k) ≡ k
kind_back regular = refl
kind_back integer = refl
kind_back floating = refl

-- a number that may be absent from its flag and its number
option_back : (o : Option ℕ) → flagged (given o) (or_zero o) ≡ o
option_back none = refl
option_back (some x) = refl

-- the row of a variable has six cells
var_length : (s : State) (v : ℕ) → length (var_row s v) ≡ 6
unfolding var_row
var_length s v = refl

module _ (s : State) (k : ℕ) where
  -- a cell of a variable
  var_cell_lem : (v j : ℕ) → v < length s.kinds → j < 6 → cell (padded k (var_table s)) (v * 6 + j) ≡ cell (var_row s v) j
  var_cell_lem v j h l = cell_of_row (var_row s) 6 (var_length s) (length s.kinds) v j (replicate (k - length (var_table s)) 0) h l

  -- the kinds of a state are read back from the table of its variables
  pub kinds_back : kinds_in (padded k (var_table s)) (length s.kinds) ≡ s.kinds
  unfolding var_row
  kinds_back = tab_list s.kinds (λ v. kind_of (cell (padded k (var_table s)) (v * 6))) regular (λ v h. ap kind_of (first v h) ∙ kind_back (kind s.kinds v))
    where
      first : (v : ℕ) → v < length s.kinds → cell (padded k (var_table s)) (v * 6) ≡ kind_cell (kind s.kinds v)
      first v h = let z : v * 6 ≡ v * 6 + 0 = omega arith in ap (λ (i : ℕ). cell (padded k (var_table s)) i) z ∙ var_cell_lem v 0 h (omega arith)

  -- and so are its bindings
  pub binds_back : length s.mem.binds ≡ length s.kinds → binds_in (padded k (var_table s)) (length s.kinds) ≡ s.mem.binds
  unfolding var_row
  binds_back e =
      let t = padded k (var_table s) in
      ap (λ (n : ℕ). binds_in t n) (sym e)
      ∙ tab_list s.mem.binds (λ v. flagged (cell t (v * 6 + 1)) (cell t (v * 6 + 2))) none (λ v h. rw (var_cell_lem v 1 (rw e at h) (omega arith), var_cell_lem v 2 (rw e at h) (omega arith)) (option_back (bound s.mem.binds v)))

-- ── made types ──

-- a type from its head, its number, its output and its inputs
pub shape_back : (x : Shape) → shape_of (head x) (shape_number x) (shape_output x) (shape_inputs x) ≡ x
unfolding shape_of
shape_back (base bool) = refl
shape_back (base nil) = refl
shape_back (base float) = refl
shape_back (base double) = refl
shape_back (base (uint w8)) = refl
shape_back (base (uint w16)) = refl
shape_back (base (uint w32)) = refl
shape_back (base (uint w64)) = refl
shape_back (base (int w8)) = refl
shape_back (base (int w16)) = refl
shape_back (base (int w32)) = refl
shape_back (base (int w64)) = refl
shape_back (base (inst k)) = refl
shape_back (var v) = refl
shape_back (arr e) = refl
shape_back (ref e) = refl
shape_back (fn d) = refl
shape_back (fun s o i) = refl
shape_back (lam n o i) = refl
shape_back err = refl
shape_back div = refl

-- a row of five cells for each type
length_types : (k : ℕ) (l : List Shape) → length (type_rows k l) ≡ length l * 5
unfolding type_rows
length_types k [] = sym (zero-mul 5)
length_types k (x ∷ l) = omega (arith, suc-mul (length l) 5, length_types (k + length (shape_inputs x)) l)

-- rows with zeros and inputs behind them, taken apart at one row
rows_apart : (rs a b c z is : List ℕ) → rs ≡ a ++ (b ++ c) → (rs ++ z) ++ is ≡ a ++ (b ++ (c ++ (z ++ is)))
rows_apart rs a b c z is e = rw e (simp append_assoc)

-- inputs behind the rows and with zeros behind them, taken apart at those of one type
inputs_apart : (rs is a b c z : List ℕ) → is ≡ a ++ (b ++ c) → rs ++ (is ++ z) ≡ (rs ++ a) ++ (b ++ (c ++ z))
inputs_apart rs is a b c z e = rw e (simp append_assoc)

module _ (n : ℕ) (l r : List Shape) (x : Shape) where
  -- the table of the types l, x and r
  abbrev table : List ℕ
  table = type_table n (l ++ x ∷ r)

  -- how many inputs stand before those of x
  abbrev before : ℕ
  before = length (inputs_of l)

  -- a cell of the row of x
  type_cell : (i j : ℕ) → i ≡ length l * 5 + j → j < 5 → cell table i ≡ cell (type_row before x) j
  unfolding type_rows
  type_cell i j e h =
      let z : 0 + before ≡ before = omega arith in
      let rest = type_rows (before + length (shape_inputs x)) r in
      let rows : type_rows 0 (l ++ x ∷ r) ≡ type_rows 0 l ++ (type_row before x ++ rest) = types_append 0 l (x ∷ r) ∙ ap (λ (k : ℕ). type_rows 0 l ++ (type_row k x ++ type_rows (k + length (shape_inputs x)) r)) z in
      let zs : List ℕ = replicate (inputs_from_lem - length (type_rows 0 (l ++ x ∷ r))) 0 in
      let is : List ℕ = padded (n - inputs_from_lem) (inputs_of (l ++ x ∷ r)) in
      ap (λ (v : List ℕ). cell v i) (rows_apart (type_rows 0 (l ++ x ∷ r)) (type_rows 0 l) (type_row before x) rest zs is rows)
      ∙ cell_behind (type_rows 0 l) (type_row before x ++ (rest ++ (zs ++ is))) i j (omega (arith, length_types 0 l))
      ∙ get_or-append (type_row before x) (rest ++ (zs ++ is)) 0 j h

  -- the inputs of x
  type_inputs : length (l ++ x ∷ r) * 5 ≤ inputs_from_lem → cells_at table (inputs_from_lem + before) (length (shape_inputs x)) ≡ shape_inputs x
  unfolding cells_of
  type_inputs room =
      let rs : List ℕ = padded inputs_from_lem (type_rows 0 (l ++ x ∷ r)) in
      let zs : List ℕ = replicate (n - inputs_from_lem - length (inputs_of (l ++ x ∷ r))) 0 in
      let long : length rs ≡ inputs_from_lem = length-padded inputs_from_lem (type_rows 0 (l ++ x ∷ r)) (rw (length_types 0 (l ++ x ∷ r)) room) in
      let there : length (rs ++ inputs_of l) ≡ inputs_from_lem + before = omega (arith, length-append rs (inputs_of l)) in
      ap (λ (v : List ℕ). cells_at v (inputs_from_lem + before) (length (shape_inputs x))) (inputs_apart rs (inputs_of (l ++ x ∷ r)) (inputs_of l) (shape_inputs x) (inputs_of r) zs (cells_append shape_inputs l (x ∷ r)))
      ∙ ap (λ (v : List ℕ). take (length (shape_inputs x)) v) (drop_at (rs ++ inputs_of l) (shape_inputs x ++ (inputs_of r ++ zs)) (inputs_from_lem + before) there)
      ∙ take_at (shape_inputs x) (inputs_of r ++ zs) (length (shape_inputs x)) refl

  -- the type x
  type_at : length (l ++ x ∷ r) * 5 ≤ inputs_from_lem → made_at table (length l) ≡ x
  unfolding made_at
  type_at room =
      let i = length l * 5 in
      rw (type_cell i 0 (omega arith) (omega arith), type_cell (i + 1) 1 refl (omega arith), type_cell (i + 2) 2 refl (omega arith), type_cell (i + 3) 3 refl (omega arith), type_cell (i + 4) 4 refl (omega arith), type_inputs room) (shape_back x)

-- the types r behind the types l are read back
types_back : (n : ℕ) (l r : List Shape) → length (l ++ r) * 5 ≤ inputs_from_lem → tab (λ j. made_at (type_table n (l ++ r)) (length l + j)) (length r) ≡ r
types_back n l [] room = refl
types_back n l (x ∷ r) room =
    let t = type_table n (l ++ x ∷ r) in
    let e : (l ++ x ∷ []) ++ r ≡ l ++ x ∷ r = append_assoc l (x ∷ []) r in
    let one : length (l ++ x ∷ []) ≡ suc (length l) = omega (arith, length-append l (x ∷ [])) in
    let z : length l + 0 ≡ length l = omega arith in
    let next : tab (λ j. made_at (type_table n ((l ++ x ∷ []) ++ r)) (length (l ++ x ∷ []) + j)) (length r) ≡ r = types_back n (l ++ x ∷ []) r (rw e room) in
    let first : made_at t (length l + 0) ≡ x = ap (made_at t) z ∙ type_at n l r x room in
    let rest : tab (λ j. made_at t (length l + suc j)) (length r) ≡ r =
    tab_ext (λ j. made_at t (length (l ++ x ∷ []) + j)) (λ j. made_at t (length l + suc j)) (length r) (λ j h. let y : length l + suc j ≡ length (l ++ x ∷ []) + j = omega arith in ap (made_at t) y) ∙ rw e at next in
    rw (first, rest)

-- the made types are read back from their table
pub made_back : (n : ℕ) (made : List Shape) → length made * 5 ≤ inputs_from_lem → tab (made_at (type_table n made)) (length made) ≡ made
made_back n made room =
    let t = type_table n made in
    tab_ext (λ j. made_at t (0 + j)) (made_at t) (length made) (λ j h. let z : j ≡ 0 + j = omega arith in ap (made_at t) z) ∙ types_back n [] made room

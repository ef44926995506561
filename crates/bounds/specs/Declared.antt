-- The types that the `type` lines of a well-formed body declare: the line i gives the row i + 14, of the shape that the line says; and what the body runs behind them. Assumes nothing.
use Rattle.std.specs.Prelude.{◌≡◌, List, [], ◌∷◌, ◌++◌, map, Bool, cond, eqb, leb, length, get_or}
use Rattle.std.proofs.Math.Path.{refl, ap}
use Rattle.std.proofs.Common.{sym, ◌∙◌, zero-add, add-zero}
use Rattle.std.proofs.Math.Option.{Option, none, some}
use Rattle.std.proofs.Math.Bool.{true, false}
use Rattle.std.proofs.lemmas.Bool.{false≢true}
use Prim.Native.Nat.{ℕ, suc, zero, ◌+◌, ◌-◌, ◌<◌, ◌≤◌}
use native.Mathlib.Omega.{arith}
use borrow.Author.Tests.{eq-eqb, lt-ltb, ltb-true, ltb-false, leb-true}
use Rattle.std.proofs.Math.Dec.{ltb}
use Rattle.std.proofs.Math.ListN.{length-append}
use Rattle.theory.specs.Rules.{inst, Shape, base, arr, fn, fun, nil, row, head}
use Rattle.theory.specs.Program.{made_of, equal_numbers, equal_rows, first_equal, all_below, sane, clip, done, intern, appended, pooled, interned, run, ◌>>=◌, run_bind}
use Rattle.theory.specs.Basics.{All, clash, and_both}
use Rattle.theory.specs.Pool.{equal_rows_same}
use Rattle.theory.proofs.Pool.{first_some}
use Rattle.theory.specs.Lift.{row_old, row_new}
use Rattle.theory.specs.Start.{start}
use Rattle.type_table.specs.Memory.{pick}
use Rattle.type_table.specs.Sound.{fixed_types}
use Rattle.forms.specs.Form.{forms, no_form, form_at, kind_at, key_type, LowType}
use Rattle.refs.specs.declared.Counts.{Counts}
use Rattle.refs.specs.Refs.{form_in, first_in, count_in, value_in}
use Rattle.nodes.specs.Nodes.{count_behind, numbers_from, type_row_of, type_row_at, fn_line}
use Rattle.record.specs.Own.{Own}
use Rattle.record.specs.Steps.{State, Walk, Step, array_of, fn_def_lem, instance, make_function, for_each}
use Rattle.resolve.specs.Resolve.{declare_type, declare_types, params, typeck, resolve_nodes, body_with, type_body}
use Rattle.well_formed.specs.Good.{WellFormed, behind}
use Rattle.well_formed.specs.Counting.{each, each_at}
use Rattle.well_formed.specs.Levels.{low_type, type_good}
use Rattle.well_formed.proofs.Distinct.{array_once, inst_once, fn_once}
use Rattle.bounds.specs.Weights.{kind_by}

-- ── definitions ──

-- the type that the type line i declares: array,E; fun,SPAN,OUT,IN..; inst,K; fn,D
unfoldable pub line_shape : List ℕ → List ℕ → ℕ → Shape
line_shape rows cells i =
    let f = first_in rows i in
    pick (eqb (form_in rows i) 0) (arr (value_in cells f))
    (pick (eqb (form_in rows i) 1) (fun (value_in cells f) (value_in cells (f + 1)) (numbers_from cells (f + 2) (count_in rows i - 2)))
    (pick (eqb (form_in rows i) 2) (base (inst (value_in cells f)))
    (fn (value_in cells f))))

-- the fixed types, and those that the first k type lines declare
unfoldable pub declared : List ℕ → List ℕ → ℕ → List Shape
declared rows cells zero = fixed_types
declared rows cells (suc k) = declared rows cells k ++ line_shape rows cells k ∷ []

-- what a body runs behind its type lines
abbrev pub behind_types : Counts → List ℕ → List ℕ → Step
behind_types n rows cells = do
  _ ← params rows cells (fn_line rows cells).params
  _ ← typeck (body_with n rows cells) (fn_line rows cells).body.0
  resolve_nodes n.nodes

-- ── the table ──

module _ (rows cells : List ℕ) where
  -- 14 types, and one for each line
  pub declared_length : (k : ℕ) → length (declared rows cells k) ≡ 14 + k
  unfolding declared
  declared_length zero = refl
  declared_length (suc k) = omega (arith, length-append (declared rows cells k) (line_shape rows cells k ∷ []), declared_length k)

  -- the line i is the type i + 14
  pub declared_row : (k i : ℕ) → i < k → row (declared rows cells k) (14 + i) ≡ line_shape rows cells i
  unfolding declared
  declared_row zero i h = absurd (omega arith)
  declared_row (suc k) i h = by (ltb i k) refl (declared_row k i)
    where
      by : (c : Bool) → ltb i k ≡ c → (i < k → row (declared rows cells k) (14 + i) ≡ line_shape rows cells i)
          → row (declared rows cells k ++ line_shape rows cells k ∷ []) (14 + i) ≡ line_shape rows cells i
      by true e again =
          let l : i < k = ltb-true i k e in
          row_old (declared rows cells k) (line_shape rows cells k) (14 + i) (omega (arith, declared_length k)) ∙ again l
      by false e again =
          let same : i ≡ k = omega (arith, ltb-false i k e) in
          row_new (declared rows cells k) (line_shape rows cells k) (14 + i) (omega (arith, declared_length k)) ∙ ap (line_shape rows cells) (sym same)

  -- the fixed types stay
  pub declared_fixed : (k x : ℕ) → x < 14 → row (declared rows cells k) x ≡ row fixed_types x
  unfolding declared
  declared_fixed zero x h = refl
  declared_fixed (suc k) x h = row_old (declared rows cells k) (line_shape rows cells k) x (omega (arith, declared_length k)) ∙ declared_fixed k x h

-- what holds of each row of a table and of Nil holds of any row
pub row_all : (P : Shape → Type 0) (l : List Shape) → All P l → P (base nil) → (x : ℕ) → P (row l x)
row_all P [] h d x = d
row_all P (s ∷ l) h d zero = h.0
row_all P (s ∷ l) h d (suc x) = row_all P l h.1 d x

-- no fixed type is made
fixed_made : (x : ℕ) → made_of (row fixed_types x) ≡ none
fixed_made = row_all (λ s. made_of s ≡ none) fixed_types (search) refl

-- ── numbers of fields ──

-- fields that are below m are all below m
numbers-below : (m : ℕ) (cells : List ℕ) (j k : ℕ) → ((c : ℕ) → c < k → value_in cells (j + c) < m) → all_below m (numbers_from cells j k) ≡ true
unfolding numbers_from
numbers-below m cells j zero h = refl
numbers-below m cells j (suc k) h =
    let now : value_in cells j < m = rw (add-zero j) at (h 0 (omega arith)) in
    rw (lt-ltb (value_in cells j) m now)
    (numbers-below m cells (suc j) k (λ c l. let e : suc j + c ≡ j + suc c = omega arith in rw e (h (suc c) (omega arith))))

-- and are not clipped
numbers_clip : (m : ℕ) (cells : List ℕ) (j k : ℕ) → ((c : ℕ) → c < k → value_in cells (j + c) < m) → map (clip m) (numbers_from cells j k) ≡ numbers_from cells j k
unfolding numbers_from
numbers_clip m cells j zero h = refl
numbers_clip m cells j (suc k) h =
    let now : value_in cells j < m = rw (add-zero j) at (h 0 (omega arith)) in
    rw (lt-ltb (value_in cells j) m now)
    (ap (λ (l : List ℕ). value_in cells j ∷ l)
    (numbers_clip m cells (suc j) k (λ c l. let e : suc j + c ≡ j + suc c = omega arith in rw e (h (suc c) (omega arith)))))

-- a line of 2 to 18 fields has all fields but the first 2 behind these
count_behind_lem : (c : ℕ) → 2 ≤ c → c ≤ 18 → count_behind c 2 ≡ c - 2
unfolding count_behind
count_behind_lem c l h = by (leb c 2) refl
  where
    by : (b : Bool) → leb c 2 ≡ b → pick b 0 (pick (ltb (c - 2) 255) (c - 2) 255) ≡ c - 2
    by true e = omega (arith, leb-true c 2 e)
    by false e = rw (lt-ltb (c - 2) 255 (omega arith))

-- ── made types ──

-- a type that no row is equal to by value is a new row
interned_new : (t : Shape) (s : State) → sane (length s.rows) t ≡ true → ((x : ℕ) → x < length s.rows → equal_rows (row s.rows x) t ≡ true → ⊥)
    → interned t s ≡ (length s.rows, appended t s)
unfolding interned
interned_new t s made new = rw made (by (first_equal 0 s.rows t) refl)
  where
    by : (o : Option ℕ) → first_equal 0 s.rows t ≡ o → pooled t o s ≡ (length s.rows, appended t s)
    by none e = refl
    by (some r) e = let f = first_some s.rows t r e in absurd (new r f.in_table f.equal)

-- a type is made, and that is all
abbrev made_by : Walk ℕ → Step
made_by p = ◌>>=◌ p (λ u. done tt)

-- making it ends with an answer
intern_new : (t : Shape) (s : State) → sane (length s.rows) t ≡ true → ((x : ℕ) → x < length s.rows → equal_rows (row s.rows x) t ≡ true → ⊥)
    → run (made_by (intern t done)) s ≡ (some tt, appended t s)
unfolding run ◌>>=◌
intern_new t s made new = rw (interned_new t s made new)

-- a function type of inputs that are rows is made of them as they are
function_step : (a o : ℕ) (is : List ℕ) (s : State) → map (clip (length s.rows)) is ≡ is
    → run (made_by (make_function a o is)) s ≡ run (made_by (intern (fun a o is) done)) s
unfolding run ◌>>=◌ make_function
function_step a o is s e = rw e

-- what is made of no number is equal to nothing by value
not_made_left : (s t : Shape) → made_of s ≡ none → equal_rows s t ≡ true → ⊥
not_made_left s t m e = false≢true (rw m at (and_both (eqb (head s) (head t)) (equal_numbers (made_of s) (made_of t)) e).1)

-- nor is anything to it
not_made_right : (s t : Shape) → made_of t ≡ none → equal_rows s t ≡ true → ⊥
not_made_right s t m e = by (made_of s) (rw m at (and_both (eqb (head s) (head t)) (equal_numbers (made_of s) (made_of t)) e).1)
  where
    by : (o : Option ℕ) → equal_numbers o none ≡ true → ⊥
    by none z = false≢true z
    by (some a) z = false≢true z

-- ── a line ──

-- a type line by its form
pub data Line (rows cells : List ℕ) (i : ℕ) : Type 0 where
  array : form_in rows i ≡ 0 → line_shape rows cells i ≡ arr (value_in cells (first_in rows i)) → Line rows cells i
  function : form_in rows i ≡ 1
      → line_shape rows cells i ≡ fun (value_in cells (first_in rows i)) (value_in cells (first_in rows i + 1)) (numbers_from cells (first_in rows i + 2) (count_in rows i - 2)) → Line rows cells i
  instance_of : form_in rows i ≡ 2 → line_shape rows cells i ≡ base (inst (value_in cells (first_in rows i))) → Line rows cells i
  definition : form_in rows i ≡ 3 → line_shape rows cells i ≡ fn (value_in cells (first_in rows i)) → Line rows cells i

-- only the forms 0 to 3 have the key `type`
only_types : ℕ → Bool
only_types f = cond (eqb (get_or forms f no_form).key key_type) (ltb f 4) true

-- a form of the key `type`
type_form : (f : ℕ) → f < 30 → (get_or forms f no_form).key ≡ key_type → f < 4
unfolding each only_types forms
type_form f h k = ltb-true f 4 (by (eqb (get_or forms f no_form).key key_type) (eq-eqb _ _ k) (each_at 30 only_types f refl h))
  where
    by : (q : Bool) → q ≡ true → cond q (ltb f 4) true ≡ true → ltb f 4 ≡ true
    by true z e = e
    by false z e = absurd (false≢true z)

module _ (n : Counts) (rows cells : List ℕ) (w : WellFormed n rows cells) where
  -- the form of a type line
  pub line : (i : ℕ) → i < n.types → Line rows cells i
  unfolding line_shape
  line i h = by (form_in rows i) refl (type_form (form_in rows i) (type_good n rows cells w i h).form (type_good n rows cells w i h).key)
    where
      by : (f : ℕ) → form_in rows i ≡ f → f < 4 → Line rows cells i
      by zero e l = array e (rw e)
      by (suc zero) e l = function e (rw e)
      by (suc (suc zero)) e l = instance_of e (rw e)
      by (suc (suc (suc zero))) e l = definition e (rw e)
      by (suc (suc (suc (suc f)))) e l = absurd (omega arith)

  -- two lines that declare one type, which is no function, are one line
  line_once : (i j : ℕ) → i < n.types → j < n.types → line_shape rows cells j ≡ line_shape rows cells i → (made_of (line_shape rows cells i) ≡ none → ⊥) → i ≡ j
  line_once i j hi hj e made = by (line i hi) (line j hj)
    where
      by : Line rows cells i → Line rows cells j → i ≡ j
      by (array f p) (array g q) = array_once n rows cells w i j hi hj f g (cc)
      by (array f p) (function g q) = clash (cc)
      by (array f p) (instance_of g q) = clash (cc)
      by (array f p) (definition g q) = clash (cc)
      by (function f p) l = absurd (made (ap made_of p))
      by (instance_of f p) (array g q) = clash (cc)
      by (instance_of f p) (function g q) = clash (cc)
      by (instance_of f p) (instance_of g q) = inst_once n rows cells w i j hi hj f g (cc)
      by (instance_of f p) (definition g q) = clash (cc)
      by (definition f p) (array g q) = clash (cc)
      by (definition f p) (function g q) = clash (cc)
      by (definition f p) (instance_of g q) = clash (cc)
      by (definition f p) (definition g q) = fn_once n rows cells w i j hi hj f g (cc)

  -- no fixed type and no type of an earlier line is equal to that of a line
  line_new : (i : ℕ) → i < n.types → (x : ℕ) → x < 14 + i → equal_rows (row (declared rows cells i) x) (line_shape rows cells i) ≡ true → ⊥
  line_new i h x l e = by (ltb x 14) refl
    where
      later : 14 ≤ x → ⊥
      later k =
          let j : 14 + (x - 14) ≡ x = omega arith in
          let q : row (declared rows cells i) x ≡ line_shape rows cells (x - 14) = rw j at (declared_row rows cells i (x - 14) (omega arith)) in
          let same : i ≡ x - 14 =
          line_once i (x - 14) h (omega arith) (sym q ∙ equal_rows_same (row (declared rows cells i) x) (line_shape rows cells i) e)
          (λ m. not_made_right (row (declared rows cells i) x) (line_shape rows cells i) m e) in
          omega arith

      by : (c : Bool) → ltb x 14 ≡ c → ⊥
      by true p = not_made_left (row (declared rows cells i) x) (line_shape rows cells i) (ap made_of (declared_fixed rows cells i x (ltb-true x 14 p)) ∙ fixed_made x) e
      by false p = later (ltb-false x 14 p)

  -- a type in a line is a lower row
  low_field : (i : ℕ) → i < n.types → (f : ℕ) → form_in rows i ≡ f → (j : ℕ) → j < count_in rows i → kind_at (form_at f) j ≡ LowType → value_in cells (first_in rows i + j) < 14 + i
  unfolding behind
  low_field i h f e j l k =
      omega (arith, low_type (behind n key_type i) (kind_at (form_at (form_in rows i)) j) (first_in rows i + j) rows cells (rw e k) ((type_good n rows cells w i h).fields j l))

  -- E of an array is a lower row
  pub array_lower : (i : ℕ) → i < n.types → form_in rows i ≡ 0 → value_in cells (first_in rows i) < 14 + i
  unfolding form_at forms kind_at
  array_lower i h f =
      let l : 1 ≤ count_in rows i = rw f at (type_good n rows cells w i h).least in
      rw (add-zero (first_in rows i)) at (low_field i h 0 f 0 l refl)

  -- a fun has OUT,
  fun_least : (i : ℕ) → i < n.types → form_in rows i ≡ 1 → 2 ≤ count_in rows i
  unfolding form_at forms
  fun_least i h f = rw f at (type_good n rows cells w i h).least

  -- and at most 16 inputs
  fun_most : (i : ℕ) → i < n.types → form_in rows i ≡ 1 → count_in rows i ≤ 18
  unfolding form_at forms
  fun_most i h f = rw f at (type_good n rows cells w i h).most

  -- OUT of a fun is a lower row,
  pub output_lower : (i : ℕ) → i < n.types → form_in rows i ≡ 1 → value_in cells (first_in rows i + 1) < 14 + i
  unfolding form_at forms kind_at
  output_lower i h f = low_field i h 1 f 1 (omega (arith, fun_least i h f)) refl

  -- and so is each IN
  pub inputs_lower : (i : ℕ) → i < n.types → form_in rows i ≡ 1 → (c : ℕ) → c < count_in rows i - 2 → value_in cells (first_in rows i + 2 + c) < 14 + i
  unfolding form_at forms
  inputs_lower i h f c l =
      let e : first_in rows i + 2 + c ≡ first_in rows i + (2 + c) = omega arith in
      rw e (low_field i h 1 f (2 + c) (omega arith)
      (kind_by (λ k. k ≡ LowType) (form_at 1) (2 + c) (λ z. absurd (omega arith)) (λ z. absurd (omega arith)) refl refl))

  -- the type of a line is made of lower rows
  line_sane : (i : ℕ) → i < n.types → sane (14 + i) (line_shape rows cells i) ≡ true
  line_sane i h = by (line i h)
    where
      by : Line rows cells i → sane (14 + i) (line_shape rows cells i) ≡ true
      by (array f p) = rw (p, lt-ltb (value_in cells (first_in rows i)) (14 + i) (array_lower i h f))
      by (function f p) = rw (p, lt-ltb (value_in cells (first_in rows i + 1)) (14 + i) (output_lower i h f), numbers-below (14 + i) cells (first_in rows i + 2) (count_in rows i - 2) (inputs_lower i h f))
      by (instance_of f p) = rw p
      by (definition f p) = rw p

  module _ (own : Own) where
    -- the type of a line is the next row
    line_row : (i : ℕ) → i < n.types → run (made_by (intern (line_shape rows cells i) done)) (start (declared rows cells i) own) ≡ (some tt, start (declared rows cells (suc i)) own)
    unfolding start appended declared
    line_row i h =
        intern_new (line_shape rows cells i) (start (declared rows cells i) own) (rw (declared_length rows cells i) (line_sane i h))
        (λ x l. line_new i h x (omega (arith, declared_length rows cells i)))

    -- a type line adds its type and nothing else
    line_declared : (i : ℕ) → i < n.types → run (declare_type rows cells i) (start (declared rows cells i) own) ≡ (some tt, start (declared rows cells (suc i)) own)
    unfolding declare_type type_row_at type_row_of array_of instance fn_def_lem start
    line_declared i h = by (line i h)
      where
        by : Line rows cells i → run (declare_type rows cells i) (start (declared rows cells i) own) ≡ (some tt, start (declared rows cells (suc i)) own)
        by (array f p) = rw (f, ← p) (line_row i h)
        by (function f p) =
            rw (f, count_behind_lem (count_in rows i) (fun_least i h f) (fun_most i h f))
            (function_step _ _ _ (start (declared rows cells i) own)
            (rw (declared_length rows cells i) (numbers_clip (14 + i) cells (first_in rows i + 2) (count_in rows i - 2) (inputs_lower i h f)))
            ∙ rw (← p) (line_row i h))
        by (instance_of f p) = rw (f, lt-ltb (value_in cells (first_in rows i)) 64 (omega (arith, w.insts_there i h f, w.limited.insts)), ← p) (line_row i h)
        by (definition f p) = rw (f, lt-ltb (value_in cells (first_in rows i)) 256 (omega (arith, w.defs_there i h f, w.limited.defs)), ← p) (line_row i h)

    -- so do k lines from i on
    lines_declared : (k i : ℕ) → i + k ≤ n.types → run (for_each i k (declare_type rows cells)) (start (declared rows cells i) own) ≡ (some tt, start (declared rows cells (i + k)) own)
    unfolding for_each run
    lines_declared zero i h = rw (add-zero i)
    lines_declared (suc k) i h =
        let e : i + suc k ≡ suc i + k = omega arith in
        run_bind (declare_type rows cells i) (λ u. for_each (suc i) k (declare_type rows cells)) (start (declared rows cells i) own)
        ∙ rw (line_declared i (omega arith), e) (lines_declared k (suc i) (omega arith))

    -- the type lines of a body add the type of each, in order, and nothing else, and end with an answer
    pub types_declared : run (declare_types rows cells n.types) (start fixed_types own) ≡ (some tt, start (declared rows cells n.types) own)
    unfolding declare_types declared
    types_declared = rw (zero-add n.types) at (lines_declared n.types 0 (omega arith))

    -- the state behind the type lines
    abbrev pub behind_types_lem : State
    behind_types_lem = (run (declare_types rows cells n.types) (start fixed_types own)).1

    -- its types are the fixed ones and one for each line
    types_rows : behind_types_lem.rows ≡ declared rows cells n.types
    unfolding start
    types_rows = ap (λ (r : Option (Unit {0}) × State). r.1.rows) types_declared

    -- the type lines end with an answer,
    pub types_end : (run (declare_types rows cells n.types) (start fixed_types own)).0 ≡ some tt
    types_end = ap (λ (r : Option (Unit {0}) × State). r.0) types_declared

    -- behind them there are 14 types and one for each line,
    pub types_count : length behind_types_lem.rows ≡ 14 + n.types
    types_count = ap length types_rows ∙ declared_length rows cells n.types

    -- and the line i is the type i + 14
    pub type_number : (i : ℕ) → i < n.types → row behind_types_lem.rows (14 + i) ≡ line_shape rows cells i
    type_number i h = ap (λ (l : List Shape). row l (14 + i)) types_rows ∙ declared_row rows cells n.types i h

    -- a body is what it runs behind its type lines, from the fixed types and one for each line
    pub body_behind : run (type_body n rows cells) (start fixed_types own) ≡ run (behind_types n rows cells) (start (declared rows cells n.types) own)
    unfolding type_body
    body_behind = rw (run_bind (declare_types rows cells n.types) (λ u. behind_types n rows cells) (start fixed_types own), types_declared)

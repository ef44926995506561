-- What each return of the functions of `check` shows.
use Rattle.std.specs.Prelude.{Err, Ok, Result}
use mathlib.Core.Path.{◌≡◌, refl, sym, ap, subst, ◌∙◌}
use mathlib.Core.Logic.{⊎_elim}
use mathlib.Core.List.{List, [], ◌∷◌, ◌++◌, append-nil}
use mathlib.Core.Bool.{true, false}
use Prim.Native.Nat.{ℕ, ◌+◌, ◌-◌, ◌≤◌, ◌<◌}
use native.Mathlib.Omega.{arith}
use lib.ListN.{length, take, drop, length-append, length-replicate, replicate}
use lib.Seq.{length_front, sets, sets-eq, drop-length, drop_at, take_at, length-take-le}
use borrow.Author.Tests.{lt-ltb, le-ltb}
use Rattle.theory.specs.Rules.{Shape, base, var, arr, ref, fn, fun, lam, err, div}
use Rattle.type_table.specs.Sound.{state_of}
use Rattle.type_table.specs.Tables.{length-rows, length_kinds}
use Rattle.refs.specs.declared.Counts.{Counts}
use Rattle.body.specs.declared.Answer.{Answer as Reading}
use Rattle.body.specs.declared.Answer.TheVariants as reading
use Rattle.body.specs.Body.{most_bytes, rows_length, cells_length, body_of, Held as Read, lines_from, first, Ended, refused, read, settle}
use Rattle.body.specs.Body as body
use Rattle.lex.specs.Text.{parts_from}
use Rattle.nodes.specs.Nodes.{fn_line}
use Rattle.forms.specs.declared.Fault.{Fault}
use Rattle.record.specs.declared.Record.{Record}
use Rattle.record.specs.Steps.{State}
use Rattle.record.specs.Encodes.{Encodes, Fits, input_count, input_total}
use Rattle.record.specs.Runs.{rows_are}
use Rattle.record.specs.Regions.{length_errors}
use Rattle.resolve.specs.Body.{last_state, BodyTyped, TypedBy}
use Rattle.well_formed.specs.Good.{WellFormed}
use Rattle.well_formed.proofs.Claims.{when_1, when_2, well_formed_on_0}
use Rattle.bounds.proofs.Claims.{typed_in_memory, never_full, equations_bound, made_count, made_inputs}
use Rattle.errors.specs.declared.ErrorRow.{ErrorRow}
use Rattle.errors.specs.Rows.{row_in, filled_to, zero_row}
use Rattle.errors.proofs.Filling.{filled_state, filled_none}
use Rattle.tables.specs.Rows.{padded, zeros, cells_of}
use Rattle.tables.specs.Types.{shape_inputs, inputs_of}
use Rattle.answers.specs.declared.Answer.{Answer}
use Rattle.answers.specs.declared.Answer.TheVariants as answer
use Rattle.answers.specs.declared.Walked.{Walked}
use Rattle.answers.specs.declared.Walked.TheVariants as walked
use Rattle.answers.specs.Lent.{Lent, lent, cleared, too_short, held, made_types, totals, filled, emptied, lent_with, handed_with}
use Rattle.checker.specs.Check.{typed, reading_of, check_of}
use Rattle.checker.specs.Answers.{read_well_formed}
use Rattle.answers.specs.Lengths.{Long, not_short}
use Rattle.answers.specs.Parts.{counted, Filled, HandedAs, HandedBack, HandsErrors}
use Rattle.checker.specs.Parts.{ReadAs, WalkRead, WalkedAs, WalkedIn, FileAs, CellsWalked, FileWalked, TablesChecked, record_of, EndedAs, WalkChecked}
use Rattle.checker.specs.declared.Ended.{Ended as Ended-as-C}
use Rattle.record.specs.declared.Refusal.{Refusal}

-- ── a body that was typed ──

-- the record's counts are those of the state
pub counted_totals : (m : List ℕ) (c : Record) (s : State) (n : Counts) → Encodes m c s → counted n c ≡ totals n s
unfolding state_of
counted_totals m c s n e =
    let t : length s.rows ≡ c.counts.types = ap length (rows_are e) ∙ length-rows m c.counts.types in
    let v : length s.kinds ≡ c.counts.vars = ap (λ (x : State). length x.kinds) (sym e.tables) ∙ length_kinds m c.counts.vars in
    let k : length s.errs ≡ c.errors = ap length e.errors ∙ length_errors m c.errors in
    rw (t, v, k, e.equations)

-- a row has as many inputs as are counted for it
inputs_count : (x : Shape) → length (shape_inputs x) ≡ input_count x
inputs_count (base b) = refl
inputs_count (var v) = refl
inputs_count (arr e) = refl
inputs_count (ref e) = refl
inputs_count (fn d) = refl
inputs_count (fun s o i) = refl
inputs_count (lam n o i) = refl
inputs_count err = refl
inputs_count div = refl

-- and so have all rows together
inputs_total : (l : List Shape) → length (inputs_of l) ≡ input_total l
unfolding cells_of input_total
inputs_total [] = refl
inputs_total (x ∷ l) = rw (length-append (shape_inputs x) (inputs_of l), inputs_count x, inputs_total l)

module _ (n : Counts) (rows cells : List ℕ) (w : WellFormed n rows cells) (l : Lent) (long : Long l) where
  -- the state in which the body ends
  abbrev last : State
  last = last_state n rows cells

  -- it is within all limits
  fits : Fits last
  fits = never_full n rows cells w (fn_line rows cells).output.0

  -- the inputs of the made types are at most one for each node
  inputs_fit : length (inputs_of (made_types n last)) ≤ n.nodes
  inputs_fit = rw (inputs_total (made_types n last)) (made_inputs n rows cells w (fn_line rows cells).output.0)

  -- the tables that were filled are those of the state in which the body ends
  tables_filled : (m : List ℕ) (c : Record) (u : Lent) → length m ≡ length l.memory → u.rows ≡ padded (length l.rows) rows → u.cells ≡ padded (length l.cells) cells → u.memory ≡ zeros l.memory
      → u.errors ≡ filled_to l.errors (row_in m c.errors) (length l.errors) → Encodes m c last
      → Filled m c n l.nodes l.vars l.types l.log u.nodes u.vars u.types u.log → u ≡ filled n rows cells last l
  unfolding filled
  tables_filled m c u size x y z k e f =
      let a = f.nodes_filled.fills last e (w.limited.nodes, omega (arith, long.nodes, w.limited.nodes)) in
      let b = f.vars_filled.fills last e (omega (arith, fits.vars, long.vars)) in
      let d = (f.types_filled w.limited.types).fills last e (omega (arith, made_count n rows cells w (fn_line rows cells).output.0), omega (arith, inputs_fit, w.limited.nodes, long.types)) in
      let g = k ∙ filled_state m c last l.errors e (omega (arith, fits.errors, long.errors)) in
      let h = f.log_filled.fills last e (omega (arith, equations_bound n rows cells w (fn_line rows cells).output.0, w.limited.nodes, size, long.memory)) in
      rw (← x, ← y, ← a, ← b, ← d, ← g, ← h, ← z)

-- ── reading and typing ──

module _ (n : Counts) (rows cells m m' : List ℕ) (r : Result Record Refusal) (b : BodyTyped m m' r n rows cells) where
  -- a body that ends without a refusal
  pub walk_done : (c : Record) → r ≡ Ok c → WalkRead n rows cells m (walked.Typed n c) m'
  walk_done c e = record { by = λ w large. (refl, typed_in_memory n rows cells w m m' (Ok c) large (rw e at b)) }

  -- a body that is refused
  pub walk_refused : (q : Refusal) → r ≡ Err q → WalkRead n rows cells m (walked.Declined q.number q.record q.node) m'
  walk_refused q e = record { by = λ w large. typed_in_memory n rows cells w m m' (Err q) large (rw e at b) }

-- of tables that are long enough the reader takes the lengths alone
reading_lengths : (s rows cells rows' cells' : List ℕ) → length s ≤ most_bytes → rows_length ≤ length rows → cells_length ≤ length cells → length rows' ≡ length rows → length cells' ≡ length cells
    → body_of s rows cells ≡ body_of s rows' cells'
unfolding body_of
reading_lengths s rows cells rows' cells' h a b p q =
    rw (le-ltb most_bytes (length s) h, p, q, le-ltb (length rows) rows_length a, le-ltb (length cells) cells_length b)
    (settled (lines_from (parts_from 10 0 s) 1 first (zeros cells) (zeros rows)))
  where
    settled : (e : Ended) → settle e rows cells ≡ settle e rows' cells'
    settled (refused f k) = rw (p, q)
    settled (read n c r) = refl

-- so those of zeros
reading_zeros : (s rows cells : List ℕ) (n k : ℕ) → length s ≤ most_bytes → rows_length ≤ n → cells_length ≤ k → length rows ≡ n → length cells ≡ k
    → body_of s rows cells ≡ body_of s (replicate n 0) (replicate k 0)
reading_zeros s rows cells n k h a b p q =
    reading_lengths s rows cells (replicate n 0) (replicate k 0) h (omega arith) (omega arith) (length-replicate {A = ℕ} n 0 ∙ sym p) (length-replicate {A = ℕ} k 0 ∙ sym q)

-- what stood in the tables does not matter
reading_is : (s rows cells : List ℕ) → length s ≤ most_bytes → length rows ≡ rows_length → length cells ≡ cells_length → body_of s rows cells ≡ reading_of s
unfolding reading_of
reading_is s rows cells h p q = reading_zeros s rows cells rows_length cells_length h (omega arith) (omega arith) p q

module _ (s rows cells m : List ℕ) (a : Reading) (rows' cells' : List ℕ) (e : body.held a rows' cells' ≡ body_of s rows cells) where
  -- a body that was read, by what typing gave
  walk_by : (n : Counts) → body.held (reading.Body n) rows' cells' ≡ reading_of s → (w : Walked) (m' : List ℕ) → ReadAs n rows' cells' w m' → WalkedAs s w rows' cells' m'
  walk_by n g (walked.Typed k c) m' t = (ap (λ (i : Counts). body.held (reading.Body i) rows' cells') t.0 ∙ g, subst (λ (i : Counts). TypedBy m' (Ok c) i rows' cells') (sym t.0) t.1)
  walk_by n g (walked.Declined k c p) m' t = (n, g, t)
  walk_by n g (walked.Refused x k) m' t = absurd t
  walk_by n g walked.Unread m' t = absurd t

  -- a body that was read
  pub walked_body : (n : Counts) (w : Walked) (m' : List ℕ) → a ≡ reading.Body n → WalkRead n rows' cells' m w m' → WalkedIn s rows cells m w rows' cells' m'
  walked_body n w m' g t = record {
    by = λ h p q large.
        let f : WellFormed n rows' cells' = rw (← e) at (well_formed_on_0 s rows cells n (ap (λ (z : Read). z.answer) (sym e) ∙ g)) in
        walk_by n (rw g at e ∙ reading_is s rows cells h p q) w m' (t.by f large);
  }

  -- 3 to 6
  pub walked_refused : (x : Fault) (k : ℕ) → a ≡ reading.Refused x k → WalkedIn s rows cells m (walked.Refused x k) rows' cells' m
  walked_refused x k g = record { by = λ h p q large. ap (λ (z : Read). z.answer) (sym (reading_is s rows cells h p q) ∙ sym e) ∙ g }

  -- 1 and 2 are not met
  pub walked_long : a ≡ reading.TooLong → WalkedIn s rows cells m walked.Unread rows' cells' m
  walked_long g = record { by = λ h p q large. let b = (when_1 s rows cells).0 (ap (λ (z : Read). z.answer) (sym e) ∙ g) in omega arith }

  pub walked_short : a ≡ reading.ShortTable → WalkedIn s rows cells m walked.Unread rows' cells' m
  walked_short g = record {
    by = λ h p q large. ⊎_elim (λ v. omega arith) (λ v. omega arith) ((when_2 s rows cells).0 (ap (λ (z : Read). z.answer) (sym e) ∙ g)).1;
  }

-- ── a file ──

module _ (s : List ℕ) (n : ℕ) (l : Lent) where
  -- 1
  pub check_long : most_bytes < length s → TablesChecked s n l answer.TooLong l
  unfolding check_of filled_to
  check_long h = record { with_errors_lem = λ e k. rw (lt-ltb most_bytes (length s) h) }

  -- 2
  pub check_short : length s ≤ most_bytes → ((e : List ErrorRow) → length e ≡ n → too_short (lent_with e l) ≡ true) → TablesChecked s n l answer.ShortTable l
  unfolding check_of filled_to
  check_short h q = record { with_errors_lem = λ e k. rw (le-ltb most_bytes (length s) h, q e k) }

-- a table whose cells from n on are zeros: what stands behind, and the length of the rest
behind_zero : (t z : List ℕ) (n : ℕ) → n ≤ length t → z ≡ sets t n (replicate (length t - n) 0) → (drop n z ≡ replicate (length t - n) 0) × (length (take n z) ≡ n)
behind_zero t z n h e =
    let v : List ℕ = replicate (length t - n) 0 in
    let k : n + length v ≡ length t = omega (arith, length-replicate {A = ℕ} (length t - n) 0) in
    let g : z ≡ take n t ++ v = e ∙ sets-eq v t n (omega arith) ∙ rw (k, drop-length t) (append-nil (take n t ++ v)) in
    let i : length (take n t) ≡ n = length-take-le n t h in
    (rw g (drop_at (take n t) v n i), rw g (rw (take_at (take n t) v n i) i))

-- the first part of such a table, changed, is padded to its length
whole_padded : (t z a : List ℕ) (n : ℕ) → n ≤ length t → z ≡ sets t n (replicate (length t - n) 0) → length a ≡ length (take n z) → a ++ drop n z ≡ padded (length t) a
whole_padded t z a n h e k = let b = behind_zero t z n h e in rw (b.0, k, b.1)

-- and the whole has its length
pub whole_length : (t z a : List ℕ) (n : ℕ) → length z ≡ length t → length a ≡ length (take n z) → length (a ++ drop n z) ≡ length t
whole_length t z a n e k = length_front z a n k ∙ e

-- a part of a table that is long enough
pub part_fits : (t z : List ℕ) (n : ℕ) → n ≤ length t → length z ≡ length t → n ≤ length z
part_fits t z n h e = rw e h

-- its length
pub part_length : (t z : List ℕ) (n : ℕ) → n ≤ length t → length z ≡ length t → n ≡ length (take n z)
part_length t z n h e = sym (length-take-le n z (part_fits t z n h e))

-- of tables that are cleared only the lengths count
cleared_lengths : (l u : Lent) (rows cells m : List ℕ) → length rows ≡ length l.rows → length cells ≡ length l.cells → length m ≡ length l.memory
    → u ≡ emptied (lent rows cells l.nodes l.vars l.types [] l.log m)
    → lent u.rows u.cells u.nodes u.vars u.types (filled_to l.errors (row_in m 0) (length l.errors)) u.log (zeros m) ≡ cleared l
unfolding cleared emptied
cleared_lengths l u rows cells m a b c e = rw (e, filled_none m l.errors, a, b, c)

-- what reading and typing gave in a table of fields of just its length
cells_by : (s rows cells z a b m : List ℕ) (n : ℕ) → n ≤ length cells → z ≡ sets cells n (replicate (length cells - n) 0) → length b ≡ length (take n z)
    → (w : Walked) → WalkedAs s w a b m → FileAs s w ((a ≡ (reading_of s).rows) × (b ++ drop n z ≡ padded (length cells) (reading_of s).cells)) m
cells_by s rows cells z a b m n q f y (walked.Typed i d) g = (
  ap (λ (o : Read). o.answer) (sym g.0),
  (ap (λ (o : Read). o.rows) g.0, whole_padded cells z b n q f y ∙ ap (λ (o : Read). padded (length cells) o.cells) g.0),
  subst (λ (o : Read). TypedBy m (Ok d) i o.rows o.cells) g.0 g.1,
)
cells_by s rows cells z a b m n q f y (walked.Declined k d i) g =
    (g.0, ap (λ (o : Read). o.answer) (sym g.1), subst (λ (o : Read). TypedBy m (Err (record { number = k; «record» = d; node = i })) g.0 o.rows o.cells) g.1 g.2)
cells_by s rows cells z a b m n q f y (walked.Refused o k) g = g
cells_by s rows cells z a b m n q f y walked.Unread g = absurd g

-- the whole table of fields
pub cells_walked : (s rows cells m z : List ℕ) (w : Walked) (a b m' : List ℕ) (n : ℕ) → n ≡ cells_length → z ≡ sets cells n (replicate (length cells - n) 0) → length b ≡ length (take n z)
    → WalkedIn s rows (take n z) m w a b m' → CellsWalked s rows cells m w a (b ++ drop n z) m'
cells_walked s rows cells m z w a b m' n t f y g = record {
  by = λ h p q large.
      let k : n ≤ length cells = omega arith in
      cells_by s rows cells z a b m' n k f y w (g.by h p ((behind_zero cells z n k f).1 ∙ t) large);
}

-- what it gave in a table of rows of just its length
rows_by : (s rows z a c m : List ℕ) (k n : ℕ) → n ≤ length rows → z ≡ sets rows n (replicate (length rows - n) 0) → length a ≡ length (take n z)
    → (w : Walked) → FileAs s w ((a ≡ (reading_of s).rows) × (c ≡ padded k (reading_of s).cells)) m
    → FileAs s w ((a ++ drop n z ≡ padded (length rows) (reading_of s).rows) × (c ≡ padded k (reading_of s).cells)) m
rows_by s rows z a c m k n p e x (walked.Typed i d) g = (g.0, (whole_padded rows z a n p e x ∙ ap (λ (o : List ℕ). padded (length rows) o) g.1.0, g.1.1), g.2)
rows_by s rows z a c m k n p e x (walked.Declined i d o) g = g
rows_by s rows z a c m k n p e x (walked.Refused o i) g = g
rows_by s rows z a c m k n p e x walked.Unread g = absurd g

-- the whole table of rows
pub rows_walked : (s rows cells m z : List ℕ) (w : Walked) (a c m' : List ℕ) (n : ℕ) → n ≡ rows_length → z ≡ sets rows n (replicate (length rows - n) 0) → length a ≡ length (take n z)
    → CellsWalked s (take n z) cells m w a c m' → FileWalked s rows cells m w (a ++ drop n z) c m'
rows_walked s rows cells m z w a c m' n t e x g = record {
  by = λ h p q large.
      let k : n ≤ length rows = omega arith in
      rows_by s rows z a c m' (length cells) n k e x w (g.by h ((behind_zero rows z n k e).1 ∙ t) q large);
}

-- tables that are too short are not met
pub few_rows : (s rows cells m : List ℕ) (n : ℕ) → n ≡ rows_length → length rows < n → FileWalked s rows cells m walked.Unread rows cells m
few_rows s rows cells m n t b = record { by = λ h p q large. omega arith }

pub few_cells : (s rows cells m : List ℕ) (n : ℕ) → n ≡ cells_length → length cells < n → CellsWalked s rows cells m walked.Unread rows cells m
few_cells s rows cells m n t b = record { by = λ h p q large. omega arith }

-- ── answers and tables ──

module _ (s : List ℕ) (l : Lent) (h : length s ≤ most_bytes) (q : too_short l ≡ false) (rows cells m : List ℕ) (x : length rows ≡ length l.rows) (y : length cells ≡ length l.cells)
    (v : length m ≡ length l.memory) where
  -- the tables behind reading and typing
  abbrev behind_walk : Lent
  behind_walk = lent rows cells l.nodes l.vars l.types [] l.log m

  -- by what reading and typing gave
  check_by : (w : Walked) → FileAs s w ((rows ≡ padded (length l.rows) (reading_of s).rows) × (cells ≡ padded (length l.cells) (reading_of s).cells)) m → (r : Answer) (u : Lent)
      → u.memory ≡ m → HandedAs w behind_walk r u → held r (handed_with r l.errors u) ≡ check_of s l
  unfolding check_of typed
  check_by (walked.Typed n d) g r u k t =
      let p = tables_filled n (reading_of s).rows (reading_of s).cells (read_well_formed s n g.0) l (not_short l q) m d
      (lent u.rows u.cells u.nodes u.vars u.types (filled_to l.errors (row_in m d.errors) (length l.errors)) u.log (zeros m)) v (t.1 ∙ g.1.0) (t.2 ∙ g.1.1)
      (ap (λ (o : ℕ). replicate o 0) v) refl g.2.1 t.3 in
      rw (le-ltb most_bytes (length s) h, q, g.0, g.2.0, t.0, k, p, counted_totals m d (last_state n (reading_of s).rows (reading_of s).cells) n g.2.1)
  check_by (walked.Declined z d p) g r u k t = rw (le-ltb most_bytes (length s) h, q, g.1, g.2.0, g.2.1, t.0, k, cleared_lengths l u rows cells m x y v t.1)
  check_by (walked.Refused o z) g r u k t = rw (le-ltb most_bytes (length s) h, q, g, t.0, k, cleared_lengths l u rows cells m x y v t.1)
  check_by walked.Unread g r u k t = absurd g

-- the result of a check
pub check_done : (s : List ℕ) (n : ℕ) (l : Lent) → length s ≤ most_bytes → ((e : List ErrorRow) → length e ≡ n → too_short (lent_with e l) ≡ false) → (rows cells m : List ℕ)
    → length rows ≡ length l.rows → length cells ≡ length l.cells → length m ≡ length l.memory → (w : Walked) (r : Answer) (u : Lent) → FileWalked s l.rows l.cells l.memory w rows cells m
    → u.memory ≡ m → HandedBack w (lent rows cells l.nodes l.vars l.types [] l.log m) r u → TablesChecked s n l r u
check_done s n l h q rows cells m x y v w r u g k t = record {
  with_errors_lem = λ e z.
      let long = not_short (lent_with e l) (q e z) in
      check_by s (lent_with e l) h (q e z) rows cells m x y v w (g.by h long.rows long.cells (omega (arith, long.memory))) r u k t.by;
}

-- with the errors and the memory that are handed back
pub check_law : (s : List ℕ) (e : List ErrorRow) (l : Lent) (r : Answer) (u : Lent) (f : List ErrorRow) (v : List ℕ) → TablesChecked s (length e) l r u → HandsErrors r e u.memory f v
    → held r (lent u.rows u.cells u.nodes u.vars u.types f u.log v) ≡ check_of s (lent_with e l)
check_law s e l r u f v p h = rw (h.0, h.1) (p.with_errors_lem e refl)

-- ── the record of the walk ──

ended_by_lem : (s : List ℕ) (T : Type 0) (m : List ℕ) (w : Walked) → FileAs s w T m → (l : Lent) (r : Answer) (u : Lent) → HandedAs w l r u → EndedAs s r (record_of w) m
ended_by_lem s T m (walked.Typed n d) g l r u t = rw t.0 (n, g.0, g.2)
ended_by_lem s T m (walked.Declined k d p) g l r u t = rw t.0 (g.0, g.1, g.2)
ended_by_lem s T m (walked.Refused x k) g l r u t = rw t.0 tt
ended_by_lem s T m walked.Unread g l r u t = absurd g

-- the state in which the walk ended
walk_ended : (s : List ℕ) (n : ℕ) (l : Lent) → length s ≤ most_bytes → ((e : List ErrorRow) → length e ≡ n → too_short (lent_with e l) ≡ false) → (rows cells m : List ℕ) (w : Walked) (r : Answer) (u : Lent) (c : Record)
    → FileWalked s l.rows l.cells l.memory w rows cells m → u.memory ≡ m → HandedBack w (lent rows cells l.nodes l.vars l.types [] l.log m) r u → c ≡ record_of w → EndedAs s r c u.memory
walk_ended s n l h q rows cells m w r u c g k t e =
    let long = not_short (lent_with (replicate n zero_row) l) (q (replicate n zero_row) (length-replicate {A = ErrorRow} n zero_row)) in
    rw (k, e) (ended_by_lem s _ m w (g.by h long.rows long.cells (omega (arith, long.memory))) (lent rows cells l.nodes l.vars l.types [] l.log m) r u t.by)

-- both
pub walk_checked : (s : List ℕ) (n : ℕ) (l : Lent) (r : Ended-as-C) (u : Lent) → length s ≤ most_bytes → ((e : List ErrorRow) → length e ≡ n → too_short (lent_with e l) ≡ false) → (rows cells m : List ℕ)
    → length rows ≡ length l.rows → length cells ≡ length l.cells → length m ≡ length l.memory → (w : Walked) → FileWalked s l.rows l.cells l.memory w rows cells m
    → u.memory ≡ m → HandedBack w (lent rows cells l.nodes l.vars l.types [] l.log m) r.answer u → r.record ≡ record_of w → WalkChecked s n l r u
walk_checked s n l r u h q rows cells m x y v w g k t e = record { tables = check_done s n l h q rows cells m x y v w r.answer u g k t; ended = walk_ended s n l h q rows cells m w r.answer u r.record g k t e }

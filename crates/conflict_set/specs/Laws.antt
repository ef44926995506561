-- What the promises of this crate rest on, over plain variables.
use Rattle.std.specs.Prelude.{◌≡◌, ◌≢◌, List, [], ◌∷◌, ◌++◌, map, Bool, cond, length, set, replicate, ltb, eqb, None, Option as Option·R, Some}
use Rattle.std.proofs.Math.Path.{refl, sym, ap, fun_ext}
use Rattle.std.proofs.Common.{subst, ◌∙◌, length-set, get_or-set_same, get_or-set_other}
use Rattle.std.proofs.Math.Option.{Option, none, some}
use Rattle.std.proofs.Math.Bool.{true, false}
use Prim.Native.Nat.{ℕ, suc, zero, ◌+◌, ◌-◌, ◌*◌, ◌/◌, ◌%◌, ◌≤◌, ◌<◌}
use native.Mathlib.Omega.{arith}
use Rattle.std.proofs.Math.Decide.{dec_lt, ℕ_discrete}
use Rattle.std.proofs.Math.ListN.{get_or-eq_default}
use borrow.Author.Tests.{lt-ltb, le-ltb, lt-leb, ne_eqb}
use Rattle.theory.specs.Rules.{base, nil, Shape, Out, success, mismatch, refused12, refused13, dry, Mem, Pair, Res, onward, row}
use Rattle.theory.specs.Program.{clip}
use Rattle.theory.specs.Solve.{solves}
use Rattle.theory.specs.Basics.{clash, and_both}
use Rattle.type_table.specs.declared.Counts.{Counts}
use Rattle.type_table.specs.declared.TypeId.{TypeId}
use Rattle.type_table.specs.Memory.{pick, tab, cells, most_types, most_vars, cell, kind_at, kinds_of, binding_at, mark_at, binds_of, marks_of, mem_of}
use Rattle.type_table.specs.Memory.{head_at, number_at, output_at, first_at, count_at, inputs_from, shape_of}
use Rattle.type_table.specs.Tables.{length-rows}
use Rattle.type_table.specs.Frames.{rows_low, kinds_kept}
use Rattle.type_table.specs.Heads.{head_low, shape_cases, row_by}
use Rattle.record.specs.Own.{log_at}
use Rattle.unify.specs.Promise.{rows_in, kinds_in, mem_in, held_in, solve_in, answer_is, Solved}
use Rattle.unify.specs.declared.Answer.{Answer}
use Rattle.conflict_theory.specs.Test.{is_success, blank, unified}
use Rattle.conflict_theory.specs.Code.{onward_success, fall_on, keep_in, added, falls, scan_in}
use Rattle.conflict_theory.specs.Plains.{plain_shape, is_diverges, plain_in, is_plain, are_plain}
use Rattle.conflict_set.specs.In.{Whole, Kept, pair_in, node_in, cells_from, list_in, is_failed, first_behind, worked_in, all_from, plain_to, plain_head, got_plain, added_in, unified_in, went, reopened, Told, AddedBy, solves_in, AllAddedBy, SolvedBy, stop_is, FellBy, conflict_in, ScannedBy, Going, Falling, Scanning}

-- ── what stays ──

pub kept_self : (m : List ℕ) (c : Counts) → Kept m c m
kept_self m c = record { size = refl; same = λ i h. refl }

pub kept_on : (m : List ℕ) (c : Counts) (w u : List ℕ) → Kept m c w → Kept w c u → Kept m c u
kept_on m c w u a b = record { size = b.size ∙ a.size; same = λ i h. b.same i h ∙ a.same i h }

module _ (m : List ℕ) (c : Counts) (w : List ℕ) (k : Kept m c w) (h : Whole m c) where
  pub whole_on : Whole w c
  whole_on = record { size = omega (arith, k.size, h.size); types = h.types; vars = h.vars }

  above : (i : ℕ) → 5120 ≤ i → cell w i ≡ cell m i
  above i g = k.same i (λ v j a b d e. omega (arith, h.vars))

  below : (v : ℕ) → cell w (v * 5 + 0) ≡ cell m (v * 5 + 0)
  below v = k.same (v * 5 + 0) (λ u j a b d e. omega arith)

  pub rows_on : rows_in w c ≡ rows_in m c
  rows_on = rows_low m w c.types above

  pub kinds_on : kinds_in w c ≡ kinds_in m c
  kinds_on = kinds_kept m w c.vars (λ v g. below v)

  pub pairs_on : pair_in w c ≡ pair_in m c
  unfolding pair_in
  pairs_on = fun_ext (λ i. rw (above (log_at + i * 3) (omega arith), above (log_at + i * 3 + 1) (omega arith)) refl)

  pub nodes_on : node_in w ≡ node_in m
  unfolding node_in
  nodes_on = fun_ext (λ i. rw (above (log_at + i * 3 + 2) (omega arith)) refl)

-- ── one equation ──

went_is : (o : Out) → went (answer_is o) ≡ is_success o
went_is success = refl
went_is mismatch = refl
went_is refused12 = refl
went_is refused13 = refl
went_is dry = refl

held_whole : (m : List ℕ) (c : Counts) → Whole m c → held_in m c ≡ c
unfolding held_in
held_whole m c h = rw (le-ltb (length m) cells h.size, le-ltb most_types c.types h.types, le-ltb most_vars c.vars h.vars) refl

zero_of : (b : Bool) → ◌≡◌ {A = ℕ} (cond b 0 0) 0
zero_of true = refl
zero_of false = refl

clip_twice : (n x : ℕ) → clip n (clip n x) ≡ clip n x
clip_twice n x = by (dec_lt x n)
  where
    by : Dec (x < n) → clip n (clip n x) ≡ clip n x
    by (yes h) = rw (lt-ltb x n h, lt-ltb x n h) refl
    by (no h) = rw (le-ltb x n (omega arith)) (zero_of (ltb 0 n))

pub add_law : (m : List ℕ) (c : Counts) (i : ℕ) (x y : TypeId) (w : List ℕ) (a : Answer) (r : Bool) → x.0 ≡ (pair_in m c i).0 → y.0 ≡ (pair_in m c i).1 → Solved m c x y w a → r ≡ went a → AddedBy m c i w r
unfolding pair_in solve_in
add_law m c i x y w a r p q s e =
    record {
      by = λ h.
          let d = held_whole m c h in
          let t = rw d at s in
          record {
            kept = record { size = t.frame.size; same = t.frame.same };
            answer = rw (e, t.answer, p, q, clip_twice c.types (cell m (log_at + i * 3)), clip_twice c.types (cell m (log_at + i * 3 + 1))) (went_is (added_in m c i).0);
            memory = rw (t.memory, p, q, clip_twice c.types (cell m (log_at + i * 3)), clip_twice c.types (cell m (log_at + i * 3 + 1))) refl;
          };
    }

-- ── loops over tests ──

module _ (f : ℕ → Bool) (i n : ℕ) where
  pub first_hit : i < n → f i ≡ true → first_behind f i (n - i) ≡ i + 1
  unfolding first_behind
  first_hit h e = let d : n - i ≡ suc (n - (i + 1)) = omega arith in let z : suc i ≡ i + 1 = omega arith in rw (d, e, z) refl

  pub first_on : i < n → f i ≡ false → first_behind f i (n - i) ≡ first_behind f (i + 1) (n - (i + 1))
  unfolding first_behind
  first_on h e = let d : n - i ≡ suc (n - (i + 1)) = omega arith in let z : suc i ≡ i + 1 = omega arith in rw (d, e, z) refl

  pub first_end : n ≤ i → first_behind f i (n - i) ≡ 0
  unfolding first_behind
  first_end h = let d : n - i ≡ 0 = omega arith in rw d refl

  pub all_on : i < n → f i ≡ true → all_from f i (n - i) ≡ all_from f (i + 1) (n - (i + 1))
  unfolding all_from
  all_on h e = let d : n - i ≡ suc (n - (i + 1)) = omega arith in let z : suc i ≡ i + 1 = omega arith in rw (d, e, z) refl

  pub all-stop : i < n → f i ≡ false → all_from f i (n - i) ≡ false
  unfolding all_from
  all-stop h e = let d : n - i ≡ suc (n - (i + 1)) = omega arith in rw (d, e) refl

  pub all_end : n ≤ i → all_from f i (n - i) ≡ true
  unfolding all_from
  all_end h = let d : n - i ≡ 0 = omega arith in rw d refl

-- ── plain rows ──

plain_shape_lem : (g : ℕ → Bool) (h a o : ℕ) (i : List ℕ) → h < 15 → plain_shape g (shape_of h a o i) ≡ pick (eqb h 8) (g a) (plain_head h)
unfolding plain_head
plain_shape_lem g h a o i l = shape_cases h a o i l (λ s. plain_shape g s ≡ pick (eqb h 8) (g a) (plain_head h)) (λ e. rw e refl) (λ e. rw e refl) (λ e. rw e refl) (λ e. rw e refl) (λ e. rw e refl) (λ e. rw e refl) (λ e. rw e refl) (λ e. rw e refl) (λ e. rw e refl) (λ e. rw e refl) (λ e. rw e refl) (λ e. rw e refl) (λ e. rw e refl) (λ e. rw e refl) (λ e. rw e refl)

diverges_shape : (h a o : ℕ) (i : List ℕ) → h < 15 → is_diverges (shape_of h a o i) ≡ eqb h 11
diverges_shape h a o i l = shape_cases h a o i l (λ s. is_diverges s ≡ eqb h 11) (λ e. rw e refl) (λ e. rw e refl) (λ e. rw e refl) (λ e. rw e refl) (λ e. rw e refl) (λ e. rw e refl) (λ e. rw e refl) (λ e. rw e refl) (λ e. rw e refl) (λ e. rw e refl) (λ e. rw e refl) (λ e. rw e refl) (λ e. rw e refl) (λ e. rw e refl) (λ e. rw e refl)

module _ (m : List ℕ) (c : Counts) where
  -- the head, and the number, of a row
  abbrev head_in : ℕ → ℕ
  head_in y = head_at m c.types y

  -- the number of a row
  abbrev number_in : ℕ → ℕ
  number_in y = number_at m c.types y

  plain_step : (n y : ℕ) → plain_in (rows_in m c) (suc n) y ≡ pick (eqb (head_in y) 8) (plain_in (rows_in m c) n (number_in y)) (plain_head (head_in y))
  unfolding plain_in
  plain_step n y =
      ap (plain_shape (plain_in (rows_in m c) n)) (row_by m c.types y)
      ∙ plain_shape_lem (plain_in (rows_in m c) n) (head_in y) (number_in y) (output_at m c.types y) (inputs_from m (first_at m c.types y) (count_at m c.types y)) (head_low m c.types y)

  pub plain_end : (n y h : ℕ) (r : Bool) → h ≡ head_in y → h ≢ 8 → r ≡ plain_head h → r ≡ plain_in (rows_in m c) (suc n) y
  plain_end n y h r e k p = rw (plain_step n y, ← e, ne_eqb h 8 k) p

  pub plain_stop : (n y h : ℕ) → h ≡ head_in y → h ≡ 8 → n ≡ 0 → false ≡ plain_in (rows_in m c) (suc n) y
  unfolding plain_in
  plain_stop n y h e k z = rw (z, plain_step 0 y, ← e, k) refl

  pub plain_on : (n y h a : ℕ) → h ≡ head_in y → h ≡ 8 → n ≢ 0 → a ≡ number_in y → plain_in (rows_in m c) (suc n) y ≡ plain_in (rows_in m c) (suc (n - 1)) a
  plain_on n y h a e k z p = let d : n ≡ suc (n - 1) = omega arith in rw (plain_step n y, ← e, k, p) (ap (λ j. plain_in (rows_in m c) j (number_in y)) d)

  -- an array is plain as its element is, in one step less
  pub plain_next : (n y h a : ℕ) → h ≡ head_in y → h ≡ 8 → a ≡ number_in y → plain_in (rows_in m c) (suc n) y ≡ plain_in (rows_in m c) n a
  plain_next n y h a e k p = rw (plain_step n y, ← e, k, p) refl

  -- no step is left
  pub plain_zero : (y : ℕ) → false ≡ plain_in (rows_in m c) 0 y
  unfolding plain_in
  plain_zero y = refl

  diverges_row : (y : ℕ) → is_diverges (row (rows_in m c) y) ≡ eqb (head_in y) 11
  diverges_row y = ap is_diverges (row_by m c.types y) ∙ diverges_shape (head_in y) (number_in y) (output_at m c.types y) (inputs_from m (first_at m c.types y) (count_at m c.types y)) (head_low m c.types y)

  pub got_yes : (y h : ℕ) → h ≡ head_in y → h ≡ 11 → true ≡ got_plain (rows_in m c) y
  unfolding got_plain
  got_yes y h e k = rw (diverges_row y, ← e, k) refl

  pub got_no : (y h : ℕ) (r : Bool) → h ≡ head_in y → h ≢ 11 → r ≡ is_plain (rows_in m c) y → r ≡ got_plain (rows_in m c) y
  unfolding got_plain
  got_no y h r e k p = rw (diverges_row y, ← e, ne_eqb h 11 k) p

-- ── reopened ──

cell_zero : (m : List ℕ) (i : ℕ) → cell (set m i 0) i ≡ 0
cell_zero m i = by (dec_lt i (length m))
  where
    by : Dec (i < length m) → cell (set m i 0) i ≡ 0
    by (yes h) = get_or-set_same m i 0 0 h
    by (no h) = get_or-eq_default (set m i 0) 0 {n = i} (omega (arith, length-set m i 0))

cell_else : (m : List ℕ) (i j a : ℕ) → j ≢ i → cell (set m i a) j ≡ cell m j
cell_else m i j a h = get_or-set_other m i j a 0 h

pub reopened_on : (m : List ℕ) (v : ℕ) → set (set (reopened m v) (v * 5 + 2) 0) (v * 5 + 4) 0 ≡ reopened m (v + 1)
unfolding reopened
reopened_on m v = let z : v + 1 ≡ suc v = omega arith in rw z refl

-- nothing but bindings and marks
pub reopened_kept : (m : List ℕ) (c : Counts) (n : ℕ) → n ≤ c.vars → Kept m c (reopened m n)
unfolding reopened
reopened_kept m c zero h = kept_self m c
reopened_kept m c (suc n) h =
    let k = reopened_kept m c n (omega arith) in
    let w = reopened m n in
    record {
      size = length-set (set w (n * 5 + 2) 0) (n * 5 + 4) 0 ∙ length-set w (n * 5 + 2) 0 ∙ k.size;
      same = λ i o. cell_else (set w (n * 5 + 2) 0) (n * 5 + 4) i 0 (o n 4 (omega arith) (omega arith) (omega arith)) ∙ cell_else w (n * 5 + 2) i 0 (o n 2 (omega arith) (omega arith) (omega arith)) ∙ k.same i o;
    }

reopened_cell : (m : List ℕ) (n v : ℕ) → v < n → (cell (reopened m n) (v * 5 + 2) ≡ 0) × (cell (reopened m n) (v * 5 + 4) ≡ 0)
unfolding reopened
reopened_cell m zero v h = absurd (omega arith)
reopened_cell m (suc n) v h = by (ℕ_discrete v n) (λ g. reopened_cell m n v g)
  where
    w : List ℕ
    w = reopened m n

    by : Dec (v ≡ n) → (v < n → (cell (reopened m n) (v * 5 + 2) ≡ 0) × (cell (reopened m n) (v * 5 + 4) ≡ 0)) → (cell (set (set (reopened m n) (n * 5 + 2) 0) (n * 5 + 4) 0) (v * 5 + 2) ≡ 0) × (cell (set (set (reopened m n) (n * 5 + 2) 0) (n * 5 + 4) 0) (v * 5 + 4) ≡ 0)
    by (yes e) f = rw e (cell_else (set (reopened m n) (n * 5 + 2) 0) (n * 5 + 4) (n * 5 + 2) 0 (λ q. omega arith) ∙ cell_zero (reopened m n) (n * 5 + 2), cell_zero (set (reopened m n) (n * 5 + 2) 0) (n * 5 + 4))
    by (no e) f =
        let g = f (omega arith) in (
          cell_else (set (reopened m n) (n * 5 + 2) 0) (n * 5 + 4) (v * 5 + 2) 0 (λ q. omega arith) ∙ cell_else (reopened m n) (n * 5 + 2) (v * 5 + 2) 0 (λ q. e (omega arith)) ∙ g.0,
          cell_else (set (reopened m n) (n * 5 + 2) 0) (n * 5 + 4) (v * 5 + 4) 0 (λ q. e (omega arith)) ∙ cell_else (reopened m n) (n * 5 + 2) (v * 5 + 4) 0 (λ q. omega arith) ∙ g.1,
        )

tab_length : {A : Type 0} (f : ℕ → A) (n : ℕ) → length (tab f n) ≡ n
tab_length f zero = refl
tab_length f (suc n) = ap suc (tab_length (λ i. f (suc i)) n)

tab_same : {A : Type 0} (f : ℕ → A) (a : A) (n : ℕ) → ((v : ℕ) → v < n → f v ≡ a) → tab f n ≡ replicate n a
tab_same f a zero h = refl
tab_same f a (suc n) h = rw (h 0 (omega arith)) (ap (λ l. a ∷ l) (tab_same (λ i. f (suc i)) a n (λ v l. h (suc v) (omega arith))))

-- nothing bound, nothing marked
pub reopened_mem : (m : List ℕ) (n : ℕ) → mem_of (reopened m n) n ≡ blank n
unfolding mem_of binds_of marks_of binding_at mark_at blank
reopened_mem m n =
    rw (tab_same (binding_at (reopened m n) n) none n (λ v h. rw (lt-leb n v h, (reopened_cell m n v h).0) refl), tab_same (mark_at (reopened m n) n) false n (λ v h. rw (lt-leb n v h, (reopened_cell m n v h).1) refl)) refl

-- ── the log ──

pub side_0 : (m : List ℕ) (c : Counts) (i x r : ℕ) → x ≡ cell m (log_at + i * 3) → r ≡ clip c.types x → r ≡ (pair_in m c i).0
unfolding pair_in
side_0 m c i x r e d = rw (d, e) refl

pub side_1 : (m : List ℕ) (c : Counts) (i x r : ℕ) → x ≡ cell m (log_at + i * 3 + 1) → r ≡ clip c.types x → r ≡ (pair_in m c i).1
unfolding pair_in
side_1 m c i x r e d = rw (d, e) refl

pub failed_1 : (a d : ℕ) → a ≡ d → a % 16 ≡ 1 → true ≡ is_failed d
unfolding is_failed
failed_1 a d e k = rw (← e, k) refl

pub failed_12 : (a d : ℕ) → a ≡ d → a % 16 ≡ 12 → true ≡ is_failed d
unfolding is_failed
failed_12 a d e k = rw (← e, k) refl

pub failed_not : (a d : ℕ) → a ≡ d → a % 16 ≢ 1 → a % 16 ≢ 12 → false ≡ is_failed d
unfolding is_failed
failed_not a d e k l = rw (← e, ne_eqb (a % 16) 1 k, ne_eqb (a % 16) 12 l) refl

pub node_law : (m : List ℕ) (i a : ℕ) → a ≡ cell m (log_at + i * 3 + 2) → a / 16 ≡ node_in m i
unfolding node_in
node_law m i a e = rw e refl

pub worked_start : (m : List ℕ) (q : ℕ) → worked_in m q ≡ first_behind (λ i. is_failed (cell m (log_at + i * 3 + 2))) 0 (q - 0)
unfolding worked_in
worked_start m q = let d : q - 0 ≡ q = omega arith in rw d refl

pub plains_start : (m : List ℕ) (c : Counts) (n : ℕ) → plain_to m c n ≡ all_from (λ i. are_plain (rows_in m c) (pair_in m c i)) 0 (n - 0)
unfolding plain_to
plains_start m c n = let d : n - 0 ≡ n = omega arith in rw d refl

pub sides_yes : (rows : List Shape) (p : Pair) (x y : ℕ) (r : Bool) → x ≡ p.0 → y ≡ p.1 → true ≡ is_plain rows x → r ≡ got_plain rows y → r ≡ are_plain rows p
unfolding are_plain got_plain
sides_yes rows p x y r e d k l = rw (← e, ← d, ← k) l

pub sides_no : (rows : List Shape) (p : Pair) (x : ℕ) → x ≡ p.0 → false ≡ is_plain rows x → false ≡ are_plain rows p
unfolding are_plain
sides_no rows p x e k = rw (← e, ← k) refl

-- what is no row is plain
pub past_plain : (m : List ℕ) (c : Counts) (x : ℕ) → c.types ≤ x → is_plain (rows_in m c) x ≡ true
unfolding is_plain plain_in
past_plain m c x h = rw (get_or-eq_default (rows_in m c) (base nil) {n = x} (omega (arith, h, length-rows m c.types))) refl

-- the sides are plain, so is the expected one
pub expected_of : (rows : List Shape) (p : Pair) → are_plain rows p ≡ true → is_plain rows p.0 ≡ true
unfolding are_plain
expected_of rows p e = (and_both (is_plain rows p.0) _ e).0

module _ (m : List ℕ) (c : Counts) (n : ℕ) where
  -- the row `known` is plain, and the first i equations have plain sides, if there are so few rows
  abbrev pub Tested : ℕ → ℕ → Type 0
  Tested known i = c.types ≤ 65535 → (is_plain (rows_in m c) known ≡ true) × (plain_to m c n ≡ all_from (λ j. are_plain (rows_in m c) (pair_in m c j)) i (n - i))

  pub tested_start : Tested 65535 0
  tested_start h = (past_plain m c 65535 h, plains_start m c n)

  module _ (known i : ℕ) (t : Tested known i) (less : i < n) where
    pub tested_on : (x : ℕ) → x ≡ (pair_in m c i).0 → (is_plain (rows_in m c) known ≡ true → true ≡ are_plain (rows_in m c) (pair_in m c i)) → Tested x (i + 1)
    tested_on x e f h = let g = t h in let p = sym (f g.0) in (rw e (expected_of (rows_in m c) (pair_in m c i) p), g.1 ∙ all_on (λ j. are_plain (rows_in m c) (pair_in m c j)) i n less p)

    pub tested_stop : (is_plain (rows_in m c) known ≡ true → false ≡ are_plain (rows_in m c) (pair_in m c i)) → c.types ≤ 65535 → false ≡ plain_to m c n
    tested_stop f h = let g = t h in sym (g.1 ∙ all-stop (λ j. are_plain (rows_in m c) (pair_in m c j)) i n less (sym (f g.0)))

  pub tested_end : (known i : ℕ) → Tested known i → n ≤ i → c.types ≤ 65535 → true ≡ plain_to m c n
  tested_end known i t l h = sym ((t h).1 ∙ all_end (λ j. are_plain (rows_in m c) (pair_in m c j)) i n l)

-- a row that is known to be plain
pub known_yes : (rows : List Shape) (x known : ℕ) → x ≡ known → is_plain rows known ≡ true → true ≡ is_plain rows x
known_yes rows x known e k = rw e (sym k)

pub reopened_turn : (m₀ m m₁ m₂ : List ℕ) (v : ℕ) → m ≡ reopened m₀ v → m₁ ≡ set m (v * 5 + 2) 0 → m₂ ≡ set m₁ (v * 5 + 4) 0 → m₂ ≡ reopened m₀ (v + 1)
reopened_turn m₀ m m₁ m₂ v e p q = rw (q, p, e) (reopened_on m₀ v)

pub reopened_end : (m₀ m : List ℕ) (n v : ℕ) → m ≡ reopened m₀ v → v ≤ n → n ≤ v → m ≡ reopened m₀ n
reopened_end m₀ m n v e p q = let z : v ≡ n = omega arith in e ∙ ap (reopened m₀) z

-- ── adding one after the other ──

module _ (m₀ : List ℕ) (c : Counts) (h : Whole m₀ c) (m : List ℕ) (k : Kept m₀ c m) (i : ℕ) (w : List ℕ) (r : Bool) (a : AddedBy m c i w r) where
  -- an equation added later, over the tables of the first memory
  abbrev later : Res
  later = added (rows_in m₀ c) (kinds_in m₀ c) (pair_in m₀ c) (mem_in m c) i

  later_is : added_in m c i ≡ later
  later_is = rw (rows_on m₀ c m k h, kinds_on m₀ c m k h, pairs_on m₀ c m k h) refl

  told : Told m c w r (added_in m c i)
  told = a.by (whole_on m₀ c m k h)

  later_kept : Kept m₀ c w
  later_kept = kept_on m₀ c m w k told.kept

  later_answer : r ≡ is_success later.0
  later_answer = told.answer ∙ ap (λ (x : Res). is_success x.0) later_is

  later_memory : mem_in w c ≡ later.1
  later_memory = told.memory ∙ ap (λ (x : Res). x.1) later_is

onward_no : (o : Out) (m : Mem) (f : Mem → Res) → false ≡ is_success o → onward o m f ≡ (o, m)
onward_no success m f e = clash (cc)
onward_no mismatch m f e = refl
onward_no refused12 m f e = refl
onward_no refused13 m f e = refl
onward_no dry m f e = refl

module _ (m₀ : List ℕ) (c : Counts) (s : List ℕ) (k : ℕ) where
  -- the numbers to add
  abbrev list : List ℕ
  list = list_in s k

  -- after i of them
  abbrev pub Goes : List ℕ → ℕ → Type 0
  Goes m i = Whole m₀ c → Going m₀ c list (cells_from s i (k - i)) m

  pub goes_start : Goes m₀ 0
  goes_start h = let d : k - 0 ≡ k = omega arith in rw d (record { kept = kept_self m₀ c; same = refl })

  module _ (m : List ℕ) (i q : ℕ) (w : List ℕ) (less : i < k) (e : q ≡ cell s i) (g : Goes m i) where
    next-is : cells_from s i (k - i) ≡ q ∷ cells_from s (i + 1) (k - (i + 1))
    unfolding cells_from
    next-is = let d : k - i ≡ suc (k - (i + 1)) = omega arith in let z : suc i ≡ i + 1 = omega arith in rw (d, e, z) refl

    pub goes_on : AddedBy m c q w true → Goes w (i + 1)
    unfolding solves
    goes_on a h =
        let x = rw next-is at (g h) in
        let l = later m₀ c h m x.kept q w true a in
        record {
          kept = later_kept m₀ c h m x.kept q w true a;
          same = rw (later_memory m₀ c h m x.kept q w true a) (sym (onward_success l.0 l.1 (λ m'. solves (rows_in m₀ c) (kinds_in m₀ c) (map (pair_in m₀ c) (cells_from s (i + 1) (k - (i + 1)))) m') (sym (later_answer m₀ c h m x.kept q w true a))) ∙ x.same);
        }

    pub goes_stop : AddedBy m c q w false → AllAddedBy m₀ c list w false
    unfolding solves
    goes_stop a =
        record {
          by = λ h.
              let x = rw next-is at (g h) in
              let l = later m₀ c h m x.kept q w false a in
              let y = sym x.same ∙ onward_no l.0 l.1 (λ m'. solves (rows_in m₀ c) (kinds_in m₀ c) (map (pair_in m₀ c) (cells_from s (i + 1) (k - (i + 1)))) m') (later_answer m₀ c h m x.kept q w false a) in
              record {
                kept = later_kept m₀ c h m x.kept q w false a;
                answer = later_answer m₀ c h m x.kept q w false a ∙ ap (λ (z : Res). is_success z.0) (sym y);
                memory = later_memory m₀ c h m x.kept q w false a ∙ ap (λ (z : Res). z.1) (sym y);
              };
        }

  pub goes_end : (m : List ℕ) (i : ℕ) → k ≤ i → Goes m i → AllAddedBy m₀ c list m true
  unfolding solves cells_from
  goes_end m i l g =
      record {
        by = λ h.
            let d : k - i ≡ 0 = omega arith in
            let x = rw d at (g h) in
            record { kept = x.kept; answer = ap (λ (z : Res). is_success z.0) x.same; memory = ap (λ (z : Res). z.1) x.same };
      }

-- as many kinds as variables
pub kinds_count : (m : List ℕ) (c : Counts) → length (kinds_in m c) ≡ c.vars
unfolding kinds_of
kinds_count m c = tab_length (λ v. kind_at m c.vars v) c.vars

-- from nothing bound
pub solve_law : (m₀ : List ℕ) (c : Counts) (l m w : List ℕ) (r : Bool) → m ≡ reopened m₀ c.vars → AllAddedBy m c l w r → SolvedBy m₀ c l w r
unfolding unified
solve_law m₀ c l m w r e a =
    record {
      by = λ h.
          let k : Kept m₀ c m = subst (Kept m₀ c) (sym e) (reopened_kept m₀ c c.vars (omega arith)) in
          let t = a.by (whole_on m₀ c m k h) in
          let b : mem_in m c ≡ blank (length (kinds_in m₀ c)) = ap (λ x. mem_of x c.vars) e ∙ reopened_mem m₀ c.vars ∙ ap blank (sym (kinds_count m₀ c)) in
          let y : solves_in m c l ≡ unified_in m₀ c l = rw (rows_on m₀ c m k h, kinds_on m₀ c m k h, pairs_on m₀ c m k h, b) refl in
          record { kept = kept_on m₀ c m w k t.kept; answer = t.answer ∙ ap (λ (z : Res). is_success z.0) y; memory = t.memory ∙ ap (λ (z : Res). z.1) y };
    }

-- ── adding backwards ──

module _ (m₀ : List ℕ) (c : Counts) (lo n : ℕ) where
  -- with those below i left
  abbrev pub Falls : List ℕ → ℕ → Type 0
  Falls m i = Whole m₀ c → Falling m₀ c lo n i m

  -- what is found
  abbrev found : Option ℕ
  found = falls (rows_in m₀ c) (kinds_in m₀ c) (pair_in m₀ c) (mem_in m₀ c) lo (n - lo)

  pub falls_start : Falls m₀ n
  falls_start h = record { kept = kept_self m₀ c; same = refl }

  module _ (m : List ℕ) (i j : ℕ) (w : List ℕ) (less : lo < i) (e : j ≡ i - 1) (f : Falls m i) where
    falls_is : (x : Mem) → falls (rows_in m₀ c) (kinds_in m₀ c) (pair_in m₀ c) x lo (i - lo) ≡ fall_on (is_success (added (rows_in m₀ c) (kinds_in m₀ c) (pair_in m₀ c) x j).0) j (falls (rows_in m₀ c) (kinds_in m₀ c) (pair_in m₀ c) (added (rows_in m₀ c) (kinds_in m₀ c) (pair_in m₀ c) x j).1 lo (j - lo))
    unfolding falls
    falls_is x = let d : i - lo ≡ suc (j - lo) = omega arith in let z : lo + (j - lo) ≡ j = omega arith in rw (d, z) refl

    pub falls_on : AddedBy m c j w true → Falls w j
    falls_on a h =
        let x = f h in
        let l = later m₀ c h m x.kept j w true a in
        record {
          kept = later_kept m₀ c h m x.kept j w true a;
          same = rw (later_memory m₀ c h m x.kept j w true a) (ap (λ b. fall_on b j (falls (rows_in m₀ c) (kinds_in m₀ c) (pair_in m₀ c) l.1 lo (j - lo))) (later_answer m₀ c h m x.kept j w true a) ∙ sym (falls_is (mem_in m c)) ∙ x.same);
        }

    pub falls_stop : i ≤ n → AddedBy m c j w false → FellBy m₀ c lo n w (Some j)
    falls_stop most a =
        record {
          within = omega arith;
          by = λ h.
              let x = f h in
              let l = later m₀ c h m x.kept j w false a in
              let y = ap (λ b. fall_on b j (falls (rows_in m₀ c) (kinds_in m₀ c) (pair_in m₀ c) l.1 lo (j - lo))) (later_answer m₀ c h m x.kept j w false a) ∙ sym (falls_is (mem_in m c)) ∙ x.same in
              (later_kept m₀ c h m x.kept j w false a, ap stop_is y);
        }

  pub falls_end : (m : List ℕ) (i : ℕ) → i ≤ lo → Falls m i → FellBy m₀ c lo n m None
  unfolding falls
  falls_end m i l f =
      record {
        within = tt;
        by = λ h.
            let d : i - lo ≡ 0 = omega arith in
            let x = f h in
            (x.kept, ap stop_is (rw d at x.same));
      }

-- ── scans ──

-- the last cell apart
pub cells_last : (s : List ℕ) (i n : ℕ) → cells_from s i (suc n) ≡ cells_from s i n ++ cell s (i + n) ∷ []
unfolding cells_from
cells_last s i zero = let z : i + 0 ≡ i = omega arith in rw z refl
cells_last s i (suc n) = let z : i + suc n ≡ suc i + n = omega arith in rw z (ap (λ l. cell s i ∷ l) (cells_last s (suc i) n))

-- cells before the one that is set
pub cells_same : (s : List ℕ) (i n j x : ℕ) → i + n ≤ j → cells_from (set s j x) i n ≡ cells_from s i n
unfolding cells_from
cells_same s i zero j x h = refl
cells_same s i (suc n) j x h = rw (cell_else s j i x (λ e. omega arith), cells_same s (suc i) n j x (omega arith)) refl

-- one more number of a set
pub list_last : (s t : List ℕ) (k x : ℕ) → k < length s → t ≡ set s k x → list_in t (k + 1) ≡ list_in s k ++ x ∷ []
list_last s t k x h e =
    let z : k + 1 ≡ suc k = omega arith in
    let y : 0 + k ≡ k = omega arith in
    rw (z, e, cells_last (set s k x) 0 k, cells_same s 0 k k x (omega arith), y, get_or-set_same s k x 0 h) refl

stop_some : (i : ℕ) (o : Option ℕ) → Some i ≡ stop_is o → o ≡ some i
stop_some i none e = clash (cc)
stop_some i (some j) e = cc

stop_none : (o : Option ℕ) → None ≡ stop_is o → o ≡ none
stop_none none e = refl
stop_none (some j) e = clash (cc)

module _ (m₀ : List ℕ) (c : Counts) (n : ℕ) (s₀ : List ℕ) where
  -- with k kept, and those from lo on left
  abbrev pub Scans : List ℕ → List ℕ → ℕ → ℕ → Type 0
  Scans m s k lo = Whole m₀ c → n ≤ length s₀ → Scanning m₀ c n k lo m s

  pub scans_start : Scans m₀ s₀ 0 0
  unfolding cells_from
  scans_start h l = let d : n - 0 ≡ n = omega arith in record { kept = kept_self m₀ c; same = rw d refl }

  module _ (m s : List ℕ) (k lo : ℕ) (w : List ℕ) (less : k < n) (x : Scans m s k lo) where
    module _ (h : Whole m₀ c) (l : n ≤ length s₀) (r : Bool) (a : SolvedBy m c (list_in s k) w r) where
      -- so far
      abbrev far : Scanning m₀ c n k lo m s
      far = x h l

      whole : Whole m c
      whole = whole_on m₀ c m far.kept h

      -- the test of those kept
      abbrev unit : Res
      unit = unified (rows_in m₀ c) (kinds_in m₀ c) (pair_in m₀ c) (list_in s k)

      unit_is : unified_in m c (list_in s k) ≡ unit
      unit_is = rw (rows_on m₀ c m far.kept h, kinds_on m₀ c m far.kept h, pairs_on m₀ c m far.kept h) refl

      w_kept : Kept m₀ c w
      w_kept = kept_on m₀ c m w far.kept (a.by whole).kept

      w_answer : r ≡ is_success unit.0
      w_answer = (a.by whole).answer ∙ ap (λ (z : Res). is_success z.0) unit_is

      w_memory : mem_in w c ≡ unit.1
      w_memory = (a.by whole).memory ∙ ap (λ (z : Res). z.1) unit_is

      -- what the next scan finds
      abbrev finds : Option ℕ
      finds = falls (rows_in m₀ c) (kinds_in m₀ c) (pair_in m₀ c) (mem_in w c) lo (n - lo)

      scan_is : conflict_in m₀ c n ≡ keep_in (scan_in (rows_in m₀ c) (kinds_in m₀ c) (pair_in m₀ c) n (n - (k + 1))) (list_in s k) r finds
      unfolding scan_in
      scan_is = let d : n - k ≡ suc (n - (k + 1)) = omega arith in rw (w_memory, w_answer) (sym (rw d at far.same))

      finds_is : (u : List ℕ) (q : Option·R ℕ) → FellBy w c lo n u q → q ≡ stop_is finds
      finds_is u q f = rw (rows_on m₀ c w w_kept h, kinds_on m₀ c w w_kept h, pairs_on m₀ c w w_kept h) at (f.by (whole_on m₀ c w w_kept h)).1

    pub scans_stop : length s ≡ length s₀ → SolvedBy m c (list_in s k) w false → ScannedBy m₀ c n s₀ w s k
    scans_stop size a = record { size = size; most = omega arith; by = λ h l. (w_kept h l false a, sym (scan_is h l false a)) }

    pub scans_nowhere : (u : List ℕ) → length s ≡ length s₀ → SolvedBy m c (list_in s k) w true → FellBy w c lo n u None → ScannedBy m₀ c n s₀ u s k
    scans_nowhere u size a f =
        record {
          size = size;
          most = omega arith;
          by = λ h l.
              let o = stop_none (finds h l true a) (finds_is h l true a u None f) in
              (kept_on m₀ c w u (w_kept h l true a) (f.by (whole_on m₀ c w (w_kept h l true a) h)).0, sym (scan_is h l true a ∙ ap (λ z. keep_in (scan_in (rows_in m₀ c) (kinds_in m₀ c) (pair_in m₀ c) n (n - (k + 1))) (list_in s k) true z) o));
        }

    pub scans_on : (u t : List ℕ) (i : ℕ) → length s ≡ length s₀ → SolvedBy m c (list_in s k) w true → FellBy w c lo n u (Some i) → t ≡ set s k i → Scans u t (k + 1) (i + 1)
    scans_on u t i size a f e h l =
        let o = stop_some i (finds h l true a) (finds_is h l true a u (Some i) f) in
        let z : suc i ≡ i + 1 = omega arith in
        record {
          kept = kept_on m₀ c w u (w_kept h l true a) (f.by (whole_on m₀ c w (w_kept h l true a) h)).0;
          same = rw (list_last s t k i (omega arith) e, ← z) (sym (scan_is h l true a ∙ ap (λ y. keep_in (scan_in (rows_in m₀ c) (kinds_in m₀ c) (pair_in m₀ c) n (n - (k + 1))) (list_in s k) true y) o));
        }

  pub scans_end : (m s : List ℕ) (k lo : ℕ) → n ≤ k → k ≤ n → length s ≡ length s₀ → Scans m s k lo → ScannedBy m₀ c n s₀ m s k
  unfolding scan_in
  scans_end m s k lo a b size x = record { size = size; most = b; by = λ h l. let d : n - k ≡ 0 = omega arith in let y = x h l in (y.kept, rw d at y.same) }

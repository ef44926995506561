-- What a memory's tables hold: each is read as its cells are, and has the length that was asked for.
use Rattle.std.specs.Prelude.{◌≡◌, refl, ◌≢◌, List, [], ◌∷◌, ◌++◌, ℕ, suc, zero, ◌+◌, ◌≤◌, ◌<◌, get_or, set, length}
use Rattle.std.proofs.Common.{sym, ap, ◌∙◌, arith, add-one, le-leb}
use Rattle.std.proofs.Math.Option.{none}
use Rattle.std.proofs.Math.Bool.{false}
use Rattle.std.proofs.Math.Decide.{dec_lt}
use Rattle.std.proofs.Math.ListN.{get_or-eq_default}
use Rattle.theory.specs.Rules.{nil, base, regular, row, kind, bound}
use Rattle.type_table.specs.Memory.{tab, head_at, number_at, output_at, first_at, count_at, inputs_from, shape_of, shape_at, rows_of, kind_at, kinds_of, origin_at, origins_of, binding_at, binds_of, mark_at, marks_of}

-- ── a function's values as a list ──

module _ {A : Type 0} where
  -- there are as many values as were asked for
  pub length_tab : (f : ℕ → A) (n : ℕ) → length (tab f n) ≡ n
  length_tab f zero = refl
  length_tab f (suc n) = ap suc (length_tab (λ i. f (suc i)) n)

  -- each value is at its place
  pub get_d_tab : (f : ℕ → A) (n i : ℕ) (d : A) → i < n → get_or (tab f n) i d ≡ f i
  get_d_tab f zero i d h = absurd (omega arith)
  get_d_tab f (suc n) zero d h = refl
  get_d_tab f (suc n) (suc i) d h = get_d_tab (λ i. f (suc i)) n i d (omega arith)

  -- past the end there is none
  pub tab_out : (f : ℕ → A) (n i : ℕ) (d : A) → n ≤ i → get_or (tab f n) i d ≡ d
  tab_out f n i d h = get_or-eq_default (tab f n) d (rw (length_tab f n) h)

  -- a function that answers the default past the end is read everywhere
  pub tab_reads : (f : ℕ → A) (n i : ℕ) (d : A) → (n ≤ i → f i ≡ d) → get_or (tab f n) i d ≡ f i
  tab_reads f n i d e = by (dec_lt i n)
    where
      by : Dec (i < n) → get_or (tab f n) i d ≡ f i
      by (yes h) = get_d_tab f n i d h
      by (no h) = let k : n ≤ i = omega arith in tab_out f n i d k ∙ sym (e k)

  -- equal functions have equal lists
  pub tab_ext : (f g : ℕ → A) (n : ℕ) → ((i : ℕ) → i < n → g i ≡ f i) → tab g n ≡ tab f n
  tab_ext f g zero h = refl
  tab_ext f g (suc n) h = rw (h 0 (omega arith), tab_ext (λ i. f (suc i)) (λ i. g (suc i)) n (λ i k. h (suc i) (omega arith)))

  -- a function that differs at one place has a list with one value set
  pub tab_set : (f g : ℕ → A) (n v : ℕ) (a : A) → ((i : ℕ) → i < n → i ≢ v → g i ≡ f i) → (v < n → g v ≡ a) → tab g n ≡ set (tab f n) v a
  tab_set f g zero v a h e = refl
  tab_set f g (suc n) zero a h e = rw (e (omega arith), tab_ext (λ i. f (suc i)) (λ i. g (suc i)) n (λ i k. h (suc i) (omega arith) (λ q. omega arith)))
  tab_set f g (suc n) (suc v) a h e = rw (h 0 (omega arith) (λ q. omega arith), tab_set (λ i. f (suc i)) (λ i. g (suc i)) n v a (λ i k q. h (suc i) (omega arith) (λ r. q (omega arith))) (λ k. e (omega arith)))

  -- the last value
  pub tab_snoc : (f : ℕ → A) (n : ℕ) → tab f (suc n) ≡ tab f n ++ f n ∷ []
  tab_snoc f zero = refl
  tab_snoc f (suc n) = ap (λ (l : List A). f 0 ∷ l) (tab_snoc (λ i. f (suc i)) n)

  -- one more value
  pub tab_grow : (f g : ℕ → A) (n : ℕ) → ((i : ℕ) → i < n → g i ≡ f i) → tab g (n + 1) ≡ tab f n ++ g n ∷ []
  tab_grow f g n h = rw (add-one n, tab_snoc g n, tab_ext f g n h)

-- ── reading ──

module _ (m : List ℕ) (n : ℕ) where
  -- a row is the shape that its cells show
  pub row_at : (x : ℕ) → row (rows_of m n) x ≡ shape_at m n x
  unfolding rows_of shape_at shape_of head_at number_at output_at first_at count_at inputs_from
  row_at x = tab_reads (shape_at m n) n x (base nil) (λ h. rw (le-leb n x h))

  -- a variable's kind is what its cell shows
  pub kind_at_lem : (v : ℕ) → kind (kinds_of m n) v ≡ kind_at m n v
  unfolding kinds_of kind_at
  kind_at_lem v = tab_reads (kind_at m n) n v regular (λ h. rw (le-leb n v h))

  -- a variable's origin is what its cell shows
  pub origin_at_lem : (v : ℕ) → get_or (origins_of m n) v none ≡ origin_at m n v
  unfolding origins_of origin_at
  origin_at_lem v = tab_reads (origin_at m n) n v none (λ h. rw (le-leb n v h))

  -- a variable is bound to what its cells show
  pub bound_at : (v : ℕ) → bound (binds_of m n) v ≡ binding_at m n v
  unfolding binds_of binding_at
  bound_at v = tab_reads (binding_at m n) n v none (λ h. rw (le-leb n v h))

  -- a variable has the mark that its cell shows
  pub mark_at_lem : (v : ℕ) → get_or (marks_of m n) v false ≡ mark_at m n v
  unfolding marks_of mark_at
  mark_at_lem v = tab_reads (mark_at m n) n v false (λ h. rw (le-leb n v h))

  -- ── lengths ──

  -- as many rows as were asked for
  pub length-rows : length (rows_of m n) ≡ n
  unfolding rows_of
  length-rows = length_tab (shape_at m n) n

  -- as many kinds
  pub length_kinds : length (kinds_of m n) ≡ n
  unfolding kinds_of
  length_kinds = length_tab (kind_at m n) n

  -- as many origins
  pub length_origins : length (origins_of m n) ≡ n
  unfolding origins_of
  length_origins = length_tab (origin_at m n) n

  -- as many bindings
  pub length_binds : length (binds_of m n) ≡ n
  unfolding binds_of
  length_binds = length_tab (binding_at m n) n

  -- as many marks
  pub length_marks : length (marks_of m n) ≡ n
  unfolding marks_of
  length_marks = length_tab (mark_at m n) n

-- as many inputs
pub length_inputs : (m : List ℕ) (f k : ℕ) → length (inputs_from m f k) ≡ k
unfolding inputs_from
length_inputs m f zero = refl
length_inputs m f (suc k) = ap suc (length_inputs m (suc f) k)

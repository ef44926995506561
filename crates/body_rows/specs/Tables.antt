-- The text of a body's tables. A file that is read is the text of its tables.
-- Assumes nothing.
use Prim.Native.Nat.{ℕ, zero, suc, ◌+◌, ◌*◌, ◌-◌, ◌<◌, ◌≤◌}
use Rattle.std.proofs.Common.{arith, sym, ◌∙◌}
use Rattle.std.specs.Prelude.{◌≡◌, Bool, ltb, length}
use Rattle.std.proofs.Math.Path.{refl, ap}
use mathlib.Core.List.{List, [], ◌∷◌, ◌++◌, append_assoc, append-nil}
use Rattle.std.proofs.Math.Bool.{true, false, cond}
use Rattle.std.proofs.Math.Dec.{eqb}
use borrow.Author.Tests.{ltb-true, ltb-false, eqb-true, eqb-false, ne_eqb}
use Rattle.forms.specs.declared.Fault.TheVariants as fault
use Rattle.forms.specs.Form.{key_type, key_def, key_inst, key_bind, key_node, key_fn}
use Rattle.refs.specs.declared.Counts.{Counts}
use Rattle.body.specs.declared.State.{State}
use Rattle.body.specs.declared.Answer.TheVariants as answer
use Rattle.lex.specs.Text.{parts_from}
use Rattle.body.specs.Body.{most_bytes, rows_length, cells_length, Ended, lines_from, Held, held, settle, first, count_of, base_of, counted, advance, first_ahead, refused, read, finish_of, zeros, body_of}
use Rattle.well_formed.specs.Counting.{counted_own}
use Rattle.well_formed.specs.Bytes.{Enough}
use Rattle.well_formed.specs.Reading.{Reading}
use Rattle.well_formed.specs.Step.{in_order_lem}
use Rattle.body_rows.specs.Text.{Row, key_at, Lookup, listed, keys_from, row_at, lookup_in}
use Rattle.body_rows.specs.Steps.{cells_behind, place_of, rows_behind, state_behind, Made, WasMade, row_old, row_new}

-- ── lists of rows ──

-- rows that are alike are listed alike
pub listed_same : (f g : ℕ → Row) (i m : ℕ) → ((x : ℕ) → x < i + m → f x ≡ g x) → listed f i m ≡ listed g i m
unfolding listed
listed_same f g i zero h = refl
listed_same f g i (suc m) h = rw (h i (omega arith), listed_same f g (i + 1) m (λ x b. h x (omega arith)))

-- the last of m + 1 rows
listed_snoc : (f : ℕ → Row) (i m : ℕ) → listed f i (suc m) ≡ listed f i m ++ (f (i + m) ∷ [])
unfolding listed
listed_snoc f i zero = ap (λ (x : ℕ). f x ∷ []) {x = i} {y = i + 0} (omega arith)
listed_snoc f i (suc m) = ap (λ (t : List Row). f i ∷ t) (listed_snoc f (i + 1) m ∙ ap (λ (x : ℕ). listed f (i + 1) m ++ (f x ∷ [])) {x = i + 1 + m} {y = i + suc m} (omega arith))

module _ (n n' : Counts) (look look' : Lookup) (κ : ℕ) (r : Row) (other : (j : ℕ) → j < 5 → (j ≡ κ → ⊥) → count_of n' j ≡ count_of n j)
    (old : (j i : ℕ) → i < count_of n j → look' j i ≡ look j i) where
  -- the rows of another key
  key_same : (j : ℕ) → j < 5 → (j ≡ κ → ⊥) → listed (look' j) 0 (count_of n' j) ≡ listed (look j) 0 (count_of n j)
  key_same j b h = rw (other j b h) (listed_same (look' j) (look j) 0 (count_of n j) (λ x l. old j x (omega arith)))

  -- those of other keys
  pub keys_same : (k m : ℕ) → k + m ≤ 5 → ((j : ℕ) → k ≤ j → j < k + m → j ≡ κ → ⊥) → keys_from n' look' k m ≡ keys_from n look k m
  unfolding keys_from
  keys_same k zero b h = refl
  keys_same k (suc m) b h = rw (key_same k (omega arith) (h k (omega arith) (omega arith)), keys_same (k + 1) m (omega arith) (λ j p q. h j (omega arith) (omega arith)))

  module _ (later : (j : ℕ) → κ < j → count_of n j ≡ 0) (own : count_of n' κ ≡ count_of n κ + 1) (new : look' κ (count_of n κ) ≡ r) where
    -- no rows of later keys
    keys_none : (k m : ℕ) → κ < k → keys_from n look k m ≡ []
    unfolding keys_from listed
    keys_none k zero h = refl
    keys_none k (suc m) h = rw (later k h) (keys_none (k + 1) m (omega arith))

    -- the rows of the key with one more
    key_snoc : listed (look' κ) 0 (count_of n' κ) ≡ listed (look κ) 0 (count_of n κ) ++ (r ∷ [])
    key_snoc =
        ap (listed (look' κ) 0) {x = count_of n' κ} {y = suc (count_of n κ)} (omega (arith, own))
        ∙ listed_snoc (look' κ) 0 (count_of n κ)
        ∙ rw (listed_same (look' κ) (look κ) 0 (count_of n κ) (λ x l. old κ x (omega arith)))
        (ap (λ (x : ℕ). listed (look κ) 0 (count_of n κ) ++ (look' κ x ∷ [])) {x = 0 + count_of n κ} {y = count_of n κ} (omega arith) ∙ rw new)

    -- the rows of the keys with one more
    pub keys_snoc : (k m : ℕ) → k + m ≤ 5 → k ≤ κ → κ < k + m → keys_from n' look' k m ≡ keys_from n look k m ++ (r ∷ [])
    unfolding keys_from
    keys_snoc k zero b p q = absurd (omega arith)
    keys_snoc k (suc m) b p q = by (eqb k κ) refl (λ u v w. keys_snoc (k + 1) m u v w)
      where
        by : (c : Bool) → eqb k κ ≡ c
            → (k + 1 + m ≤ 5 → k + 1 ≤ κ → κ < k + 1 + m → keys_from n' look' (k + 1) m ≡ keys_from n look (k + 1) m ++ (r ∷ []))
            → keys_from n' look' k (suc m) ≡ keys_from n look k (suc m) ++ (r ∷ [])
        by true e ih =
            let s : k ≡ κ = eqb-true k κ e in
            rw s (rw (key_snoc, keys_same (κ + 1) m (omega (arith, s)) (λ j u v w. omega (arith, w)), keys_none (κ + 1) m (omega arith))
            (append-nil (listed (look κ) 0 (count_of n κ) ++ (r ∷ [])) ∙ ap (λ (t : List Row). t ++ (r ∷ [])) (sym (append-nil (listed (look κ) 0 (count_of n κ))))))
        by false e ih =
            let s : k ≡ κ → ⊥ = eqb-false k κ e in
            rw (key_same k (omega arith) s, ih (omega arith) (omega (arith, s)) (omega arith))
            (sym (append_assoc (listed (look k) 0 (count_of n k)) (keys_from n look (k + 1) m) (r ∷ [])))

-- ── a step ──

-- another key's count stays
pub counted_other : (n : Counts) (k m j : ℕ) → j < 5 → (j ≡ k → ⊥) → count_of (counted n k m) j ≡ count_of n j
unfolding count_of counted
counted_other n k m zero h o = rw (ne_eqb k key_type (λ e. o (sym e)))
counted_other n k m (suc zero) h o = rw (ne_eqb k key_def (λ e. o (sym e)))
counted_other n k m (suc (suc zero)) h o = rw (ne_eqb k key_inst (λ e. o (sym e)))
counted_other n k m (suc (suc (suc zero))) h o = rw (ne_eqb k key_bind (λ e. o (sym e)))
counted_other n k m (suc (suc (suc (suc zero)))) h o = rw (ne_eqb k key_node (λ e. o (sym e)))
counted_other n k m (suc (suc (suc (suc (suc j))))) h o = absurd (omega arith)

-- `fn` is not counted
pub fn_none : (n : Counts) → count_of n key_fn ≡ 0
unfolding count_of
fn_none n = refl

-- the rows that were read: those of the five keys, and `fn` where the state is behind it
unfoldable pub rows_read : State → List ℕ → List ℕ → List Row
rows_read st rows cells = keys_from st.counts (lookup_in rows cells) 0 5 ++ cond (eqb st.key key_fn) (lookup_in rows cells key_fn 0 ∷ []) []

module _ (r : Row) (st : State) (cells rows : List ℕ) (e : ℕ) (rows' : List ℕ) (m : Made r st cells rows e rows') (reading : Reading st cells rows)
    (wide : (st.counts.fields + length r.cells) * 3 ≤ length cells) where
  abbrev κ : ℕ
  κ = key_at r.form

  -- no row of a later key stands
  pub none_later : (j : ℕ) → κ < j → count_of st.counts j ≡ 0
  none_later j h = by (ltb 0 (count_of st.counts j)) refl
    where
      by : (b : Bool) → ltb 0 (count_of st.counts j) ≡ b → count_of st.counts j ≡ 0
      by true p = absurd (omega (arith, reading.keys j 0 (ltb-true 0 (count_of st.counts j) p), (in_order_lem st.key κ m.order).1))
      by false p = omega (arith, ltb-false 0 (count_of st.counts j) p)

  -- one row more was read
  pub rows_read_more : rows_read (state_behind r st e) (rows_behind r st e rows') (cells_behind r st cells) ≡ rows_read st rows cells ++ (r ∷ [])
  unfolding rows_read advance
  rows_read_more = by (eqb κ key_fn) refl
    where
      before : keys_from st.counts (lookup_in rows cells) 0 5 ++ cond (eqb st.key key_fn) (lookup_in rows cells key_fn 0 ∷ []) [] ≡ keys_from st.counts (lookup_in rows cells) 0 5
      before = rw (ne_eqb st.key key_fn (in_order_lem st.key κ m.order).2) (append-nil (keys_from st.counts (lookup_in rows cells) 0 5))

      other : (j : ℕ) → j < 5 → (j ≡ κ → ⊥) → count_of (counted st.counts κ (length r.cells)) j ≡ count_of st.counts j
      other = counted_other st.counts κ (length r.cells)

      old : (j i : ℕ) → i < count_of st.counts j → lookup_in (rows_behind r st e rows') (cells_behind r st cells) j i ≡ lookup_in rows cells j i
      old = row_old r st cells rows e rows' m reading wide

      six : κ < 6
      six = (in_order_lem st.key κ m.order).0

      last : κ ≡ key_fn → lookup_in (rows_behind r st e rows') (cells_behind r st cells) key_fn 0 ≡ r
      last q =
          ap (row_at (rows_behind r st e rows') (cells_behind r st cells)) {x = base_of key_fn + 0} {y = place_of r st}
          (omega (arith, ap base_of q, ap (count_of st.counts) q, fn_none st.counts))
          ∙ row_new r st cells rows e rows' m reading wide

      by : (b : Bool) → eqb κ key_fn ≡ b
          → keys_from (counted st.counts κ (length r.cells)) (lookup_in (rows_behind r st e rows') (cells_behind r st cells)) 0 5
          ++ cond b (lookup_in (rows_behind r st e rows') (cells_behind r st cells) key_fn 0 ∷ []) []
          ≡ (keys_from st.counts (lookup_in rows cells) 0 5 ++ cond (eqb st.key key_fn) (lookup_in rows cells key_fn 0 ∷ []) []) ++ (r ∷ [])
      by true p =
          let q : κ ≡ key_fn = eqb-true κ key_fn p in
          rw (
            keys_same st.counts (counted st.counts κ (length r.cells)) (lookup_in rows cells) (lookup_in (rows_behind r st e rows') (cells_behind r st cells)) κ r other old 0 5 (omega arith)
                (λ j u v w. omega (arith, w, q)),
            last q,
            before,
          )
      by false p =
          let q : κ ≡ key_fn → ⊥ = eqb-false κ key_fn p in
          rw before
          (append-nil (keys_from (counted st.counts κ (length r.cells)) (lookup_in (rows_behind r st e rows') (cells_behind r st cells)) 0 5)
          ∙ keys_snoc st.counts (counted st.counts κ (length r.cells)) (lookup_in rows cells) (lookup_in (rows_behind r st e rows') (cells_behind r st cells)) κ r other old none_later
          (counted_own st.counts κ (length r.cells) (omega (arith, q, six))) (row_new r st cells rows e rows' m reading wide) 0 5 (omega arith) (omega arith) (omega (arith, q, six)))

-- ── a file ──

-- what is judged behind the last row
pub finish_only : (st : State) (l : ℕ) (cells rows : List ℕ) (n : Counts) (cells' rows' : List ℕ) → finish_of st l cells rows ≡ read n cells' rows'
    → (st.key ≡ key_fn) × (st.counts ≡ n) × (cells ≡ cells') × (rows ≡ rows')
unfolding finish_of
finish_only st l cells rows n cells' rows' = by (eqb st.key key_fn) refl (ltb ahead st.counts.types) st.deep
  where
    ahead : ℕ
    ahead = first_ahead st.counts.types 0 st.counts cells rows

    by : (x : Bool) → eqb st.key key_fn ≡ x → (y z : Bool)
        → cond x (cond y (refused fault.Reference (ahead + 1)) (cond z (refused fault.Levels (l - 1)) (read st.counts cells rows))) (refused fault.Form l) ≡ read n cells' rows'
        → (st.key ≡ key_fn) × (st.counts ≡ n) × (cells ≡ cells') × (rows ≡ rows')
    by false p y z e = let z : ◌≡◌ {A = ℕ} 0 1 = cc in absurd (omega arith)
    by true p true z e = let z : ◌≡◌ {A = ℕ} 0 1 = cc in absurd (omega arith)
    by true p false true e = let z : ◌≡◌ {A = ℕ} 0 1 = cc in absurd (omega arith)
    by true p false false e = (eqb-true st.key key_fn p, cc, cc, cc)

-- the state and the tables behind a step that went well
pub record Behind (r : Row) (st : State) (cells rows : List ℕ) (b : ℕ) (st' : State) (cells' rows' : List ℕ) : Type 0 where
  pub was : WasMade r st cells rows st' cells' rows'
  pub reading : Reading st' cells' rows'
  pub enough : Enough b st'.counts.fields
  pub wide : (st.counts.fields + length r.cells) * 3 ≤ length cells

-- nothing is read at the start
pub start_none : (rows cells : List ℕ) → rows_read first rows cells ≡ []
unfolding rows_read keys_from listed count_of
start_none rows cells = refl

-- what stands in the lent tables does not count: a file that is read is read alike over others of the same lengths
pub lent_same : (s rows cells : List ℕ) (n : Counts) → (body_of s rows cells).answer ≡ answer.Body n
    → (rows' cells' : List ℕ) → length rows' ≡ length rows → length cells' ≡ length cells → body_of s rows' cells' ≡ body_of s rows cells
unfolding body_of
lent_same s rows cells n e rows' cells' p q = rw (p, q) (by (ltb most_bytes (length s)) (ltb (length rows) rows_length) (ltb (length cells) cells_length) e)
  where
    whole : Ended
    whole = lines_from (parts_from 10 0 s) 1 first (zeros cells) (zeros rows)

    file : (a b c : Bool) → List ℕ → List ℕ → Held
    file a b c r f = cond a (held answer.TooLong r f) (cond b (held answer.ShortTable r f) (cond c (held answer.ShortTable r f) (settle whole r f)))

    end : (x : Ended) → (settle x rows cells).answer ≡ answer.Body n → settle x rows' cells' ≡ settle x rows cells
    end (refused x l) e = let z : ◌≡◌ {A = ℕ} 0 1 = cc in absurd (omega arith)
    end (read m cells'' rows'') e = refl

    by : (a b c : Bool) → (file a b c rows cells).answer ≡ answer.Body n → file a b c rows' cells' ≡ file a b c rows cells
    by true b c e = let z : ◌≡◌ {A = ℕ} 0 1 = cc in absurd (omega arith)
    by false true c e = let z : ◌≡◌ {A = ℕ} 0 1 = cc in absurd (omega arith)
    by false false true e = let z : ◌≡◌ {A = ℕ} 0 1 = cc in absurd (omega arith)
    by false false false e = end whole e

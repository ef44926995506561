-- What the stores of a line do to the tables: the cells of its fields, and its row.
-- Assumes nothing.
use Rattle.std.specs.Prelude.{ℕ, zero, suc, ◌+◌, ◌*◌, ◌-◌, ◌<◌, ◌≤◌, ◌≡◌, List, [], ◌∷◌, Bool, cond, leb, length, set}
use Rattle.std.proofs.Common.{arith, ◌∙◌, length-set, get_or-set_same, get_or-set_other}
use Rattle.std.proofs.Math.Path.{refl, ap}
use Rattle.std.proofs.Math.Bool.{true, false}
use Rattle.std.proofs.Math.Dec.{ltb}
use Rattle.std.proofs.Math.ListN.{get_or}
use Rattle.std.proofs.lemmas.List.Edits.{sets}
use Rattle.std.proofs.Math.Seq.{length-sets}
use borrow.Author.Tests.{le-leb, ltb-true, ltb-false}
use Rattle.forms.specs.declared.Cell.{Cell}
use Rattle.forms.specs.Form.{store, store_from}
use Rattle.refs.specs.Refs.{form_in, first_in, count_in, levels_in, user_in, tag_in, value_in}
use Rattle.body.specs.Body.{put_row}
use Rattle.well_formed.specs.Parsed.{blank}

-- stores from i on change nothing before i
sets_before : (l : List ℕ) (i : ℕ) (vs : List ℕ) (x : ℕ) → x < i → get_or (sets l i vs) x 0 ≡ get_or l x 0
sets_before l i [] x h = refl
sets_before l i (a ∷ vs) x h = sets_before (set l i a) (suc i) vs x (omega arith) ∙ get_or-set_other l i x a 0 (λ e. omega (arith, e))

-- nor behind the last
sets_behind : (l : List ℕ) (i : ℕ) (vs : List ℕ) (x : ℕ) → i + length vs ≤ x → get_or (sets l i vs) x 0 ≡ get_or l x 0
sets_behind l i [] x h = refl
sets_behind l i (a ∷ vs) x h = sets_behind (set l i a) (suc i) vs x (omega arith) ∙ get_or-set_other l i x a 0 (λ e. omega (arith, e))

-- and each is there
sets_at : (l : List ℕ) (i : ℕ) (vs : List ℕ) (c : ℕ) → c < length vs → i + length vs ≤ length l → get_or (sets l i vs) (i + c) 0 ≡ get_or vs c 0
sets_at l i [] c h b = absurd (omega arith)
sets_at l i (a ∷ vs) zero h b =
    ap (λ (x : ℕ). get_or (sets (set l i a) (suc i) vs) x 0) (omega arith)
    ∙ sets_before (set l i a) (suc i) vs i (omega arith)
    ∙ get_or-set_same l i a 0 (omega arith)
sets_at l i (a ∷ vs) (suc c) h b =
    ap (λ (x : ℕ). get_or (sets (set l i a) (suc i) vs) x 0) (omega arith) ∙ sets_at (set l i a) (suc i) vs c (omega arith) (simp length-set (omega arith))

-- the three numbers of a cell
abbrev pub numbers : Cell → List ℕ
numbers c = c.name ∷ c.tag ∷ c.value ∷ []

-- a stored cell keeps the length of the table
pub store_length : (t : List ℕ) (j : ℕ) (c : Cell) → length (store t j c) ≡ length t
unfolding store
store_length t j c = by (leb (j * 3 + 3) (length t))
  where
    by : (b : Bool) → length (cond b (sets t (j * 3) (numbers c)) t) ≡ length t
    by true = length-sets t (j * 3) (numbers c)
    by false = refl

-- and what stands before it
store_before : (t : List ℕ) (j : ℕ) (c : Cell) (x : ℕ) → x < j * 3 → get_or (store t j c) x 0 ≡ get_or t x 0
unfolding store
store_before t j c x h = by (leb (j * 3 + 3) (length t))
  where
    by : (b : Bool) → get_or (cond b (sets t (j * 3) (numbers c)) t) x 0 ≡ get_or t x 0
    by true = sets_before t (j * 3) (numbers c) x h
    by false = refl

-- and what stands behind it
store_behind : (t : List ℕ) (j : ℕ) (c : Cell) (x : ℕ) → (j + 1) * 3 ≤ x → get_or (store t j c) x 0 ≡ get_or t x 0
unfolding store
store_behind t j c x h = by (leb (j * 3 + 3) (length t))
  where
    by : (b : Bool) → get_or (cond b (sets t (j * 3) (numbers c)) t) x 0 ≡ get_or t x 0
    by true = sets_behind t (j * 3) (numbers c) x (omega arith)
    by false = refl

-- a cell that is within the table is stored
store_in : (t : List ℕ) (j : ℕ) (c : Cell) → (j + 1) * 3 ≤ length t → store t j c ≡ sets t (j * 3) (numbers c)
unfolding store
store_in t j c h = rw (le-leb (j * 3 + 3) (length t) (omega arith))

-- stored cells keep the length of the table
pub stored_length : (t : List ℕ) (j : ℕ) (l : List Cell) → length (store_from t j l) ≡ length t
unfolding store_from
stored_length t j [] = refl
stored_length t j (c ∷ cs) = stored_length (store t j c) (j + 1) cs ∙ store_length t j c

-- and what stands before them
pub stored_before : (t : List ℕ) (j : ℕ) (l : List Cell) (x : ℕ) → x < j * 3 → get_or (store_from t j l) x 0 ≡ get_or t x 0
unfolding store_from
stored_before t j [] x h = refl
stored_before t j (c ∷ cs) x h = stored_before (store t j c) (j + 1) cs x (omega arith) ∙ store_before t j c x h

-- and what stands behind them
pub stored_behind : (t : List ℕ) (j : ℕ) (l : List Cell) (x : ℕ) → (j + length l) * 3 ≤ x → get_or (store_from t j l) x 0 ≡ get_or t x 0
unfolding store_from
stored_behind t j [] x h = refl
stored_behind t j (c ∷ cs) x h = stored_behind (store t j c) (j + 1) cs x (omega arith) ∙ store_behind t j c x (omega arith)

-- each number of each cell is there
pub stored_at : (t : List ℕ) (j : ℕ) (l : List Cell) (a c : ℕ) → a < length l → c < 3 → (j + length l) * 3 ≤ length t
    → get_or (store_from t j l) ((j + a) * 3 + c) 0 ≡ get_or (numbers (get_or l a blank)) c 0
unfolding store_from
stored_at t j [] a c h k b = absurd (omega arith)
stored_at t j (x ∷ xs) zero c h k b =
    stored_before (store t j x) (j + 1) xs ((j + 0) * 3 + c) (omega arith)
    ∙ ap (λ (s : List ℕ). get_or s ((j + 0) * 3 + c) 0) (store_in t j x (omega arith))
    ∙ ap (λ (y : ℕ). get_or (sets t (j * 3) (numbers x)) y 0) (omega arith)
    ∙ sets_at t (j * 3) (numbers x) c (omega arith) (omega arith)
stored_at t j (x ∷ xs) (suc a) c h k b =
    ap (λ (y : ℕ). get_or (store_from (store t j x) (j + 1) xs) y 0) (omega arith)
    ∙ stored_at (store t j x) (j + 1) xs a c (omega arith) k (rw (store_length t j x) (omega arith))

-- the tag of each cell is there
pub stored_tag : (t : List ℕ) (j : ℕ) (l : List Cell) (a : ℕ) → a < length l → (j + length l) * 3 ≤ length t
    → tag_in (store_from t j l) (j + a) ≡ (get_or l a blank).tag
unfolding tag_in
stored_tag t j l a h b = stored_at t j l a 1 h (omega arith) b

-- and its value
pub stored_value : (t : List ℕ) (j : ℕ) (l : List Cell) (a : ℕ) → a < length l → (j + length l) * 3 ≤ length t
    → value_in (store_from t j l) (j + a) ≡ (get_or l a blank).value
unfolding value_in
stored_value t j l a h b = stored_at t j l a 2 h (omega arith) b

module _ (rows : List ℕ) (r f first count levels : ℕ) where
  -- a line's row keeps the length of the table
  pub put_length : length (put_row rows r f first count levels) ≡ length rows
  unfolding put_row
  put_length = length-sets rows (r * 5) (f ∷ first ∷ count ∷ levels ∷ [])

  -- all but its own four numbers
  pub put_outside : (x : ℕ) → ((c : ℕ) → c < 4 → x ≡ r * 5 + c → ⊥) → get_or (put_row rows r f first count levels) x 0 ≡ get_or rows x 0
  unfolding put_row
  put_outside x o = by (ltb x (r * 5)) refl (ltb x (r * 5 + 4)) refl
    where
      by : (b : Bool) → ltb x (r * 5) ≡ b → (d : Bool) → ltb x (r * 5 + 4) ≡ d
          → get_or (sets rows (r * 5) (f ∷ first ∷ count ∷ levels ∷ [])) x 0 ≡ get_or rows x 0
      by true p d q = sets_before rows (r * 5) (f ∷ first ∷ count ∷ levels ∷ []) x (ltb-true x (r * 5) p)
      by false p true q = absurd (o (x - r * 5) (omega (arith, ltb-true x (r * 5 + 4) q)) (omega (arith, ltb-false x (r * 5) p)))
      by false p false q = sets_behind rows (r * 5) (f ∷ first ∷ count ∷ levels ∷ []) x (ltb-false x (r * 5 + 4) q)

  -- so the four numbers of every other row
  pub put_other : (x c : ℕ) → c < 4 → (x ≡ r → ⊥) → get_or (put_row rows r f first count levels) (x * 5 + c) 0 ≡ get_or rows (x * 5 + c) 0
  put_other x c h n = put_outside (x * 5 + c) (λ d l e. n (omega (arith, e)))

  -- and every user
  pub put_user : (x : ℕ) → user_in (put_row rows r f first count levels) x ≡ user_in rows x
  unfolding user_in
  put_user x = put_outside (x * 5 + 4) (λ d l e. omega (arith, e))

  -- a row that is within the table has the form,
  pub put_form : r * 5 + 4 ≤ length rows → form_in (put_row rows r f first count levels) r ≡ f
  unfolding put_row form_in
  put_form h =
      ap (λ (x : ℕ). get_or (sets rows (r * 5) (f ∷ first ∷ count ∷ levels ∷ [])) x 0) (omega arith)
      ∙ sets_at rows (r * 5) (f ∷ first ∷ count ∷ levels ∷ []) 0 (omega arith) (omega arith)

  -- the first field,
  pub put_first : r * 5 + 4 ≤ length rows → first_in (put_row rows r f first count levels) r ≡ first
  unfolding put_row first_in
  put_first h = sets_at rows (r * 5) (f ∷ first ∷ count ∷ levels ∷ []) 1 (omega arith) (omega arith)

  -- the number of fields,
  pub put_count : r * 5 + 4 ≤ length rows → count_in (put_row rows r f first count levels) r ≡ count
  unfolding put_row count_in
  put_count h = sets_at rows (r * 5) (f ∷ first ∷ count ∷ levels ∷ []) 2 (omega arith) (omega arith)

  -- and the levels
  pub put_levels : r * 5 + 4 ≤ length rows → levels_in (put_row rows r f first count levels) r ≡ levels
  unfolding put_row levels_in
  put_levels h = sets_at rows (r * 5) (f ∷ first ∷ count ∷ levels ∷ []) 3 (omega arith) (omega arith)

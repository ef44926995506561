-- The laws of a table of errors: a table that is filled from the memory of a walk is that of the state that the memory holds. Assumes nothing.
use Rattle.std.specs.Prelude.{◌≡◌, refl, List, [], ◌∷◌, ℕ, zero, suc, ◌+◌, ◌-◌, ◌≤◌, ◌<◌, length, replicate, set, get_or}
use Rattle.std.proofs.Common.{sym, ap, ◌∙◌, arith, length-set, length-append, get_or-set_same, get_or-set_other, get_or-append-add, le-ltb}
use Rattle.std.proofs.Math.Decide.{dec_lt}
use Rattle.std.proofs.lemmas.List.{length-replicate, get_or-replicate}
use Rattle.std.proofs.Math.ListN.{get_or-append, get_or-eq_default}
use Rattle.record.specs.declared.TypingError.{TypingError}
use Rattle.errors.specs.declared.ErrorRow.{ErrorRow}
use Rattle.errors.specs.Rows.{zero_row, row_of, row_at, error_rows, padded_rows, row_in, filled_to}

-- ── a table that is filled ──

-- filling keeps the length
pub length-filled : (t : List ErrorRow) (f : ℕ → ErrorRow) (k : ℕ) → length (filled_to t f k) ≡ length t
unfolding filled_to
length-filled t f zero = refl
length-filled t f (suc k) = length-set (filled_to t f k) k _ ∙ length-filled t f k

-- a row that was filled
pub filled_at : (t : List ErrorRow) (f : ℕ → ErrorRow) (k i : ℕ) → i < length t → i < k → row_at (filled_to t f k) i ≡ f i
unfolding filled_to
filled_at t f zero i h l = absurd (omega arith)
filled_at t f (suc k) i h l = by (filled_at t f k i h) (dec_lt i k)
  where
    by : (i < k → row_at (filled_to t f k) i ≡ f i) → Dec (i < k) → row_at (set (filled_to t f k) k (f k)) i ≡ f i
    by again (yes g) = get_or-set_other (filled_to t f k) k i _ zero_row (λ q. omega arith) ∙ again g
    by again (no g) =
        let e : i ≡ k = omega arith in
        rw e (get_or-set_same (filled_to t f k) k (f k) zero_row (omega (arith, length-filled t f k)))

-- ── the errors of a memory ──

-- past the last
pub row-past : (m : List ℕ) (n i : ℕ) → n ≤ i → row_in m n i ≡ zero_row
unfolding row_in
row-past m n i h = rw (le-ltb i n h)

-- a row for each error
pub length_error_rows : (l : List TypingError) → length (error_rows l) ≡ length l
unfolding error_rows
length_error_rows [] = refl
length_error_rows (e ∷ l) = omega (arith, length-append (error_rows l) (row_of e ∷ []), length_error_rows l)

-- a table past its end
pub past : (t : List ErrorRow) (i : ℕ) → length t ≤ i → row_at t i ≡ zero_row
past t i h = get_or-eq_default t zero_row h

-- zeros behind a table change no row
pub padded_at : (t : List ErrorRow) (n i : ℕ) → i < n → row_at (padded_rows n t) i ≡ row_at t i
padded_at t n i h = by (dec_lt i (length t))
  where
    by : Dec (i < length t) → row_at (padded_rows n t) i ≡ row_at t i
    by (yes g) = get_or-append t (replicate (n - length t) zero_row) zero_row i g
    by (no g) =
        let j : length t + (i - length t) ≡ i = omega arith in
        ap (λ (k : ℕ). row_at (padded_rows n t) k) (sym j) ∙ get_or-append-add t (replicate (n - length t) zero_row) (i - length t) zero_row
        ∙ get_or-replicate (n - length t) (i - length t) zero_row zero_row (omega arith) ∙ sym (past t i (omega arith))

-- a table with zeros behind has the length that was asked for
pub length-padded : (t : List ErrorRow) (n : ℕ) → length t ≤ n → length (padded_rows n t) ≡ n
length-padded t n h = omega (arith, length-append t (replicate (n - length t) zero_row), length-replicate {A = ErrorRow} (n - length t) zero_row)

-- past the rows in use there are zeros, however many
pub behind_rows : (t : List ErrorRow) (n i : ℕ) → length t ≤ i → row_at (padded_rows n t) i ≡ zero_row
behind_rows t n i h = by (dec_lt i n)
  where
    by : Dec (i < n) → row_at (padded_rows n t) i ≡ zero_row
    by (yes g) = padded_at t n i g ∙ past t i h
    by (no g) = past (padded_rows n t) i (omega (arith, length-append t (replicate (n - length t) zero_row), length-replicate {A = ErrorRow} (n - length t) zero_row))

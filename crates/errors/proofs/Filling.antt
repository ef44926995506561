-- The laws of a table of errors: a table that is filled from the memory of a walk is that of the state that the memory holds. Assumes nothing.
use Rattle.std.specs.Prelude.{◌≡◌, List, [], ◌∷◌, ◌++◌, ℕ, zero, suc, ◌+◌, ◌-◌, ◌≤◌, ◌<◌, length, replicate, get_or}
use Rattle.std.proofs.Common.{sym, ap, ◌∙◌, arith, ext_get_or, lt-ltb}
use Rattle.std.proofs.Math.Decide.{dec_lt}
use Rattle.std.proofs.lemmas.List.{length-replicate, get_or-replicate, get_or_at}
use Rattle.std.proofs.Math.ListN.{get_or-append}
use Rattle.record.specs.declared.TypingError.{TypingError}
use Rattle.record.specs.declared.Record.{Record}
use Rattle.record.specs.Own.{error_at, errors_of}
use Rattle.record.specs.Regions.{length_errors}
use Rattle.record.specs.Steps.{State}
use Rattle.record.specs.Encodes.{Encodes}
use Rattle.errors.specs.declared.ErrorRow.{ErrorRow}
use Rattle.errors.specs.Rows.{zero_row, row_of, row_at, error_rows, padded_rows, zero_rows, row_in, filled_to}
use Rattle.errors.specs.Filling.{length-filled, filled_at, row-past, length_error_rows, past, padded_at, length-padded}

-- ── a table that is filled ──

-- a whole table
pub filled_whole : (t u : List ErrorRow) (f : ℕ → ErrorRow) → length u ≡ length t → ((i : ℕ) → i < length t → row_at u i ≡ f i) → filled_to t f (length t) ≡ u
filled_whole t u f e g =
    let n : length (filled_to t f (length t)) ≡ length t = length-filled t f (length t) in
    ext_get_or zero_row (filled_to t f (length t)) u (n ∙ sym e) (λ i h. let l : i < length t = omega arith in filled_at t f (length t) i l l ∙ sym (g i l))

-- ── the errors of a memory ──

-- a row of the memory, of an error
row_of_lem : (m : List ℕ) (n i : ℕ) → i < n → row_in m n i ≡ row_of (error_at m i)
unfolding row_in
row_of_lem m n i h = rw (lt-ltb i n h)

-- the errors of the memory, the oldest first
rows_at : (m : List ℕ) (n i : ℕ) → i < n → row_at (error_rows (errors_of m n)) i ≡ row_of (error_at m i)
unfolding error_rows errors_of
rows_at m zero i h = absurd (omega arith)
rows_at m (suc n) i h = by (rows_at m n i) (dec_lt i n)
  where
    k : length (error_rows (errors_of m n)) ≡ n
    k = length_error_rows (errors_of m n) ∙ length_errors m n

    by : (i < n → row_at (error_rows (errors_of m n)) i ≡ row_of (error_at m i)) → Dec (i < n) → row_at (error_rows (errors_of m n) ++ row_of (error_at m n) ∷ []) i ≡ row_of (error_at m i)
    by again (yes g) = get_or-append (error_rows (errors_of m n)) (row_of (error_at m n) ∷ []) zero_row i (omega (arith, k)) ∙ again g
    by again (no g) = let e : i ≡ n = omega arith in rw e (get_or_at (error_rows (errors_of m n)) (row_of (error_at m n)) [] zero_row n k)

-- ── the two ways to fill ──

-- from the state that the memory holds: its errors, the oldest first, and zeros behind them
pub filled_state : (m : List ℕ) (c : Record) (s : State) (t : List ErrorRow) → Encodes m c s → length s.errs ≤ length t
    → filled_to t (row_in m c.errors) (length t) ≡ padded_rows (length t) (error_rows s.errs)
filled_state m c s t e h =
    let n = c.errors in
    let k : length (error_rows s.errs) ≤ length t = omega (arith, length_error_rows s.errs) in
    filled_whole t (padded_rows (length t) (error_rows s.errs)) (row_in m n) (length-padded (error_rows s.errs) (length t) k) (λ i l.
    padded_at (error_rows s.errs) (length t) i l ∙ ap (λ (x : List TypingError). row_at (error_rows x) i) e.errors ∙ by (dec_lt i n))
  where
    by : {i : ℕ} → Dec (i < c.errors) → row_at (error_rows (errors_of m c.errors)) i ≡ row_in m c.errors i
    by {i} (yes g) = rows_at m c.errors i g ∙ sym (row_of_lem m c.errors i g)
    by {i} (no g) = past (error_rows (errors_of m c.errors)) i (omega (arith, length_error_rows (errors_of m c.errors), length_errors m c.errors)) ∙ sym (row-past m c.errors i (omega arith))

-- with no errors: zeros throughout
pub filled_none : (m : List ℕ) (t : List ErrorRow) → filled_to t (row_in m 0) (length t) ≡ zero_rows t
filled_none m t = filled_whole t (zero_rows t) (row_in m 0) (length-replicate (length t) zero_row) (λ i h. get_or-replicate (length t) i zero_row zero_row h ∙ sym (row-past m 0 i (omega arith)))

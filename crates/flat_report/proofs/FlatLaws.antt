-- What each return and turn of a function over rows as numbers shows, over plain variables. Assumes nothing.
use mathlib.Core.Path.{◌≡◌, refl, sym, ◌∙◌}
use mathlib.Core.List.{List, []}
use Prim.Native.Nat.{ℕ, zero, suc, ◌+◌, ◌*◌, ◌≤◌, ◌<◌}
use native.Mathlib.Omega.{arith}
use native.Mathlib.Numerals.{add-one, towards_suc}
use lib.ListN.{length, replicate, length-replicate}
use lib.Seq.{sets, sets-eq, set-get_or}
use Rattle.std.proofs.lemmas.Slice.{put_mid-paste}
use borrow.Rule.Slice.PartMut.{put_mid}
use Rattle.errors.specs.declared.ErrorRow.{ErrorRow}
use Rattle.errors.specs.Rows.{zero_row, row_at, row_in, filled_to}
use Rattle.errors.specs.Filling.{filled_at, length-filled}
use Rattle.answers.specs.declared.Answer.{Answer}
use Rattle.answers.specs.declared.Answer.TheVariants as answer
use Rattle.answers.specs.Lent.{Lent, lent, errors_used, errors_end, errors_handed, memory_ended}
use Rattle.report_text.specs.declared.Reported.{Reported}
use Rattle.report_text.specs.Written.{checked_answer}
use Rattle.report.specs.Parts.{TablesReported}
use Rattle.flat_report.specs.Flat.{row_from, row_numbers, rows_from, rows_in, put_rows, Flat}

-- ── a row ──

-- a row that is written where it was read changes nothing
row_back : (t : List ℕ) (i : ℕ) → sets t (i * 9) (row_numbers (row_from t i)) ≡ t
unfolding row_from
row_back t i = simp (towards_suc, set-get_or)

-- ── rows ──

-- no row was written yet
pub put_none : (t : List ℕ) (f : ℕ → ErrorRow) → t ≡ put_rows t f 0
unfolding put_rows
put_none t f = refl

-- one row more, copied over its nine numbers
pub put_more : (t u v : List ℕ) (f : ℕ → ErrorRow) (r : ErrorRow) (i k : ℕ) → u ≡ put_rows t f i → r ≡ f i → v ≡ row_numbers r → k ≡ 9 → i * 9 + 9 ≤ length u
    → put_mid (i * 9) k u v ≡ put_rows t f (i + 1)
unfolding put_rows
put_more t u v f r i k p e w q h = put_mid-paste (i * 9) k u v (row_numbers r) 9 w (sym q) refl ∙ sym (sets-eq (row_numbers r) u (i * 9) h) ∙ rw (add-one i, ← p, ← e) refl

-- the same rows
put_same : (t : List ℕ) (f g : ℕ → ErrorRow) (n : ℕ) → ((i : ℕ) → i < n → f i ≡ g i) → put_rows t f n ≡ put_rows t g n
unfolding put_rows
put_same t f g zero h = refl
put_same t f g (suc i) h = rw (put_same t f g i (λ j l. h j (omega arith)), h i (omega arith))

-- rows that are written where they were read change nothing
put_back : (t : List ℕ) (n : ℕ) → put_rows t (row_from t) n ≡ t
unfolding put_rows
put_back t zero = refl
put_back t (suc i) = rw (put_back t i) (row_back t i)

-- so many rows were read
rows_length : (t : List ℕ) (n : ℕ) → length (rows_from t n) ≡ n
unfolding rows_from
rows_length t n = length-filled (replicate n zero_row) (row_from t) n ∙ length-replicate n zero_row

-- and each
rows_at : (t : List ℕ) (n i : ℕ) → i < n → row_at (rows_from t n) i ≡ row_from t i
unfolding rows_from
rows_at t n i h = filled_at (replicate n zero_row) (row_from t) n i (rw (length-replicate n zero_row) h) h

-- ── the report ──

-- all rows are handed back
handed_all : (t : List ℕ) (e : List ErrorRow) (f : ℕ → ErrorRow) (n : ℕ) → length e ≡ n → put_rows t f n ≡ put_rows t (row_at (filled_to e f (length e))) n
handed_all t e f n k = put_same t f (row_at (filled_to e f (length e))) n (λ i h. sym (filled_at e f (length e) i (omega (arith, h, k)) (omega (arith, h, k))))

-- or none
handed_none : (t : List ℕ) (n : ℕ) → t ≡ put_rows t (row_at (rows_from t n)) n
handed_none t n = sym (put_same t (row_at (rows_from t n)) (row_from t) n (rows_at t n) ∙ put_back t n)

-- by the answer
handed : (a : Answer) (t m : List ℕ) (n : ℕ) → put_rows t (row_in m (errors_used a)) (errors_end a n) ≡ put_rows t (row_at (errors_handed a (rows_from t n) m)) n
unfolding put_rows filled_to
handed (answer.Checked c) t m n = handed_all t (rows_from t n) (row_in m c.errors) n (rows_length t n)
handed answer.TooLong t m n = handed_none t n
handed answer.ShortTable t m n = handed_none t n
handed (answer.Refused x l) t m n = handed_all t (rows_from t n) (row_in m 0) n (rows_length t n)
handed (answer.Declined k p) t m n = handed_all t (rows_from t n) (row_in m 0) n (rows_length t n)

-- no more rows are written than there are
pub end_within : (a : Answer) (n : ℕ) → errors_end a n ≤ n
end_within (answer.Checked c) n = omega arith
end_within answer.TooLong n = omega arith
end_within answer.ShortTable n = omega arith
end_within (answer.Refused x l) n = omega arith
end_within (answer.Declined k p) n = omega arith

-- the tables and the text, then the errors and the end of the memory
pub flat_law : (s rows cells nodes vars types errors log memory out : List ℕ) (r : Reported) (u : Lent) (out' errors' memory' : List ℕ) (a : Answer) (k e n : ℕ)
    → n ≡ rows_in (length errors) → TablesReported s n (lent rows cells nodes vars types [] log memory) out r u out' → a ≡ checked_answer r → k ≡ errors_used a → e ≡ errors_end a n
    → errors' ≡ put_rows errors (row_in u.memory k) e → memory' ≡ memory_ended a u.memory
    → Flat s rows cells nodes vars types errors log memory out r u.rows u.cells u.nodes u.vars u.types errors' u.log memory' out'
flat_law s rows cells nodes vars types errors log memory out r u out' errors' memory' a k e n q p d f g h v = record {
  last = errors_handed a (rows_from errors n) u.memory;
  stands = rw (v, d, ← q) (p.with_errors_lem (rows_from errors n) (rows_length errors n));
  written = rw (h, f, g, ← q) (handed a errors u.memory n);
}

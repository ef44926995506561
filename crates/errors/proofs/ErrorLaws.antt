-- What each return of a function that reads an error shows, over plain variables. Assumes nothing.
use mathlib.Core.Path.{◌≡◌, refl, sym, ◌∙◌}
use mathlib.Core.List.{List}
use native.Mathlib.Decide.{dec_lt}
use Prim.Native.Nat.{ℕ, suc, zero, min, ◌+◌, ◌*◌, ◌≤◌, ◌<◌}
use native.Mathlib.Omega.{arith}
use borrow.Author.Tests.{eq-eqb, ne_eqb, lt-ltb, le-ltb}
use Rattle.type_table.specs.Memory.{cell}
use Rattle.record.specs.Own.{errors_at, kind_number, kind_at, span_tag, span_value, span_of, second_tag, second_value, second_of, error_at}
use Rattle.errors.specs.declared.ErrorRow.{ErrorRow}
use Rattle.errors.specs.Rows.{zero_row, row_of, row_in}

-- ── KIND ──

-- a position stays
pub kind_low : (k : ℕ) → k < 10 → k ≡ kind_number (kind_at k)
unfolding kind_at
kind_low zero h = refl
kind_low (suc zero) h = refl
kind_low (suc (suc zero)) h = refl
kind_low (suc (suc (suc zero))) h = refl
kind_low (suc (suc (suc (suc zero)))) h = refl
kind_low (suc (suc (suc (suc (suc zero))))) h = refl
kind_low (suc (suc (suc (suc (suc (suc zero)))))) h = refl
kind_low (suc (suc (suc (suc (suc (suc (suc zero))))))) h = refl
kind_low (suc (suc (suc (suc (suc (suc (suc (suc zero)))))))) h = refl
kind_low (suc (suc (suc (suc (suc (suc (suc (suc (suc zero))))))))) h = refl
kind_low (suc (suc (suc (suc (suc (suc (suc (suc (suc (suc k)))))))))) h = absurd (omega arith)

-- what is no position is the last
pub kind_high : (k : ℕ) → 10 ≤ k → 10 ≡ kind_number (kind_at k)
unfolding kind_at
kind_high k h =
    rw (ne_eqb k 0 (λ q. omega arith), ne_eqb k 1 (λ q. omega arith), ne_eqb k 2 (λ q. omega arith), ne_eqb k 3 (λ q. omega arith), ne_eqb k 4 (λ q. omega arith), ne_eqb k 5 (λ q. omega arith), ne_eqb k 6 (λ q. omega arith), ne_eqb k 7 (λ q. omega arith), ne_eqb k 8 (λ q. omega arith), ne_eqb k 9 (λ q. omega arith))

-- both
pub kind_min : (k r : ℕ) → r ≡ min k 10 → r ≡ kind_number (kind_at k)
kind_min k r e = by (dec_lt k 10)
  where
    by : Dec (k < 10) → r ≡ kind_number (kind_at k)
    by (yes h) = let i : r ≡ k = omega arith in i ∙ kind_low k h
    by (no h) = let i : r ≡ 10 = omega arith in i ∙ kind_high k (omega arith)

-- ── P and Q ──

-- the tag of P
pub span_min : (p x r : ℕ) → r ≡ min p 2 → r ≡ span_tag (span_of p x)
unfolding span_of
span_min zero x r e = omega arith
span_min (suc zero) x r e = omega arith
span_min (suc (suc p)) x r e = rw (ne_eqb (suc (suc p)) 0 (λ q. omega arith), ne_eqb (suc (suc p)) 1 (λ q. omega arith)) (omega arith)

-- a node or a bind item has a number
pub span_low : (p x : ℕ) → p < 2 → x ≡ span_value (span_of p x)
unfolding span_of
span_low zero x h = refl
span_low (suc zero) x h = refl
span_low (suc (suc p)) x h = absurd (omega arith)

-- the signature has none
pub span_high : (p x : ℕ) → 2 ≤ p → 0 ≡ span_value (span_of p x)
unfolding span_of
span_high p x h = rw (ne_eqb p 0 (λ q. omega arith), ne_eqb p 1 (λ q. omega arith)) refl

-- there is no Q
pub second_none : (q x : ℕ) → q ≡ 0 → (0 ≡ second_tag (second_of q x)) × (0 ≡ second_value (second_of q x))
unfolding second_of
second_none q x e = rw (eq-eqb q 0 e) (refl, refl)

-- Q is a node
pub second_node : (q x : ℕ) → (q ≡ 0 → ⊥) → (1 ≡ second_tag (second_of q x)) × (x ≡ second_value (second_of q x))
unfolding second_of
second_node q x e = rw (ne_eqb q 0 e) (refl, refl)

-- ── the row ──

-- past the last error
pub row-past : (m : List ℕ) (n i : ℕ) (r : ErrorRow) → n ≤ i → r ≡ zero_row → r ≡ row_in m n i
unfolding row_in
row-past m n i r h e = rw (le-ltb i n h) e

-- the row of an error, by what was read of it
pub row_read : (m : List ℕ) (n i f k cause p x q y a b c kind span at between second : ℕ) → i < n → f ≡ errors_at + i * 9
    → k ≡ cell m f → cause ≡ cell m (f + 1) → p ≡ cell m (f + 2) → x ≡ cell m (f + 3) → q ≡ cell m (f + 4) → y ≡ cell m (f + 5) → a ≡ cell m (f + 6) → b ≡ cell m (f + 7) → c ≡ cell m (f + 8)
    → kind ≡ kind_number (kind_at k) → span ≡ span_tag (span_of p x) → at ≡ span_value (span_of p x) → between ≡ second_tag (second_of q y) → second ≡ second_value (second_of q y)
    → ◌≡◌ {A = ErrorRow} (record { kind = kind; cause = cause; span = span; at = at; between = between; second = second; a = a; b = b; c = c }) (row_in m n i)
unfolding row_in row_of error_at
row_read m n i f k cause p x q y a b c kind span at between second h pf c0 c1 c2 c3 c4 c5 c6 c7 c8 r0 r1 r2 r3 r4 =
    let z0 : errors_at + i * 9 + 0 ≡ f = omega arith in
    let z1 : errors_at + i * 9 + 1 ≡ f + 1 = omega arith in
    let z2 : errors_at + i * 9 + 2 ≡ f + 2 = omega arith in
    let z3 : errors_at + i * 9 + 3 ≡ f + 3 = omega arith in
    let z4 : errors_at + i * 9 + 4 ≡ f + 4 = omega arith in
    let z5 : errors_at + i * 9 + 5 ≡ f + 5 = omega arith in
    let z6 : errors_at + i * 9 + 6 ≡ f + 6 = omega arith in
    let z7 : errors_at + i * 9 + 7 ≡ f + 7 = omega arith in
    let z8 : errors_at + i * 9 + 8 ≡ f + 8 = omega arith in
    rw (lt-ltb i n h, z0, z1, z2, z3, z4, z5, z6, z7, z8, ← c0, ← c1, ← c2, ← c3, ← c4, ← c5, ← c6, ← c7, ← c8, ← r0, ← r1, ← r2, ← r3, ← r4) refl

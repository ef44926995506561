-- No two type rows are equal: what a line that repeats none says, and that later lines keep it.
-- Assumes nothing.
use Prim.Native.Nat.{ℕ, zero, suc, ◌+◌, ◌<◌, ◌≤◌}
use Rattle.std.proofs.Common.{add-zero, arith, ap, ◌∙◌, true≢false}
use Rattle.std.specs.Prelude.{◌≡◌, List, Bool}
use Rattle.std.proofs.Math.Path.{refl}
use Rattle.std.proofs.Math.Bool.{true, false, cond}
use Rattle.std.proofs.Math.Dec.{eqb}
use borrow.Author.Tests.{eqb-true}
use Rattle.refs.specs.Refs.{form_in, first_in, count_in, value_in, same_values, is_same, is_repeated}

-- where no row of m is the same, the row i is not
pub none_same : (m r : ℕ) (rows cells : List ℕ) (f b c i : ℕ) → is_repeated m r rows cells f b c ≡ false → i < m → is_same rows cells (r + i) f b c ≡ false
unfolding is_repeated
none_same zero r rows cells f b c i h l = absurd (omega arith)
none_same (suc m) r rows cells f b c i h l = by i (is_same rows cells r f b c) refl h l (none_same m (r + 1) rows cells f b c)
  where
    by : (i : ℕ) (x : Bool) → is_same rows cells r f b c ≡ x → cond x true (is_repeated m (r + 1) rows cells f b c) ≡ false → i < suc m
        → ((i : ℕ) → is_repeated m (r + 1) rows cells f b c ≡ false → i < m → is_same rows cells (r + 1 + i) f b c ≡ false)
        → is_same rows cells (r + i) f b c ≡ false
    by i true p h l again = absurd (true≢false h)
    by zero false p h l again = rw (add-zero r) p
    by (suc i) false p h l again = ap (λ (x : ℕ). is_same rows cells x f b c) (omega arith) ∙ again i h (omega arith)

module _ (l : ℕ) (cells cells' : List ℕ) (kept : (j : ℕ) → j < l → value_in cells' j ≡ value_in cells j) where
  -- values among the first l that were equal stay so, and others stay apart
  values_kept : (m a b : ℕ) → a + m ≤ l → b + m ≤ l → same_values m a b cells' ≡ same_values m a b cells
  unfolding same_values
  values_kept zero a b ha hb = refl
  values_kept (suc m) a b ha hb = rw (kept a (omega arith), kept b (omega arith), values_kept m (a + 1) (b + 1) (omega arith) (omega arith))

  -- a row is the same as a line where it was, while its form and its fields stay
  pub same_kept : (rows rows' : List ℕ) (r f b m : ℕ) → form_in rows' r ≡ form_in rows r → first_in rows' r ≡ first_in rows r → count_in rows' r ≡ count_in rows r
      → first_in rows r + count_in rows r ≤ l → b + m ≤ l → is_same rows' cells' r f b m ≡ is_same rows cells r f b m
  unfolding is_same
  same_kept rows rows' r f b m form first count hr hb = rw (form, first, count) (by (eqb (form_in rows r) f) (eqb (count_in rows r) m) refl)
    where
      by : (c d : Bool) → eqb (count_in rows r) m ≡ d
          → cond c (cond d (same_values m (first_in rows r) b cells') false) false ≡ cond c (cond d (same_values m (first_in rows r) b cells) false) false
      by false d p = refl
      by true false p = refl
      by true true p = values_kept m (first_in rows r) b (omega (arith, eqb-true (count_in rows r) m p)) hb

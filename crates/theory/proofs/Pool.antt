-- Pooling by value, first made first: which row `first_equal` answers, and that the row a made type is given is that type. Assumes nothing.
use Rattle.std.specs.Prelude.{◌≡◌, ◌↔◌, List, [], ◌∷◌, Bool, true, false, cond, ℕ, suc, zero, ◌<◌, length}
use Rattle.std.proofs.Math.Path.{refl}
use Rattle.std.proofs.Common.{arith}
use Rattle.std.proofs.Math.Option.{Option, none, some}
use Rattle.theory.specs.Rules.{Shape, row, head}
use Rattle.theory.specs.Program.{St, made_of, equal_rows, first_equal, sane, appended, pooled, interned}
use Rattle.theory.specs.Basics.{clash, eqb_same}
use Rattle.theory.specs.Lift.{row_new}
use Rattle.theory.specs.Pool.{equal_rows_same, First, FirstFrom}

-- ── equal by value is equal ──

-- of an instance, an array, a reference or a definition's type: equal by value exactly where equal
pub equal_rows_iff : (s t : Shape) (a : ℕ) → made_of t ≡ some a → (equal_rows s t ≡ true) ↔ (s ≡ t)
equal_rows_iff s t a e = (equal_rows_same s t, λ p. rw (p, eqb_same (head t), e, eqb_same a))

-- ── what `first_equal` answers ──

first_from : (n : ℕ) (rows : List Shape) (t : Shape) → FirstFrom n rows t (first_equal n rows t)
first_from n [] t = λ x h. absurd (omega arith)
first_from n (s ∷ l) t = by (equal_rows s t) refl (first_equal (suc n) l t) (first_from (suc n) l t)
  where
    before : (x : ℕ) → equal_rows s t ≡ false → ((y : ℕ) → suc y ≡ x → equal_rows (row l y) t ≡ false) → equal_rows (row (s ∷ l) x) t ≡ false
    before zero e f = e
    before (suc x) e f = f x refl

    by : (c : Bool) → equal_rows s t ≡ c → (o : Option ℕ) → FirstFrom (suc n) l t o → FirstFrom n (s ∷ l) t (cond c (some n) o)
    by true e o h = (0, omega arith, record { in_table = omega arith; equal = e; none_lower = λ x k. absurd (omega arith) })
    by false e none h = λ x k. before x e (λ y q. h y (omega arith))
    by false e (some r) h = (suc h.0, omega (arith, h.1), record { in_table = omega (arith, h.2.in_table); equal = h.2.equal; none_lower = λ x k. before x e (λ y q. h.2.none_lower y (omega arith)) })

-- an answer is the first row equal by value
pub first_some : (rows : List Shape) (t : Shape) (r : ℕ) → first_equal 0 rows t ≡ some r → First rows t r
first_some rows t r e = by (first_equal 0 rows t) e (first_from 0 rows t)
  where
    by : (o : Option ℕ) → o ≡ some r → FirstFrom 0 rows t o → First rows t r
    by none q h = clash (cc)
    by (some x) q h = let j : h.0 ≡ r = (let i = h.1 in let z : x ≡ r = cc in omega arith) in rw (← j) h.2

-- no answer: no row of the table is equal by value
pub first-none : (rows : List Shape) (t : Shape) → first_equal 0 rows t ≡ none → (x : ℕ) → x < length rows → equal_rows (row rows x) t ≡ false
first-none rows t e = by (first_equal 0 rows t) e (first_from 0 rows t)
  where
    by : (o : Option ℕ) → o ≡ none → FirstFrom 0 rows t o → (x : ℕ) → x < length rows → equal_rows (row rows x) t ≡ false
    by none q h = h
    by (some x) q h = clash (cc)

-- ── the row that a made type is given ──

module _ {X Er : Type 0} (t : Shape) (s : St X Er) (made : sane (length s.rows) t ≡ true) where
  -- it is that type
  pub interned_row : row (interned t s).1.rows (interned t s).0 ≡ t
  unfolding interned appended
  interned_row = rw made (by (first_equal 0 s.rows t) refl)
    where
      by : (o : Option ℕ) → first_equal 0 s.rows t ≡ o → row (pooled t o s).1.rows (pooled t o s).0 ≡ t
      by none e = row_new s.rows t (length s.rows) refl
      by (some r) e = equal_rows_same (row s.rows r) t (first_some s.rows t r e).equal

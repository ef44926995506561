-- Pooling by value, first made first: which row `first_equal` answers, and that the row a made type is given is that type. Assumes nothing.
use Rattle.std.specs.Prelude.{◌≡◌, List, true, false, cond, ℕ, ◌+◌, ◌<◌, length, eqb}
use Rattle.std.proofs.Math.Path.{refl}
use Rattle.std.proofs.Common.{ap, sym, ◌∙◌}
use Rattle.std.proofs.Math.Option.{Option, none, some}
use Rattle.theory.specs.Rules.{bool, nil, float, double, uint, int, inst, Shape, base, var, arr, ref, fn, fun, lam, err, div, row, head, array_head, fn_def_head, ref_head}
use Rattle.theory.specs.Program.{made_of, equal_numbers, equal_rows}
use Rattle.theory.specs.Basics.{clash, and_both, eqb-true}

-- ── equal by value is equal ──

-- the type of a head that is made of a number
rebuilt : ℕ → ℕ → Shape
rebuilt h a = cond (eqb h array_head) (arr a) (cond (eqb h ref_head) (ref a) (cond (eqb h fn_def_head) (fn a) (base (inst a))))

made-is : (s : Shape) (a : ℕ) → made_of s ≡ some a → s ≡ rebuilt (head s) a
unfolding rebuilt
made-is (base bool) a e = cc
made-is (base nil) a e = cc
made-is (base float) a e = cc
made-is (base double) a e = cc
made-is (base (uint w)) a e = cc
made-is (base (int w)) a e = cc
made-is (base (inst k)) a e = cc
made-is (var v) a e = cc
made-is (arr y) a e = cc
made-is (ref y) a e = cc
made-is (fn d) a e = cc
made-is (fun s o i) a e = cc
made-is (lam n o i) a e = cc
made-is err a e = cc
made-is div a e = cc

-- rows equal by value are equal
pub equal_rows_same : (s t : Shape) → equal_rows s t ≡ true → s ≡ t
equal_rows_same s t e = by (made_of s) (made_of t) refl refl h.1
  where
    h : (eqb (head s) (head t) ≡ true) × (equal_numbers (made_of s) (made_of t) ≡ true)
    h = and_both (eqb (head s) (head t)) (equal_numbers (made_of s) (made_of t)) e

    by : (o p : Option ℕ) → made_of s ≡ o → made_of t ≡ p → equal_numbers o p ≡ true → s ≡ t
    by none p q r k = clash (cc)
    by (some a) none q r k = clash (cc)
    by (some a) (some b) q r k = made-is s a q ∙ ap (λ (n : ℕ). rebuilt n a) (eqb-true (head s) (head t) h.0) ∙ sym (made-is t a (r ∙ ap some (sym (eqb-true a b k))))

-- ── what `first_equal` answers ──

-- the row r is equal to t by value, and no lower row is
pub record First (rows : List Shape) (t : Shape) (r : ℕ) : Type 0 where
  pub in_table : r < length rows
  pub equal : equal_rows (row rows r) t ≡ true
  pub none_lower : (x : ℕ) → x < r → equal_rows (row rows x) t ≡ false

-- what an answer says of rows that count from n
abbrev pub FirstFrom : ℕ → List Shape → Shape → Option ℕ → Type 0
FirstFrom n rows t none = (x : ℕ) → x < length rows → equal_rows (row rows x) t ≡ false
FirstFrom n rows t (some r) = (k : ℕ) × (r ≡ n + k) × First rows t k

-- A row of a memory by its head: what holds of each of the fifteen heads holds of the row. Assumes nothing.
use Rattle.std.specs.Prelude.{◌≡◌, ◌≢◌, List, Bool, ℕ, suc, ◌+◌, ◌*◌, ◌≤◌, ◌<◌, eqb, leb}
use Rattle.std.proofs.Common.{sym, ap, ◌∙◌, eq-eqb, ne_eqb, lt-ltb, le-ltb}
use Rattle.std.proofs.Math.Bool.{true, false}
use native.Mathlib.Omega.{arith}
use Rattle.std.proofs.Math.Decide.{ℕ_discrete, dec_lt}
use Rattle.theory.specs.Rules.{bool, nil, float, double, uint, int, inst, Shape, base, var, arr, ref, fn, fun, lam, err, div, head, row}
use Rattle.type_table.specs.Memory.{pick, head_of, head_at, number_at, output_at, first_at, count_at, inputs_from, width_of, shape_of, shape_at, rows_of, cell, rows_at}
use Rattle.type_table.specs.Tables.{row_at}

module _ (m : List ℕ) (n : ℕ) where
  -- a head is one of fifteen
  pub head_low : (x : ℕ) → head_at m n x < 15
  unfolding head_at
  head_low x = by (leb n x) (dec_lt (cell m (rows_at + x * 5)) 15)
    where
      by : (c : Bool) → Dec (cell m (rows_at + x * 5) < 15) → pick c 9 (head_of (cell m (rows_at + x * 5))) < 15
      by true d = omega arith
      by false (yes h) = rw (lt-ltb (cell m (rows_at + x * 5)) 15 h) h
      by false (no h) = let k : 15 ≤ cell m (rows_at + x * 5) = omega arith in rw (le-ltb (cell m (rows_at + x * 5)) 15 k) (omega arith)

-- ── a row by its head ──

-- what holds of both holds of the one that is chosen by an equation of numbers
pick_case : {A : Type 0} (P : A → Type 0) (h k : ℕ) (a b : A) → (h ≡ k → P a) → (h ≢ k → P b) → P (pick (eqb h k) a b)
pick_case P h k a b f g = by (ℕ_discrete h k)
  where
    by : Dec (h ≡ k) → P (pick (eqb h k) a b)
    by (yes e) = rw (eq-eqb h k e) (f e)
    by (no n) = rw (ne_eqb h k n) (g n)

-- ── numbers below fifteen ──

zero≤ : (h : ℕ) → 0 ≤ h
zero≤ h = omega arith

le_of_lt : (h : ℕ) → h < 15 → h ≤ 14
le_of_lt h l = omega arith

up : (h k : ℕ) → k ≤ h → h ≢ k → suc k ≤ h
up h k l n = omega arith

dn : (h k : ℕ) → h ≤ suc k → h ≢ suc k → h ≤ k
dn h k l n = omega arith

meet : (h k : ℕ) → k ≤ h → h ≤ k → h ≡ k
meet h k l n = omega arith

-- what is no other head is Nil's
nil-left : (h : ℕ) → h ≤ 14 → h ≢ 0 → h ≢ 1 → h ≢ 2 → h ≢ 3 → h ≢ 4 → h ≢ 5 → h ≢ 6 → h ≢ 7 → h ≢ 8 → h ≢ 10 → h ≢ 11 → h ≢ 12 → h ≢ 13 → h ≢ 14 → h ≡ 9
nil-left h l n0 n1 n2 n3 n4 n5 n6 n7 n8 n10 n11 n12 n13 n14 =
    meet h 9 (up h 8 (up h 7 (up h 6 (up h 5 (up h 4 (up h 3 (up h 2 (up h 1 (up h 0 (zero≤ h) n0) n1) n2) n3) n4) n5) n6) n7) n8)
    (dn h 9 (dn h 10 (dn h 11 (dn h 12 (dn h 13 l n14) n13) n12) n11) n10)

module _ (h a o : ℕ) (i : List ℕ) (l : h < 15) (P : Shape → Type 0) where
  -- what holds of each head holds of the row
  pub shape_cases : (h ≡ 0 → P (base bool)) → (h ≡ 1 → P (base (uint (width_of a)))) → (h ≡ 2 → P (base (int (width_of a)))) → (h ≡ 3 → P (base float)) → (h ≡ 4 → P (base double)) → (h ≡ 5 → P (base (inst a)))
      → (h ≡ 6 → P (fun a o i)) → (h ≡ 7 → P (fn a)) → (h ≡ 8 → P (arr a)) → (h ≡ 9 → P (base nil)) → (h ≡ 10 → P err) → (h ≡ 11 → P div) → (h ≡ 12 → P (var a)) → (h ≡ 13 → P (lam a o i)) → (h ≡ 14 → P (ref a)) → P (shape_of h a o i)
  unfolding shape_of
  shape_cases f0 f1 f2 f3 f4 f5 f6 f7 f8 f9 f10 f11 f12 f13 f14 =
      pick_case P h 0 _ _ f0 (λ n0. pick_case P h 1 _ _ f1 (λ n1. pick_case P h 2 _ _ f2 (λ n2. pick_case P h 3 _ _ f3 (λ n3. pick_case P h 4 _ _ f4 (λ n4. pick_case P h 5 _ _ f5 (λ n5. pick_case P h 6 _ _ f6 (λ n6. pick_case P h 7 _ _ f7
      (λ n7. pick_case P h 8 _ _ f8 (λ n8. pick_case P h 10 _ _ f10 (λ n10. pick_case P h 11 _ _ f11 (λ n11. pick_case P h 12 _ _ f12 (λ n12. pick_case P h 13 _ _ f13 (λ n13. pick_case P h 14 _ _ f14
      (λ n14. f9 (nil-left h (le_of_lt h l) n0 n1 n2 n3 n4 n5 n6 n7 n8 n10 n11 n12 n13 n14)))))))))))))))

-- the head of the row
pub head_is : (h a o : ℕ) (i : List ℕ) → h < 15 → head (shape_of h a o i) ≡ h
head_is h a o i l = shape_cases h a o i l (λ s. head s ≡ h) sym sym sym sym sym sym sym sym sym sym sym sym sym sym sym

-- ── the rows of a memory ──

module _ (m : List ℕ) (n x : ℕ) where
  -- the row x
  pub row_by : row (rows_of m n) x ≡ shape_of (head_at m n x) (number_at m n x) (output_at m n x) (inputs_from m (first_at m n x) (count_at m n x))
  unfolding shape_at
  row_by = row_at m n x

  -- its head
  pub head_row : head (row (rows_of m n) x) ≡ head_at m n x
  head_row = ap head row_by ∙ head_is (head_at m n x) (number_at m n x) (output_at m n x) (inputs_from m (first_at m n x) (count_at m n x)) (head_low m n x)

  -- a variable
  pub var_row_lem : head_at m n x ≡ 12 → row (rows_of m n) x ≡ var (number_at m n x)
  unfolding shape_of
  var_row_lem e = row_by ∙ rw e

-- The memory's cells and the rules' tables: what an operation reads is what the rules read.
use Rattle.std.specs.Prelude.{◌≡◌, ◌≢◌, List, Bool, false, ◌||◌, ℕ, suc, zero, ◌+◌, ◌-◌, ◌≤◌, ◌<◌, eqb, ltb}
use Rattle.std.proofs.Math.Path.{refl, ap₂}
use Rattle.std.proofs.Common.{sym, ap, ◌∙◌, arith, eq-eqb, ne_eqb, lt-ltb, le-ltb}
use Rattle.std.proofs.Math.Decide.{ℕ_discrete, dec_lt}
use Rattle.theory.specs.Rules.{Width, w8, w16, w32, w64, Base, bool, nil, float, double, uint, int, inst, Shape, base, row, fits, base_fits, kind_fits, is_regular, signed, alike, is_yes, base_discrete, width_discrete, regular, integer, floating}
use Rattle.theory.specs.Rules.{Kind as KindT}
use Rattle.type_table.specs.Memory.{pick, head_at, number_at, output_at, first_at, count_at, inputs_from, width_of, shape_of, shape_at, rows_of}
use Rattle.type_table.specs.Tables.{row_at}
use Rattle.type_table.specs.Heads.{head_low, shape_cases, row_by}
use Rattle.unify.specs.Leaf.{cap, code}

-- the number of a width's code
pub code_width : (a : ℕ) → width_of a ≡ width_of (cap a)
code_width a = by (dec_lt a 3)
  where
    by : Dec (a < 3) → width_of a ≡ width_of (cap a)
    by (yes h) = rw (lt-ltb a 3 h)
    by (no h) = let k : 3 ≤ a = omega arith in rw (le-ltb a 3 k) (big a k)
      where
        big : (a : ℕ) → 3 ≤ a → width_of a ≡ w64
        big zero h = absurd (omega arith)
        big (suc zero) h = absurd (omega arith)
        big (suc (suc zero)) h = absurd (omega arith)
        big (suc (suc (suc n))) h = refl

module _ (h a o : ℕ) (i : List ℕ) (l : h < 15) where
  pub signed_is : signed (shape_of h a o i) ≡ (eqb h 2 || eqb h 12)
  signed_is = shape_cases h a o i l (λ s. signed s ≡ (eqb h 2 || eqb h 12)) (λ e. rw e) (λ e. rw e) (λ e. rw e) (λ e. rw e) (λ e. rw e) (λ e. rw e) (λ e. rw e) (λ e. rw e) (λ e. rw e) (λ e. rw e) (λ e. rw e) (λ e. rw e) (λ e. rw e) (λ e. rw e) (λ e. rw e)

  -- the kind test against a row that is no variable, by its head
  abbrev class_by : KindT
  class_by = pick (eqb h 1) integer (pick (eqb h 2) integer (pick (eqb h 3) floating (pick (eqb h 4) floating regular)))

  pub fits_by : (kinds : List KindT) (k : KindT) → h ≢ 12 → fits kinds k (shape_of h a o i) ≡ kind_fits k class_by
  fits_by kinds k n = shape_cases h a o i l (λ s. fits kinds k s ≡ kind_fits k class_by) (λ e. rw e (plain k)) (λ e. rw e (whole k)) (λ e. rw e (whole2 k)) (λ e. rw e (part k)) (λ e. rw e (part2 k)) (λ e. rw e (plain2 k)) (λ e. rw e (plain3 k)) (λ e. rw e (plain3 k)) (λ e. rw e (plain3 k)) (λ e. rw e (plain4 k)) (λ e. rw e (plain3 k)) (λ e. rw e (plain3 k)) (λ e. absurd (n e)) (λ e. rw e (plain3 k)) (λ e. rw e (plain3 k))
    where
      plain : (k : KindT) → base_fits k bool ≡ kind_fits k regular
      plain regular = refl
      plain integer = refl
      plain floating = refl

      plain2 : (k : KindT) → base_fits k (inst a) ≡ kind_fits k regular
      plain2 regular = refl
      plain2 integer = refl
      plain2 floating = refl

      plain3 : (k : KindT) → is_regular k ≡ kind_fits k regular
      plain3 regular = refl
      plain3 integer = refl
      plain3 floating = refl

      plain4 : (k : KindT) → base_fits k nil ≡ kind_fits k regular
      plain4 regular = refl
      plain4 integer = refl
      plain4 floating = refl

      whole : (k : KindT) → base_fits k (uint (width_of a)) ≡ kind_fits k integer
      whole regular = refl
      whole integer = refl
      whole floating = refl

      whole2 : (k : KindT) → base_fits k (int (width_of a)) ≡ kind_fits k integer
      whole2 regular = refl
      whole2 integer = refl
      whole2 floating = refl

      part : (k : KindT) → base_fits k float ≡ kind_fits k floating
      part regular = refl
      part integer = refl
      part floating = refl

      part2 : (k : KindT) → base_fits k double ≡ kind_fits k floating
      part2 regular = refl
      part2 integer = refl
      part2 floating = refl

-- ── step 1's comparison ──

code_w : Width → ℕ
code_w w8 = 0
code_w w16 = 1
code_w w32 = 2
code_w w64 = 3

code_b : Base → ℕ
code_b bool = 1
code_b (uint w) = code_w w + 2
code_b (int w) = code_w w + 6
code_b float = 10
code_b double = 11
code_b nil = 12
code_b (inst k) = k + 13

width_code_lem : (a : ℕ) → code_w (width_of a) ≡ cap a
unfolding code_w
width_code_lem zero = refl
width_code_lem (suc zero) = refl
width_code_lem (suc (suc zero)) = refl
width_code_lem (suc (suc (suc n))) = rw (le-ltb (suc (suc (suc n))) 3 (omega arith))

code_back : ℕ → Base
code_back k =
    pick (eqb k 1) bool
    (pick (ltb k 6) (uint (width_of (k - 2)))
    (pick (ltb k 10) (int (width_of (k - 6)))
    (pick (eqb k 10) float
    (pick (eqb k 11) double
    (pick (eqb k 12) nil
    (inst (k - 13)))))))

back_code : (b : Base) → code_back (code_b b) ≡ b
unfolding code_b code_w code_back
back_code bool = refl
back_code nil = refl
back_code float = refl
back_code double = refl
back_code (uint w8) = refl
back_code (uint w16) = refl
back_code (uint w32) = refl
back_code (uint w64) = refl
back_code (int w8) = refl
back_code (int w16) = refl
back_code (int w32) = refl
back_code (int w64) = refl
back_code (inst k) = let e : k + 13 - 13 ≡ k = omega arith in rw (ne_eqb (k + 13) 1 (λ q. omega arith), le-ltb (k + 13) 6 (omega arith), le-ltb (k + 13) 10 (omega arith), ne_eqb (k + 13) 10 (λ q. omega arith), ne_eqb (k + 13) 11 (λ q. omega arith), ne_eqb (k + 13) 12 (λ q. omega arith), e)

bases_alike : (b c : Base) → is_yes (base_discrete width_discrete ℕ_discrete b c) ≡ eqb (code_b b) (code_b c)
bases_alike b c = by (base_discrete width_discrete ℕ_discrete b c)
  where
    by : (d : Dec (b ≡ c)) → is_yes d ≡ eqb (code_b b) (code_b c)
    by (yes e) = sym (eq-eqb (code_b b) (code_b c) (ap code_b e))
    by (no n) = sym (ne_eqb (code_b b) (code_b c) (λ e. n (sym (back_code b) ∙ ap code_back e ∙ back_code c)))

code_pos : (b : Base) → code_b b ≢ 0
unfolding code_b
code_pos bool e = omega arith
code_pos nil e = omega arith
code_pos float e = omega arith
code_pos double e = omega arith
code_pos (uint w) e = omega arith
code_pos (int w) e = omega arith
code_pos (inst k) e = omega arith

no_code : (b : Base) → eqb (code_b b) 0 ≡ false
no_code b = ne_eqb (code_b b) 0 (code_pos b)

-- a type that step 1 compares, against a row by its code
base_row : (b : Base) (h a o : ℕ) (i : List ℕ) → h < 15 → alike (base b) (shape_of h a o i) ≡ eqb (code_b b) (code h a)
unfolding code code_b
base_row b h a o i l = shape_cases h a o i l (λ s. alike (base b) s ≡ eqb (code_b b) (code h a)) (λ e. rw e (bases_alike b bool ∙ ap (eqb (code_b b)) at_bool)) (λ e. rw e (bases_alike b (uint (width_of a)) ∙ ap (eqb (code_b b)) at_uint)) (λ e. rw e (bases_alike b (int (width_of a)) ∙ ap (eqb (code_b b)) at_int))
    (λ e. rw e (bases_alike b float ∙ ap (eqb (code_b b)) at_float)) (λ e. rw e (bases_alike b double ∙ ap (eqb (code_b b)) at_double)) (λ e. rw e (bases_alike b (inst a) ∙ ap (eqb (code_b b)) at_inst)) (λ e. rw e (sym (no_code b))) (λ e. rw e (sym (no_code b))) (λ e. rw e (sym (no_code b))) (λ e. rw e (bases_alike b nil ∙ ap (eqb (code_b b)) at_nil))
    (λ e. rw e (sym (no_code b))) (λ e. rw e (sym (no_code b))) (λ e. rw e (sym (no_code b))) (λ e. rw e (sym (no_code b))) (λ e. rw e (sym (no_code b)))
  where
    at_bool : code_b bool ≡ 1
    at_bool = refl

    at_float : code_b float ≡ 10
    at_float = refl

    at_double : code_b double ≡ 11
    at_double = refl

    at_nil : code_b nil ≡ 12
    at_nil = refl

    at_inst : code_b (inst a) ≡ a + 13
    at_inst = refl

    at_uint : code_b (uint (width_of a)) ≡ cap a + 2
    at_uint = rw (width_code_lem a)

    at_int : code_b (int (width_of a)) ≡ cap a + 6
    at_int = rw (width_code_lem a)

-- step 1's comparison by the codes
pub alike_is : (h a o : ℕ) (i : List ℕ) (k b p : ℕ) (j : List ℕ) → h < 15 → k < 15 → alike (shape_of h a o i) (shape_of k b p j) ≡ pick (eqb (code h a) 0) false (eqb (code h a) (code k b))
unfolding code code_b
alike_is h a o i k b p j l n = shape_cases h a o i l (λ s. alike s t ≡ said (code h a)) (λ e. at bool (c_bool e)) (λ e. at (uint (width_of a)) (c_uint e)) (λ e. at (int (width_of a)) (c_int e)) (λ e. at float (c_float e)) (λ e. at double (c_double e)) (λ e. at (inst a) (c_inst e)) (λ e. none_of (c_none6 e)) (λ e. none_of (c_none7 e)) (λ e. none_of (c_none8 e)) (λ e. at nil (c_nil e))
    (λ e. none_of (c_none10 e)) (λ e. none_of (c_none11 e)) (λ e. none_of (c_none12 e)) (λ e. none_of (c_none13 e)) (λ e. none_of (c_none14 e))
  where
    t : Shape
    t = shape_of k b p j

    said : ℕ → Bool
    said z = pick (eqb z 0) false (eqb z (code k b))

    at : (c : Base) → code h a ≡ code_b c → alike (base c) t ≡ said (code h a)
    at c e = base_row c k b p j n ∙ rw (e, no_code c)

    none_of : code h a ≡ 0 → false ≡ said (code h a)
    none_of e = rw e

    c_bool : h ≡ 0 → code h a ≡ code_b bool
    c_bool e = rw e

    c_uint : h ≡ 1 → code h a ≡ code_b (uint (width_of a))
    c_uint e = rw (e, width_code_lem a)

    c_int : h ≡ 2 → code h a ≡ code_b (int (width_of a))
    c_int e = rw (e, width_code_lem a)

    c_float : h ≡ 3 → code h a ≡ code_b float
    c_float e = rw e

    c_double : h ≡ 4 → code h a ≡ code_b double
    c_double e = rw e

    c_inst : h ≡ 5 → code h a ≡ code_b (inst a)
    c_inst e = rw e

    c_nil : h ≡ 9 → code h a ≡ code_b nil
    c_nil e = rw e

    c_none6 : h ≡ 6 → code h a ≡ 0
    c_none6 e = rw e

    c_none7 : h ≡ 7 → code h a ≡ 0
    c_none7 e = rw e

    c_none8 : h ≡ 8 → code h a ≡ 0
    c_none8 e = rw e

    c_none10 : h ≡ 10 → code h a ≡ 0
    c_none10 e = rw e

    c_none11 : h ≡ 11 → code h a ≡ 0
    c_none11 e = rw e

    c_none12 : h ≡ 12 → code h a ≡ 0
    c_none12 e = rw e

    c_none13 : h ≡ 13 → code h a ≡ 0
    c_none13 e = rw e

    c_none14 : h ≡ 14 → code h a ≡ 0
    c_none14 e = rw e

-- ── the rows of a memory ──

module _ (m : List ℕ) (n x : ℕ) where
  pub signed_row : signed (row (rows_of m n) x) ≡ (eqb (head_at m n x) 2 || eqb (head_at m n x) 12)
  signed_row = ap signed (row_by m n x) ∙ signed_is (head_at m n x) (number_at m n x) (output_at m n x) (inputs_from m (first_at m n x) (count_at m n x)) (head_low m n x)

  pub fits_row : (kinds : List KindT) (k : KindT) → head_at m n x ≢ 12
      → fits kinds k (row (rows_of m n) x) ≡ kind_fits k (pick (eqb (head_at m n x) 1) integer (pick (eqb (head_at m n x) 2) integer (pick (eqb (head_at m n x) 3) floating (pick (eqb (head_at m n x) 4) floating regular))))
  fits_row kinds k d = ap (fits kinds k) (row_by m n x) ∙ fits_by (head_at m n x) (number_at m n x) (output_at m n x) (inputs_from m (first_at m n x) (count_at m n x)) (head_low m n x) kinds k d

  pub alike_row : (y : ℕ) → alike (row (rows_of m n) x) (row (rows_of m n) y) ≡ pick (eqb (code (head_at m n x) (number_at m n x)) 0) false (eqb (code (head_at m n x) (number_at m n x)) (code (head_at m n y) (number_at m n y)))
  unfolding shape_at
  alike_row y =
      ap₂ alike (row_by m n x) (row_at m n y ∙ shape_y)
      ∙ alike_is (head_at m n x) (number_at m n x) (output_at m n x) (inputs_from m (first_at m n x) (count_at m n x)) (head_at m n y) (number_at m n y) (output_at m n y) (inputs_from m (first_at m n y) (count_at m n y)) (head_low m n x) (head_low m n y)
    where
      shape_y : shape_at m n y ≡ shape_of (head_at m n y) (number_at m n y) (output_at m n y) (inputs_from m (first_at m n y) (count_at m n y))
      shape_y = refl

-- The text of a field by the way in which its kind is written: it reads back as the field's cell, and no other text does.
-- Assumes nothing.
use Rattle.std.specs.Prelude.{ℕ, zero, suc, ◌+◌, ◌<◌, ◌≤◌, ◌≡◌, refl, ◌⊎◌, List, [], ◌∷◌, ◌++◌, Bool, true, false, cond, leb, ltb, eqb, length, take, drop, None, Option, Some}
use Prim.Native.Char.{code}
use Rattle.std.proofs.Common.{arith, sym, ap, inl, inr, drop_of_length-le, ltb-true, ltb-false, eqb-true, ne_eqb}
use Rattle.lex.specs.Text.{before}
use Rattle.forms.specs.declared.Cell.{Cell}
use Rattle.forms.specs.Form.{cell, valued, named, letter_of, binary_of, unary_of, tag_of}
use Rattle.output.specs.Output.{number_text}
use Rattle.well_formed.specs.Parsed.{by_test, either}
use Rattle.body_rows.specs.Text.{binary_letter, unary_letter, tag_letter, resolution_text, field_text, Writable}
use Rattle.body_rows.specs.Numbers.{Digits, number_digits}
use Rattle.body_rows.specs.Joined.{Over, over-append, Without, before_parts}

-- ── small laws ──

-- what holds of each way holds of all
pub way_cases : (P : ℕ → Type 0) → P 0 → P 1 → P 2 → P 3 → P 4 → P 5 → P 6 → P 7 → ((c : ℕ) → 8 ≤ c → P c) → (c : ℕ) → P c
way_cases P p0 p1 p2 p3 p4 p5 p6 p7 p zero = p0
way_cases P p0 p1 p2 p3 p4 p5 p6 p7 p (suc zero) = p1
way_cases P p0 p1 p2 p3 p4 p5 p6 p7 p (suc (suc zero)) = p2
way_cases P p0 p1 p2 p3 p4 p5 p6 p7 p (suc (suc (suc zero))) = p3
way_cases P p0 p1 p2 p3 p4 p5 p6 p7 p (suc (suc (suc (suc zero)))) = p4
way_cases P p0 p1 p2 p3 p4 p5 p6 p7 p (suc (suc (suc (suc (suc zero))))) = p5
way_cases P p0 p1 p2 p3 p4 p5 p6 p7 p (suc (suc (suc (suc (suc (suc zero)))))) = p6
way_cases P p0 p1 p2 p3 p4 p5 p6 p7 p (suc (suc (suc (suc (suc (suc (suc zero))))))) = p7
way_cases P p0 p1 p2 p3 p4 p5 p6 p7 p (suc (suc (suc (suc (suc (suc (suc (suc c)))))))) = p (suc (suc (suc (suc (suc (suc (suc (suc c)))))))) (omega arith)

-- a cell by its three numbers
pub cell_eq : (x : Cell) (a b n : ℕ) → x.name ≡ a → x.tag ≡ b → x.value ≡ n → cell a b n ≡ x
cell_eq x a b n p q r = rw (← p, ← q, ← r)

-- a letter is one byte
pub letter_is : (s : List ℕ) (y : ℕ) → 0 < y → letter_of s ≡ y → s ≡ y ∷ []
unfolding letter_of
letter_is [] y h e = absurd (omega (arith, e))
letter_is (x ∷ []) y h e = ap (λ (z : ℕ). z ∷ []) e
letter_is (x ∷ z ∷ s) y h e = absurd (omega (arith, rw (ne_eqb (suc (suc (length s))) 1 (λ q. omega (arith, q))) at e))

-- a number is no `-`
pub digits_letter : (s : List ℕ) → Digits s → letter_of s ≡ 45 → ⊥
unfolding Digits
digits_letter s d e = by s (letter_is s 45 (omega arith) e) d
  where
    by : (t : List ℕ) → t ≡ 45 ∷ [] → Digits t → ⊥
    by t q d = let f : Digits (45 ∷ []) = rw q at d in omega (arith, f.0.0)

-- digits are above the comma
digits-over : (s : List ℕ) → Digits s → Over 44 s
unfolding Digits Over
digits-over [] d = tt
digits-over (x ∷ s) d = (omega (arith, d.0.0), digits-over s d.1)

-- and no colon
pub digits_without : (s : List ℕ) → Digits s → Without 58 s
unfolding Digits Without
digits_without [] d = tt
digits_without (x ∷ s) d = (λ e. omega (arith, e, d.0.1), digits_without s d.1)

-- a number with its tag
pub valued_only : (b : ℕ) (m : Option ℕ) (x : Cell) → valued b m ≡ Some x → (n : ℕ) × (m ≡ Some n) × (cell 0 b n ≡ x)
valued_only b (Some n) x e = (n, refl, cc)
valued_only b None x e = let z : ◌≡◌ {A = ℕ} 0 1 = cc in absurd (omega arith)

-- a name with what stands behind it
pub named_only : (m : Option ℕ) (r : Option Cell) (x : Cell) → named m r ≡ Some x
    → (a : ℕ) × (y : Cell) × (m ≡ Some a) × (r ≡ Some y) × (cell a y.tag y.value ≡ x)
named_only (Some a) (Some y) x e = (a, y, refl, refl, cc)
named_only (Some a) None x e = let z : ◌≡◌ {A = ℕ} 0 1 = cc in absurd (omega arith)
named_only None r x e = let z : ◌≡◌ {A = ℕ} 0 1 = cc in absurd (omega arith)

-- ── written, then read ──

-- an operator of `bin`
pub binary_read : (v : ℕ) → v < 3 → binary_of (letter_of (binary_letter v ∷ [])) ≡ Some (cell 0 1 v)
unfolding binary_of letter_of binary_letter
binary_read zero h = refl
binary_read (suc zero) h = refl
binary_read (suc (suc zero)) h = refl
binary_read (suc (suc (suc v))) h = absurd (omega arith)

-- and of `un`
pub unary_read : (v : ℕ) → v < 4 → unary_of (letter_of (unary_letter v ∷ [])) ≡ Some (cell 0 1 v)
unfolding unary_of letter_of unary_letter
unary_read zero h = refl
unary_read (suc zero) h = refl
unary_read (suc (suc zero)) h = refl
unary_read (suc (suc (suc zero))) h = refl
unary_read (suc (suc (suc (suc v)))) h = absurd (omega arith)

-- the letter of a tag
pub tag_read : (b : ℕ) → 0 < b → b < 7 → tag_of (tag_letter b) ≡ b
unfolding tag_of tag_letter
tag_read zero p h = absurd (omega arith)
tag_read (suc zero) p h = refl
tag_read (suc (suc zero)) p h = refl
tag_read (suc (suc (suc zero))) p h = refl
tag_read (suc (suc (suc (suc zero)))) p h = refl
tag_read (suc (suc (suc (suc (suc zero))))) p h = refl
tag_read (suc (suc (suc (suc (suc (suc zero)))))) p h = refl
tag_read (suc (suc (suc (suc (suc (suc (suc b))))))) p h = absurd (omega arith)

-- there is no other way
pub no_way : (c : ℕ) (x : Cell) → 8 ≤ c → Writable c x → ⊥
unfolding Writable
no_way c x h w =
    let n : (i : ℕ) → i < 8 → eqb c i ≡ false = λ i b. ne_eqb c i (λ e. omega (arith, e)) in
    rw (n 1 (omega arith), n 2 (omega arith), n 3 (omega arith), n 4 (omega arith), n 5 (omega arith), n 6 (omega arith), n 7 (omega arith)) at w

-- ── read, then written ──

-- a cell that s is the text of
abbrev pub Spells : ℕ → List ℕ → Option Cell → Type 0
Spells c s r = (x : Cell) → r ≡ Some x → Writable c x × (field_text c x ≡ s)

-- what is not read is not the text of a cell
pub bad_spells : (c : ℕ) (s : List ℕ) → Spells c s None
bad_spells c s x e = let z : ◌≡◌ {A = ℕ} 0 1 = cc in absurd (omega arith)

-- a cell that s is the text of, as it is
pub is_spells : (c : ℕ) (s : List ℕ) (y : Cell) → Writable c y → field_text c y ≡ s → Spells c s (Some y)
is_spells c s y w t x e = let q : y ≡ x = cc in rw (← q) (w, t)

-- an operator of `bin`
pub binary_spells : (s : List ℕ) → Spells 4 s (binary_of (letter_of s))
unfolding binary_of Writable field_text binary_letter
binary_spells s =
    by_test (Spells 4 s) (eqb (letter_of s) (code "b")) _ _
    (λ h. is_spells 4 s (cell 0 1 0) (refl, refl, omega arith) (sym (letter_is s 98 (omega arith) (eqb-true (letter_of s) 98 h))))
    (λ n. by_test (Spells 4 s) (eqb (letter_of s) (code "c")) _ _
    (λ h. is_spells 4 s (cell 0 1 1) (refl, refl, omega arith) (sym (letter_is s 99 (omega arith) (eqb-true (letter_of s) 99 h))))
    (λ n. by_test (Spells 4 s) (eqb (letter_of s) (code "a")) _ _
    (λ h. is_spells 4 s (cell 0 1 2) (refl, refl, omega arith) (sym (letter_is s 97 (omega arith) (eqb-true (letter_of s) 97 h))))
    (λ n. bad_spells 4 s)))

-- and of `un`
pub unary_spells : (s : List ℕ) → Spells 5 s (unary_of (letter_of s))
unfolding unary_of Writable field_text unary_letter
unary_spells s =
    by_test (Spells 5 s) (eqb (letter_of s) (code "d")) _ _
    (λ h. is_spells 5 s (cell 0 1 0) (refl, refl, omega arith) (sym (letter_is s 100 (omega arith) (eqb-true (letter_of s) 100 h))))
    (λ n. by_test (Spells 5 s) (eqb (letter_of s) (code "r")) _ _
    (λ h. is_spells 5 s (cell 0 1 1) (refl, refl, omega arith) (sym (letter_is s 114 (omega arith) (eqb-true (letter_of s) 114 h))))
    (λ n. by_test (Spells 5 s) (eqb (letter_of s) (code "n")) _ _
    (λ h. is_spells 5 s (cell 0 1 2) (refl, refl, omega arith) (sym (letter_is s 110 (omega arith) (eqb-true (letter_of s) 110 h))))
    (λ n. by_test (Spells 5 s) (eqb (letter_of s) (code "t")) _ _
    (λ h. is_spells 5 s (cell 0 1 3) (refl, refl, omega arith) (sym (letter_is s 116 (omega arith) (eqb-true (letter_of s) 116 h))))
    (λ n. bad_spells 5 s))))

-- the tag r of the letter y, where it has one
abbrev pub Tagged : ℕ → ℕ → Type 0
Tagged y r = (r ≡ 0) ⊎ ((0 < r) × (r < 7) × (tag_letter r ≡ y))

-- a letter has the tag of which it is the letter
pub tag_only : (y : ℕ) → Tagged y (tag_of y)
unfolding tag_of tag_letter
tag_only y =
    at (code "l") 1 _ (λ e. inr (omega arith, omega arith, sym e))
    (at (code "f") 2 _ (λ e. inr (omega arith, omega arith, sym e))
    (at (code "c") 3 _ (λ e. inr (omega arith, omega arith, sym e))
    (at (code "i") 4 _ (λ e. inr (omega arith, omega arith, sym e))
    (at (code "e") 5 _ (λ e. inr (omega arith, omega arith, sym e))
    (at (code "o") 6 0 (λ e. inr (omega arith, omega arith, sym e)) (inl refl))))))
  where
    at : (l b r : ℕ) → (y ≡ l → Tagged y b) → Tagged y r → Tagged y (cond (eqb y l) b r)
    at l b r p q = by_test (Tagged y) (eqb y l) b r (λ e. p (eqb-true y l e)) (λ e. q)

-- RES is not empty
pub res_filled : (tag v : ℕ) → 0 < length (resolution_text tag v)
unfolding resolution_text
res_filled tag v = omega arith

-- what stands before and behind a colon, where something stands behind it
pub colon_parts : (s : List ℕ) → (drop (before 58 s + 1) s ≡ [] → ⊥) → take (before 58 s) s ++ 58 ∷ drop (before 58 s + 1) s ≡ s
colon_parts s n = by (ltb (before 58 s) (length s)) refl
  where
    by : (b : Bool) → ltb (before 58 s) (length s) ≡ b → take (before 58 s) s ++ 58 ∷ drop (before 58 s + 1) s ≡ s
    by true h = before_parts 58 s (ltb-true (before 58 s) (length s) h)
    by false h = absurd (n (drop_of_length-le s {i = before 58 s + 1} (omega (arith, ltb-false (before 58 s) (length s) h))))

-- ── the bytes of a field ──

-- the letters are above the comma
tag_over : (b : ℕ) → 44 < tag_letter b
unfolding tag_letter
tag_over b =
    at (eqb b 1) (code "l") _ (omega arith)
    (at (eqb b 2) (code "f") _ (omega arith)
    (at (eqb b 3) (code "c") _ (omega arith)
    (at (eqb b 4) (code "i") _ (omega arith) (at (eqb b 5) (code "e") (code "o") (omega arith) (omega arith)))))
  where
    at : (b : Bool) (x y : ℕ) → 44 < x → 44 < y → 44 < cond b x y
    at = either (λ (z : ℕ). 44 < z)

-- so is an operator of `bin`
binary_over : (v : ℕ) → 44 < binary_letter v
unfolding binary_letter
binary_over v = either (λ (z : ℕ). 44 < z) (eqb v 0) _ _ (omega arith) (either (λ (z : ℕ). 44 < z) (eqb v 1) _ _ (omega arith) (omega arith))

-- and of `un`
unary_over : (v : ℕ) → 44 < unary_letter v
unfolding unary_letter
unary_over v =
    either (λ (z : ℕ). 44 < z) (eqb v 0) _ _ (omega arith)
    (either (λ (z : ℕ). 44 < z) (eqb v 1) _ _ (omega arith) (either (λ (z : ℕ). 44 < z) (eqb v 2) _ _ (omega arith) (omega arith)))

-- so is a number
number_over : (n : ℕ) → Over 44 (number_text n)
number_over n = digits-over (number_text n) (number_digits n)

-- and RES
res_over : (tag v : ℕ) → Over 44 (resolution_text tag v)
unfolding Over resolution_text
res_over tag v = (tag_over tag, either (Over 44) (leb tag 4) (number_text v) [] (number_over v) tt)

-- and any field
pub field_over : (c : ℕ) (x : Cell) → Over 44 (field_text c x)
unfolding Over field_text
field_over c x =
    at 1 _ _ (number_over x.value)
    (at 2 _ _ (either (Over 44) (eqb x.tag 0) (code "-" ∷ []) (number_text x.value) (omega arith, tt) (number_over x.value))
    (at 3 _ _ (over-append 44 (number_text x.name) (58 ∷ number_text x.value) (number_over x.name) (omega arith, number_over x.value))
    (at 4 _ _ (binary_over x.value, tt)
    (at 5 _ _ (unary_over x.value, tt)
    (at 6 _ _ (res_over x.tag x.value)
    (at 7 _ _ (over-append 44 (number_text x.name) (58 ∷ resolution_text x.tag x.value) (number_over x.name) (omega arith, res_over x.tag x.value)) tt))))))
  where
    at : (n : ℕ) (r q : List ℕ) → Over 44 r → Over 44 q → Over 44 (cond (eqb c n) r q)
    at n = either (Over 44) (eqb c n)

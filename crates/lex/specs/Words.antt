-- Two words with one number that is not 0 are the same word, so that a word may be looked up by its number.
-- Assumes nothing.
use Rattle.std.specs.Prelude.{ℕ, ◌+◌, ◌*◌, ◌<◌, ◌≡◌, refl, List, [], ◌∷◌, Bool, true, false, cond, ltb, eqb}
use Rattle.std.proofs.Common.{ap, sym, ◌∙◌, true≢false, arith, eq-eqb, ne_eqb, ltb-true, eqb-true}
use Rattle.std.proofs.lemmas.Bool.{false≢true, eqb-false}
use Rattle.lex.specs.Text.{same, letter, pack_from, pack}

-- each byte of a word is between 1 and 255
unfoldable Letters : List ℕ → Type 0
Letters [] = Unit {0}
Letters (x ∷ xs) = ((0 < x) × (x < 256)) × Letters xs

-- the number of a word from its end
unfoldable packed : List ℕ → ℕ
packed [] = 0
packed (x ∷ xs) = packed xs * 256 + x

-- the letters of u, last first, before r
unfoldable turned : List ℕ → List ℕ → List ℕ
turned [] r = r
turned (x ∷ xs) r = turned xs (x ∷ r)

-- from its end a word is known by its number
packed_same : (u w : List ℕ) → Letters u → Letters w → packed u ≡ packed w → u ≡ w
unfolding Letters packed
packed_same [] [] p q e = refl
packed_same [] (y ∷ ys) p q e = absurd (omega (arith, q.0.0, e))
packed_same (x ∷ xs) [] p q e = absurd (omega (arith, p.0.0, e))
packed_same (x ∷ xs) (y ∷ ys) p q e =
    let first : x ≡ y = omega (arith, p.0.1, q.0.1, e) in
    let rest : xs ≡ ys = packed_same xs ys p.1 q.1 (omega (arith, p.0.1, q.0.1, e)) in
    rw (first, rest)

-- a byte that is a letter is between 1 and 255
letter_bounds : (x : ℕ) → letter x ≡ true → (0 < x) × (x < 256)
unfolding letter
letter_bounds x e = by (eqb x 0) refl e
  where
    by : (b : Bool) → eqb x 0 ≡ b → cond b false (ltb x 256) ≡ true → (0 < x) × (x < 256)
    by true p h = absurd (false≢true h)
    by false p h = (omega (arith, eqb-false x 0 p), ltb-true x 256 h)

-- one letter of a word whose number is not 0
pack_step : (a x : ℕ) (xs : List ℕ) → (pack_from a (x ∷ xs) ≡ 0 → ⊥) → (letter x ≡ true) × (pack_from a (x ∷ xs) ≡ pack_from (a * 256 + x) xs)
unfolding pack_from
pack_step a x xs n = by (ltb a 72057594037927936) (letter x) n
  where
    by : (b c : Bool) → (cond b (cond c (pack_from (a * 256 + x) xs) 0) 0 ≡ 0 → ⊥)
        → (c ≡ true) × (cond b (cond c (pack_from (a * 256 + x) xs) 0) 0 ≡ pack_from (a * 256 + x) xs)
    by true true n = (refl, refl)
    by true false n = absurd (n refl)
    by false c n = absurd (n refl)

-- a number that is not 0 is the number of letters, last first
pack_turned : (u r : List ℕ) → Letters r → (pack_from (packed r) u ≡ 0 → ⊥) → Letters (turned u r) × (pack_from (packed r) u ≡ packed (turned u r))
unfolding pack_from turned packed Letters
pack_turned [] r g n = (g, refl)
pack_turned (x ∷ xs) r g n =
    let s : (letter x ≡ true) × (pack_from (packed r) (x ∷ xs) ≡ pack_from (packed (x ∷ r)) xs) = pack_step (packed r) x xs n in
    let t : Letters (turned xs (x ∷ r)) × (pack_from (packed (x ∷ r)) xs ≡ packed (turned xs (x ∷ r))) = pack_turned xs (x ∷ r) (letter_bounds x s.0, g) (λ z. n (s.1 ∙ z)) in
    (t.0, s.1 ∙ t.1)

-- the letters of u before r, turned again; with r empty, a word turned twice is itself
turned_back : (u r : List ℕ) → turned (turned u r) [] ≡ turned r u
unfolding turned
turned_back [] r = refl
turned_back (x ∷ xs) r = turned_back xs (x ∷ r)

-- two words with one number that is not 0 are equal
pack_eq : (u w : List ℕ) → (pack u ≡ 0 → ⊥) → pack u ≡ pack w → u ≡ w
unfolding packed Letters turned
pack_eq u w n e =
    let s : Letters (turned u []) × (pack u ≡ packed (turned u [])) = pack_turned u [] tt n in
    let t : Letters (turned w []) × (pack w ≡ packed (turned w [])) = pack_turned w [] tt (λ z. n (e ∙ z)) in
    let q : turned u [] ≡ turned w [] = packed_same (turned u []) (turned w []) s.0 t.0 (sym s.1 ∙ e ∙ t.1) in
    sym (turned_back u []) ∙ ap (λ (v : List ℕ). turned v []) q ∙ turned_back w []

-- a word is the same as itself
pub same_refl : (u : List ℕ) → same u u ≡ true
unfolding same
same_refl [] = refl
same_refl (x ∷ xs) = rw (eq-eqb x x refl) (same_refl xs)

-- equal words are the same
pub eq-same : (u w : List ℕ) → u ≡ w → same u w ≡ true
eq-same u w q = ap (same u) (sym q) ∙ same_refl u

-- words that are the same are equal
pub same_eq : (u w : List ℕ) → same u w ≡ true → u ≡ w
unfolding same
same_eq [] [] e = refl
same_eq [] (y ∷ ys) e = absurd (false≢true e)
same_eq (x ∷ xs) [] e = absurd (false≢true e)
same_eq (x ∷ xs) (y ∷ ys) e = by (eqb x y) refl e (same_eq xs ys)
  where
    by : (b : Bool) → eqb x y ≡ b → cond b (same xs ys) false ≡ true → (same xs ys ≡ true → xs ≡ ys) → x ∷ xs ≡ y ∷ ys
    by true p h ih = rw (eqb-true x y p, ih h)
    by false p h ih = absurd (false≢true h)

-- where the number of a word is not 0, the test of numbers is the test of words
pub pack_same : (u w : List ℕ) → (pack u ≡ 0 → ⊥) → eqb (pack u) (pack w) ≡ same u w
pack_same u w n = by (same u w) refl
  where
    by : (b : Bool) → same u w ≡ b → eqb (pack u) (pack w) ≡ same u w
    by true p = eq-eqb (pack u) (pack w) (ap pack (same_eq u w p)) ∙ sym p
    by false p = ne_eqb (pack u) (pack w) (λ e. true≢false (sym (eq-same u w (pack_eq u w n e)) ∙ p)) ∙ sym p

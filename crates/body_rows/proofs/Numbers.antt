-- Of Numbers: the theorems that rest on a declaration which an edit of a definition in specs/ refuses. The definitions and the other theorems stand in
-- specs/Numbers.antt. Assumes nothing.
use Rattle.std.specs.Prelude.{ℕ, zero, suc, ◌≤◌, ◌≡◌, refl, List, [], ◌∷◌, Bool, true, false, cond, eqb, None, Some}
use Rattle.std.proofs.Common.{arith, sym, ap, ◌∙◌, lt-ltb}
use Rattle.std.proofs.lemmas.Bool.{eqb-false}
use Rattle.lex.specs.Text.{digits_from, number_of}
use Rattle.output.specs.Output.{digits_of, number_text}
use Rattle.body_rows.specs.Text.{most_number}
use Rattle.body_rows.specs.Numbers.{Digits, digits-text, digits_only, digits_read, digits_value, spelled, tens, text_value, text_zero, zero_number}

-- the text of a number reads as that number
pub number_read : (n : ℕ) → n ≤ most_number → number_of (number_text n) ≡ Some n
unfolding tens number_of digits_of digits_from
number_read zero h = refl
number_read (suc n) h =
    let v : digits_value 0 (number_text (suc n)) ≡ suc n = text_value 19 (suc n) (omega arith) in
    zero_number (number_text (suc n)) (text_zero 19 (suc n) (omega arith) (omega arith))
    ∙ digits_read 0 (number_text (suc n)) (digits-text 20 (suc n)) (omega (arith, v)) ∙ ap Some v

-- no other text reads as the number
pub number_only : (s : List ℕ) (n : ℕ) → number_of s ≡ Some n → (n ≤ most_number) × (number_text n ≡ s)
unfolding number_of digits_of digits_value Digits
number_only [] n e = let z : ◌≡◌ {A = ℕ} 0 1 = cc in absurd (omega arith)
number_only (x ∷ []) n e =
    let r = digits_only 0 (x ∷ []) n e in
    (r.2, rw (lt-ltb n 10 (omega (arith, r.0.0.1, r.1))) (ap (λ (y : ℕ). y ∷ []) (omega (arith, r.0.0.0, r.0.0.1, r.1))))
number_only (x ∷ y ∷ ys) n e = by (eqb x 48) refl e
  where
    by : (b : Bool) → eqb x 48 ≡ b → cond b None (digits_from 0 (x ∷ y ∷ ys)) ≡ Some n → (n ≤ most_number) × (number_text n ≡ x ∷ y ∷ ys)
    by true p e = let z : ◌≡◌ {A = ℕ} 0 1 = cc in absurd (omega arith)
    by false p e =
        let r = digits_only 0 (x ∷ y ∷ ys) n e in
        (r.2, ap number_text (sym r.1) ∙ spelled x (y ∷ ys) (eqb-false x 48 p) r.0 (omega (arith, r.1, r.2)))

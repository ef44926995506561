-- What the loop over the digits rests on, over plain variables. Assumes nothing.
use Rattle.std.proofs.Common.{◌≡◌, refl, ◌∙◌, List, [], ◌∷◌, Bool, true, false, cond, ℕ, ◌+◌, ◌*◌, ◌-◌, ◌≤◌, ◌<◌, leb, length, drop, slice_index_or, drop-cons, add-one, arith, Option, None, Some, le-ltb, lt-ltb, drop_of_length-le}
use Rattle.std.proofs.lemmas.Bool.Decides.{nat_tests}
use Rattle.std.specs.Char.{IsAsciiDigit, IsNotAsciiDigit}
use Rattle.decimal.specs.Digits.{most, digits_from, number_of}

-- the empty text
pub empty : (s : List ℕ) → length s ≡ 0 → None ≡ number_of s
unfolding number_of
empty [] h = refl
empty (x ∷ xs) h = absurd (omega arith)

-- any other text
pub some : (s : List ℕ) → 0 < length s → number_of s ≡ digits_from 0 s
unfolding number_of
some [] h = absurd (omega arith)
some (x ∷ xs) h = refl

-- past the largest number no further digit helps
over : (xs : List ℕ) (a : ℕ) → most ≤ a → digits_from a xs ≡ None
unfolding digits_from
over [] a h = rw (le-ltb a most h) refl
over (x ∷ xs) a h = rw (over xs (a * 10 + (x - 48)) (omega arith)) (same (leb 48 x) (leb x 57))
  where
    same : (p q : Bool) → cond {A = Option ℕ} p (cond q None None) None ≡ None
    same true true = refl
    same true false = refl
    same false q = refl

module _ (s : List ℕ) (n i : ℕ) (h : i < length s) where
  -- one digit more
  pub digit : (m : ℕ) → IsAsciiDigit (slice_index_or s i 0) → m ≡ n * 10 + (slice_index_or s i 0 - 48) → digits_from n (drop i s) ≡ digits_from m (drop (i + 1) s)
  unfolding digits_from
  digit m r e = rw (e, add-one, drop-cons s i 0) (grind (arith, nat_tests))

  -- a byte that is none
  pub no_digit : IsNotAsciiDigit (slice_index_or s i 0) → digits_from n (drop i s) ≡ None
  unfolding digits_from
  no_digit r = rw (drop-cons s i 0) (grind (arith, nat_tests))

  -- a digit that has no room
  pub large : IsAsciiDigit (slice_index_or s i 0) → most ≤ n * 10 + (slice_index_or s i 0 - 48) → digits_from n (drop i s) ≡ None
  large r m = digit _ r refl ∙ over _ _ m

-- no digit is left
pub last : (s : List ℕ) (n i : ℕ) → length s ≤ i → n < most → digits_from n (drop i s) ≡ Some n
unfolding digits_from
last s n i h l = rw (drop_of_length-le s h, lt-ltb n most l) refl

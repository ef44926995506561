-- Laws of the definitions in specs/Text.antt, at a place i of a list: one step, and the end.
-- Assumes nothing.
use Rattle.std.specs.Prelude.{None, Option, Some}
use Rattle.std.proofs.lemmas.Option.{none-some}
use Rattle.std.proofs.lemmas.Bool.{leb-false, leb-true}
use Prim.Native.Nat.{ℕ, suc, ◌+◌, ◌*◌, ◌-◌, ◌<◌, ◌≤◌, max, zero-le}
use mathlib.Core.Path.{◌≡◌, refl, sym, ◌∙◌, ap}
use mathlib.Core.List.{List, [], ◌∷◌}
use mathlib.Core.Logic.{◌⊎◌, inl, inr}
use mathlib.Core.Bool.{Bool, true, false, cond}
use native.Mathlib.Numerals.{add-one}
use native.Mathlib.Nat.{add-zero, add-suc, add-sub_cancel_left}
use native.Mathlib.Omega.{arith}
use lib.Dec.{leb, ltb, eqb, leb-suc-suc}
use lib.ListN.{length, get_or, take, drop, drop_of_length-le, length-drop}
use lib.Seq.{drop-cons, drop-drop, take-length}
use borrow.Author.Tests.{lt-leb, le-leb, lt-ltb, le-ltb, eq-eqb, ne_eqb, ltb-true, ltb-false}
use Rattle.lex.specs.Text.{number_of, digits_from, before, pack_from, letter, split, parts_from, numbered, scan_of}

-- the rest of a list that is not at its end
pub next : (s : List ℕ) (i x : ℕ) → i < length s → x ≡ get_or s i 0 → drop i s ≡ x ∷ drop (i + 1) s
next s i x h e = rw (e, add-one, drop-cons s i 0)

-- past 65,535 nothing makes it a number again
pub over : (xs : List ℕ) (a : ℕ) → 65535 < a → digits_from a xs ≡ None
unfolding digits_from
over [] a h = simp (lt-leb a 65535 h)
over (x ∷ xs) a h = rw (over xs (a * 10 + (x - 48)) (omega arith)) (same (leb 48 x) (leb x 57))
  where
    same : (p q : Bool) → cond {A = Option ℕ} p (cond q None None) None ≡ None
    same true true = refl
    same true false = refl
    same false q = refl

-- where one digit x behind n leaves no number, no digits behind it do,
digit_none : (n x : ℕ) (xs : List ℕ) → None ≡ digits_from n (x ∷ []) → digits_from n (x ∷ xs) ≡ None
unfolding digits_from
digit_none n x xs = by (leb 48 x) (leb x 57) (leb (n * 10 + (x - 48)) 65535) refl
  where
    by : (a b d : Bool) → leb (n * 10 + (x - 48)) 65535 ≡ d → None ≡ cond {A = Option ℕ} a (cond b (cond d (Some (n * 10 + (x - 48))) None) None) None
        → cond {A = Option ℕ} a (cond b (digits_from (n * 10 + (x - 48)) xs) None) None ≡ None
    by true true true e h = absurd (none-some _ h)
    by true true false e h = over xs (n * 10 + (x - 48)) (leb-false _ _ e)
    by true false d e h = refl
    by false b d e h = refl

-- and where it leaves the number m, the others stand behind m
digit_some : (n x m : ℕ) (xs : List ℕ) → Some m ≡ digits_from n (x ∷ []) → digits_from n (x ∷ xs) ≡ digits_from m xs
unfolding digits_from
digit_some n x m xs = by (leb 48 x) (leb x 57) (leb (n * 10 + (x - 48)) 65535)
  where
    by : (a b d : Bool) → Some m ≡ cond {A = Option ℕ} a (cond b (cond d (Some (n * 10 + (x - 48))) None) None) None
        → cond {A = Option ℕ} a (cond b (digits_from (n * 10 + (x - 48)) xs) None) None ≡ digits_from m xs
    by true true true h = let e : m ≡ n * 10 + (x - 48) = cc in rw e
    by true true false h = absurd (none-some _ (sym h))
    by true false d h = absurd (none-some _ (sym h))
    by false b d h = absurd (none-some _ (sym h))

-- no number is above 65,535
digits_most : (n x m : ℕ) → Some m ≡ digits_from n (x ∷ []) → m ≤ 65535
unfolding digits_from
digits_most n x m = by (leb 48 x) (leb x 57) (leb (n * 10 + (x - 48)) 65535) refl
  where
    by : (a b d : Bool) → leb (n * 10 + (x - 48)) 65535 ≡ d → Some m ≡ cond {A = Option ℕ} a (cond b (cond d (Some (n * 10 + (x - 48))) None) None) None → m ≤ 65535
    by true true true e h = let q : m ≡ n * 10 + (x - 48) = cc in omega (arith, leb-true _ _ e)
    by true true false e h = absurd (none-some _ (sym h))
    by true false d e h = absurd (none-some _ (sym h))
    by false b d e h = absurd (none-some _ (sym h))

-- one digit, at the place i, where what is asked (w) comes down to the rest from i
module _ (w : Option ℕ) (s : List ℕ) (n i : ℕ) (inv : w ≡ digits_from n (drop i s)) where
  pub stopped : i < length s → None ≡ digits_from n (get_or s i 0 ∷ []) → None ≡ w
  stopped h e = sym (inv ∙ rw (next s i (get_or s i 0) h refl) (digit_none n (get_or s i 0) (drop (i + 1) s) e))

  pub digit : (m : ℕ) → i < length s → Some m ≡ digits_from n (get_or s i 0 ∷ []) → (m ≤ 65535) × (w ≡ digits_from m (drop (i + 1) s))
  digit m h e = (digits_most n (get_or s i 0) m e, inv ∙ rw (next s i (get_or s i 0) h refl) (digit_some n (get_or s i 0) m (drop (i + 1) s) e))

  pub last : length s ≤ i → n ≤ 65535 → Some n ≡ w
  unfolding digits_from
  last h l = sym (inv ∙ rw (drop_of_length-le s h, le-leb n 65535 l))

-- a number by its length and its first digit
pub no_digits : (s : List ℕ) → length s ≡ 0 → None ≡ number_of s
unfolding number_of
no_digits [] h = refl
no_digits (x ∷ xs) h = absurd (omega arith)

pub leading : (s : List ℕ) → 1 < length s → get_or s 0 0 ≡ 48 → None ≡ number_of s
unfolding number_of
leading [] p e = absurd (omega arith)
leading (x ∷ []) p e = absurd (omega arith)
leading (x ∷ y ∷ ys) p e = rw (eq-eqb x 48 e)

pub single : (s : List ℕ) → length s ≡ 1 → number_of s ≡ digits_from 0 s
unfolding number_of
single [] h = absurd (omega arith)
single (x ∷ []) h = refl
single (x ∷ y ∷ ys) h = absurd (omega arith)

pub plain : (s : List ℕ) → (get_or s 0 0 ≡ 48 → ⊥) → (length s ≡ 0 → ⊥) → number_of s ≡ digits_from 0 s
unfolding number_of
plain [] n p = absurd (p refl)
plain (x ∷ []) n p = refl
plain (x ∷ y ∷ ys) n p = rw (ne_eqb x 48 n)

-- no more bytes stand before the first c than there are
before_most : (c : ℕ) (l : List ℕ) → before c l ≤ length l
unfolding before
before_most c [] = zero-le
before_most c (x ∷ xs) = by (eqb x c) (before_most c xs)
  where
    by : (b : Bool) → before c xs ≤ length xs → cond b 0 (suc (before c xs)) ≤ suc (length xs)
    by true h = zero-le
    by false h = omega (arith, h)

-- the end of a field, w, where it comes down from the place e to the rest of a list from i
module _ (w e : ℕ) (s : List ℕ) (i c : ℕ) (inv : w ≡ e + before c (drop i s)) where
  pub ended : i < length s → get_or s i 0 ≡ c → e ≡ w
  unfolding before
  ended h q = sym (inv ∙ rw (next s i (get_or s i 0) h refl, eq-eqb (get_or s i 0) c q) (add-zero e))

  pub beyond : i < length s → (get_or s i 0 ≡ c → ⊥) → w ≡ e + 1 + before c (drop (i + 1) s)
  unfolding before
  beyond h q = inv ∙ rw (next s i (get_or s i 0) h refl, ne_eqb (get_or s i 0) c q) (omega arith)

  pub open_end : length s ≤ i → e ≡ w
  unfolding before
  open_end h = sym (inv ∙ rw (drop_of_length-le s h) (add-zero e))

-- the same in the list itself, where the place is that of the rest
module _ (w : ℕ) (s : List ℕ) (i c : ℕ) (inv : w ≡ i + before c (drop i s)) where
  pub found : i < length s → get_or s i 0 ≡ c → i ≡ w
  found = ended w i s i c inv

  pub passed : i < length s → (get_or s i 0 ≡ c → ⊥) → w ≡ i + 1 + before c (drop (i + 1) s)
  passed = beyond w i s i c inv

  pub none : length s ≤ i → i ≡ w
  none = open_end w i s i c inv

-- four bytes of the rest r, the first of them at the place e
module _ (w e : ℕ) (r : List ℕ) (c : ℕ) (inv : w ≡ e + before c r) (four : 4 ≤ length r) where
  pub end_0 : get_or r 0 0 ≡ c → e ≡ w
  end_0 = ended w e r 0 c inv (omega arith)

  past_0 : (get_or r 0 0 ≡ c → ⊥) → w ≡ e + 1 + before c (drop 1 r)
  past_0 = beyond w e r 0 c inv (omega arith)

  pub end_1 : (get_or r 0 0 ≡ c → ⊥) → get_or r 1 0 ≡ c → e + 1 ≡ w
  end_1 n = ended w (e + 1) r 1 c (past_0 n) (omega arith)

  past_1 : (get_or r 0 0 ≡ c → ⊥) → (get_or r 1 0 ≡ c → ⊥) → w ≡ e + 2 + before c (drop 2 r)
  past_1 n o = omega (arith, beyond w (e + 1) r 1 c (past_0 n) (omega arith) o)

  pub end_2 : (get_or r 0 0 ≡ c → ⊥) → (get_or r 1 0 ≡ c → ⊥) → get_or r 2 0 ≡ c → e + 2 ≡ w
  end_2 n o = ended w (e + 2) r 2 c (past_1 n o) (omega arith)

  past_2 : (get_or r 0 0 ≡ c → ⊥) → (get_or r 1 0 ≡ c → ⊥) → (get_or r 2 0 ≡ c → ⊥) → w ≡ e + 3 + before c (drop 3 r)
  past_2 n o p = omega (arith, beyond w (e + 2) r 2 c (past_1 n o) (omega arith) p)

  pub end_3 : (get_or r 0 0 ≡ c → ⊥) → (get_or r 1 0 ≡ c → ⊥) → (get_or r 2 0 ≡ c → ⊥) → get_or r 3 0 ≡ c → e + 3 ≡ w
  end_3 n o p = ended w (e + 3) r 3 c (past_2 n o p) (omega arith)

  pub past_3 : (get_or r 0 0 ≡ c → ⊥) → (get_or r 1 0 ≡ c → ⊥) → (get_or r 2 0 ≡ c → ⊥) → (get_or r 3 0 ≡ c → ⊥) → w ≡ e + 4 + before c (drop 4 r)
  past_3 n o p q = omega (arith, beyond w (e + 3) r 3 c (past_2 n o p) (omega arith) q)

-- behind four elements stands all of the rest
take_behind : (r : List ℕ) → take (length r - 4) (drop 4 r) ≡ drop 4 r
take_behind r = rw (← length-drop 4 r) (take-length (drop 4 r))

-- a turn of four bytes: what is kept of the place e and the rest r behind it, of the places from p up to m
abbrev pub Turns : ℕ → ℕ → ℕ → ℕ → ℕ → List ℕ → Type 0
Turns w p m c e r = (p ≤ e) × (e + length r ≡ m) × (w ≡ e + before c r)

pub turned : (w p m c e : ℕ) (r : List ℕ) → Turns w p m c e r → 4 ≤ length r → (get_or r 0 0 ≡ c → ⊥) → (get_or r 1 0 ≡ c → ⊥) → (get_or r 2 0 ≡ c → ⊥) → (get_or r 3 0 ≡ c → ⊥)
    → Turns w p m c (e + 4) (take (length r - 4) (drop 4 r))
turned w p m c e r t h n o q k = rw (take_behind r) (omega (arith, t.0), omega (arith, t.1, length-drop 4 r), past_3 w e r c t.2 h n o q k)

-- and behind one
pub stepped : (w p m c e k : ℕ) (r : List ℕ) → Turns w p m c e (drop k r) → k < length r → (get_or r k 0 ≡ c → ⊥) → Turns w p m c (e + 1) (drop (k + 1) r)
stepped w p m c e k r t h n = (omega (arith, t.0), omega (arith, t.1, length-drop k r, length-drop (k + 1) r), beyond w e r k c t.2 h n)

-- with no separator it is the end of s, or p where it is behind the end
pub to_end : (s : List ℕ) (p i c : ℕ) → p + before c (drop p s) ≡ i + before c (drop i s) → length s ≤ i → (p ≤ length s → i ≤ length s) → max p (length s) ≡ p + before c (drop p s)
to_end s p i c inv h most = by (leb p (length s)) refl
  where
    by : (b : Bool) → leb p (length s) ≡ b → max p (length s) ≡ p + before c (drop p s)
    by true e = omega (arith, none (p + before c (drop p s)) s i c inv h, most (leb-true _ _ e), leb-true _ _ e)
    by false e = omega (arith, none (p + before c (drop p s)) s p c refl (omega (arith, leb-false _ _ e)), leb-false _ _ e)

-- the bytes before the first c
abbrev pub part : ℕ → List ℕ → List ℕ
part c l = take (before c l) l

-- the field at p, where its digits come down to those from i on behind n
abbrev pub scanned : List ℕ → ℕ → ℕ → Option (ℕ × ℕ)
scanned s n i = numbered (digits_from n (part 44 (drop i s))) (i + before 44 (drop i s))

-- a field that is no number
no_number : (s : List ℕ) (p : ℕ) → None ≡ number_of (part 44 (drop p s)) → None ≡ scan_of s p
unfolding scan_of
no_number s p e = rw (← e) (by (eqb (get_or s p 0) 48))
  where
    by : (b : Bool) → None ≡ cond {A = Option (ℕ × ℕ)} b None None
    by true = refl
    by false = refl

-- no field is behind the end,
pub scan_past : (s : List ℕ) (p : ℕ) → length s ≤ p → None ≡ scan_of s p
unfolding before number_of
scan_past s p h = no_number s p (rw (drop_of_length-le s h))

-- an empty field is no number,
pub scan_empty : (s : List ℕ) (p : ℕ) → p < length s → get_or s p 0 ≡ 44 → None ≡ scan_of s p
unfolding before number_of
scan_empty s p h e = no_number s p (rw (next s p (get_or s p 0) h refl, eq-eqb (get_or s p 0) 44 e))

-- and one that begins with 0 is left to a second look
pub scan_zero : (s : List ℕ) (p : ℕ) → get_or s p 0 ≡ 48 → None ≡ scan_of s p
unfolding scan_of
scan_zero s p e = rw (eq-eqb (get_or s p 0) 48 e)

-- any other is a number by its digits
pub scan_start : (s : List ℕ) (p : ℕ) → p < length s → (get_or s p 0 ≡ 48 → ⊥) → (get_or s p 0 ≡ 44 → ⊥) → scan_of s p ≡ scanned s 0 p
unfolding scan_of before
scan_start s p h z q =
    let digits : number_of (part 44 (drop p s)) ≡ digits_from 0 (part 44 (drop p s)) =
    rw (next s p (get_or s p 0) h refl, ne_eqb (get_or s p 0) 44 q) (plain (get_or s p 0 ∷ part 44 (drop (p + 1) s)) z (λ e. omega (arith, e))) in
    rw (ne_eqb (get_or s p 0) 48 z, digits)

move : (d : Option ℕ) (i e : ℕ) → numbered d (i + suc e) ≡ numbered d (i + 1 + e)
move d i e = let q : i + suc e ≡ i + 1 + e = omega arith in rw q

-- one byte, at the place i, where what is asked (w) comes down to the field from i
module _ (w : Option (ℕ × ℕ)) (s : List ℕ) (n i : ℕ) (inv : w ≡ scanned s n i) where
  pub scan_stop : i < length s → (get_or s i 0 ≡ 44 → ⊥) → None ≡ digits_from n (get_or s i 0 ∷ []) → None ≡ w
  unfolding before
  scan_stop h q e = sym (inv ∙ rw (next s i (get_or s i 0) h refl, ne_eqb (get_or s i 0) 44 q, digit_none n (get_or s i 0) (part 44 (drop (i + 1) s)) e))

  pub scan_digit : (m : ℕ) → i < length s → (get_or s i 0 ≡ 44 → ⊥) → Some m ≡ digits_from n (get_or s i 0 ∷ []) → (m ≤ 65535) × (w ≡ scanned s m (i + 1))
  unfolding before
  scan_digit m h q e = (
    digits_most n (get_or s i 0) m e,
    inv ∙ rw (next s i (get_or s i 0) h refl, ne_eqb (get_or s i 0) 44 q, digit_some n (get_or s i 0) m (part 44 (drop (i + 1) s)) e) (move (digits_from m (part 44 (drop (i + 1) s))) i (before 44 (drop (i + 1) s))),
  )

  -- at a comma
  pub scan_comma : i < length s → get_or s i 0 ≡ 44 → n ≤ 65535 → Some (n, i) ≡ w
  unfolding digits_from before
  scan_comma h e m = sym (inv ∙ rw (next s i (get_or s i 0) h refl, eq-eqb (get_or s i 0) 44 e, le-leb n 65535 m, add-zero i))

  -- at the end of the line
  pub scan_end : length s ≤ i → n ≤ 65535 → Some (n, i) ≡ w
  unfolding digits_from before
  scan_end h m = sym (inv ∙ rw (drop_of_length-le s h, le-leb n 65535 m, add-zero i))

-- a field that was found to be a number: where it ends, and that it is that number
pub scan_number : (s : List ℕ) (p n e : ℕ) → p ≤ length s → scan_of s p ≡ Some (n, e)
    → ((p ≤ e) × (e ≤ length s)) × (e ≡ p + before 44 (drop p s)) × (number_of (take (e - p) (drop p s)) ≡ Some n)
unfolding scan_of
scan_number s p n e h = by (eqb (get_or s p 0) 48) (number_of (part 44 (drop p s))) refl
  where
    by : (b : Bool) (w : Option ℕ) → number_of (part 44 (drop p s)) ≡ w → cond b None (numbered w (p + before 44 (drop p s))) ≡ Some (n, e)
        → ((p ≤ e) × (e ≤ length s)) × (e ≡ p + before 44 (drop p s)) × (number_of (take (e - p) (drop p s)) ≡ Some n)
    by true w g q = absurd (none-some (n, e) q)
    by false None g q = absurd (none-some (n, e) q)
    by false (Some k) g q =
        let pair : ◌≡◌ {A = ℕ × ℕ} (k, p + before 44 (drop p s)) (n, e) = cc in
        let end : e ≡ p + before 44 (drop p s) = sym (ap (λ (z : ℕ × ℕ). z.1) pair) in
        let number : k ≡ n = ap (λ (z : ℕ × ℕ). z.0) pair in
        let most : before 44 (drop p s) ≤ length s - p = rw (length-drop p s) at (before_most 44 (drop p s)) in
        ((omega (arith, end), omega (arith, end, most)), end, rw (end, add-sub_cancel_left p (before 44 (drop p s))) (g ∙ rw number))

-- a word, w, where it comes down to the rest from i
module _ (w : ℕ) (s : List ℕ) (a i : ℕ) (inv : w ≡ pack_from a (drop i s)) where
  pub letter_at : (x : ℕ) → i < length s → x ≡ get_or s i 0 → a < 72057594037927936 → (x ≡ 0 → ⊥) → x < 256 → w ≡ pack_from (a * 256 + x) (drop (i + 1) s)
  unfolding pack_from letter
  letter_at x h e l n r = inv ∙ rw (next s i x h e, lt-ltb a 72057594037927936 l, ne_eqb x 0 n, lt-ltb x 256 r)

  pub whole : length s ≤ i → w ≡ a
  unfolding pack_from
  whole h = inv ∙ rw (drop_of_length-le s h)

  pub stop : i < length s → (72057594037927936 ≤ a) ⊎ ((a < 72057594037927936) × (get_or s i 0 ≡ 0)) → 0 ≡ w
  unfolding pack_from letter
  stop h (inl l) = sym (inv ∙ rw (next s i (get_or s i 0) h refl, le-ltb a 72057594037927936 l))
  stop h (inr (l, n)) = sym (inv ∙ rw (next s i (get_or s i 0) h refl, lt-ltb a 72057594037927936 l, eq-eqb (get_or s i 0) 0 n))

-- the word before the first c, where its number comes down to the rest from i
module _ (s : List ℕ) (c a i : ℕ) (inv : pack_from 0 (part c s) ≡ pack_from a (part c (drop i s))) where
  pub letter_of : (x : ℕ) → i < length s → x ≡ get_or s i 0 → (get_or s i 0 ≡ c → ⊥) → a < 72057594037927936 → (x ≡ 0 → ⊥) → x < 256 → pack_from 0 (part c s) ≡ pack_from (a * 256 + x) (part c (drop (i + 1) s))
  unfolding pack_from letter before
  letter_of x h e q l n r = inv ∙ rw (next s i x h e, ne_eqb x c (λ z. q (sym e ∙ z)), lt-ltb a 72057594037927936 l, ne_eqb x 0 n, lt-ltb x 256 r)

  module _ (b : before c s ≡ i + before c (drop i s)) where
    -- it ends at i
    pub word_end : i < length s → get_or s i 0 ≡ c → a ≡ pack_from 0 (take i s)
    unfolding pack_from before
    word_end h e = rw (found (before c s) s i c b h e) (sym (inv ∙ rw (next s i (get_or s i 0) h refl, eq-eqb (get_or s i 0) c e)))

    pub word_all : length s ≤ i → a ≡ pack_from 0 (take i s)
    unfolding pack_from before
    word_all h = rw (none (before c s) s i c b h) (sym (inv ∙ rw (drop_of_length-le s h)))

    -- it has no number
    module _ (e : ℕ) (d : e ≡ i + before c (drop i s)) (h : i < length s) (q : get_or s i 0 ≡ c → ⊥) where
      pub word_at : e ≡ before c s
      word_at = d ∙ sym b

      pub word_none : (72057594037927936 ≤ a) ⊎ ((a < 72057594037927936) × (get_or s i 0 ≡ 0)) → 0 ≡ pack_from 0 (take e s)
      unfolding pack_from letter before
      word_none (inl l) = rw word_at (sym (inv ∙ rw (next s i (get_or s i 0) h refl, ne_eqb (get_or s i 0) c q, le-ltb a 72057594037927936 l)))
      word_none (inr (l, n)) = rw word_at (sym (inv ∙ rw (next s i (get_or s i 0) h refl, ne_eqb (get_or s i 0) c q, lt-ltb a 72057594037927936 l, eq-eqb (get_or s i 0) 0 n)))

-- a list's first part, and the parts behind it
split_first : (c : ℕ) (l : List ℕ) → split c l ≡ take (before c l) l ∷ cond (ltb (before c l) (length l)) (split c (drop (suc (before c l)) l)) []
unfolding split before
split_first c [] = refl
split_first c (x ∷ xs) = by (eqb x c) refl (split_first c xs)
  where
    by : (b : Bool) → eqb x c ≡ b → split c xs ≡ take (before c xs) xs ∷ cond (ltb (before c xs) (length xs)) (split c (drop (suc (before c xs)) xs)) []
        → split c (x ∷ xs) ≡ take (before c (x ∷ xs)) (x ∷ xs) ∷ cond (ltb (before c (x ∷ xs)) (length (x ∷ xs))) (split c (drop (suc (before c (x ∷ xs))) (x ∷ xs))) []
    by true e ih = rw (e, lt-ltb 0 (suc (length xs)) (omega arith))
    by false e ih = rw (e, ih, leb-suc-suc (suc (before c xs)) (length xs))

same_test : (a b c d : ℕ) → (a < b → c ≤ d) → (b ≤ a → d < c) → ltb a b ≡ leb c d
same_test a b c d f g = by (ltb a b) refl
  where
    by : (t : Bool) → ltb a b ≡ t → ltb a b ≡ leb c d
    by true e = e ∙ sym (le-leb c d (f (ltb-true a b e)))
    by false e = e ∙ sym (lt-leb c d (g (ltb-false a b e)))

pub first_part : (c : ℕ) (v : List ℕ) (p e : ℕ) → p ≤ length v → e ≡ p + before c (drop p v) → parts_from c p v ≡ take (e - p) (drop p v) ∷ parts_from c (e + 1) v
unfolding parts_from
first_part c v p e h q =
    let b : ℕ = before c (drop p v) in
    rw (
      le-leb p (length v) h,
      split_first c (drop p v),
      drop-drop (suc b) p v,
      q,
      length-drop p v,
      same_test b (length v - p) (p + b + 1) (length v) (λ l. omega arith) (λ l. omega arith),
      add-suc p b,
      ← add-one (p + b),
      add-sub_cancel_left p b,
    )

pub no_part : (c : ℕ) (v : List ℕ) (p : ℕ) → length v < p → parts_from c p v ≡ []
unfolding parts_from
no_part c v p h = rw (lt-leb p (length v) h)

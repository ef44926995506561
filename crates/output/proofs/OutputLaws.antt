-- What a byte, a digit and the end of a text do to an output. Assumes nothing.
use Rattle.std.specs.Prelude.{None, Some}
use native.Mathlib.Omega.{arith}
use native.Mathlib.Numerals.{add-one, sub-one}
use mathlib.Core.Path.{◌≡◌, refl, sym, ap, subst, ◌∙◌}
use mathlib.Core.Logic.{inl, inr}
use mathlib.Core.List.{List, [], ◌∷◌, ◌++◌}
use mathlib.Core.Bool.{Bool, true, false, cond}
use Prim.Native.Nat.{ℕ, zero, suc, ◌+◌, ◌-◌, ◌/◌, ◌%◌, ◌≤◌, ◌<◌}
use lib.ListN.{length, drop, take, set, get_or, replicate, length-append, length-drop}
use lib.Dec.{ltb}
use borrow.Author.Tests.{lt-ltb, le-ltb, ltb-false, ltb-true}
use lib.Seq.{take-suc, take-length}
use Rattle.std.proofs.lemmas.List.{append_assoc, length-set}
use Rattle.output.specs.Output.{full, Written, Appends, Finishes, output, ended, zeros, digits_of, number_text}
use Rattle.output.specs.Appending.{then, appends_as, append_none}

-- ── a byte ──

-- a text and the rest of the output are as long as the output
pub over_length : (t o : List ℕ) → length t ≤ length o → length (t ++ drop (length t) o) ≡ length o
over_length t o le = length-append t _ ∙ ap (λ k. length t + k) (length-drop (length t) o) ∙ omega (arith, le)

-- the next byte of a text
pub next_byte : (t o : List ℕ) (b : ℕ) → length t < length o → set (t ++ drop (length t) o) (length t) b ≡ t ++ (b ∷ []) ++ drop (length (t ++ (b ∷ []))) o
next_byte [] [] b lt = absurd (omega (arith, lt))
next_byte [] (y ∷ o) b lt = refl
next_byte (x ∷ t) [] b lt = absurd (omega (arith, lt))
next_byte (x ∷ t) (y ∷ o) b lt = ap (λ l. x ∷ l) (next_byte t o b (omega (arith, lt)))

-- a byte with room
pub put_at : (i : ℕ) (x : List ℕ) (b : ℕ) → i < length x → length x < full → Appends (b ∷ []) i x (i + 1) (set x i b)
put_at i x b lt short = record { appends = λ t o w. at t o w }
  where
    at : (t o : List ℕ) → Written t o i x → Written (t ++ (b ∷ [])) o (i + 1) (set x i b)
    at t o (inl w) = inl (omega (arith, w.0, length-append t (b ∷ [])), omega (arith, less, length-append t (b ∷ [])), ap (λ l. set l i b) w.2 ∙ ap (λ k. set (t ++ drop (length t) o) k b) w.0 ∙ next_byte t o b less)
      where
        less : length t < length o
        less = omega (arith, lt, w.0, w.1, ap length w.2, over_length t o w.1)
    at t o (inr w) = absurd (omega (arith, lt, short, w.0))

-- a byte without room
pub put_past : (i : ℕ) (x : List ℕ) (b : ℕ) → length x ≤ i → Appends (b ∷ []) i x full x
put_past i x b ge = record { appends = λ t o w. past t o w }
  where
    past : (t o : List ℕ) → Written t o i x → Written (t ++ (b ∷ [])) o full x
    past t o (inl w) = inr (refl, omega (arith, ge, w.0, w.1, ap length w.2, over_length t o w.1, length-append t (b ∷ [])), ap length w.2 ∙ over_length t o w.1)
    past t o (inr w) = inr (refl, omega (arith, w.1, length-append t (b ∷ [])), w.2)

-- ── bytes ──

-- the first i bytes of a text, and the next
pub next_of : (s : List ℕ) (i : ℕ) {c d e : ℕ} {x y z : List ℕ} → i < length s → Appends (take i s) c x d y → Appends (get_or s i 0 ∷ []) d y e z → Appends (take (i + 1) s) c x e z
next_of s i lt p q = appends_as (sym (take-suc s i 0 lt) ∙ ap (λ k. take k s) (sym (add-one i))) (then p q)

-- ── digits ──

-- a number below ten has one digit
below_ten : (k n : ℕ) → n < 10 → digits_of (suc k) n ≡ (48 + n % 10) ∷ []
unfolding digits_of
below_ten k n lt = rw (lt-ltb n 10 lt) refl

-- any other has its last digit behind those of its tenth
from_ten : (k n : ℕ) → 10 ≤ n → digits_of (suc k) n ≡ digits_of k (n / 10) ++ ((48 + n % 10) ∷ [])
unfolding digits_of
from_ten k n ge = rw (le-ltb n 10 ge) refl

-- no digit
pub no_digits : {k : ℕ} (n : ℕ) (c : ℕ) (x : List ℕ) → k ≡ 0 → Appends (digits_of k n) c x c x
unfolding digits_of
no_digits n c x e = subst (λ k. Appends (digits_of k n) c x c x) (sym e) (append_none c x)

-- one digit
pub one_digit : {k n b : ℕ} {c d : ℕ} {x y : List ℕ} → (k ≡ 0 → ⊥) → n < 10 → b ≡ 48 + n % 10 → Appends (b ∷ []) c x d y → Appends (digits_of k n) c x d y
one_digit {k = zero} ne lt e p = absurd (ne refl)
one_digit {k = suc k} {n = n} ne lt e p = appends_as (ap (λ a. a ∷ []) e ∙ sym (below_ten k n lt)) p

-- a digit behind others
pub more_digits : {k n b : ℕ} {c d e : ℕ} {x y z : List ℕ} → (k ≡ 0 → ⊥) → 10 ≤ n → b ≡ 48 + n % 10 → Appends (digits_of (k - 1) (n / 10)) c x d y → Appends (b ∷ []) d y e z → Appends (digits_of k n) c x e z
more_digits {k = zero} ne ge e p q = absurd (ne refl)
more_digits {k = suc k} {n = n} ne ge e p q = appends_as (ap (λ a. digits_of k (n / 10) ++ (a ∷ [])) e ∙ sym (from_ten k n ge)) (then (appends_as (ap (λ j. digits_of j (n / 10)) (sub-one (suc k))) p) q)

-- what a room ds of twenty digits holds behind its place a, and what of the number n is still to be written
abbrev pub Digits : ℕ → ℕ → ℕ → List ℕ → Type 0
Digits n a r ds = (a ≤ 20) × (length ds ≡ 20) × (number_text n ≡ digits_of a r ++ drop a ds)

-- a digit written before those behind it
set_at : (i b : ℕ) (ds : List ℕ) → i < length ds → drop i (set ds i b) ≡ b ∷ drop (suc i) ds
set_at i b [] h = absurd (omega (arith, h))
set_at zero b (x ∷ ds) h = refl
set_at (suc i) b (x ∷ ds) h = set_at i b ds (omega (arith, h))

-- all that stands behind the place i
all_behind : (i : ℕ) (l : List ℕ) → length l ≡ 20 → take (20 - i) (drop i l) ≡ drop i l
all_behind i l h = ap (λ k. take (k - i) (drop i l)) (sym h) ∙ ap (λ k. take k (drop i l)) (sym (length-drop i l)) ∙ take-length (drop i l)

-- the digit that is the first
first_digit : (a r : ℕ) (w ds : List ℕ) → 0 < a → a ≤ length ds → r < 10 → w ≡ digits_of a r ++ drop a ds → drop (a - 1) (set ds (a - 1) (48 + r % 10)) ≡ w
first_digit zero r w ds p h lt inv = absurd (omega (arith, p))
first_digit (suc k) r w ds p h lt inv = rw (sub-one (suc k)) (set_at k (48 + r % 10) ds (omega (arith, h)) ∙ sym (inv ∙ ap (λ l. l ++ drop (suc k) ds) (below_ten k r lt)))

-- a digit with others before it
next_digit : (a r : ℕ) (w ds : List ℕ) → 0 < a → a ≤ length ds → 10 ≤ r → w ≡ digits_of a r ++ drop a ds → w ≡ digits_of (a - 1) (r / 10) ++ drop (a - 1) (set ds (a - 1) (48 + r % 10))
next_digit zero r w ds p h ge inv = absurd (omega (arith, p))
next_digit (suc k) r w ds p h ge inv = rw (sub-one (suc k)) (inv ∙ ap (λ l. l ++ drop (suc k) ds) (from_ten k r ge) ∙ append_assoc (digits_of k (r / 10)) ((48 + r % 10) ∷ []) (drop (suc k) ds) ∙ ap (λ l. digits_of k (r / 10) ++ l) (sym (set_at k (48 + r % 10) ds (omega (arith, h)))))

module _ (n a r : ℕ) (ds : List ℕ) (inv : Digits n a r ds) where
  -- the text is written from the first digit on
  pub digits_done : 0 < a → r < 10 → {c d : ℕ} {x z y : List ℕ} → x ≡ z → Appends (take (20 - (a - 1)) (drop (a - 1) (set ds (a - 1) (48 + r % 10)))) c x d y → Appends (number_text n) c z d y
  digits_done p lt {c = c} {d = d} {y = y} e q = subst (λ z. Appends (number_text n) c z d y) e (appends_as (all_behind (a - 1) (set ds (a - 1) (48 + r % 10)) (length-set ds (a - 1) (48 + r % 10) ∙ inv.1) ∙ first_digit a r (number_text n) ds p (omega (arith, inv.0, inv.1)) lt inv.2) q)

  pub digits_more : 0 < a → 10 ≤ r → Digits n (a - 1) (r / 10) (set ds (a - 1) (48 + r % 10))
  digits_more p ge = (omega (arith, inv.0), length-set ds (a - 1) (48 + r % 10) ∙ inv.1, next_digit a r (number_text n) ds p (omega (arith, inv.0, inv.1)) ge inv.2)

  pub digits_all : a ≤ 0 → {c d : ℕ} {x z y : List ℕ} → x ≡ z → Appends ds c x d y → Appends (number_text n) c z d y
  unfolding digits_of
  digits_all none {c = c} {d = d} {y = y} e q = let k : a ≡ 0 = omega (arith, none) in subst (λ z. Appends (number_text n) c z d y) e (appends_as (sym (inv.2 ∙ rw k refl)) q)

-- ── the end ──

-- a text that had room
pub finish_at : (n : ℕ) (x : List ℕ) → (n ≡ full → ⊥) → Finishes n x (Some n) x
unfolding ended
finish_at n x ne = record { finishes = λ t o w. by t o w (ltb (length o) (length t)) refl }
  where
    by : (t o : List ℕ) → Written t o n x → (b : Bool) → ltb (length o) (length t) ≡ b → output (Some n) x ≡ cond b (output None (zeros o)) (output (Some (length t)) (t ++ drop (length t) o))
    by t o (inl w) true e = absurd (omega (arith, ltb-true (length o) (length t) e, w.1))
    by t o (inl w) false e = ap (λ k. output (Some k) x) w.0 ∙ ap (λ l. output (Some (length t)) l) w.2
    by t o (inr w) b e = absurd (ne w.0)

-- a text that had none
pub finish_full : {n : ℕ} {x y : List ℕ} → n ≡ full → length x < full → y ≡ zeros x → Finishes n x None y
unfolding ended
finish_full {n = n} {x = x} {y = y} e short z = subst (λ y. Finishes n x None y) (sym z) (record { finishes = λ t o w. by t o w (ltb (length o) (length t)) refl })
  where
    by : (t o : List ℕ) → Written t o n x → (b : Bool) → ltb (length o) (length t) ≡ b → output None (zeros x) ≡ cond b (output None (zeros o)) (output (Some (length t)) (t ++ drop (length t) o))
    by t o (inl w) b q = absurd (omega (arith, e, short, w.0, w.1, ap length w.2, over_length t o w.1))
    by t o (inr w) true q = ap (λ k. output None (replicate k 0)) w.2
    by t o (inr w) false q = absurd (omega (arith, ltb-false (length o) (length t) q, w.1))

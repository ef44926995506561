-- What each return and turn of the functions shows, over plain variables. Assumes nothing.
use mathlib.Core.Path.{◌≡◌, refl, ap}
use mathlib.Core.List.{List, [], ◌∷◌, ◌++◌}
use Prim.Native.Nat.{ℕ, ◌+◌, ◌≤◌, ◌<◌}
use native.Mathlib.Numerals.{add-one}
use lib.ListN.{length, get_or, set, drop, drop_of_length-le}
use lib.Seq.{sets, drop-cons}
use Rattle.answers.specs.declared.Totals.{Totals}
use Rattle.answers.specs.declared.Answer.{Answer}
use Rattle.answers.specs.Lent.{answer_number, answer_place}
use Rattle.report_text.specs.declared.Reported.{Reported}
use Rattle.report_text.specs.declared.Reported.TheVariants.{Written, NoRoom}
use Rattle.report_text.specs.Written.{checked_answer, report_number}
use Rattle.told.specs.Numbers.{place_numbers, total_numbers, totals_of, told_numbers, own_numbers, text_length, NumberTold, number_told}

-- ── numbers one by one ──

-- one number more
pub put_more : (t u w xs : List ℕ) (i : ℕ) → i < length xs → sets t i (drop i xs) ≡ w → u ≡ set t i (get_or xs i 0) → sets u (i + 1) (drop (i + 1) xs) ≡ w
put_more t u w xs i h p e = rw (e, add-one i) (rw (drop-cons xs i 0 h) at p)

-- all numbers
pub put-done : (t w xs : List ℕ) (i : ℕ) → length xs ≤ i → sets t i (drop i xs) ≡ w → t ≡ w
put-done t w xs i h p = rw (drop_of_length-le xs h) at p

-- ── what is told ──

-- of an answer a that is b, by number, place and counts
pub told_as : (a b : Answer) (k f p n : ℕ) (c : Totals) (xs : List ℕ) → a ≡ b → k ≡ answer_number b → f ∷ p ∷ [] ≡ place_numbers (answer_place b) → c ≡ totals_of b → xs ≡ k ∷ f ∷ p ∷ total_numbers c ++ n ∷ []
    → xs ≡ told_numbers a n
told_as a b k f p n c xs e u v w q = rw (e, ← u, ← v, ← w) q

-- of an answer, by the numbers xs
pub tell_law : (t v xs : List ℕ) (a : Answer) (n k : ℕ) → xs ≡ told_numbers a n → v ≡ sets t 0 xs → k ≡ get_or xs 0 0 → number_told k v ≡ number_told (answer_number a) (sets t 0 (told_numbers a n))
tell_law t v xs a n k p q e = rw (e, q, p) refl

-- of a tool's own answer
pub tell_own_law : (t v xs : List ℕ) (k : ℕ) (a : Answer) (n : ℕ) (c : Totals) → c ≡ totals_of a → xs ≡ k ∷ 0 ∷ 0 ∷ total_numbers c ++ n ∷ [] → v ≡ sets t 0 xs → number_told k v ≡ number_told k (sets t 0 (own_numbers k a n))
tell_own_law t v xs k a n c e p q = rw (q, p, e) refl

-- of a report with a text
pub tell_written : (t v : List ℕ) (r : Reported) (a : Answer) (n k : ℕ) → r ≡ Written a n → number_told k v ≡ number_told (answer_number a) (sets t 0 (told_numbers a n))
    → number_told k v ≡ number_told (report_number r) (sets t 0 (told_numbers (checked_answer r) (text_length r)))
tell_written t v r a n k e q = rw e q

-- of one without room: the number is 9
pub tell_no_room : (t v : List ℕ) (r : Reported) (a : Answer) (k : ℕ) → r ≡ NoRoom a → number_told k v ≡ number_told (answer_number a) (sets t 0 (told_numbers a 0))
    → number_told 9 v ≡ number_told (report_number r) (sets t 0 (told_numbers (checked_answer r) (text_length r)))
tell_no_room t v r a k e q = rw e (ap (λ (w : NumberTold). number_told 9 w.told) q)

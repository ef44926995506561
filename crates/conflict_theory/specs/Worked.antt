-- The equations that f) works on, in the order raised, and its refusal 14. Then: they have no common solution. Assumes what demand 3's invariant says of a walk's tables
-- (`Claim`), and that no equation was refused 13 (the checker's own refusal, which comes first).
use Rattle.std.specs.Prelude.{◌≡◌, refl, ◌⊎◌, ◌↔◌, List, [], ◌∷◌, ◌++◌, Bool, true, false, ℕ, suc, zero, ◌+◌, ◌<◌, ◌≤◌, length, get_or}
use Rattle.std.proofs.Common.{sym, subst, ◌∙◌, inl, inr, append_assoc, arith, length-append}
use Rattle.std.proofs.Math.Option.{Option, none, some}
use Rattle.theory.specs.Rules.{Shape, Kind, Out, success, mismatch, refused12, refused13, dry, Pair, row, div}
use Rattle.theory.specs.Program.{Equation}
use Rattle.theory.specs.Basics.{All, clash}
use Rattle.theory.specs.Ways.{Way, Kinded, Plain, PlainSides, Sided, Meets, Went, Failed}
use Rattle.theory.specs.Keep.{Ended}
use Rattle.conflict_theory.specs.Sets.{all_both, all_first, all_second}
use Rattle.conflict_theory.specs.Marks.{Not13}
use Rattle.conflict_theory.specs.Deletion.{leave}
use Rattle.conflict_theory.specs.Test.{ok}

-- ── definitions ──

-- an equation that "failed with cause 1 or was refused 12"
abbrev pub is_failed : Out → Bool
is_failed success = false
is_failed mismatch = true
is_failed refused12 = true
is_failed refused13 = false
is_failed dry = false

-- a log, if the test holds
abbrev pub there : Bool → List Equation → Option (List Equation)
there true l = some l
there false l = none

-- the first of two, if it is there, else the second
abbrev pub earlier : Option (List Equation) → Option (List Equation) → Option (List Equation)
earlier (some l) o = some l
earlier none o = o

-- of a log, the newest first: the log as it was when the first equation had failed that way; none, if no equation did
unfoldable pub until_failed : List Equation → Option (List Equation)
until_failed [] = none
until_failed (q ∷ l) = earlier (until_failed l) (there (is_failed q.answer) (q ∷ l))

-- the sides of an equation
abbrev pub sides_of : Equation → Pair
sides_of q = (q.expected, q.got)

-- the sides of the equations of a log, "in the order raised"
unfoldable pub in_order : List Equation → List Pair
in_order [] = []
in_order (q ∷ l) = in_order l ++ sides_of q ∷ []

-- the sides of the equation of a number
abbrev pub sides_at : List Pair → ℕ → Pair
sides_at eqs i = get_or eqs i (0, 0)

-- so many numbers from a on
unfoldable pub from : ℕ → ℕ → List ℕ
from a zero = []
from a (suc n) = a ∷ from (suc a) n

-- the numbers of the equations, "from 0"
abbrev pub numbers : List Pair → List ℕ
numbers eqs = from 0 (length eqs)

-- f): no side "that is not plain, Diverges as got side excepted": by the letter, so the expected side is plain beside Diverges too
abbrev pub PlainPair : List Shape → Pair → Type 0
PlainPair rows p = Plain rows p.0 × (Plain rows p.1 ⊎ (row rows p.1 ≡ div))

-- f)'s set of equations with these sides, by the test of unification: `conflict_left` of Claims says it by ways
unfoldable pub conflict_of : List Shape → List Kind → List Pair → List ℕ
conflict_of rows kinds eqs = leave (ok rows kinds (sides_at eqs)) [] (numbers eqs)

-- the nodes whose rules raised the equations of a log, in the order raised
unfoldable pub nodes_in_order : List Equation → List ℕ
nodes_in_order [] = []
nodes_in_order (q ∷ l) = nodes_in_order l ++ q.node ∷ []

-- ── proofs ──

-- such a pair has demand 3's sides
pub plain_sided : (rows : List Shape) (p : Pair) → PlainPair rows p → PlainSides rows p.0 p.1
plain_sided rows p h = by h.1
  where
    by : Plain rows p.1 ⊎ (row rows p.1 ≡ div) → PlainSides rows p.0 p.1
    by (inl k) = inr (h.0, k)
    by (inr k) = inl k

-- what holds of the equations of a log holds of their sides in the order raised
pub order_all : (P : Pair → Type 0) (l : List Equation) → All (λ q. P (sides_of q)) l ↔ All P (in_order l)
unfolding in_order
order_all P [] = (λ h. h, λ h. h)
order_all P (q ∷ l) = (λ h. all_both P (in_order l) (sides_of q ∷ []) ((order_all P l).0 h.1) (h.0, tt), λ h. ((all_second P (in_order l) (sides_of q ∷ []) h).0, (order_all P l).1 (all_first P (in_order l) (sides_of q ∷ []) h)))

-- the first behind a list
pub at_past : {A : Type 0} (pre : List A) (x : A) (l : List A) (d : A) → get_or (pre ++ x ∷ l) (length pre) d ≡ x
at_past [] x l d = refl
at_past (y ∷ pre) x l d = at_past pre x l d

from_all : {A : Type 0} (P : A → Type 0) (d : A) (pre l whole : List A) (n : ℕ) → whole ≡ pre ++ l → n ≡ length pre → All P l ↔ All (λ i. P (get_or whole i d)) (from n (length l))
unfolding from
from_all P d pre [] whole n e k = (λ h. h, λ h. h)
from_all P d pre (x ∷ l) whole n e k =
    let g : get_or whole n d ≡ x = rw (e, k) (at_past pre x l d) in
    let r = from_all P d (pre ++ x ∷ []) l whole (suc n) (e ∙ sym (append_assoc pre (x ∷ []) l)) (rw (k, length-append pre (x ∷ [])) (omega arith)) in
    (λ h. (rw g h.0, r.0 h.1), λ h. (rw g at h.0, r.1 h.1))

-- what holds of all equations holds of each number
pub numbers_all : (P : Pair → Type 0) (eqs : List Pair) → All P eqs ↔ All (λ i. P (sides_at eqs i)) (numbers eqs)
numbers_all P eqs = from_all P (0, 0) [] eqs eqs 0 refl refl

-- and of each number below their count
pub each_at : (P : Pair → Type 0) (eqs : List Pair) → All P eqs → (i : ℕ) → i < length eqs → P (sides_at eqs i)
each_at P [] h i l = absurd (omega arith)
each_at P (p ∷ eqs) h zero l = h.0
each_at P (p ∷ eqs) h (suc i) l = each_at P eqs h.1 i (omega arith)

-- numbers that follow one another
pub from_below : (a n b : ℕ) → a + n ≤ b → All (λ i. i < b) (from a n)
unfolding from
from_below a zero b h = tt
from_below a (suc n) b h = (omega arith, from_below (suc a) n b (omega arith))

-- what holds of all equations of a log holds of those up to the first failure
pub until_failed_part : (P : Equation → Type 0) (l k : List Equation) → until_failed l ≡ some k → All P l → All P k
unfolding until_failed
until_failed_part P [] k e h = clash (cc)
until_failed_part P (q ∷ l) k e h = by (until_failed l) refl (is_failed q.answer) (λ j p. until_failed_part P l j p h.1) e
  where
    by : (o : Option (List Equation)) → until_failed l ≡ o → (b : Bool) → ((j : List Equation) → until_failed l ≡ some j → All P j) → earlier o (there b (q ∷ l)) ≡ some k → All P k
    by (some j) p b r d = let g : j ≡ k = cc in subst (λ x. All P x) g (r j p)
    by none p false r d = clash (cc)
    by none p true r d = let g : q ∷ l ≡ k = cc in subst (λ x. All P x) g h

-- no equation of a log was refused 13
abbrev pub None13 : List Equation → Type 0
None13 l = All (λ (q : Equation). Not13 q.answer) l

went_of : (o : Out) → Not13 o → Ended o → is_failed o ≡ false → o ≡ success
went_of success u e f = refl
went_of mismatch u e f = cc
went_of refused12 u e f = cc
went_of refused13 u e f = absurd u
went_of dry u e f = absurd e

-- the answers of a log, each ended
abbrev pub EndedLog : List Equation → Type 0
EndedLog l = All (λ (q : Equation). Ended q.answer) l

-- no equation failed that way: each went through
pub none_failed : (l : List Equation) → None13 l → EndedLog l → until_failed l ≡ none → All Went l
unfolding until_failed
none_failed [] u d e = tt
none_failed (q ∷ l) u d e = by (until_failed l) refl (is_failed q.answer) refl (none_failed l u.1 d.1) e
  where
    by : (o : Option (List Equation)) → until_failed l ≡ o → (b : Bool) → is_failed q.answer ≡ b → (until_failed l ≡ none → All Went l) → earlier o (there b (q ∷ l)) ≡ none → All Went (q ∷ l)
    by (some k) p b f r h = clash (cc)
    by none p true f r h = clash (cc)
    by none p false f r h = (went_of q.answer u.0 d.0 f, r p)

-- the log as it was at the first failure: its newest failed, all before went through, and no way meets them all
pub record First (rows : List Shape) (kinds : List Kind) (k : List Equation) : Type 0 where
  pub failed : Equation
  pub before : List Equation
  pub is : k ≡ failed ∷ before
  pub fails : Failed failed.answer
  pub went : All Went before
  pub none : All (Sided rows) k → (w : Way) → Kinded kinds w → All (Meets rows w) k → ⊥

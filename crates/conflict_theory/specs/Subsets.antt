-- The subsets of a list by size and then by first differing number, as request n) goes through them; each stands there once; and the step from one to the next. Assumes
-- nothing but what each statement says.
use Rattle.std.specs.Prelude.{◌≡◌, refl, ◌⊎◌, ◌≢◌, List, [], ◌∷◌, ◌++◌, map, Bool, true, false, cond, ℕ, suc, zero, ◌+◌, ◌≤◌, ◌<◌, length, ltb}
use Rattle.std.proofs.Common.{ap, inl, inr, arith}
use Rattle.std.proofs.Math.Option.{Option, none, some}
use Rattle.theory.specs.Basics.{All, clash, ltb-true}
use Rattle.conflict_theory.specs.Sets.{In, Part, part_self, in_left, in_right, in_either}
use Rattle.conflict_theory.specs.Worked.{from, from_below}

-- ── definitions ──

-- it is a subset of the list, its members in the order of the list
abbrev pub Picks : List ℕ → List ℕ → Type 0
Picks [] l = Unit {0}
Picks (x ∷ c) [] = ⊥
Picks (x ∷ c) (y ∷ l) = ((x ≡ y) × Picks c l) ⊎ Picks (x ∷ c) l

-- the subsets of k members, "by first differing number"
unfoldable pub subsets : ℕ → List ℕ → List (List ℕ)
subsets zero l = [] ∷ []
subsets (suc k) [] = []
subsets (suc k) (x ∷ l) = map (λ c. x ∷ c) (subsets k l) ++ subsets (suc k) l

-- those of n sizes from s on, "by size .. and then by first differing number"
unfoldable pub sized : ℕ → ℕ → List ℕ → List (List ℕ)
sized s zero l = []
sized s (suc n) l = subsets s l ++ sized (suc s) n l

-- the next subset of so many members of the numbers below n: the last member that can be raised is raised, and those behind it follow it at once
abbrev pub next_by : ℕ → ℕ → List ℕ → Option (List ℕ) → Option (List ℕ)
next_by n x c (some d) = some (x ∷ d)
next_by n x c none = cond (ltb (suc x + length c) n) (some (from (suc x) (suc (length c)))) none

-- none behind the last one
unfoldable pub next : ℕ → List ℕ → Option (List ℕ)
next n [] = none
next n (x ∷ c) = next_by n x c (next n c)

-- the first of these lists, else o
abbrev pub lead : List (List ℕ) → Option (List ℕ) → Option (List ℕ)
lead [] o = o
lead (c ∷ l) o = some c

-- each list has the one behind it as its next, and the last one o
abbrev pub Chain : ℕ → List (List ℕ) → Option (List ℕ) → Type 0
Chain n [] o = Unit {0}
Chain n (c ∷ l) o = (next n c ≡ lead l o) × Chain n l o

-- no number is there twice
abbrev pub Distinct : {A : Type 0} → List A → Type 0
Distinct [] = Unit {0}
Distinct (x ∷ l) = All (λ y. x ≢ y) l × Distinct l

-- ── which they are ──

in_map : (x : ℕ) (c : List ℕ) (l : List (List ℕ)) → In c l → In (x ∷ c) (map (λ d. x ∷ d) l)
in_map x c [] h = absurd h
in_map x c (d ∷ l) (inl e) = inl (ap (λ b. x ∷ b) e)
in_map x c (d ∷ l) (inr h) = inr (in_map x c l h)

pub map_in : (x : ℕ) (c : List ℕ) (l : List (List ℕ)) → In c (map (λ d. x ∷ d) l) → (d : List ℕ) × (c ≡ x ∷ d) × In d l
map_in x c [] h = absurd h
map_in x c (d ∷ l) (inl e) = (d, e, inl refl)
map_in x c (d ∷ l) (inr h) = let r = map_in x c l h in (r.0, r.1, inr r.2)

-- each subset of k members is there
pub subset_there : (k : ℕ) (l c : List ℕ) → Picks c l → length c ≡ k → In c (subsets k l)
unfolding subsets
subset_there zero l [] p e = inl refl
subset_there zero l (x ∷ c) p e = absurd (omega arith)
subset_there (suc k) [] [] p e = absurd (omega arith)
subset_there (suc k) [] (x ∷ c) p e = absurd p
subset_there (suc k) (y ∷ l) [] p e = absurd (omega arith)
subset_there (suc k) (y ∷ l) (x ∷ c) (inl p) e = let q : x ≡ y = p.0 in rw q (in_left (map (λ d. y ∷ d) (subsets k l)) (subsets (suc k) l) (y ∷ c) (in_map y c (subsets k l) (subset_there k l c p.1 (omega arith))))
subset_there (suc k) (y ∷ l) (x ∷ c) (inr p) e = in_right (map (λ d. y ∷ d) (subsets k l)) (subsets (suc k) l) (x ∷ c) (subset_there (suc k) l (x ∷ c) p e)

-- a subset of the rest is one of the whole
pub picks_later : (c : List ℕ) (y : ℕ) (l : List ℕ) → Picks c l → Picks c (y ∷ l)
picks_later [] y l h = tt
picks_later (x ∷ c) y l h = inr h

-- and nothing else is
pub subset_is : (k : ℕ) (l c : List ℕ) → In c (subsets k l) → Picks c l × (length c ≡ k)
unfolding subsets
subset_is zero l c (inl e) = rw e (tt, refl)
subset_is zero l c (inr h) = absurd h
subset_is (suc k) [] c h = absurd h
subset_is (suc k) (y ∷ l) c h = by (in_either (map (λ d. y ∷ d) (subsets k l)) (subsets (suc k) l) c h) (λ d. subset_is k l d) (λ d. subset_is (suc k) l d)
  where
    by : In c (map (λ d. y ∷ d) (subsets k l)) ⊎ In c (subsets (suc k) l) → ((d : List ℕ) → In d (subsets k l) → Picks d l × (length d ≡ k)) → ((d : List ℕ) → In d (subsets (suc k) l) → Picks d l × (length d ≡ suc k)) → Picks c (y ∷ l) × (length c ≡ suc k)
    by (inl m) f g = let r = map_in y c (subsets k l) m in let q = f r.0 r.2 in rw r.1 (inl (refl, q.0), ap suc q.1)
    by (inr m) f g = let q = g c m in (picks_later c y l q.0, q.1)

pub picks_all : (P : ℕ → Type 0) (c l : List ℕ) → Picks c l → All P l → All P c
picks_all P [] l p h = tt
picks_all P (x ∷ c) [] p h = absurd p
picks_all P (x ∷ c) (y ∷ l) (inl p) h = (rw p.0 h.0, picks_all P c l p.1 h.1)
picks_all P (x ∷ c) (y ∷ l) (inr p) h = picks_all P (x ∷ c) l p h.1

-- the members of a subset are there
pub picks_part : (c l : List ℕ) → Picks c l → Part c l
picks_part c l p = picks_all (λ i. In i l) c l p (part_self l)

-- a subset has no more members
pub picks_length : (c l : List ℕ) → Picks c l → length c ≤ length l
picks_length [] l p = omega arith
picks_length (x ∷ c) [] p = absurd p
picks_length (x ∷ c) (y ∷ l) (inl p) = omega (arith, picks_length c l p.1)
picks_length (x ∷ c) (y ∷ l) (inr p) = omega (arith, picks_length (x ∷ c) l p)

-- ── each once ──

from_above : (a b n : ℕ) → a < b → All (λ y. a ≢ y) (from b n)
unfolding from
from_above a b zero h = tt
from_above a b (suc n) h = (λ e. omega arith, from_above a (suc b) n (omega arith))

-- numbers that follow one another are distinct
pub from_distinct : (a n : ℕ) → Distinct (from a n)
unfolding from
from_distinct a zero = tt
from_distinct a (suc n) = (from_above a (suc a) n (omega arith), from_distinct (suc a) n)

-- ── one after the other ──

-- so many numbers
pub from_length : (a n : ℕ) → length (from a n) ≡ n
unfolding from
from_length a zero = refl
from_length a (suc n) = ap suc (from_length (suc a) n)

-- what follows a list of k members that begins with x and has no next behind its first
abbrev pub raise : ℕ → ℕ → ℕ → Option (List ℕ)
raise n x k = cond (ltb (suc x + k) n) (some (from (suc x) (suc k))) none

lead_map : (x : ℕ) (a b : List (List ℕ)) (o : Option (List ℕ)) (d : List ℕ) → lead a none ≡ some d → lead (map (λ c. x ∷ c) a ++ b) o ≡ some (x ∷ d)
lead_map x [] b o d e = clash (cc)
lead_map x (c ∷ a) b o d e = let q : c ≡ d = cc in rw q refl

-- fewer numbers than members: no subset
pub subsets_none : (k a m : ℕ) → m < k → subsets k (from a m) ≡ []
unfolding subsets from
subsets_none zero a m h = absurd (omega arith)
subsets_none (suc k) a zero h = refl
subsets_none (suc k) a (suc m) h = rw (subsets_none k (suc a) m (omega arith), subsets_none (suc k) (suc a) m (omega arith)) refl

-- else the first is the first numbers
pub subsets_first : (k a m : ℕ) → k ≤ m → lead (subsets k (from a m)) none ≡ some (from a k)
unfolding subsets from
subsets_first zero a m h = refl
subsets_first (suc k) a zero h = absurd (omega arith)
subsets_first (suc k) a (suc m) h = lead_map a (subsets k (from (suc a) m)) (subsets (suc k) (from (suc a) m)) none (from (suc a) k) (subsets_first k (suc a) m (omega arith))

-- the next of numbers below n has numbers below n
pub next_below : (n : ℕ) (c d : List ℕ) → next n c ≡ some d → All (λ i. i < n) c → All (λ i. i < n) d
unfolding next
next_below n [] d e h = clash (cc)
next_below n (x ∷ c) d e h = by (next n c) refl (λ b q. next_below n c b q h.1) e
  where
    raised : (b : Bool) → ltb (suc x + length c) n ≡ b → cond b (some (from (suc x) (suc (length c)))) none ≡ some d → All (λ i. i < n) d
    raised false p q = clash (cc)
    raised true p q = let g : from (suc x) (suc (length c)) ≡ d = cc in rw (← g) (from_below (suc x) (suc (length c)) n (let l = ltb-true (suc x + length c) n p in omega arith))

    by : (o : Option (List ℕ)) → next n c ≡ o → ((b : List ℕ) → next n c ≡ some b → All (λ i. i < n) b) → next_by n x c o ≡ some d → All (λ i. i < n) d
    by (some b) p f q = let g : x ∷ b ≡ d = cc in rw (← g) (h.0, f b p)
    by none p f q = raised (ltb (suc x + length c) n) refl q

-- Request n): the search for a shorter set without a common solution, with a number of subsets that it may test. Assumes a test that tells which equations have a common solution (`good`, `bad`).
use Rattle.std.specs.Prelude.{◌≡◌, ◌⊎◌, Bool, length}
use Rattle.std.proofs.Math.Path.{refl}
use Rattle.std.proofs.Common.{ap, arith}
use mathlib.Core.List.{List, [], ◌∷◌, ◌++◌}
use Rattle.std.proofs.Math.Bool.{true, false}
use Prim.Native.Nat.{ℕ, suc, zero, ◌+◌, ◌-◌, ◌≤◌, ◌<◌}
use Rattle.theory.specs.Basics.{All}
use Rattle.conflict_theory.specs.Sets.{In}
use Rattle.conflict_theory.specs.Deletion.{Solvable, Unsolvable}
use Rattle.conflict_theory.specs.Subsets.{Picks, subsets, sized, Distinct}

module _ {W : Type 0} (K : W → Type 0) (M : W → ℕ → Type 0) where
  -- ── definitions, in the paper's words ──

  -- with a number of subsets that may be tested, going through these: which are tested, and the answer, "the first unsolvable one, else f)'s set"
  abbrev pub Goes : ℕ → List (List ℕ) → List ℕ → List (List ℕ) → List ℕ → Type 0
  Goes b [] f ts r = (ts ≡ []) × (r ≡ f)
  Goes zero (c ∷ cs) f ts r = (ts ≡ []) × (r ≡ f)
  Goes (suc b) (c ∷ cs) f ts r = (Unsolvable K M c × (ts ≡ c ∷ []) × (r ≡ c)) ⊎ (Solvable K M c × (us : List (List ℕ)) × (ts ≡ c ∷ us) × Goes b cs f us r)

  -- "those of the equations f) works on that are smaller than f)'s set, by size from 1 and then by first differing number"
  abbrev pub candidates : List ℕ → List ℕ → List (List ℕ)
  candidates all f = sized 1 (length f - 1) all

  -- below this size "every non-empty subset was tested and solvable"
  abbrev pub Clear : List ℕ → List (List ℕ) → ℕ → Type 0
  Clear all ts b = (c : List ℕ) → Picks c all → 0 < length c → length c < b → In c ts × Solvable K M c

  -- "the greatest size below which every non-empty subset was tested and solvable"
  pub record Below (all : List ℕ) (ts : List (List ℕ)) (b : ℕ) : Type 0 where
    pub clear : Clear all ts b
    pub greatest : (d : ℕ) → Clear all ts d → d ≤ b

-- ── the search ──

-- what comes of going through subsets: one of them is unsolvable; no more may be tested; all are solvable, and so many more may be tested
pub data Outcome : Type 0 where
  found : List ℕ → Outcome
  out : Outcome
  through : ℕ → Outcome

-- by the test of one
abbrev pub tested : Bool → List ℕ → Outcome → Outcome
tested true c o = o
tested false c o = found c

module _ (ok : List ℕ → Bool) where
  -- with so many that may be tested, through these
  unfoldable pub tries : ℕ → List (List ℕ) → Outcome
  tries b [] = through b
  tries zero (c ∷ cs) = out
  tries (suc b) (c ∷ cs) = let r = tries b cs in tested (ok c) c r

  -- after a size: found, or out, or on to the next size
  abbrev pub onward_to : (ℕ → List ℕ × ℕ) → ℕ → List ℕ → Outcome → List ℕ × ℕ
  onward_to g s f (found c) = (c, s)
  onward_to g s f out = (f, s)
  onward_to g s f (through b) = g b

  -- n sizes from s on: the answer, and `below=`
  unfoldable pub search : ℕ → ℕ → ℕ → List ℕ → List ℕ → List ℕ × ℕ
  search s zero b all f = (f, s)
  search s (suc n) b all f = onward_to (λ c. search (suc s) n c all f) s f (tries b (subsets s all))

  -- ── proofs ──

  module _ {W : Type 0} (K : W → Type 0) (M : W → ℕ → Type 0) (R : ℕ → Type 0) (good : (l : List ℕ) → All R l → ok l ≡ true → Solvable K M l) (bad : (l : List ℕ) → All R l → ok l ≡ false → Unsolvable K M l) where
    -- what an outcome says of the subsets gone through
    abbrev pub Told : ℕ → List (List ℕ) → Outcome → Type 0
    Told b cs (found c) = (pre post : List (List ℕ)) × (cs ≡ pre ++ c ∷ post) × All (Solvable K M) pre × Unsolvable K M c × (length pre < b)
    Told b cs out = (pre post : List (List ℕ)) × (c : List ℕ) × (cs ≡ pre ++ c ∷ post) × All (Solvable K M) pre × (length pre ≡ b)
    Told b cs (through d) = All (Solvable K M) cs × (b ≡ length cs + d)

    told_on : (b : ℕ) (c : List ℕ) (cs : List (List ℕ)) (o : Outcome) → Solvable K M c → Told b cs o → Told (suc b) (c ∷ cs) o
    told_on b c cs (found d) s t = (c ∷ t.0, t.1, ap (λ l. c ∷ l) t.2, (s, t.3), t.4, omega (arith, t.5))
    told_on b c cs out s t = (c ∷ t.0, t.1, t.2, ap (λ l. c ∷ l) t.3, (s, t.4), ap suc t.5)
    told_on b c cs (through d) s t = ((s, t.0), omega (arith, t.1))

    -- what going through them says
    pub tries_told : (b : ℕ) (cs : List (List ℕ)) → All (All R) cs → Told b cs (tries b cs)
    unfolding tries
    tries_told b [] h = (tt, omega arith)
    tries_told zero (c ∷ cs) h = ([], cs, c, refl, tt, refl)
    tries_told (suc b) (c ∷ cs) h = by (ok c) refl (tries_told b cs h.1)
      where
        by : (x : Bool) → ok c ≡ x → Told b cs (tries b cs) → Told (suc b) (c ∷ cs) (tested x c (tries b cs))
        by true e t = told_on b c cs (tries b cs) (good c h.0 e) t
        by false e t = ([], cs, refl, tt, bad c h.0 e, omega arith)

    -- what the search says, of the sizes that remain, after those tested already
    module _ (all f : List ℕ) (ranged : All R all) (distinct : Distinct all) (fpicks : Picks f all) (fnone : Unsolvable K M f) where
      -- what it says of n sizes from s on, after those that were tested
      abbrev pub Says : ℕ → ℕ → ℕ → List (List ℕ) → List ℕ × ℕ → Type 0
      Says s n b past r = (ts : List (List ℕ)) × Goes K M b (sized s n all) f ts r.0 × Clear K M all (past ++ ts) r.1 × ((d : ℕ) → Clear K M all (past ++ ts) d → d ≤ r.1)

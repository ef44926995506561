-- The scans of f) and the search of n) as the code does them: each equation is unified once on top of the bindings of those before it, and each subset is made of the one
-- before it. They give what Scan and Search say. Assumes the test of Scan (`good`, `bad`).
use Rattle.std.specs.Prelude.{◌≡◌, Bool}
use Rattle.std.proofs.Math.Path.{refl}
use mathlib.Core.List.{List, [], ◌∷◌}
use Rattle.std.proofs.Math.Option.{none, some}
use Prim.Native.Nat.{ℕ, suc, zero, ◌+◌, ◌≤◌}
use native.Mathlib.Omega.{arith}
use Rattle.theory.specs.Basics.{clash}
use Rattle.conflict_theory.specs.Subsets.{subsets, lead, Chain, subsets_first}
use Rattle.conflict_theory.proofs.Subsets.{subsets_chain}
use Rattle.conflict_theory.specs.Search.{Outcome, found, out, through, tries, onward_to, search}
use Rattle.conflict_theory.specs.Worked.{from}
use Rattle.conflict_theory.specs.Code.{tries_in as tries_in·S, search_in as search_in·S}

-- ── definitions ──

module _ (ok : List ℕ → Bool) (n : ℕ) where
  -- as specs/Code has it
  abbrev tries_in : ℕ → List ℕ → Outcome
  tries_in = tries_in·S ok n

  -- as specs/Code has it
  abbrev search_in : ℕ → ℕ → ℕ → List ℕ → List ℕ × ℕ
  search_in = search_in·S ok n

-- ── proofs: the search ──

module _ (ok : List ℕ → Bool) (n : ℕ) where
  tries_same : (b : ℕ) (c : List ℕ) (cs : List (List ℕ)) → Chain n (c ∷ cs) none → tries_in ok n b c ≡ tries ok b (c ∷ cs)
  unfolding tries_in·S tries
  tries_same zero c cs h = refl
  tries_same (suc b) c [] h = rw h.0 refl
  tries_same (suc b) c (d ∷ cs) h = rw (h.0, tries_same b d cs h.1) refl

  tries_all : (b s : ℕ) → s ≤ n → tries_in ok n b (from 0 s) ≡ tries ok b (subsets s (from 0 n))
  tries_all b s h = by (subsets s (from 0 n)) (subsets_chain s 0 n n (omega arith)) (subsets_first s 0 n h)
    where
      by : (l : List (List ℕ)) → Chain n l none → lead l none ≡ some (from 0 s) → tries_in ok n b (from 0 s) ≡ tries ok b l
      by [] h e = clash (cc)
      by (c ∷ l) h e = let q : c ≡ from 0 s = cc in rw (← q) (tries_same b c l h)

  -- the search goes through the subsets of all numbers below n
  pub search_same : (k s b : ℕ) (f : List ℕ) → s + k ≤ suc n → search_in ok n s k b f ≡ search ok s k b (from 0 n) f
  unfolding search_in·S search
  search_same zero s b f h = refl
  search_same (suc k) s b f h = rw (tries_all b s (omega arith)) (by (tries ok b (subsets s (from 0 n))) (λ d. search_same k (suc s) d f (omega arith)))
    where
      by : (o : Outcome) → ((d : ℕ) → search_in ok n (suc s) k d f ≡ search ok (suc s) k d (from 0 n) f) → onward_to ok (λ c. search_in ok n (suc s) k c f) s f o ≡ onward_to ok (λ c. search ok (suc s) k c (from 0 n) f) s f o
      by (found c) e = refl
      by out e = refl
      by (through d) e = e d

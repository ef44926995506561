-- Request n)'s answer and `below=`, and what the request promises of both. Assumes the test of Search, distinct numbers, and that f)'s set is one of theirs and has no
-- common solution.
use Rattle.std.specs.Prelude.{◌≡◌, refl, ◌⊎◌, List, [], ◌∷◌, Bool, true, false}
use Rattle.std.proofs.Common.{ap, inl, inr}
use Prim.Native.Nat.{ℕ, suc, zero, ◌+◌, ◌-◌, ◌≤◌, ◌<◌}
use native.Mathlib.Omega.{arith}
use Rattle.std.proofs.Math.ListN.{length, length-append}
use Rattle.theory.specs.Basics.{All}
use Rattle.conflict_theory.specs.Sets.{In, in_right, in_either}
use Rattle.conflict_theory.specs.Deletion.{Solvable, Unsolvable}
use Rattle.conflict_theory.specs.Subsets.{Picks, subsets, sized, Distinct, subset_is}
use Rattle.conflict_theory.proofs.Subsets.{subsets_all}
use Rattle.conflict_theory.specs.Search.{Goes, Clear, Outcome, found, out, through, tries, onward_to, search, Told, tries_told}
use Rattle.conflict_theory.proofs.Search.{search_says}
use Rattle.conflict_theory.specs.Shortest.{goes_none as goes_none·S, clear_bound as clear_bound·S, Shortest as Shortest·S}

sized_picks : (n s : ℕ) (all c : List ℕ) → 0 < s → In c (sized s n all) → Picks c all × (0 < length c)
unfolding sized
sized_picks zero s all c z h = absurd h
sized_picks (suc n) s all c z h = by (in_either (subsets s all) (sized (suc s) n all) c h) (sized_picks n (suc s) all c (omega arith))
  where
    by : In c (subsets s all) ⊎ In c (sized (suc s) n all) → (In c (sized (suc s) n all) → Picks c all × (0 < length c)) → Picks c all × (0 < length c)
    by (inl i) f = let q = subset_is s all c i in (q.0, omega (arith, q.1))
    by (inr i) f = f i

module _ {W : Type 0} (K : W → Type 0) (M : W → ℕ → Type 0) where
  -- as specs/Shortest has it
  abbrev goes_none : (b : ℕ) (cs : List (List ℕ)) (f : List ℕ) (ts : List (List ℕ)) (r : List ℕ) → Unsolvable K M f → Goes K M b cs f ts r → Unsolvable K M r × ((r ≡ f) ⊎ In r cs)
  goes_none = goes_none·S K M

  -- as specs/Shortest has it
  abbrev clear_bound : (all : List ℕ) (ts : List (List ℕ)) (b : ℕ) → Clear K M all ts b → (d : List ℕ) → Picks d all → 0 < length d → Unsolvable K M d → b ≤ length d
  clear_bound = clear_bound·S K M

  -- as specs/Shortest has it
  abbrev Shortest : (budget : ℕ) (all f r : List ℕ) (b : ℕ) → Type 0
  Shortest = Shortest·S K M

module _ (ok : List ℕ → Bool) {W : Type 0} (K : W → Type 0) (M : W → ℕ → Type 0) (R : ℕ → Type 0) (good : (l : List ℕ) → All R l → ok l ≡ true → Solvable K M l) (bad : (l : List ℕ) → All R l → ok l ≡ false → Unsolvable K M l) where
  module _ (all f : List ℕ) (ranged : All R all) where
    enough : (n s b : ℕ) → s + n ≡ length f → length (sized s n all) ≤ b → length (search ok s n b all f).0 ≡ (search ok s n b all f).1
    unfolding search sized
    enough zero s b e h = omega arith
    enough (suc n) s b e h = by (tries ok b (subsets s all)) (tries_told ok K M R good bad b (subsets s all) (subsets_all R s all ranged)) (λ d k. enough n (suc s) d (omega arith) k)
      where
        total : length (subsets s all) + length (sized (suc s) n all) ≤ b
        total = omega (arith, h, length-append (subsets s all) (sized (suc s) n all))

        by : (o : Outcome) → Told ok K M R good bad b (subsets s all) o → ((d : ℕ) → length (sized (suc s) n all) ≤ d → length (search ok (suc s) n d all f).0 ≡ (search ok (suc s) n d all f).1)
            → length (onward_to ok (λ c. search ok (suc s) n c all f) s f o).0 ≡ (onward_to ok (λ c. search ok (suc s) n c all f) s f o).1
        by (found c) t r = (subset_is s all c (rw t.2 (in_right t.0 (c ∷ t.1) c (inl refl)))).1
        by out t r = absurd (omega (arith, total, t.5, ap length t.3, length-append t.0 (t.2 ∷ t.1)))
        by (through d) t r = r d (omega (arith, total, t.1))

  -- the search does what n) says
  pub search_shortest : (budget : ℕ) (all f : List ℕ) → All R all → Distinct all → Picks f all → 0 < length f → Unsolvable K M f → let a = search ok 1 (length f - 1) budget all f in Shortest K M budget all f a.0 a.1
  search_shortest budget all f ranged distinct picks z u =
      let a = search ok 1 (length f - 1) budget all f in
      let s = search_says ok K M R good bad all f ranged distinct picks u (length f - 1) 1 budget [] (omega arith) (omega arith) tt (λ c p i l. absurd (omega arith)) in
      let n = goes_none K M budget (sized 1 (length f - 1) all) f s.0 a.0 u s.1 in
      let w = member a.0 n.1 in
      record {
        tested = s.0;
        goes = s.1;
        below = record { clear = s.2; greatest = s.3 };
        picked = w.0;
        none = n.0;
        least = clear_bound K M all s.0 a.1 s.2 a.0 w.0 w.1 n.0;
        best = λ d p i v. let g = clear_bound K M all s.0 a.1 s.2 d p i v in (g, omega arith);
        equal = λ h. enough all f ranged (length f - 1) 1 budget (omega arith) h;
      }
    where
      member : (r : List ℕ) → (r ≡ f) ⊎ In r (sized 1 (length f - 1) all) → Picks r all × (0 < length r)
      member r (inl e) = rw e (picks, z)
      member r (inr i) = sized_picks (length f - 1) 1 all r (omega arith) i

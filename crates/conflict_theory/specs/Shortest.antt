-- Request n)'s answer and `below=`, and what the request promises of both. Assumes the test of Search, distinct numbers, and that f)'s set is one of theirs and has no
-- common solution.
use Rattle.std.specs.Prelude.{◌≡◌, refl, ◌⊎◌, List, [], ◌∷◌, ◌++◌}
use Rattle.std.proofs.Common.{sym, ◌∙◌, inl, inr, append_assoc, append-nil}
use Prim.Native.Nat.{ℕ, suc, zero, ◌-◌, ◌≤◌, ◌<◌}
use native.Mathlib.Omega.{arith}
use Rattle.std.proofs.Math.Decide.{dec_lt}
use Rattle.std.proofs.Math.ListN.{length}
use Rattle.theory.specs.Rules.{Shape, Kind, Pair}
use Rattle.conflict_theory.specs.Sets.{In}
use Rattle.conflict_theory.specs.Deletion.{Unsolvable, Left}
use Rattle.conflict_theory.specs.Subsets.{Picks, picks_later}
use Rattle.conflict_theory.specs.Search.{Goes, candidates, Clear, Below, search}
use Rattle.conflict_theory.specs.Test.{ok}
use Rattle.conflict_theory.specs.Worked.{sides_at, numbers, conflict_of}

-- n)'s answer and `below=`, of equations with these sides, with a number of subsets that may be tested: `shortest_is` of Claims says them by ways
unfoldable pub shortest_of : List Shape → List Kind → List Pair → ℕ → List ℕ × ℕ
shortest_of rows kinds eqs b = let f = conflict_of rows kinds eqs in search (ok rows kinds (sides_at eqs)) 1 (length f - 1) b (numbers eqs) f

-- f)'s set is a subset of the equations, its numbers rising as theirs do
pub left_picks : {W : Type 0} (K : W → Type 0) (M : W → ℕ → Type 0) (kept rest r : List ℕ) → Left K M kept rest r → (t : List ℕ) × (r ≡ kept ++ t) × Picks t rest
left_picks K M kept [] r e = ([], e ∙ sym (append-nil kept), tt)
left_picks K M kept (i ∷ rest) r (inl h) = let t = left_picks K M kept rest r h.1 in (t.0, t.1, picks_later t.0 i rest t.2)
left_picks K M kept (i ∷ rest) r (inr h) = let t = left_picks K M (kept ++ i ∷ []) rest r h.1 in (i ∷ t.0, t.1 ∙ append_assoc kept (i ∷ []) t.0, inl (refl, t.2))

module _ {W : Type 0} (K : W → Type 0) (M : W → ℕ → Type 0) where
  -- the answer is unsolvable, and f)'s set or one of those gone through
  pub goes_none : (b : ℕ) (cs : List (List ℕ)) (f : List ℕ) (ts : List (List ℕ)) (r : List ℕ) → Unsolvable K M f → Goes K M b cs f ts r → Unsolvable K M r × ((r ≡ f) ⊎ In r cs)
  goes_none b [] f ts r u g = (rw g.1 u, inl g.1)
  goes_none zero (c ∷ cs) f ts r u g = (rw g.1 u, inl g.1)
  goes_none (suc b) (c ∷ cs) f ts r u (inl g) = (rw g.2 g.0, inr (inl g.2))
  goes_none (suc b) (c ∷ cs) f ts r u (inr g) = let h = goes_none b cs f g.1 r u g.3 in (h.0, by h.1)
    where
      by : (r ≡ f) ⊎ In r cs → (r ≡ f) ⊎ In r (c ∷ cs)
      by (inl e) = inl e
      by (inr i) = inr (inr i)

  -- what is smaller than the greatest clear size has a common solution
  pub clear_bound : (all : List ℕ) (ts : List (List ℕ)) (b : ℕ) → Clear K M all ts b → (d : List ℕ) → Picks d all → 0 < length d → Unsolvable K M d → b ≤ length d
  clear_bound all ts b h d p z u = by (dec_lt (length d) b)
    where
      by : Dec (length d < b) → b ≤ length d
      by (yes l) = absurd (u (h d p z l).1)
      by (no l) = omega arith

  -- the answer and `below=` of a search with a number of subsets that may be tested
  pub record Shortest (budget : ℕ) (all f r : List ℕ) (b : ℕ) : Type 0 where
    -- those tested
    pub tested : List (List ℕ)
    -- the answer is the first unsolvable one of them, else f)'s set
    pub goes : Goes K M budget (candidates K M all f) f tested r
    -- and `below=` is the greatest size below which every non-empty subset was tested and solvable
    pub below : Below K M all tested b
    -- the answer is a subset of theirs
    pub picked : Picks r all
    -- it has no common solution
    pub none : Unsolvable K M r
    -- it is at least as long as `below=`
    pub least : b ≤ length r
    -- "so the answer is longer than the best by at most the difference"
    pub best : (d : List ℕ) → Picks d all → 0 < length d → Unsolvable K M d → (b ≤ length d) × (length r - length d ≤ length r - b)
    -- "With a number not under the count of those subsets the two are equal"
    pub equal : length (candidates K M all f) ≤ budget → length r ≡ b

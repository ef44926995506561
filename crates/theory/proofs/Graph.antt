-- Rows as a graph: from a row to its parts, and from a variable's row to its binding. Where it has no cycle (`Good`), the search for a
-- variable ends, and binding a variable that the search did not find makes no cycle. Assumes nothing of the rows but `Good`.
use Rattle.std.specs.Prelude.{◌≡◌, ◌≢◌, List, Bool, set}
use Rattle.std.proofs.Math.Path.{refl}
use Rattle.std.proofs.Common.{ap, get_or-set_same, get_or-set_other}
use Rattle.std.proofs.Math.Option.{Option, none, some}
use Rattle.std.proofs.Math.Bool.{true, false}
use Prim.Native.Nat.{ℕ, ◌≤◌, ◌<◌}
use native.Mathlib.Omega.{arith}
use Rattle.std.proofs.Math.Decide.{ℕ_discrete}
use Rattle.std.proofs.Math.ListN.{length, length-set}
use Rattle.theory.specs.Rules.{Shape, Kind, as_var, bound, row, kind, fits, opt_list, succs, next}
use Rattle.theory.specs.Basics.{All, all_map, all_map2, clash, bound_after}
use Rattle.theory.specs.Graph.{below as below·S, below_le as below_le·S, below_lt as below_lt·S, Good as Good·S, hit as hit·S, hit_back as hit_back·S, hit_self as hit_self·S, found as found·S, lifted as lifted·S, rank' as rank'·S}

-- ── ranks ──

-- from any rank of k rows, one that is at most k: how many rows rank below
module _ (H : ℕ → ℕ) where
  -- as specs/Graph has it
  abbrev below : ℕ → ℕ → ℕ
  below = below·S H

  -- as specs/Graph has it
  abbrev below_le : (k a : ℕ) → below k a ≤ k
  below_le = below_le·S H

  -- as specs/Graph has it
  abbrev below_lt : (k d b : ℕ) → d < k → H d < b → below k (H d) < below k b
  below_lt = below_lt·S H

-- ── sound bindings ──

module _ (rows : List Shape) (kinds : List Kind) where
  -- as specs/Graph has it
  abbrev Good : (b : List (Option ℕ)) → Type 0
  Good = Good·S rows kinds

  -- ── the search for a variable ──

  module _ (b : List (Option ℕ)) (good : Good b) (v : ℕ) where
    -- as specs/Graph has it
    abbrev hit : ℕ → Bool
    hit = hit·S rows kinds b good v

    -- as specs/Graph has it
    abbrev hit_back : (x : ℕ) → hit x ≡ false → All (λ (y : ℕ). hit y ≡ false) (next rows b x)
    hit_back = hit_back·S rows kinds b good v

    -- as specs/Graph has it
    abbrev hit_self : (x : ℕ) → as_var (row rows x) ≡ some v → hit x ≡ true
    hit_self = hit_self·S rows kinds b good v

  -- ── binding a variable that was not found ──

  module _ (b : List (Option ℕ)) (good : Good b) (v z : ℕ) (hv : v < length b) (clear : hit b good v z ≡ false) where
    -- as specs/Graph has it
    abbrev found : ℕ → Bool
    found = found·S rows kinds b good v z hv clear

    -- as specs/Graph has it
    abbrev lifted : Bool → ℕ → ℕ
    lifted = lifted·S rows kinds b good v z hv clear

    -- as specs/Graph has it
    abbrev rank' : ℕ → ℕ
    rank' = rank'·S rows kinds b good v z hv clear

    lift_lt : (c d : Bool) (k l : ℕ) → l < k → (c ≡ false → d ≡ false) → lifted d l < lifted c k
    lift_lt true true k l h f = omega arith
    lift_lt true false k l h f = omega arith
    lift_lt false true k l h f = let q : true ≡ false = f refl in clash (cc)
    lift_lt false false k l h f = omega arith

    succs_set : (P : ℕ → Type 0) (s : Shape) (o : Option ℕ) → (o ≡ some v → P z) → (o ≢ some v → All P (succs b s o)) → All P (succs (set b v (some z)) s o)
    succs_set P s none f g = g (λ e. clash (cc))
    succs_set P s (some u) f g = by (ℕ_discrete u v)
      where
        by : Dec (u ≡ v) → All P (opt_list (bound (set b v (some z)) u))
        by (yes e) = rw (e, get_or-set_same b v (some z) none hv) (f (ap some e), tt)
        by (no n) = rw (get_or-set_other b v u (some z) none n) (g (λ e. n (cc)))

    falls' : (x : ℕ) → All (λ (y : ℕ). rank' y < rank' x) (next rows (set b v (some z)) x)
    falls' x = succs_set (λ (y : ℕ). rank' y < rank' x) (row rows x) (as_var (row rows x)) new old
      where
        new : as_var (row rows x) ≡ some v → rank' z < rank' x
        new e = rw (clear, hit_self b good v x e) (omega (arith, good.top z))

        old : as_var (row rows x) ≢ some v → All (λ (y : ℕ). rank' y < rank' x) (next rows b x)
        old n = by (found x) refl
          where
            by : (c : Bool) → found x ≡ c → All (λ (y : ℕ). rank' y < rank' x) (next rows b x)
            by true e = all_map (λ (y : ℕ). good.rank y < good.rank x) (λ (y : ℕ). rank' y < rank' x) (next rows b x) (λ y k. lift_lt (found x) (found y) (good.rank x) (good.rank y) k (λ q. cc)) (good.falls x)
            by false e = all_map2 (λ (y : ℕ). good.rank y < good.rank x) (λ (y : ℕ). found y ≡ false) (λ (y : ℕ). rank' y < rank' x) (next rows b x) (λ y k q. lift_lt (found x) (found y) (good.rank x) (good.rank y) k (λ r. q)) (good.falls x) (hit_back b good v x e)

    within' : (x : ℕ) → z < length rows → All (λ (y : ℕ). y < length rows) (next rows (set b v (some z)) x)
    within' x hz = succs_set (λ (y : ℕ). y < length rows) (row rows x) (as_var (row rows x)) (λ e. hz) (λ n. good.within x)

    -- the bindings with v bound to z are sound
    pub bind_good : z < length rows → fits kinds (kind kinds v) (row rows z) ≡ true → Good (set b v (some z))
    unfolding below·S
    bind_good hz hk =
        record {
          rank = λ x. below rank' (length rows) (rank' x);
          falls = λ x. all_map2 (λ (y : ℕ). rank' y < rank' x) (λ (y : ℕ). y < length rows) (λ (y : ℕ). below rank' (length rows) (rank' y) < below rank' (length rows) (rank' x)) (next rows (set b v (some z)) x) (λ y k l. below_lt rank' (length rows) y (rank' x) l k) (falls' x) (within' x hz);
          top = λ x. below_le rank' (length rows) (rank' x);
          within = λ x. within' x hz;
          meant = λ x u e. simp length-set (good.meant x u e);
          held = bound_after (λ (u r : ℕ). r < length rows) b v z hv hz (λ u r n e. good.held u r e);
          kept = bound_after (λ (u r : ℕ). fits kinds (kind kinds u) (row rows r) ≡ true) b v z hv hk (λ u r n e. good.kept u r e);
        }

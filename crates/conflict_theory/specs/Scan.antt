-- A fast way to f)'s set: one scan from the last equation back for each one that is kept, in place of one solution for each equation. Assumes a test that tells which
-- equations have a common solution (`good`, `bad`).
use Rattle.std.specs.Prelude.{◌≡◌, Bool}
use Rattle.std.proofs.Math.Path.{refl, subst}
use Rattle.std.proofs.Math.Logic.{inl, inr}
use mathlib.Core.List.{List, [], ◌∷◌, ◌++◌, append_assoc, append-nil}
use Rattle.std.proofs.Math.Option.{Option, none, some}
use Rattle.std.proofs.Math.Bool.{true, false}
use Prim.Native.Nat.{ℕ, suc, zero, ◌≤◌, ◌<◌}
use native.Mathlib.Omega.{arith}
use Rattle.std.proofs.Math.ListN.{length}
use Rattle.theory.specs.Basics.{All, clash}
use Rattle.conflict_theory.specs.Sets.{Part, all_part, all_first, part_behind, part_later, part_first, part_self}
use Rattle.conflict_theory.specs.Deletion.{Solvable, Unsolvable, Left, fewer, more}

-- ── definitions ──

-- a number, and those behind it
abbrev pub Cut : Type 0
Cut = ℕ × List ℕ

-- a number at which the test fails, and those behind it
abbrev pub here : Bool → ℕ → List ℕ → Option Cut
here true i rest = none
here false i rest = some (i, rest)

-- the one found first, if there is one, else the other
abbrev pub first : Option Cut → Option Cut → Option Cut
first (some c) o = some c
first none o = o

-- one more is kept, and the scan goes on behind it; if those kept have no common solution, it is done
abbrev pub keep : (List ℕ → List ℕ → List ℕ) → List ℕ → Bool → Option Cut → List ℕ
keep f kept false o = kept
keep f kept true none = kept
keep f kept true (some c) = f (kept ++ c.0 ∷ []) c.1

module _ (ok : List ℕ → Bool) where
  -- starting from those kept and adding the rest, the last one first: the one at which no solution remains, and those behind it
  unfoldable pub back : List ℕ → List ℕ → Option Cut
  back kept [] = none
  back kept (i ∷ rest) = first (back kept rest) (here (ok (kept ++ i ∷ rest)) i rest)

  -- scan by scan, at most n of them
  unfoldable pub scan : ℕ → List ℕ → List ℕ → List ℕ
  scan zero kept rest = kept
  scan (suc n) kept rest = keep (scan n) kept (ok kept) (back kept rest)

  -- ── proofs ──

  module _ {W : Type 0} (K : W → Type 0) (M : W → ℕ → Type 0) (R : ℕ → Type 0) (good : (l : List ℕ) → All R l → ok l ≡ true → Solvable K M l) (bad : (l : List ℕ) → All R l → ok l ≡ false → Unsolvable K M l) where
    -- the order of the equations does not matter to the test, nor how often one stands there
    pub same_answer : (a b : List ℕ) → All R a → All R b → Part a b → Part b a → ok a ≡ ok b
    same_answer a b ra rb p q = by (ok a) (ok b) refl refl
      where
        by : (x y : Bool) → ok a ≡ x → ok b ≡ y → x ≡ y
        by true true e d = refl
        by false false e d = refl
        by true false e d = absurd (bad b rb d (fewer K M b a q (good a ra e)))
        by false true e d = absurd (bad a ra e (fewer K M a b p (good b rb d)))

    all_dropped : (kept rest : List ℕ) → Unsolvable K M kept → Left K M kept rest kept
    all_dropped kept [] u = refl
    all_dropped kept (i ∷ rest) u = inl (more K M kept (kept ++ rest) (part_first kept rest) u, all_dropped kept rest u)

    -- one number less
    less : (kept rest : List ℕ) (i : ℕ) → All R (kept ++ i ∷ rest) → All R (kept ++ rest)
    less kept rest i h = all_part R (kept ++ rest) (kept ++ i ∷ rest) (part_behind kept rest (i ∷ rest) (part_later rest rest i (part_self rest))) h

    -- nothing found: all have a common solution
    pub back_none : (kept rest : List ℕ) → All R (kept ++ rest) → ok kept ≡ true → back kept rest ≡ none → Solvable K M (kept ++ rest)
    unfolding back
    back_none kept [] f o e = rw (append-nil kept) (good kept (rw (append-nil kept) at f) o)
    back_none kept (i ∷ rest) f o e = by (back kept rest) (ok (kept ++ i ∷ rest)) refl e
      where
        by : (c : Option Cut) (b : Bool) → ok (kept ++ i ∷ rest) ≡ b → first c (here b i rest) ≡ none → Solvable K M (kept ++ i ∷ rest)
        by (some c) b q d = clash (cc)
        by none true q d = good (kept ++ i ∷ rest) f q
        by none false q d = clash (cc)

    -- what a scan finds
    abbrev pub Finds : List ℕ → List ℕ → Cut → Type 0
    Finds kept rest c = Unsolvable K M (kept ++ c.0 ∷ c.1) × Unsolvable K M (kept ++ rest) × (length c.1 < length rest) × Part (c.0 ∷ c.1) rest × ((r : List ℕ) → Left K M (kept ++ c.0 ∷ []) c.1 r → Left K M kept rest r)

    -- it is found
    pub back_some : (kept rest : List ℕ) (c : Cut) → All R (kept ++ rest) → ok kept ≡ true → back kept rest ≡ some c → Finds kept rest c
    unfolding back
    back_some kept [] c f o e = clash (cc)
    back_some kept (i ∷ rest) c f o e = by (back kept rest) refl (ok (kept ++ i ∷ rest)) refl (λ d p. back_some kept rest d (less kept rest i f) o p) e
      where
        by : (x : Option Cut) → back kept rest ≡ x → (b : Bool) → ok (kept ++ i ∷ rest) ≡ b → ((d : Cut) → back kept rest ≡ some d → Finds kept rest d) → first x (here b i rest) ≡ some c → Finds kept (i ∷ rest) c
        by (some d) p b q g e' =
            let j : d ≡ c = cc in
            let h = subst (Finds kept rest) j (g d p) in
            (h.0, more K M (kept ++ rest) (kept ++ i ∷ rest) (part_behind kept rest (i ∷ rest) (part_later rest rest i (part_self rest))) h.1, omega (arith, h.2), part_later (c.0 ∷ c.1) rest i h.3, λ r l. inl (h.1, h.4 r l))
        by none p true q g e' = clash (cc)
        by none p false q g e' =
            let j : (i, rest) ≡ c = cc in
            let u = bad (kept ++ i ∷ rest) f q in
            subst (Finds kept (i ∷ rest)) j (u, u, omega arith, part_self (i ∷ rest), λ r l. inr (back_none kept rest (less kept rest i f) o p, l))

    -- the scans leave what f)'s rule leaves
    pub scan_left : (n : ℕ) (kept rest : List ℕ) → length rest ≤ n → All R (kept ++ rest) → Unsolvable K M (kept ++ rest) → Left K M kept rest (scan n kept rest)
    unfolding scan
    scan_left zero kept [] h f u = refl
    scan_left zero kept (i ∷ rest) h f u = absurd (omega arith)
    scan_left (suc n) kept rest h f u = by (ok kept) refl (back kept rest) refl (λ k l g a v. scan_left n k l g a v)
      where
        by : (b : Bool) → ok kept ≡ b → (o : Option Cut) → back kept rest ≡ o → ((k l : List ℕ) → length l ≤ n → All R (k ++ l) → Unsolvable K M (k ++ l) → Left K M k l (scan n k l)) → Left K M kept rest (keep (scan n) kept b o)
        by false e o d g = all_dropped kept rest (bad kept (all_first R kept rest f) e)
        by true e none d g = absurd (u (back_none kept rest f e d))
        by true e (some c) d g =
            let s = back_some kept rest c f e d in
            let a = append_assoc kept (c.0 ∷ []) c.1 in
            s.4 (scan n (kept ++ c.0 ∷ []) c.1) (g (kept ++ c.0 ∷ []) c.1 (omega (arith, s.2)) (rw a (all_part R (kept ++ c.0 ∷ c.1) (kept ++ rest) (part_behind kept (c.0 ∷ c.1) rest s.3) f)) (rw a s.0))

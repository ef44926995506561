-- Minimal conflicts among numbered equations: solutions, request f)'s rule of what is left of the equations, and what f) promises of the set that is left. Assumes
-- nothing: a way `w` is of the kinds if `K w`, and meets the equation of the number i if `M w i`, whatever these are.
use Rattle.std.specs.Prelude.{◌≡◌, ◌⊎◌, Bool, true, false, ℕ}
use Rattle.std.proofs.Math.Path.{refl}
use Rattle.std.proofs.Common.{sym, ◌∙◌, inl, inr}
use mathlib.Core.List.{List, [], ◌∷◌, ◌++◌, append_assoc, append-nil}
use Rattle.theory.specs.Basics.{All, clash}
use Rattle.conflict_theory.specs.Sets.{Part, all_part, part_behind, part_later, part_self}

module _ {W : Type 0} (K : W → Type 0) (M : W → ℕ → Type 0) where
  -- ── definitions ──

  -- the equations of these numbers have a common solution
  abbrev pub Solvable : List ℕ → Type 0
  Solvable l = (w : W) × K w × All (M w) l

  -- they have none
  abbrev pub Unsolvable : List ℕ → Type 0
  Unsolvable l = Solvable l → ⊥

  -- f): "drops from number 0 up each one whose removal leaves the rest unsolvable": of those kept so far and those not yet looked at, r is left
  abbrev pub Left : List ℕ → List ℕ → List ℕ → Type 0
  Left kept [] r = r ≡ kept
  Left kept (i ∷ rest) r = (Unsolvable (kept ++ rest) × Left kept rest r) ⊎ (Solvable (kept ++ rest) × Left (kept ++ i ∷ []) rest r)

  -- a minimal conflict: "the equations .. that already have no common solution", and "Removing any single one of them must leave the others solvable"
  pub record Minimal (r : List ℕ) : Type 0 where
    pub none : Unsolvable r
    pub needed : (xs ys : List ℕ) (i : ℕ) → r ≡ xs ++ i ∷ ys → Solvable (xs ++ ys)

  -- ── proofs ──

  -- a part of what has a common solution has one
  pub fewer : (a b : List ℕ) → Part a b → Solvable b → Solvable a
  fewer a b h s = (s.0, s.1, all_part (M s.0) a b h s.2)

  -- what has no common solution is a part of nothing that has one
  pub more : (a b : List ℕ) → Part a b → Unsolvable a → Unsolvable b
  more a b h u s = u (fewer a b h s)

  -- what is left has no common solution
  pub left_none : (kept rest r : List ℕ) → Unsolvable (kept ++ rest) → Left kept rest r → Unsolvable r
  left_none kept [] r u e = rw (e, ← append-nil kept) u
  left_none kept (i ∷ rest) r u (inl h) = left_none kept rest r h.0 h.1
  left_none kept (i ∷ rest) r u (inr h) = left_none (kept ++ i ∷ []) rest r (rw (append_assoc kept (i ∷ []) rest) u) h.1

  -- without each one of the second list, those of the first and the others of the second have a common solution
  abbrev Lone : List ℕ → List ℕ → Type 0
  Lone pre [] = Unit {0}
  Lone pre (i ∷ l) = Solvable (pre ++ l) × Lone (pre ++ i ∷ []) l

  -- what is left is what was kept, and a part of the rest in which each one is needed
  abbrev Tail : List ℕ → List ℕ → List ℕ → Type 0
  Tail kept rest r = (t : List ℕ) × (r ≡ kept ++ t) × Part t rest × Lone kept t

  left_tail : (kept rest r : List ℕ) → Left kept rest r → Tail kept rest r
  left_tail kept [] r e = ([], e ∙ sym (append-nil kept), tt, tt)
  left_tail kept (i ∷ rest) r (inl h) = let t = left_tail kept rest r h.1 in (t.0, t.1, part_later t.0 rest i t.2, t.3)
  left_tail kept (i ∷ rest) r (inr h) = let t = left_tail (kept ++ i ∷ []) rest r h.1 in (i ∷ t.0, t.1 ∙ append_assoc kept (i ∷ []) t.0, (inl refl, part_later t.0 rest i t.2), (fewer (kept ++ t.0) (kept ++ rest) (part_behind kept t.0 rest t.2) h.0, t.3))

  lone_any : (pre l xs ys : List ℕ) (i : ℕ) → Lone pre l → l ≡ xs ++ i ∷ ys → Solvable (pre ++ (xs ++ ys))
  lone_any pre [] [] ys i h e = clash (cc)
  lone_any pre [] (x ∷ xs) ys i h e = clash (cc)
  lone_any pre (j ∷ l) [] ys i h e = let q : l ≡ ys = cc in rw (← q) h.0
  lone_any pre (j ∷ l) (x ∷ xs) ys i h e =
      let p : j ≡ x = cc in
      let q : l ≡ xs ++ i ∷ ys = cc in
      rw (append_assoc pre (x ∷ []) (xs ++ ys)) at (rw p at (lone_any (pre ++ j ∷ []) l xs ys i h.1 q))

  -- request f): what its rule leaves of equations without a common solution is a set without one, from which none can be removed
  pub left_minimal : (all r : List ℕ) → Unsolvable all → Left [] all r → Minimal r
  left_minimal all r u h =
      let t = left_tail [] all r h in
      record { none = left_none [] all r u h; needed = λ xs ys i e. lone_any [] t.0 xs ys i t.3 (sym t.1 ∙ e) }

  -- it is a part of them
  pub left_part : (all r : List ℕ) → Left [] all r → Part r all
  left_part all r h = let t = left_tail [] all r h in rw t.1 t.2

  -- and the rule leaves one set alone
  pub left_one : (kept rest r q : List ℕ) → Left kept rest r → Left kept rest q → r ≡ q
  left_one kept [] r q e d = e ∙ sym d
  left_one kept (i ∷ rest) r q (inl h) (inl k) = left_one kept rest r q h.1 k.1
  left_one kept (i ∷ rest) r q (inl h) (inr k) = absurd (h.0 k.0)
  left_one kept (i ∷ rest) r q (inr h) (inl k) = absurd (k.0 h.0)
  left_one kept (i ∷ rest) r q (inr h) (inr k) = left_one (kept ++ i ∷ []) rest r q h.1 k.1

-- ── the rule with a test ──

-- by the answer of the test: the one looked at is dropped, or kept
abbrev pub leave_by : (List ℕ → List ℕ → List ℕ) → Bool → List ℕ → ℕ → List ℕ → List ℕ
leave_by f false kept i rest = f kept rest
leave_by f true kept i rest = f (kept ++ i ∷ []) rest

module _ (ok : List ℕ → Bool) where
  -- f)'s rule to the letter, one test for each equation: of those kept so far and those not yet looked at, what is left
  unfoldable pub leave : List ℕ → List ℕ → List ℕ
  leave kept [] = kept
  leave kept (i ∷ rest) = leave_by (λ k l. leave k rest) (ok (kept ++ rest)) kept i rest

  -- with a test that tells which equations have a common solution, that is what the rule leaves
  pub leave_left : {W : Type 0} (K : W → Type 0) (M : W → ℕ → Type 0) (R : ℕ → Type 0) → ((l : List ℕ) → All R l → ok l ≡ true → Solvable K M l) → ((l : List ℕ) → All R l → ok l ≡ false → Unsolvable K M l)
      → (kept rest : List ℕ) → All R (kept ++ rest) → Left K M kept rest (leave kept rest)
  unfolding leave
  leave_left K M R good bad kept [] h = refl
  leave_left K M R good bad kept (i ∷ rest) h = by (ok (kept ++ rest)) refl (leave_left K M R good bad kept rest (less h)) (leave_left K M R good bad (kept ++ i ∷ []) rest (rw (append_assoc kept (i ∷ []) rest) h))
    where
      less : All R (kept ++ i ∷ rest) → All R (kept ++ rest)
      less = all_part R (kept ++ rest) (kept ++ i ∷ rest) (part_behind kept rest (i ∷ rest) (part_later rest rest i (part_self rest)))

      by : (c : Bool) → ok (kept ++ rest) ≡ c → Left K M kept rest (leave kept rest) → Left K M (kept ++ i ∷ []) rest (leave (kept ++ i ∷ []) rest) → Left K M kept (i ∷ rest) (leave_by (λ k l. leave k rest) c kept i rest)
      by true e d k = inr (good (kept ++ rest) (less h) e, k)
      by false e d k = inl (bad (kept ++ rest) (less h) e, d)

-- The test of a plain row, by its arrays, and of the sides of the equations that f) works on. Assumes rows made of lower rows (`Lower`).
use Rattle.std.specs.Prelude.{◌≡◌, ◌⊎◌, ◌↔◌, List, [], ◌∷◌, Bool, false, ◌&&◌, ◌||◌}
use Rattle.std.proofs.Math.Path.{refl}
use Rattle.std.proofs.Math.Logic.{inl, inr}
use Rattle.std.proofs.Math.Bool.{true}
use Prim.Native.Nat.{ℕ, suc, zero, ◌<◌}
use Rattle.std.proofs.Common.{arith}
use Rattle.theory.specs.Rules.{Shape, base, var, arr, ref, fn, fun, lam, err, div, Pair, row, iter}
use Rattle.theory.specs.Basics.{All, clash, and_both}
use Rattle.theory.specs.Ways.{Plain, plain_base, plain_var, plain_array}
use Rattle.theory.specs.Graph.{Lower}
use Rattle.conflict_theory.specs.Worked.{PlainPair}

-- ── definitions ──

-- a shape is plain, by what its element is
abbrev pub plain_shape : (ℕ → Bool) → Shape → Bool
plain_shape f (base b) = true
plain_shape f (var v) = true
plain_shape f (arr e) = f e
plain_shape f (ref e) = false
plain_shape f (fn d) = false
plain_shape f (fun s o i) = false
plain_shape f (lam n o i) = false
plain_shape f err = false
plain_shape f div = false

-- Diverges
abbrev pub is_diverges : Shape → Bool
is_diverges (base b) = false
is_diverges (var v) = false
is_diverges (arr e) = false
is_diverges (ref e) = false
is_diverges (fn d) = false
is_diverges (fun s o i) = false
is_diverges (lam n o i) = false
is_diverges err = false
is_diverges div = true

module _ (rows : List Shape) where
  -- in fewer than n steps from array to element
  unfoldable pub plain_in : ℕ → ℕ → Bool
  plain_in n x = iter (λ f y. plain_shape f (row rows y)) false n x

  -- the row x is plain: an array is made of a lower row
  unfoldable pub is_plain : ℕ → Bool
  is_plain x = plain_in (suc x) x

  -- both sides are plain, Diverges as got side excepted
  unfoldable pub are_plain : Pair → Bool
  are_plain p = is_plain p.0 && (is_diverges (row rows p.1) || is_plain p.1)

  -- all pairs of a list
  abbrev pub all_plain : List Pair → Bool
  all_plain [] = true
  all_plain (p ∷ l) = are_plain p && all_plain l

  -- ── proofs ──

  plain_yes : (n x : ℕ) → plain_in n x ≡ true → Plain rows x
  unfolding plain_in
  plain_yes zero x e = clash (cc)
  plain_yes (suc n) x e = by (row rows x) refl (λ y h. plain_yes n y h) e
    where
      by : (s : Shape) → row rows x ≡ s → ((y : ℕ) → plain_in n y ≡ true → Plain rows y) → plain_shape (plain_in n) s ≡ true → Plain rows x
      by (base b) p f h = plain_base b p
      by (var v) p f h = plain_var v p
      by (arr y) p f h = plain_array y p (f y h)
      by (ref y) p f h = clash (cc)
      by (fn d) p f h = clash (cc)
      by (fun s o i) p f h = clash (cc)
      by (lam k o i) p f h = clash (cc)
      by err p f h = clash (cc)
      by div p f h = clash (cc)

  plain_no : Lower rows → (n x : ℕ) → x < n → Plain rows x → plain_in n x ≡ true
  unfolding plain_in
  plain_no lower zero x l p = absurd (omega arith)
  plain_no lower (suc n) x l (plain_base b e) = rw e refl
  plain_no lower (suc n) x l (plain_var v e) = rw e refl
  plain_no lower (suc n) x l (plain_array y e p) = rw e (plain_no lower n y (let h = rw e at (lower x) in omega (arith, h.0)) p)

  -- the test tells which rows are plain
  pub plain_exactly : Lower rows → (x : ℕ) → (is_plain x ≡ true) ↔ Plain rows x
  unfolding is_plain
  plain_exactly lower x = (plain_yes (suc x) x, plain_no lower (suc x) x (omega arith))

  diverges_is : (s : Shape) → is_diverges s ≡ true → s ≡ div
  diverges_is (base b) e = cc
  diverges_is (var v) e = cc
  diverges_is (arr y) e = cc
  diverges_is (ref y) e = cc
  diverges_is (fn d) e = cc
  diverges_is (fun s o i) e = cc
  diverges_is (lam k o i) e = cc
  diverges_is err e = cc
  diverges_is div e = refl

  or-true : (a b : Bool) → (a || b) ≡ true → (a ≡ true) ⊎ (b ≡ true)
  or-true true b e = inl refl
  or-true false b e = inr e

  or_left : (a b : Bool) → a ≡ true → (a || b) ≡ true
  or_left true b e = refl
  or_left false b e = cc

  or_right : (a b : Bool) → b ≡ true → (a || b) ≡ true
  or_right true b e = refl
  or_right false b e = e

  and-true : (a b : Bool) → a ≡ true → b ≡ true → (a && b) ≡ true
  and-true true b e d = d
  and-true false b e d = cc

  -- sides that pass the test are plain, Diverges as got side excepted
  pub sides_plain : (p : Pair) → are_plain p ≡ true → PlainPair rows p
  unfolding are_plain is_plain
  sides_plain p e = let h = and_both (is_plain p.0) (is_diverges (row rows p.1) || is_plain p.1) e in (plain_yes (suc p.0) p.0 h.0, by (or-true (is_diverges (row rows p.1)) (is_plain p.1) h.1))
    where
      by : (is_diverges (row rows p.1) ≡ true) ⊎ (is_plain p.1 ≡ true) → Plain rows p.1 ⊎ (row rows p.1 ≡ div)
      by (inl e) = inr (diverges_is (row rows p.1) e)
      by (inr e) = inl (plain_yes (suc p.1) p.1 e)

  -- and which pairs have such sides
  pub sides_exactly : Lower rows → (p : Pair) → (are_plain p ≡ true) ↔ PlainPair rows p
  unfolding are_plain
  sides_exactly lower p = (sides_plain p, from)
    where
      back : Plain rows p.1 ⊎ (row rows p.1 ≡ div) → (is_diverges (row rows p.1) || is_plain p.1) ≡ true
      back (inl h) = or_right (is_diverges (row rows p.1)) (is_plain p.1) ((plain_exactly lower p.1).1 h)
      back (inr h) = or_left (is_diverges (row rows p.1)) (is_plain p.1) (rw h refl)

      from : PlainPair rows p → (is_plain p.0 && (is_diverges (row rows p.1) || is_plain p.1)) ≡ true
      from h = and-true (is_plain p.0) (is_diverges (row rows p.1) || is_plain p.1) ((plain_exactly lower p.0).1 h.0) (back h.1)

  -- and of which lists all have
  pub all_exactly : Lower rows → (l : List Pair) → (all_plain l ≡ true) ↔ All (PlainPair rows) l
  all_exactly lower [] = (λ e. tt, λ h. refl)
  all_exactly lower (p ∷ l) = (λ e. let h = and_both (are_plain p) (all_plain l) e in ((sides_exactly lower p).0 h.0, (all_exactly lower l).0 h.1), λ h. and-true (are_plain p) (all_plain l) ((sides_exactly lower p).1 h.0) ((all_exactly lower l).1 h.1))

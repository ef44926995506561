-- What the rows mean under a way, and what the search's answers say of every way that agrees with the bindings. Assumes rows made of lower rows (`Lower`).
use Rattle.std.specs.Prelude.{◌≡◌, List, Bool}
use Rattle.std.proofs.Math.Path.{refl}
use Rattle.std.proofs.Common.{ap, ◌∙◌, arith}
use Rattle.std.proofs.Math.Option.{Option, none, some}
use Rattle.std.proofs.Math.Bool.{true, false, cond}
use Prim.Native.Nat.{ℕ, suc, zero, ◌<◌}
use Rattle.std.proofs.Math.Decide.{dec_lt}
use Rattle.std.proofs.Math.ListN.{length, get_or-eq_default}
use Rattle.std.proofs.Math.Dec.{eqb}
use Rattle.theory.specs.Rules.{Base, nil, Shape, base, var, arr, ref, fn, fun, lam, err, div, kids, as_var, bound, iter, row, ring, inside, free, leads, far, follow, seek_var, seek}
use Rattle.theory.specs.Basics.{All, clash, eqb-true}
use Rattle.theory.specs.Ways.{Ty, basic, array_of, Way, den_of, den_at, den, Agrees}
use Rattle.theory.specs.Graph.{Lower, fixed}

-- how many arrays a type is inside
abbrev pub size : Ty → ℕ
size (basic b) = 0
size (array_of t) = suc (size t)

-- what a row becomes depends on its parts alone
pub den_of_ext : (w : Way) (f g : ℕ → Ty) (s : Shape) → All (λ (y : ℕ). f y ≡ g y) (kids s) → den_of w f s ≡ den_of w g s
den_of_ext w f g (base b) h = refl
den_of_ext w f g (var v) h = refl
den_of_ext w f g (arr e) h = ap array_of h.0
den_of_ext w f g (ref e) h = refl
den_of_ext w f g (fn d) h = refl
den_of_ext w f g (fun s o i) h = refl
den_of_ext w f g (lam n o i) h = refl
den_of_ext w f g err h = refl
den_of_ext w f g div h = refl

-- a row that is a variable
pub as_var_lem : (s : Shape) (v : ℕ) → as_var s ≡ some v → s ≡ var v
as_var_lem (base b) v e = cc
as_var_lem (var u) v e = cc
as_var_lem (arr y) v e = cc
as_var_lem (ref y) v e = cc
as_var_lem (fn d) v e = cc
as_var_lem (fun s o i) v e = cc
as_var_lem (lam n o i) v e = cc
as_var_lem err v e = cc
as_var_lem div v e = cc

module _ (rows : List Shape) where
  module _ (lower : Lower rows) (w : Way) where
    -- a row becomes what its parts make it
    pub den_eq : (x : ℕ) → den rows w x ≡ den_of w (den rows w) (row rows x)
    unfolding den
    den_eq x = by (dec_lt x (length rows))
      where
        outside : (n : ℕ) → row rows x ≡ base nil → iter (den_at rows w) (basic nil) n x ≡ basic nil
        outside zero e = refl
        outside (suc n) e = rw e

        by : Dec (x < length rows) → den rows w x ≡ den_of w (den rows w) (row rows x)
        by (yes h) = fixed (den_at rows w) (λ y. kids (row rows y)) (λ y. y) lower (λ f g y k. den_of_ext w f g (row rows y) k) (basic nil) (length rows) x h
        by (no n) = let e : row rows x ≡ base nil = get_or-eq_default rows (base nil) (omega arith) in rw e (outside (length rows) e)

    -- a base type becomes itself
    pub den_base : (x : ℕ) (b : Base) → row rows x ≡ base b → den rows w x ≡ basic b
    den_base x b e = den_eq x ∙ ap (den_of w (den rows w)) e

    -- a variable becomes what the way gives it
    pub den_var : (x v : ℕ) → row rows x ≡ var v → den rows w x ≡ w v
    den_var x v e = den_eq x ∙ ap (den_of w (den rows w)) e

    -- an array becomes an array of what its element becomes
    pub den_array : (x y : ℕ) → row rows x ≡ arr y → den rows w x ≡ array_of (den rows w y)
    den_array x y e = den_eq x ∙ ap (den_of w (den rows w)) e

  -- ── what the search's answers say ──

  module _ (lower : Lower rows) (b : List (Option ℕ)) (w : Way) (agrees : Agrees rows b w) (v : ℕ) where
    -- a ring: the row and the variable become the same type
    pub ring_same : (n x : ℕ) → seek rows b v n x ≡ ring → den rows w x ≡ w v
    unfolding seek
    ring_same zero x e = cc
    ring_same (suc n) x e = by (λ r h. ring_same n r h) (as_var (row rows x)) refl e
      where
        leaf : (c : Bool) → cond c inside free ≡ ring → ⊥
        leaf true h = clash (cc)
        leaf false h = clash (cc)

        on_var : ((r : ℕ) → seek rows b v n r ≡ ring → den rows w r ≡ w v) → (u : ℕ) → row rows x ≡ var u → (c : Bool) → eqb u v ≡ c → (o : Option ℕ) → bound b u ≡ o → cond c ring (follow rows b v (seek rows b v n) o) ≡ ring → den rows w x ≡ w v
        on_var ih u p true q o k h = den_var lower w x u p ∙ ap w (eqb-true u v q)
        on_var ih u p false q none k h = cc
        on_var ih u p false q (some r) k h = den_var lower w x u p ∙ agrees u r k ∙ ih r h

        by : ((r : ℕ) → seek rows b v n r ≡ ring → den rows w r ≡ w v) → (o : Option ℕ) → as_var (row rows x) ≡ o → seek_var rows b v (seek rows b v n) x o ≡ ring → den rows w x ≡ w v
        by ih none p h = absurd (leaf (leads rows b v (far rows b v) x) h)
        by ih (some u) p h = on_var ih u (as_var_lem (row rows x) u p) (eqb u v) refl (bound b u) refl h

-- More steps change nothing: of an equation that ended, and of the searches for a variable over sound bindings. Assumes what each statement says.
use Rattle.std.specs.Prelude.{◌≡◌, List, [], ◌∷◌, Bool, not, ◌&&◌, length, eqb}
use Rattle.std.proofs.Math.Path.{refl}
use Rattle.std.proofs.Math.Option.{Option, none, some}
use Rattle.std.proofs.Math.Bool.{true, false, cond}
use Prim.Native.Nat.{ℕ, suc, zero, ◌≤◌, ◌<◌}
use Rattle.std.proofs.Common.{arith}
use Rattle.theory.specs.Rules.{Shape, Kind, Out, success, mismatch, refused12, refused13, dry, Mem, Pair, Res, Act, go, at, row, kind, fits, bound, as_var, is_same, marked, signed, pass, onward, chase, heed, other, suits, each, perform, move, unify, ring, follow, seek_var, seek}
use Rattle.theory.specs.Program.{fuel, solve}
use Rattle.theory.specs.Graph.{Good, Sure, seek_sure}
use Rattle.theory.specs.Keep.{Ended}
use Rattle.theory.proofs.Keep.{solve_kept}

module _ (rows : List Shape) (kinds : List Kind) where
  -- ── an equation ──

  -- g gives what f gives, wherever f has ended; so whatever is done with the two
  module _ (f g : Mem → ℕ → ℕ → Res) (same : (m : Mem) (x y : ℕ) → Ended (f m x y).0 → g m x y ≡ f m x y) where
    -- pairs of rows in order
    each_same : (ps : List Pair) (o : Out) (m : Mem) → Ended (each rows kinds f ps o m).0 → each rows kinds g ps o m ≡ each rows kinds f ps o m
    each_same [] o m e = refl
    each_same (p ∷ ps) o m e = by (f m p.0 p.1).0 (f m p.0 p.1).1 (same m p.0 p.1) e (each_same ps o)
      where
        by : (q : Out) (c : Mem) → (Ended q → g m p.0 p.1 ≡ (q, c)) → Ended (onward q c (λ m'. each rows kinds f ps o m')).0
            → ((m' : Mem) → Ended (each rows kinds f ps o m').0 → each rows kinds g ps o m' ≡ each rows kinds f ps o m')
            → onward (g m p.0 p.1).0 (g m p.0 p.1).1 (λ m'. each rows kinds g ps o m') ≡ onward q c (λ m'. each rows kinds f ps o m')
        by success c h d again = rw (h tt) (again c d)
        by mismatch c h d again = rw (h tt)
        by refused12 c h d again = rw (h tt)
        by refused13 c h d again = rw (h tt)
        by dry c h d again = absurd d

    -- a bound or an open variable
    chase_same : (m : Mem) (v z : ℕ) (o : Option ℕ) → Ended (chase rows kinds f m v z o).0 → chase rows kinds g m v z o ≡ chase rows kinds f m v z o
    chase_same m v z (some r) e = same m r z e
    chase_same m v z none e = refl

    -- a variable against a row, by its mark,
    heed_same : (m : Mem) (v z : ℕ) (c : Bool) → Ended (heed rows kinds f m v z c).0 → heed rows kinds g m v z c ≡ heed rows kinds f m v z c
    heed_same m v z true e = refl
    heed_same m v z false e = chase_same (pass m v (row rows z)) v z (bound m.binds v) e

    -- by whether it is the same variable,
    other_same : (m : Mem) (v z : ℕ) (c : Bool) → Ended (other rows kinds f m v z c).0 → other rows kinds g m v z c ≡ other rows kinds f m v z c
    other_same m v z true e = refl
    other_same m v z false e = heed_same m v z (marked m v && not (signed (row rows z))) e

    -- and by the kind test
    suits_same : (m : Mem) (v z : ℕ) (c : Bool) → Ended (suits rows kinds f m v z c).0 → suits rows kinds g m v z c ≡ suits rows kinds f m v z c
    suits_same m v z false e = refl
    suits_same m v z true e = other_same m v z (is_same v (as_var (row rows z))) e

    -- whatever a step asks for
    perform_same : (m : Mem) (a : Act) → Ended (perform rows kinds f m a).0 → perform rows kinds g m a ≡ perform rows kinds f m a
    perform_same m (go ps o) e = each_same ps o m e
    perform_same m (at v z) e = suits_same m v z (fits kinds (kind kinds v) (row rows z)) e

  -- what has ended within n steps ends alike within more
  pub more_steps : (n k : ℕ) (m : Mem) (x y : ℕ) → n ≤ k → Ended (unify rows kinds n m x y).0 → unify rows kinds k m x y ≡ unify rows kinds n m x y
  unfolding unify
  more_steps zero k m x y l e = absurd e
  more_steps (suc n) zero m x y l e = absurd (omega arith)
  more_steps (suc n) (suc k) m x y l e = perform_same (unify rows kinds n) (unify rows kinds k) (λ m' x' y' d. more_steps n k m' x' y' (omega arith) d) m (move rows kinds x y) e

  -- so an equation over sound bindings: it has ended with the steps that it is given, and any more give the same
  pub solve_more : (m : Mem) (e g k : ℕ) → Good rows kinds m.binds → e < length rows → g < length rows → fuel rows m ≤ k → unify rows kinds k m e g ≡ solve rows kinds m e g
  unfolding solve
  solve_more m e g k good he hg l = more_steps (fuel rows m) k m e g l (solve_kept rows kinds m e g good he hg).ended

  -- ── the searches ──

  module _ (b : List (Option ℕ)) (v : ℕ) where
    -- a search that found an end within n steps finds it within more
    seek_same : (n k x : ℕ) → n ≤ k → Sure (seek rows b v n x) → seek rows b v k x ≡ seek rows b v n x
    unfolding seek
    seek_same zero k x l e = absurd e
    seek_same (suc n) zero x l e = absurd (omega arith)
    seek_same (suc n) (suc k) x l e = by (as_var (row rows x)) e (λ y. seek_same n k y (omega arith))
      where
        on_var : (c : Bool) (o : Option ℕ) → Sure (cond c ring (follow rows b v (seek rows b v n) o)) → ((y : ℕ) → Sure (seek rows b v n y) → seek rows b v k y ≡ seek rows b v n y)
            → cond c ring (follow rows b v (seek rows b v k) o) ≡ cond c ring (follow rows b v (seek rows b v n) o)
        on_var true o d again = refl
        on_var false none d again = refl
        on_var false (some r) d again = again r d

        by : (o : Option ℕ) → Sure (seek_var rows b v (seek rows b v n) x o) → ((y : ℕ) → Sure (seek rows b v n y) → seek rows b v k y ≡ seek rows b v n y) → seek_var rows b v (seek rows b v k) x o ≡ seek_var rows b v (seek rows b v n) x o
        by none d again = refl
        by (some u) d again = on_var (eqb u v) (bound b u) d again

  -- over sound bindings: where a variable stands is found, and more steps find the same
  pub seek_more : (b : List (Option ℕ)) → Good rows kinds b → (v x k : ℕ) → length rows < k → Sure (seek rows b v (suc (length rows)) x) × (seek rows b v k x ≡ seek rows b v (suc (length rows)) x)
  seek_more b good v x k l =
      let h = seek_sure rows kinds b good v (suc (length rows)) x (omega (arith, good.top x)) in
      (h, seek_same b v (suc (length rows)) k x (omega arith) h)

-- A way that agrees with sound bindings and keeps every variable's kind. Assumes rows made of lower rows, and sound bindings (`Good`).
use Rattle.std.specs.Prelude.{◌≡◌, List, length}
use Rattle.std.proofs.Math.Path.{refl, ap, sym}
use Rattle.std.proofs.Common.{◌∙◌, arith}
use Rattle.std.proofs.Math.Option.{Option, none, some}
use Rattle.std.proofs.Math.Bool.{true}
use Prim.Native.Nat.{ℕ, suc, zero, ◌<◌}
use Rattle.theory.specs.Rules.{nil, Shape, base, var, arr, ref, fn, fun, lam, err, div, Kind, regular, integer, floating, kind_fits, is_regular, row, kind, fits, kids, as_var, bound, opt_list, succs, next}
use Rattle.theory.specs.Basics.{All, all_map}
use Rattle.theory.specs.Ways.{Ty, basic, array_of, Way, ty_fits, Kinded, den_of, den, Agrees}
use Rattle.theory.specs.Graph.{Lower, fixed, Good}
use Rattle.theory.specs.Meaning.{den_of_ext, den_eq}
use Rattle.theory.specs.Exist.{default, pick, regular_fits, way_of as way_of·S, value_at as value_at·S, value as value·S, way as way·S}

is_regular_fits : (k : Kind) (t : Ty) → is_regular k ≡ true → ty_fits k t ≡ true
is_regular_fits regular t e = regular_fits t
is_regular_fits integer t e = cc
is_regular_fits floating t e = cc

default_fits : (k : Kind) → ty_fits k (default k) ≡ true
default_fits regular = refl
default_fits integer = refl
default_fits floating = refl

kind_fits_lem : (k l : Kind) (t : Ty) → kind_fits k l ≡ true → ty_fits l t ≡ true → ty_fits k t ≡ true
kind_fits_lem regular l t e h = regular_fits t
kind_fits_lem integer regular t e h = cc
kind_fits_lem integer integer t e h = h
kind_fits_lem integer floating t e h = cc
kind_fits_lem floating regular t e h = cc
kind_fits_lem floating integer t e h = cc
kind_fits_lem floating floating t e h = h

module _ (rows : List Shape) (kinds : List Kind) (lower : Lower rows) (b : List (Option ℕ)) (good : Good rows kinds b) where
  -- as specs/Exist has it
  abbrev way_of : (ℕ → Ty) → Way
  way_of = way_of·S rows kinds lower b good

  -- as specs/Exist has it
  abbrev value_at : (ℕ → Ty) → ℕ → Ty
  value_at = value_at·S rows kinds lower b good

  pick_ext : (f g : ℕ → Ty) (k : Kind) (o : Option ℕ) → All (λ (y : ℕ). f y ≡ g y) (opt_list o) → pick f k o ≡ pick g k o
  pick_ext f g k none h = refl
  pick_ext f g k (some r) h = h.0

  local : (f g : ℕ → Ty) (s : Shape) → All (λ (y : ℕ). f y ≡ g y) (succs b s (as_var s)) → den_of (way_of f) f s ≡ den_of (way_of g) g s
  local f g (base c) h = refl
  local f g (var u) h = pick_ext f g (kind kinds u) (bound b u) h
  local f g (arr e) h = ap array_of h.0
  local f g (ref e) h = refl
  local f g (fn d) h = refl
  local f g (fun s o i) h = refl
  local f g (lam n o i) h = refl
  local f g err h = refl
  local f g div h = refl

  -- as specs/Exist has it
  abbrev value : ℕ → Ty
  value = value·S rows kinds lower b good

  value_eq : (x : ℕ) → value x ≡ den_of (way_of value) value (row rows x)
  unfolding value·S
  value_eq x = fixed value_at (next rows b) good.rank good.falls (λ f g y h. local f g (row rows y) h) (basic nil) (suc (length rows)) x (omega (arith, good.top x))

  -- as specs/Exist has it
  abbrev way : Way
  way = way·S rows kinds lower b good

  value_den : (n x : ℕ) → x < n → value x ≡ den rows way x
  unfolding way·S
  value_den zero x h = absurd (omega arith)
  value_den (suc n) x h =
      value_eq x ∙ den_of_ext way value (den rows way) (row rows x) (all_map (λ (y : ℕ). y < x) (λ (y : ℕ). value y ≡ den rows way y) (kids (row rows x)) (λ y k. value_den n y (omega arith)) (lower x))
      ∙ sym (den_eq rows lower way x)

  -- it agrees with the bindings
  pub way_agrees : Agrees rows b way
  unfolding way·S
  way_agrees v r e = ap (pick value (kind kinds v)) e ∙ value_den (suc r) r (omega arith)

  falls_var : (x u r : ℕ) → row rows x ≡ var u → bound b u ≡ some r → good.rank r < good.rank x
  falls_var x u r p c = let f = good.falls x in let g = rw (p, c) at f in g.0

  value_fits : (n x : ℕ) (k : Kind) → good.rank x < n → fits kinds k (row rows x) ≡ true → ty_fits k (value x) ≡ true
  value_fits zero x k h e = absurd (omega arith)
  value_fits (suc n) x k h e = rw (value_eq x) (by (λ u r p c. value_fits n r (kind kinds u) (omega (arith, falls_var x u r p c)) (good.kept u r c)) (row rows x) refl e)
    where
      on_var : (u : ℕ) → row rows x ≡ var u → kind_fits k (kind kinds u) ≡ true → (o : Option ℕ) → bound b u ≡ o → ((r : ℕ) → bound b u ≡ some r → ty_fits (kind kinds u) (value r) ≡ true) → ty_fits k (pick value (kind kinds u) o) ≡ true
      on_var u p q none c f = kind_fits_lem k (kind kinds u) (default (kind kinds u)) q (default_fits (kind kinds u))
      on_var u p q (some r) c f = kind_fits_lem k (kind kinds u) (value r) q (f r c)

      by : ((u r : ℕ) → row rows x ≡ var u → bound b u ≡ some r → ty_fits (kind kinds u) (value r) ≡ true) → (s : Shape) → row rows x ≡ s → fits kinds k s ≡ true → ty_fits k (den_of (way_of value) value s) ≡ true
      by ih (base c) p q = q
      by ih (var u) p q = on_var u p q (bound b u) refl (λ r c. ih u r p c)
      by ih (arr y) p q = q
      by ih (ref y) p q = is_regular_fits k (basic nil) q
      by ih (fn d) p q = is_regular_fits k (basic nil) q
      by ih (fun s o i) p q = is_regular_fits k (basic nil) q
      by ih (lam m o i) p q = is_regular_fits k (basic nil) q
      by ih err p q = is_regular_fits k (basic nil) q
      by ih div p q = is_regular_fits k (basic nil) q

  -- it gives integer variables sized integers and float variables f32 or f64
  pub way_kinded : Kinded kinds way
  unfolding way·S
  way_kinded v = by (bound b v) refl
    where
      by : (o : Option ℕ) → bound b v ≡ o → ty_fits (kind kinds v) (pick value (kind kinds v) o) ≡ true
      by none e = default_fits (kind kinds v)
      by (some r) e = value_fits (suc (good.rank r)) r (kind kinds v) (omega arith) (good.kept v r e)

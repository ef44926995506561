-- A way that agrees with sound bindings and keeps every variable's kind. Assumes rows made of lower rows, and sound bindings (`Good`).
use Rattle.std.specs.Prelude.{◌≡◌, List, length}
use Rattle.std.proofs.Math.Path.{refl}
use Rattle.std.proofs.Math.Option.{Option, none, some}
use Rattle.std.proofs.Math.Bool.{true}
use Prim.Native.Nat.{ℕ, suc}
use Rattle.theory.specs.Rules.{w64, nil, double, int, Shape, Kind, regular, integer, floating, row, kind, bound, iter}
use Rattle.theory.specs.Ways.{Ty, basic, array_of, Way, ty_fits, den_of}
use Rattle.theory.specs.Graph.{Lower, Good}

-- a type for an open variable of a kind
abbrev pub default : Kind → Ty
default regular = basic nil
default integer = basic (int w64)
default floating = basic double

-- the value of a binding, or the default
abbrev pub pick : (ℕ → Ty) → Kind → Option ℕ → Ty
pick f k none = default k
pick f k (some r) = f r

-- a Regular variable may be given any type
pub regular_fits : (t : Ty) → ty_fits regular t ≡ true
regular_fits (basic c) = refl
regular_fits (array_of t) = refl

module _ (rows : List Shape) (kinds : List Kind) (lower : Lower rows) (b : List (Option ℕ)) (good : Good rows kinds b) where
  -- the way that values of rows make
  abbrev pub way_of : (ℕ → Ty) → Way
  way_of f u = pick f (kind kinds u) (bound b u)

  -- the value of a row under that way
  abbrev pub value_at : (ℕ → Ty) → ℕ → Ty
  value_at f x = den_of (way_of f) f (row rows x)

  -- each row's type, bindings followed and open variables by default
  unfoldable pub value : ℕ → Ty
  value x = iter value_at (basic nil) (suc (length rows)) x

  -- the way that gives each variable the value of its binding, or the default
  unfoldable pub way : Way
  way u = way_of value u

-- One equation with plain sides: success keeps exactly the agreeing ways that meet it; a mismatch or a refusal 12 leaves none.
-- Assumes rows made of lower rows, plain bindings, and variables in range (`Fair`).
use Rattle.std.specs.Prelude.{◌≡◌, ◌↔◌, List, length}
use Rattle.std.proofs.Math.Option.{Option}
use Rattle.std.proofs.Math.Bool.{false}
use Prim.Native.Nat.{ℕ, ◌<◌}
use Rattle.theory.specs.Rules.{Shape, var, Kind, Out, success, mismatch, refused12, refused13, dry, Mem, Res, Act, row, kind, kinds_exchange}
use Rattle.theory.specs.Rules.{perform}
use Rattle.theory.specs.Ways.{Way, Kinded, Plain, den, Agrees, PlainBound}
use Rattle.theory.specs.Graph.{Lower}

-- the bindings are plain, and the rows' variables are in range
pub record Fair (rows : List Shape) (b : List (Option ℕ)) : Type 0 where
  pub plain : PlainBound rows b
  pub meant : (x v : ℕ) → row rows x ≡ var v → v < length b

module _ (rows : List Shape) (kinds : List Kind) (lower : Lower rows) where
  -- what an answer says of what E asks, under the bindings b before and b' after: success keeps exactly the agreeing ways with E,
  -- a mismatch or a refusal 12 leaves none
  abbrev pub Says : (Way → Type 0) → List (Option ℕ) → Out → List (Option ℕ) → Type 0
  Says E b success b' = Fair rows b' × ((w : Way) → Kinded kinds w → Agrees rows b' w ↔ (Agrees rows b w × E w))
  Says E b mismatch b' = (w : Way) → Kinded kinds w → Agrees rows b w → E w → ⊥
  Says E b refused12 b' = (w : Way) → Kinded kinds w → Agrees rows b w → E w → ⊥
  Says E b refused13 b' = Unit {0}
  Says E b dry b' = Unit {0}

  -- what a result says
  abbrev pub SaysOf : (Way → Type 0) → List (Option ℕ) → Res → Type 0
  SaysOf E b r = Says E b r.0 r.1.binds

  -- both rows become the same type
  abbrev pub Same : ℕ → ℕ → Way → Type 0
  Same x y w = den rows w x ≡ den rows w y

  -- step 3, a variable against a plain row
  module _ (rec : Mem → ℕ → ℕ → Res)
      (ih : (m : Mem) (x y : ℕ) → Plain rows x → Plain rows y → Fair rows m.binds → SaysOf (Same x y) m.binds (rec m x y))
      (m : Mem) (v z : ℕ) (hv : v < length m.binds) (plain : Plain rows z) (fair : Fair rows m.binds)
      (keeps : (u : ℕ) → row rows z ≡ var u → kinds_exchange (kind kinds v) (kind kinds u) ≡ false) where
    -- the way gives v the type that the row z becomes
    abbrev pub Met : Way → Type 0
    Met w = w v ≡ den rows w z

    -- what a result says of that
    abbrev pub Told : Res → Type 0
    Told r = SaysOf Met m.binds r

  module _ (rec : Mem → ℕ → ℕ → Res)
      (ih : (m : Mem) (x y : ℕ) → Plain rows x → Plain rows y → Fair rows m.binds → SaysOf (Same x y) m.binds (rec m x y)) where
    -- what the result of an act says of the rows x and y
    abbrev pub Tells : Mem → ℕ → ℕ → Act → Type 0
    Tells m x y a = SaysOf (Same x y) m.binds (perform rows kinds rec m a)

-- One equation of any rows, whatever step its heads call for: no cycle is made, the steps are enough, and the tables keep their lengths.
-- Assumes sound bindings (`Good`), sides of the table, and as many steps as `Ready` says.
use Rattle.std.specs.Prelude.{◌≡◌, ◌⊎◌, List, [], ◌∷◌, length}
use Rattle.std.proofs.Common.{arith}
use Rattle.std.proofs.Math.Option.{Option, none, some}
use Prim.Native.Nat.{ℕ, suc, ◌+◌, ◌*◌, ◌≤◌, ◌<◌}
use Rattle.theory.specs.Rules.{Shape, Kind, Out, success, mismatch, refused12, refused13, dry, Mem, Pair, Res, row, bound}
use Rattle.theory.specs.Rules.{pass}
use Rattle.theory.specs.Graph.{Good}

-- 1 for an open variable
abbrev one : Option ℕ → ℕ
one none = 1
one (some r) = 0

-- how many variables are open
abbrev pub opens : List (Option ℕ) → ℕ
opens [] = 0
opens (o ∷ b) = one o + opens b

-- no more are open than there are
pub opens_le : (b : List (Option ℕ)) → opens b ≤ length b
opens_le [] = omega arith
opens_le (none ∷ b) = omega (arith, opens_le b)
opens_le (some r ∷ b) = omega (arith, opens_le b)

-- the answer is not that the steps ran out
abbrev pub Ended : Out → Type 0
Ended success = Unit {0}
Ended mismatch = Unit {0}
Ended refused12 = Unit {0}
Ended refused13 = Unit {0}
Ended dry = ⊥

-- the bindings are as before, or fewer variables are open
abbrev pub Fewer : List (Option ℕ) → List (Option ℕ) → Type 0
Fewer b c = (c ≡ b) ⊎ (opens c < opens b)

module _ (rows : List Shape) (kinds : List Kind) where
  -- the steps that one open variable may cost
  abbrev pub toll : ℕ
  toll = suc (length rows + length rows)

  -- n steps are enough for the rows x and y
  pub record Ready (n : ℕ) (b : List (Option ℕ)) (x y : ℕ) : Type 0 where
    pub good : Good rows kinds b
    pub left_in : x < length rows
    pub right_in : y < length rows
    pub enough : opens b * toll + (good.rank x + good.rank y) < n

  -- what a step makes of the bindings and marks before it
  pub record Kept (m : Mem) (o : Out) (m' : Mem) : Type 0 where
    pub good : Good rows kinds m'.binds
    pub binds_length : length m'.binds ≡ length m.binds
    pub marks_length : length m'.marks ≡ length m.marks
    pub fewer : Fewer m.binds m'.binds
    pub ended : Ended o

  -- what a result makes of them
  abbrev pub KeptBy : Mem → Res → Type 0
  KeptBy m r = Kept m r.0 r.1

  module _ (n : ℕ) (rec : Mem → ℕ → ℕ → Res) (ih : (m : Mem) (x y : ℕ) → Ready n m.binds x y → KeptBy m (rec m x y)) where
    -- pairs of rows in order
    module _ (m : Mem) where
      -- enough steps are left for the pair
      abbrev pub Waits : Pair → Type 0
      Waits p = Ready n m.binds p.0 p.1

    -- step 3, a variable against a row
    module _ (m : Mem) (good : Good rows kinds m.binds) (v z : ℕ) (hv : v < length m.binds) (hz : z < length rows) (on : (r : ℕ) → bound m.binds v ≡ some r → Ready n m.binds r z) where
      -- after the mark is passed
      abbrev pub passed : Mem
      passed = pass m v (row rows z)

    module _ (m : Mem) (x y : ℕ) (given : Ready (suc n) m.binds x y) where
      -- the row q ranks below the row p and stands in the table
      abbrev pub Below : ℕ → ℕ → Type 0
      Below p q = (given.good.rank q < given.good.rank p) × (q < length rows)

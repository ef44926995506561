-- What the last store of a row, of a variable and of a binding shows, over plain variables.
use mathlib.Core.Path.{◌≡◌}
use mathlib.Core.List.{List}
use Prim.Native.Nat.{ℕ, ◌+◌, ◌*◌}
use lib.ListN.{set}
use Rattle.memory_cells.specs.Cells.{rows_at, row_written, var_written, binding_written}

pub row_written_lem : (m m₁ m₂ m₃ m₄ m₅ : List ℕ) (x h a o f k : ℕ) → let i = rows_at + x * 5 in m₁ ≡ set m i h → m₂ ≡ set m₁ (i + 1) a → m₃ ≡ set m₂ (i + 2) o → m₄ ≡ set m₃ (i + 3) f → m₅ ≡ set m₄ (i + 4) k → m₅ ≡ row_written m x h a o f k
unfolding row_written
row_written_lem m m₁ m₂ m₃ m₄ m₅ x h a o f k p q r s t = rw (← p, ← q, ← r, ← s) t

pub var_written_lem : (m m₁ m₂ m₃ m₄ m₅ : List ℕ) (v k o : ℕ) → let i = v * 5 in m₁ ≡ set m i k → m₂ ≡ set m₁ (i + 1) o → m₃ ≡ set m₂ (i + 2) 0 → m₄ ≡ set m₃ (i + 3) 0 → m₅ ≡ set m₄ (i + 4) 0 → m₅ ≡ var_written m v k o
unfolding var_written
var_written_lem m m₁ m₂ m₃ m₄ m₅ v k o p q r s t = rw (← p, ← q, ← r, ← s) t

pub binding_written_lem : (m u w : List ℕ) (v z : ℕ) → u ≡ set m (v * 5 + 2) 1 → w ≡ set u (v * 5 + 3) z → w ≡ binding_written m v z
unfolding binding_written
binding_written_lem m u w v z p q = rw (← p) q

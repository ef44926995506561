-- Rows of cells, one row after another. Assumes nothing.
use Rattle.std.specs.Prelude.{◌≡◌, refl, List, [], ◌++◌, ℕ, suc, zero, ◌<◌}
use Rattle.std.proofs.Common.{arith}

-- the cells of the rows 0, 1, .., n - 1, one row after another
unfoldable pub cells_to : (ℕ → List ℕ) → ℕ → List ℕ
cells_to f zero = []
cells_to f (suc n) = cells_to f n ++ f n

-- equal rows have equal cells
pub cells_ext : (f g : ℕ → List ℕ) (n : ℕ) → ((i : ℕ) → i < n → f i ≡ g i) → cells_to f n ≡ cells_to g n
unfolding cells_to
cells_ext f g zero e = refl
cells_ext f g (suc n) e = rw (cells_ext f g n (λ i h. e i (omega arith)), e n (omega arith))

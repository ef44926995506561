-- What each return and each turn of a loop over the cells of a table shows, over plain variables.
use mathlib.Core.Path.{◌≡◌, refl, ◌∙◌}
use mathlib.Core.List.{List}
use Prim.Native.Nat.{ℕ, ◌+◌, ◌-◌, ◌*◌, ◌≤◌}
use native.Mathlib.Omega.{arith}
use native.Mathlib.Numerals.{add-one}
use lib.ListN.{length, replicate}
use lib.Seq.{sets, length-sets}
use Rattle.table_cells.specs.Stores.{sets_behind, sets_whole}
use Rattle.tables.specs.Rows.{padded, cells_to}
use Rattle.tables.specs.RowLaws.{length_cells, length-padded}

-- ── one row after another ──

-- before the first turn none is stored
pub cells_none : (f : ℕ → List ℕ) (t : List ℕ) (j : ℕ) → t ≡ sets t j (cells_to f 0)
unfolding cells_to
cells_none f t j = refl

-- a turn stores one row more
pub cells_more : (f : ℕ → List ℕ) (t w u : List ℕ) (j i at : ℕ) → j + length (cells_to f i) ≡ at → w ≡ sets t j (cells_to f i) → u ≡ sets w at (f i) → u ≡ sets t j (cells_to f (i + 1))
unfolding cells_to
cells_more f t w u j i at e p q = rw (q, p, add-one i) (sets_behind t j at (cells_to f i) (f i) e)

-- the same, where each row has k cells
pub rows_more : (f : ℕ → List ℕ) (k : ℕ) → ((i : ℕ) → length (f i) ≡ k) → (t w u : List ℕ) (i : ℕ) → w ≡ sets t 0 (cells_to f i) → u ≡ sets w (i * k) (f i) → u ≡ sets t 0 (cells_to f (i + 1))
rows_more f k e t w u i p q = cells_more f t w u 0 i (i * k) (omega (arith, length_cells f k e i)) p q

-- the rows, and zeros behind them up to n cells
pub padded_part : (xs t w u : List ℕ) (j at n : ℕ) → j + length xs ≡ at → w ≡ sets t j xs → u ≡ sets w at (replicate (n - length xs) 0) → u ≡ sets t j (padded n xs)
padded_part xs t w u j at n e p q = rw (q, p) (sets_behind t j at xs (replicate (n - length xs) 0) e)

-- n rows of k cells, and zeros behind them to the end of the table
pub rows_filled : (f : ℕ → List ℕ) (k : ℕ) → ((i : ℕ) → length (f i) ≡ k) → (t w u : List ℕ) (n : ℕ) → n * k ≤ length t → w ≡ sets t 0 (cells_to f n) → u ≡ sets w (n * k) (replicate (length w - n * k) 0) → u ≡ padded (length t) (cells_to f n)
rows_filled f k e t w u n h p q =
    let xs = cells_to f n in
    let a : length xs ≡ n * k = length_cells f k e n in
    let l : length w ≡ length t = rw p (length-sets t 0 xs) in
    let z : length w - n * k ≡ length t - length xs = omega arith in
    padded_part xs t w u 0 (n * k) (length t) (omega arith) p (rw z at q) ∙ sets_whole t (padded (length t) xs) (length-padded (length t) xs (omega arith))

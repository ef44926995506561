-- The cells of a lent memory, and what writing a row and a variable leaves in it. Definitions alone.
use Rattle.std.specs.Prelude.{List, ℕ, ◌+◌, ◌*◌, get_or, set}

-- a cell, 0 past the end
abbrev pub cell : List ℕ → ℕ → ℕ
cell m i = get_or m i 0

-- the rows lie behind the variables, both of five cells each
abbrev pub rows_at : ℕ
rows_at = 5120

-- the row x with its five cells
unfoldable pub row_written : List ℕ → ℕ → ℕ → ℕ → ℕ → ℕ → ℕ → List ℕ
row_written m x h a o f k =
    let i = rows_at + x * 5 in
    set (set (set (set (set m i h) (i + 1) a) (i + 2) o) (i + 3) f) (i + 4) k

-- the variable v, open and unmarked
unfoldable pub var_written : List ℕ → ℕ → ℕ → ℕ → List ℕ
var_written m v k o =
    let i = v * 5 in
    set (set (set (set (set m i k) (i + 1) o) (i + 2) 0) (i + 3) 0) (i + 4) 0

-- the variable v, bound to z
unfoldable pub binding_written : List ℕ → ℕ → ℕ → List ℕ
binding_written m v z = set (set m (v * 5 + 2) 1) (v * 5 + 3) z

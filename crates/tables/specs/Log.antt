-- The table of equations: the expected and the got row, and the answer's number. Definitions alone.
use Rattle.std.specs.Prelude.{List, [], ◌∷◌, ◌++◌, ℕ, ◌+◌, ◌*◌, ◌%◌, ◌≤◌, leb, length}
use Rattle.theory.specs.Program.{Equation}
use Rattle.type_table.specs.Memory.{cell, pick}
use Rattle.record.specs.Own.{log_at}
use Rattle.record.specs.Steps.{State}
use Rattle.record.specs.Encodes.{answer_number}

-- ── what the state has ──

-- the row of an equation
abbrev pub equation_row : Equation → List ℕ
equation_row q = q.expected ∷ q.got ∷ answer_number q.answer ∷ []

-- the rows of the equations, which stand newest first, as many as fit whole into n cells: the oldest is written first
unfoldable pub log_table : ℕ → List Equation → List ℕ
log_table n [] = []
log_table n (q ∷ l) = log_table n l ++ pick (leb (length l * 3 + 3) n) (equation_row q) []

-- a memory of n cells reaches over all equations
abbrev pub log_room : ℕ → State → Type 0
log_room n s = log_at + length s.log * 3 ≤ n

-- ── what the code reads ──

-- the row of the equation at the cell f of a memory: the third cell holds the answer's number and the node
unfoldable pub equation_at : List ℕ → ℕ → List ℕ
equation_at m f = cell m f ∷ cell m (f + 1) ∷ cell m (f + 2) % 16 ∷ []

-- the row of the equation i of a memory
unfoldable pub equation_in : List ℕ → ℕ → List ℕ
equation_in m i = equation_at m (log_at + i * 3)

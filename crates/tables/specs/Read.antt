-- What the table of variables and the table of made types say, read from their cells. Definitions alone.
use Rattle.std.specs.Prelude.{List, ℕ, ◌+◌, ◌*◌, take, drop}
use Rattle.std.proofs.Math.Option.{Option}
use Rattle.theory.specs.Rules.{Kind, Shape}
use Rattle.type_table.specs.Memory.{tab, cell, kind_of, shape_of}
use Rattle.record.specs.Own.{flagged}
use Rattle.tables.specs.Types.{inputs_from_lem}

-- KIND of the first n variables of a table
abbrev pub kinds_in : List ℕ → ℕ → List Kind
kinds_in t n = tab (λ v. kind_of (cell t (v * 6))) n

-- what the first n variables of a table are bound to
abbrev pub binds_in : List ℕ → ℕ → List (Option ℕ)
binds_in t n = tab (λ v. flagged (cell t (v * 6 + 1)) (cell t (v * 6 + 2))) n

-- k cells of a table from f on
abbrev pub cells_at : List ℕ → ℕ → ℕ → List ℕ
cells_at t f k = take k (drop f t)

-- the type that the row i of a table of made types has
unfoldable pub made_at : List ℕ → ℕ → Shape
made_at t i = shape_of (cell t (i * 5)) (cell t (i * 5 + 1)) (cell t (i * 5 + 2)) (cells_at t (inputs_from_lem + cell t (i * 5 + 3)) (cell t (i * 5 + 4)))

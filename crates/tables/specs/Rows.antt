-- Tables as rows of cells, and what it is to fill a lent one. Definitions alone.
use Rattle.std.specs.Prelude.{◌≡◌, List, [], ◌∷◌, ◌++◌, Bool, true, false, ℕ, ◌-◌, length, replicate}
use Rattle.std.proofs.Math.Option.{Option, none, some}
pub use Rattle.table_cells.specs.Zeros.{zeros}
unfoldable pub use Rattle.table_cells.specs.Rows.{cells_to}
use Rattle.record.specs.declared.Record.{Record}
use Rattle.record.specs.Steps.{State}
use Rattle.record.specs.Encodes.{Encodes}

-- ── what a table is made of ──

-- these cells, and zeros behind them up to n
abbrev pub padded : ℕ → List ℕ → List ℕ
padded n xs = xs ++ replicate (n - length xs) 0

-- the cells of each row of a list, one row after another
unfoldable pub cells_of : {A : Type 0} → (A → List ℕ) → List A → List ℕ
cells_of f [] = []
cells_of f (x ∷ l) = f x ++ cells_of f l

-- a flag: 1 or 0
abbrev pub flag : Bool → ℕ
flag true = 1
flag false = 0

-- whether there is a number: 1 or 0
abbrev pub given : Option ℕ → ℕ
given none = 0
given (some x) = 1

-- the number, 0 where there is none
abbrev pub or_zero : Option ℕ → ℕ
or_zero none = 0
or_zero (some x) = x

-- ── the promise of each function that fills a table ──

-- whatever state the memory m and the record c hold: where there is room, the lent slice became u, its table
pub record Fills (m : List ℕ) (c : Record) (room : State → Type 0) (table : State → List ℕ) (u : List ℕ) : Type 0 where
  pub fills : (s : State) → Encodes m c s → room s → u ≡ table s

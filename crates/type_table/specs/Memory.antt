-- How a lent memory is read: its cells as rows, kinds, origins, bindings and marks. A read past the end is 0. Definitions alone.
use Rattle.std.specs.Prelude.{List, [], ◌∷◌, Bool, true, false, ℕ, suc, zero, ◌+◌, ◌*◌, ◌≤◌, length, eqb, ltb, leb}
use Rattle.std.proofs.Math.Option.{Option, none, some}
use Rattle.theory.specs.Rules.{Width, w8, w16, w32, w64, bool, nil, float, double, uint, int, inst, Shape, base, var, arr, ref, fn, fun, lam, err, div, Kind, regular, integer, floating, Mem}
use Rattle.type_table.specs.declared.Counts.{Counts}
pub use Rattle.memory_cells.specs.Cells.{cell, rows_at}

-- the first of two values, or the second
abbrev pub pick {ℓ} : {A : Type ℓ} → Bool → A → A → A
pick true a b = a
pick false a b = b

-- f 0, f 1, .., f (n - 1)
abbrev pub tab {ℓ} : {A : Type ℓ} → (ℕ → A) → ℕ → List A
tab f zero = []
tab f (suc n) = f 0 ∷ tab (λ i. f (suc i)) n

-- ── the regions ──

-- the most type rows: 14 fixed, 512 declared, 4,096 made
abbrev pub most_types : ℕ
most_types = 4622

-- the most variables
abbrev pub most_vars : ℕ
most_vars = 1024

-- the most inputs of functions and lambdas: 512 times 16 declared, and each node at most once
abbrev pub most_inputs : ℕ
most_inputs = 9216

-- the inputs lie behind the rows
abbrev pub inputs_at : ℕ
inputs_at = 28230

-- the pool lies behind the inputs: for each row, the first array of it
abbrev pub arrays_at : ℕ
arrays_at = 37446

-- for each row, the first reference to it
abbrev pub refs_at : ℕ
refs_at = 42068

-- for each definition, its first row
abbrev pub defs_at : ℕ
defs_at = 46690

-- for each instance, its first row
abbrev pub instances_at : ℕ
instances_at = 46946

-- how many cells there are
abbrev pub cells : ℕ
cells = 47010

-- ── rows: head, number, output, first input, count ──

-- a head of `TyKind`; what is none reads as Nil
abbrev pub head_of : ℕ → ℕ
head_of h = pick (ltb h 15) h 9

-- a cell of the row x, of n rows; 0 for what is no row
abbrev pub row_cell : List ℕ → ℕ → ℕ → ℕ → ℕ
row_cell m n x k = pick (leb n x) 0 (cell m (rows_at + x * 5 + k))

-- the head of the row x; that of Nil for what is no row
unfoldable pub head_at : List ℕ → ℕ → ℕ → ℕ
head_at m n x = pick (leb n x) 9 (head_of (cell m (rows_at + x * 5)))

-- the number that the row x has first
unfoldable pub number_at : List ℕ → ℕ → ℕ → ℕ
number_at m n x = row_cell m n x 1

-- the output of the row x
unfoldable pub output_at : List ℕ → ℕ → ℕ → ℕ
output_at m n x = row_cell m n x 2

-- the place of the first input of the row x
unfoldable pub first_at : List ℕ → ℕ → ℕ → ℕ
first_at m n x = row_cell m n x 3

-- how many inputs the row x has
unfoldable pub count_at : List ℕ → ℕ → ℕ → ℕ
count_at m n x = row_cell m n x 4

-- count inputs from the first on
unfoldable pub inputs_from : List ℕ → ℕ → ℕ → List ℕ
inputs_from m f zero = []
inputs_from m f (suc k) = cell m (inputs_at + f) ∷ inputs_from m (suc f) k

-- the width that a number stands for
abbrev pub width_of : ℕ → Width
width_of zero = w8
width_of (suc zero) = w16
width_of (suc (suc zero)) = w32
width_of (suc (suc (suc n))) = w64

-- a type by its head's place in `TyKind`, its number, its output and its inputs
unfoldable pub shape_of : ℕ → ℕ → ℕ → List ℕ → Shape
shape_of h a o i =
    pick (eqb h 0) (base bool)
    (pick (eqb h 1) (base (uint (width_of a)))
    (pick (eqb h 2) (base (int (width_of a)))
    (pick (eqb h 3) (base float)
    (pick (eqb h 4) (base double)
    (pick (eqb h 5) (base (inst a))
    (pick (eqb h 6) (fun a o i)
    (pick (eqb h 7) (fn a)
    (pick (eqb h 8) (arr a)
    (pick (eqb h 10) err
    (pick (eqb h 11) div
    (pick (eqb h 12) (var a)
    (pick (eqb h 13) (lam a o i)
    (pick (eqb h 14) (ref a)
    (base nil))))))))))))))

-- the row x, of n rows
unfoldable pub shape_at : List ℕ → ℕ → ℕ → Shape
shape_at m n x = shape_of (head_at m n x) (number_at m n x) (output_at m n x) (inputs_from m (first_at m n x) (count_at m n x))

-- the first n rows
unfoldable pub rows_of : List ℕ → ℕ → List Shape
rows_of m n = tab (shape_at m n) n

-- ── variables: kind, origin, whether it is bound, binding, mark ──

-- a cell of the variable v, of n variables; 0 for what is none
abbrev pub var_cell : List ℕ → ℕ → ℕ → ℕ → ℕ
var_cell m n v k = pick (leb n v) 0 (cell m (v * 5 + k))

-- the kind that a number stands for
abbrev pub kind_of : ℕ → Kind
kind_of k = pick (eqb k 1) integer (pick (eqb k 2) floating regular)

-- the kind of the variable v
unfoldable pub kind_at : List ℕ → ℕ → ℕ → Kind
kind_at m n v = kind_of (var_cell m n v 0)

-- 0 is none, else a number plus one
abbrev pub numbered : ℕ → Option ℕ
numbered zero = none
numbered (suc r) = some r

-- the node that drew the variable v
unfoldable pub origin_at : List ℕ → ℕ → ℕ → Option ℕ
origin_at m n v = numbered (var_cell m n v 1)

-- the row that the variable v is bound to
unfoldable pub binding_at : List ℕ → ℕ → ℕ → Option ℕ
binding_at m n v = pick (eqb (var_cell m n v 2) 1) (some (var_cell m n v 3)) none

-- a negation mark is 1
unfoldable pub mark_at : List ℕ → ℕ → ℕ → Bool
mark_at m n v = eqb (var_cell m n v 4) 1

-- the kinds of the first n variables
unfoldable pub kinds_of : List ℕ → ℕ → List Kind
kinds_of m n = tab (kind_at m n) n

-- their origins
unfoldable pub origins_of : List ℕ → ℕ → List (Option ℕ)
origins_of m n = tab (origin_at m n) n

-- their bindings
unfoldable pub binds_of : List ℕ → ℕ → List (Option ℕ)
binds_of m n = tab (binding_at m n) n

-- their marks
unfoldable pub marks_of : List ℕ → ℕ → List Bool
marks_of m n = tab (mark_at m n) n

-- what unification changes
unfoldable pub mem_of : List ℕ → ℕ → Mem
mem_of m n = record { binds = binds_of m n; marks = marks_of m n }

-- ── counts ──

-- t rows, v variables and i inputs
abbrev pub counts : ℕ → ℕ → ℕ → Counts
counts t v i = record { types = t; vars = v; inputs = i }

-- the variables' cells are in the memory and below the rows, and the rows within their limit
pub record Held (m : List ℕ) (c : Counts) : Type 0 where
  pub room : c.vars * 5 ≤ length m
  pub vars : c.vars ≤ most_vars
  pub types : c.types ≤ most_types

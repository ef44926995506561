-- The table of made types: a row of five cells for each, and behind 4,096 rows the inputs of all, one after another. Definitions alone.
use Rattle.std.specs.Prelude.{List, [], ◌∷◌, ◌++◌, ℕ, ◌+◌, ◌-◌, ◌*◌, ◌≤◌, length, drop, ltb}
use Rattle.theory.specs.Rules.{Width as Width-as-T, w8, w16, w32, w64, Base, bool, nil, float, double, uint, int, inst, Shape, base, var, arr, ref, fn, fun, lam, err, div, head}
use Rattle.type_table.specs.declared.Counts.{Counts}
use Rattle.type_table.specs.declared.Row.{Row}
use Rattle.type_table.specs.declared.Row.TheVariants.{Bool, Uint, Int, Float, Double, Instance, Param, FnDef, Array, Nil, Error, Diverges, InferTy, Lambda, Ref}
use Rattle.type_table.specs.Memory.{pick, inputs_from}
use Rattle.type_table.specs.View.{type, view_in}
use Rattle.type_table.specs.Reads.{width_meant}
use Rattle.record.specs.Steps.{State}
use Rattle.tables.specs.declared.Fields.{Fields}
use Rattle.tables.specs.Rows.{padded, cells_to, cells_of}

-- ── what the state has ──

-- where the inputs begin: behind 4,096 rows of five cells
abbrev pub inputs_from_lem : ℕ
inputs_from_lem = 20480

-- the number of a width
abbrev pub width_number : Width-as-T → ℕ
width_number w8 = 0
width_number w16 = 1
width_number w32 = 2
width_number w64 = 3

-- the width of an integer, or the number of an instance; 0 where there is none
abbrev pub base_number : Base → ℕ
base_number bool = 0
base_number nil = 0
base_number float = 0
base_number double = 0
base_number (uint w) = width_number w
base_number (int w) = width_number w
base_number (inst k) = k

-- width, instance, definition, element, variable, SPAN or node; 0 where there is none
abbrev pub shape_number : Shape → ℕ
shape_number (base b) = base_number b
shape_number (var v) = v
shape_number (arr e) = e
shape_number (ref e) = e
shape_number (fn d) = d
shape_number (fun s o i) = s
shape_number (lam n o i) = n
shape_number err = 0
shape_number div = 0

-- the output of a function or a lambda; 0 where there is none
abbrev pub shape_output : Shape → ℕ
shape_output (base b) = 0
shape_output (var v) = 0
shape_output (arr e) = 0
shape_output (ref e) = 0
shape_output (fn d) = 0
shape_output (fun s o i) = o
shape_output (lam n o i) = o
shape_output err = 0
shape_output div = 0

-- the inputs of a function or a lambda
abbrev pub shape_inputs : Shape → List ℕ
shape_inputs (base b) = []
shape_inputs (var v) = []
shape_inputs (arr e) = []
shape_inputs (ref e) = []
shape_inputs (fn d) = []
shape_inputs (fun s o i) = i
shape_inputs (lam n o i) = i
shape_inputs err = []
shape_inputs div = []

-- the row of a type: head, number, output, how many inputs stand before its own, how many it has
abbrev pub type_row : ℕ → Shape → List ℕ
type_row k x = head x ∷ shape_number x ∷ shape_output x ∷ k ∷ length (shape_inputs x) ∷ []

-- the rows of these types, before which there are k inputs
unfoldable pub type_rows : ℕ → List Shape → List ℕ
type_rows k [] = []
type_rows k (x ∷ l) = type_row k x ++ type_rows (k + length (shape_inputs x)) l

-- the inputs of these types, one after another
abbrev pub inputs_of : List Shape → List ℕ
inputs_of made = cells_of shape_inputs made

-- the table of these types in n cells: their rows, and their inputs, zeros behind both
abbrev pub type_table : ℕ → List Shape → List ℕ
type_table n made = padded inputs_from_lem (type_rows 0 made) ++ padded (n - inputs_from_lem) (inputs_of made)

-- n cells have room for the types from the number first on, and for their inputs
abbrev pub type_room : ℕ → ℕ → State → Type 0
type_room first n s = let made = drop first s.rows in (length made * 5 ≤ inputs_from_lem) × (inputs_from_lem + length (inputs_of made) ≤ n)

-- ── what the code reads ──

-- the five fields of a row
abbrev pub fields : ℕ → ℕ → ℕ → ℕ → ℕ → Fields
fields h a o f k = record { head = h; number = a; output = o; first = f; count = k }

-- the fields of a row that was taken apart
unfoldable pub fields_of : Row → Fields
fields_of Bool = fields 0 0 0 0 0
fields_of (Uint w) = fields 1 (width_number (width_meant w)) 0 0 0
fields_of (Int w) = fields 2 (width_number (width_meant w)) 0 0 0
fields_of Float = fields 3 0 0 0 0
fields_of Double = fields 4 0 0 0 0
fields_of (Instance k) = fields 5 k.0 0 0 0
fields_of (Param s o i) = fields 6 s o.0 i.first i.count
fields_of (FnDef d) = fields 7 d.0 0 0 0
fields_of (Array e) = fields 8 e.0 0 0 0
fields_of Nil = fields 9 0 0 0 0
fields_of Error = fields 10 0 0 0 0
fields_of Diverges = fields 11 0 0 0 0
fields_of (InferTy v) = fields 12 v.0 0 0 0
fields_of (Lambda n o i) = fields 13 n.0 o.0 i.first i.count
fields_of (Ref e) = fields 14 e.0 0 0 0

-- the fields of the row x of a memory
unfoldable pub fields_in : List ℕ → Counts → ℕ → Fields
fields_in m c x = fields_of (view_in m c (type x))

-- a number as a cell; 0 where it does not fit
unfoldable pub fitted : ℕ → ℕ
fitted k = pick (ltb k 65536) k 0

-- the row of a type by its fields; k inputs stand before its own
unfoldable pub type_in : Fields → ℕ → List ℕ
type_in r k = r.head ∷ r.number ∷ r.output ∷ fitted k ∷ r.count ∷ []

-- the inputs of the type first + j of a memory
unfoldable pub inputs_in : List ℕ → Counts → ℕ → ℕ → List ℕ
inputs_in m c first j = let r = fields_in m c (first + j) in inputs_from m r.first r.count

-- the row of the type first + j of a memory
unfoldable pub type_from : List ℕ → Counts → ℕ → ℕ → List ℕ
type_from m c first j = type_in (fields_in m c (first + j)) (length (cells_to (inputs_in m c first) j))

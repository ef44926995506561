-- The table of variables: KIND, whether it is bound, BOUND, whether it has an origin, ORIGIN, mark. Definitions alone.
use Rattle.std.specs.Prelude.{List, [], ◌∷◌, false, ℕ, ◌*◌, ◌≤◌, get_or, length}
use Rattle.std.proofs.Math.Option.{none}
use Rattle.theory.specs.Rules.{Kind, regular, integer, floating, kind, bound}
use Rattle.type_table.specs.declared.Counts.{Counts}
use Rattle.type_table.specs.Memory.{mark_at}
use Rattle.type_table.specs.View.{variable, kind_in, bound_in, origin_in}
use Rattle.type_table.specs.Made.{kind_number}
use Rattle.type_table.specs.Reads.{origin_meant, bound_meant}
use Rattle.record.specs.Steps.{State}
use Rattle.tables.specs.Rows.{cells_to, flag, given, or_zero}

-- ── what the state has ──

-- KIND: any, int, float
abbrev pub kind_cell : Kind → ℕ
kind_cell regular = 0
kind_cell integer = 1
kind_cell floating = 2

-- the row of the variable v
unfoldable pub var_row : State → ℕ → List ℕ
var_row s v =
    let b = bound s.mem.binds v in
    let o = get_or s.origins v none in
    kind_cell (kind s.kinds v) ∷ given b ∷ or_zero b ∷ given o ∷ or_zero o ∷ flag (get_or s.mem.marks v false) ∷ []

-- the rows of all variables
abbrev pub var_table : State → List ℕ
var_table s = cells_to (var_row s) (length s.kinds)

-- n cells have room for all variables
abbrev pub var_room : ℕ → State → Type 0
var_room n s = length s.kinds * 6 ≤ n

-- ── what the code reads ──

-- the row of the variable v of a memory
unfoldable pub var_in : List ℕ → Counts → ℕ → List ℕ
var_in m c v =
    let b = bound_meant (bound_in m c (variable v)) in
    let o = origin_meant (origin_in m c (variable v)) in
    kind_number (kind_in m c (variable v)) ∷ given b ∷ or_zero b ∷ given o ∷ or_zero o ∷ flag (mark_at m c.vars v) ∷ []

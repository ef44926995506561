-- The table of nodes: whether it is typed, RAW, EXTRA's tag and number, whether it is resolved, FINAL. Definitions alone.
use Rattle.std.specs.Prelude.{List, [], ◌∷◌, ◌++◌, ℕ, ◌+◌, ◌*◌, ◌≤◌, get_or}
use Rattle.std.proofs.Math.Option.{Option, none}
use Rattle.type_table.specs.Memory.{cell}
use Rattle.record.specs.declared.Extra.{Extra}
use Rattle.record.specs.declared.Extra.TheVariants as extra
use Rattle.record.specs.Own.{most_nodes, Own, flagged, extra_of, raw_at, extra_at, final_at, extra_tag, extra_value}
use Rattle.record.specs.Steps.{State}
use Rattle.tables.specs.Rows.{cells_to, given, or_zero}

-- ── what the state has ──

-- a type that may be absent: whether there is one, and its number
abbrev pub option_cells : Option ℕ → List ℕ
option_cells o = given o ∷ or_zero o ∷ []

-- EXTRA: its tag and its number
abbrev pub extra_cells : Extra → List ℕ
extra_cells e = extra_tag e ∷ extra_value e ∷ []

-- RAW, EXTRA and FINAL of a node, two cells each
abbrev pub node_cells : Option ℕ → Extra → Option ℕ → List ℕ
node_cells raw e final = option_cells raw ++ (extra_cells e ++ option_cells final)

-- the row of the node i
abbrev pub node_row : Own → ℕ → List ℕ
node_row o i = node_cells (get_or o.raw i none) (get_or o.extra i extra.Absent) (get_or o.final i none)

-- the rows of the first k nodes
abbrev pub node_table : Own → ℕ → List ℕ
node_table o k = cells_to (node_row o) k

-- n cells have room for k nodes, no more than there are
abbrev pub node_room : ℕ → ℕ → State → Type 0
node_room k n s = (k ≤ most_nodes) × (k * 6 ≤ n)

-- ── what the code reads ──

-- a type that may be absent, by the flag and the number at f
unfoldable pub option_in : List ℕ → ℕ → List ℕ
option_in m f = option_cells (flagged (cell m f) (cell m (f + 1)))

-- EXTRA by the tag and the number at f
unfoldable pub extra_in : List ℕ → ℕ → List ℕ
extra_in m f = extra_cells (extra_of (cell m f) (cell m (f + 1)))

-- the row of the node i of a memory
unfoldable pub node_in : List ℕ → ℕ → List ℕ
node_in m i = node_cells (raw_at m i) (extra_at m i) (final_at m i)

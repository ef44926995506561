-- What the operations on a record answer and leave in the memory. Definitions alone.
use Rattle.std.specs.Prelude.{List, ℕ, suc, zero, ◌+◌, set}
use Rattle.type_table.specs.declared.Counts.{Counts}
use Rattle.type_table.specs.declared.Made.{Made}
use Rattle.type_table.specs.declared.TypeId.{TypeId}
use Rattle.record.specs.declared.Record.{Record}
use Rattle.record.specs.declared.Given.{Given}
use Rattle.record.specs.Own.{nodes_at}

-- a record with other counts of its tables
abbrev pub with_counts : Record → Counts → Record
with_counts c d = record { counts = d; errors = c.errors; equations = c.equations; output = c.output }

-- a record with another number of errors
abbrev pub with_errors : Record → ℕ → Record
with_errors c n = record { counts = c.counts; errors = n; equations = c.equations; output = c.output }

-- a record with no error and no equation
abbrev pub new_record : Counts → TypeId → Record
new_record d o = record { counts = d; errors = 0; equations = 0; output = o }

-- a made type, and the record with it
abbrev pub with_made : Record → Made → Given
with_made c r = record { «record» = with_counts c r.counts; ty = r.ty }

-- how many cells the nodes have
abbrev pub node_cells_lem : ℕ
node_cells_lem = 6144

-- k cells from the nodes' first on are 0
unfoldable pub cleared : List ℕ → ℕ → List ℕ
cleared m zero = m
cleared m (suc k) = set (cleared m k) (nodes_at + k) 0

-- What is lent to `check`, its answers with document 01's numbers and places, and the tables on 0. Definitions alone.
use Rattle.std.specs.Prelude.{List, Bool, ◌||◌, ℕ, ◌+◌, ◌-◌, length, drop, ltb}
use Rattle.std.proofs.Math.Option.{Option, none, some}
use Rattle.theory.specs.Rules.{Shape}
use Rattle.refs.specs.declared.Counts.{Counts}
use Rattle.body.specs.Body.{rows_length, cells_length, fault_number}
use Rattle.record.specs.Steps.{State}
use Rattle.tables.specs.Rows.{padded, zeros}
use Rattle.tables.specs.Nodes.{node_table}
use Rattle.tables.specs.Vars.{var_table}
use Rattle.tables.specs.Types.{type_table}
use Rattle.errors.specs.declared.ErrorRow.{ErrorRow}
use Rattle.errors.specs.Rows.{error_rows, padded_rows, zero_rows, row_in, filled_to}
use Rattle.tables.specs.Log.{log_table}
use Rattle.answers.specs.declared.Totals.{Totals}
use Rattle.answers.specs.declared.Answer.{Answer}
use Rattle.answers.specs.declared.Answer.TheVariants as answer

-- ── the lent tables ──

-- what is lent to `check`
pub record Lent : Type 0 where
  -- declarations and nodes, as the reader has them
  pub rows : List ℕ
  pub cells : List ℕ
  -- RAW, EXTRA and FINAL of each node
  pub nodes : List ℕ
  -- the variables
  pub vars : List ℕ
  -- the made types
  pub types : List ℕ
  -- the errors, one row each
  pub errors : List ErrorRow
  -- the equations, as far as it reaches
  pub log : List ℕ
  -- the working memory
  pub memory : List ℕ

-- these tables
abbrev pub lent : List ℕ → List ℕ → List ℕ → List ℕ → List ℕ → List ErrorRow → List ℕ → List ℕ → Lent
lent rows cells nodes vars types errors log memory = record { rows = rows; cells = cells; nodes = nodes; vars = vars; types = types; errors = errors; log = log; memory = memory }

-- every table zero throughout
unfoldable pub cleared : Lent → Lent
cleared l = lent (zeros l.rows) (zeros l.cells) (zeros l.nodes) (zeros l.vars) (zeros l.types) (zero_rows l.errors) (zeros l.log) (zeros l.memory)

-- the lengths: 1,024 nodes and 1,024 variables of six cells each
abbrev pub nodes_length : ℕ
nodes_length = 6144

abbrev pub vars_length : ℕ
vars_length = 6144

-- 4,096 made types of five cells, and 1,024 inputs of them
abbrev pub types_length : ℕ
types_length = 21504

-- 4,096 errors, a row each
abbrev pub errors_length : ℕ
errors_length = 4096

-- the memory of the walk, with 2,048 equations
abbrev pub memory_length : ℕ
memory_length = 86946

-- a lent table is below its length; the log may have any
unfoldable pub too_short : Lent → Bool
too_short l =
    ltb (length l.rows) rows_length
    || (ltb (length l.cells) cells_length
    || (ltb (length l.memory) memory_length
    || (ltb (length l.nodes) nodes_length
    || (ltb (length l.vars) vars_length
    || (ltb (length l.types) types_length
    || ltb (length l.errors) errors_length)))))

-- ── answers ──

-- document 01's number of an answer
abbrev pub answer_number : Answer → ℕ
answer_number (answer.Checked t) = 0
answer_number answer.TooLong = 1
answer_number answer.ShortTable = 2
answer_number (answer.Refused x l) = fault_number x
answer_number (answer.Declined k n) = k

-- PLACE: the line for 3 to 6, the node whose rule ran for 10 to 13, else `-`
abbrev pub answer_place : Answer → Option ℕ
answer_place (answer.Checked t) = none
answer_place answer.TooLong = none
answer_place answer.ShortTable = none
answer_place (answer.Refused x l) = some l
answer_place (answer.Declined k n) = some n.0

-- an answer with its number and its PLACE, and what is then in the tables
pub record Held : Type 0 where
  pub answer : Answer
  pub number : ℕ
  pub place : Option ℕ
  pub tables : Lent

abbrev pub held : Answer → Lent → Held
held a l = record { answer = a; number = answer_number a; place = answer_place a; tables = l }

-- ── a body that was read ──

-- the first made type: behind the fixed types and those of the file
abbrev pub first_made : Counts → ℕ
first_made n = 14 + n.types

-- the types that the walk made, in the state s
abbrev pub made_types : Counts → State → List Shape
made_types n s = drop (first_made n) s.rows

-- how many rows of each table are in use
abbrev pub totals : Counts → State → Totals
totals n s = record { declared = n; types = length s.rows - first_made n; vars = length s.kinds; errors = length s.errs; equations = length s.log }

-- the tables of a body that ends in the state s: used rows first, zeros behind; the working memory is zero
unfoldable pub filled : Counts → List ℕ → List ℕ → State → Lent → Lent
filled n rows cells s l =
    lent
    (padded (length l.rows) rows)
    (padded (length l.cells) cells)
    (padded (length l.nodes) (node_table s.own n.nodes))
    (padded (length l.vars) (var_table s))
    (type_table (length l.types) (made_types n s))
    (padded_rows (length l.errors) (error_rows s.errs))
    (padded (length l.log) (log_table (length l.log) s.log))
    (zeros l.memory)

-- ── the errors and the memory, behind the other tables ──

-- how many error rows are in use
abbrev pub errors_used : Answer → ℕ
errors_used (answer.Checked t) = t.errors
errors_used answer.TooLong = 0
errors_used answer.ShortTable = 0
errors_used (answer.Refused x l) = 0
errors_used (answer.Declined k n) = 0

-- how many of n rows are written: none on 1 and 2, which change no table
abbrev pub errors_end : Answer → ℕ → ℕ
errors_end (answer.Checked t) n = n
errors_end answer.TooLong n = 0
errors_end answer.ShortTable n = 0
errors_end (answer.Refused x l) n = n
errors_end (answer.Declined k n) r = r

-- the table of errors e, handed back from the memory m in which the walk ended
abbrev pub errors_handed : Answer → List ErrorRow → List ℕ → List ErrorRow
errors_handed a e m = filled_to e (row_in m (errors_used a)) (errors_end a (length e))

-- the memory m at the end: zero throughout, but on 1 and 2
abbrev pub memory_ended : Answer → List ℕ → List ℕ
memory_ended (answer.Checked t) m = zeros m
memory_ended answer.TooLong m = m
memory_ended answer.ShortTable m = m
memory_ended (answer.Refused x l) m = zeros m
memory_ended (answer.Declined k n) m = zeros m

-- the tables l with the errors e
abbrev pub lent_with : List ErrorRow → Lent → Lent
lent_with e l = lent l.rows l.cells l.nodes l.vars l.types e l.log l.memory

-- the tables u with the errors e handed back from their memory, and the memory at the end
abbrev pub handed_with : Answer → List ErrorRow → Lent → Lent
handed_with a e u = lent u.rows u.cells u.nodes u.vars u.types (errors_handed a e u.memory) u.log (memory_ended a u.memory)

-- every table but the errors and the memory zero throughout
unfoldable pub emptied : Lent → Lent
emptied l = lent (zeros l.rows) (zeros l.cells) (zeros l.nodes) (zeros l.vars) (zeros l.types) l.errors (zeros l.log) l.memory

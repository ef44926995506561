-- A body file: its lines one after the other, each a step over a state and the two tables of a body.
-- Assumes nothing.
use Rattle.std.specs.Prelude.{ℕ, zero, suc, ◌+◌, ◌*◌, ◌-◌, List, [], ◌∷◌, Bool, true, false, cond, leb, ltb, eqb, length, take, drop, replicate, Err, Ok, Result}
use Rattle.std.proofs.Math.Option.{Option, none, some}
use Rattle.std.proofs.lemmas.List.Edits.{sets}
use Rattle.lex.specs.Text.{parts_from, before}
use Rattle.forms.specs.declared.Fault.{Fault}
use Rattle.forms.specs.declared.Fault.TheVariants as fault
use Rattle.forms.specs.Form.{key_type, key_def, key_inst, key_bind, key_node, key_fn, key_of, form_at, parse_line, Laid, faulty, laid, lay}
use Rattle.refs.specs.declared.Counts.{Counts}
use Rattle.refs.specs.Refs.{types_at, defs_at, insts_at, binds_at, nodes_at, fn_at, form_fun, form_inst, form_fn, form_bool, form_path, form_in, first_in, value_in, Linked, unlinked, linked, refs_from, is_repeated}
use Rattle.body.specs.declared.State.{State}
use Rattle.body.specs.declared.Answer.{Answer}
use Rattle.body.specs.declared.Answer.TheVariants as answer

-- the most bytes of a file
abbrev pub most_bytes : ℕ
most_bytes = 65536

-- how many numbers the tables need: 1,921 rows of five and 31,572 fields of three
abbrev pub rows_length : ℕ
rows_length = 9605

abbrev pub cells_length : ℕ
cells_length = 94716

-- a file starts with no rows; any key may come
abbrev pub no_rows : Counts
no_rows = record { types = 0; defs = 0; insts = 0; binds = 0; nodes = 0; fields = 0 }

abbrev pub first : State
first = record { key = key_type; counts = no_rows; deep = false }

-- the keys come in order, and nothing behind `fn`
unfoldable pub in_order : ℕ → ℕ → Bool
in_order was k = cond (ltb k was) false (cond (eqb was key_fn) false (leb k key_fn))

-- how many rows a key may have
unfoldable pub limit_of : ℕ → ℕ
limit_of k =
    cond (eqb k key_type) 512
    (cond (eqb k key_def) 256 (cond (eqb k key_inst) 64 (cond (eqb k key_bind) 64 (cond (eqb k key_node) 1024 1))))

-- how many it has
unfoldable pub count_of : Counts → ℕ → ℕ
count_of n k =
    cond (eqb k key_type) n.types
    (cond (eqb k key_def) n.defs
    (cond (eqb k key_inst) n.insts (cond (eqb k key_bind) n.binds (cond (eqb k key_node) n.nodes 0))))

-- where its rows begin
unfoldable pub base_of : ℕ → ℕ
base_of k =
    cond (eqb k key_type) types_at
    (cond (eqb k key_def) defs_at
    (cond (eqb k key_inst) insts_at (cond (eqb k key_bind) binds_at (cond (eqb k key_node) nodes_at fn_at))))

-- one row more of the key k, with m fields
unfoldable pub counted : Counts → ℕ → ℕ → Counts
counted n k m = record {
  types = cond (eqb k key_type) (n.types + 1) n.types;
  defs = cond (eqb k key_def) (n.defs + 1) n.defs;
  insts = cond (eqb k key_inst) (n.insts + 1) n.insts;
  binds = cond (eqb k key_bind) (n.binds + 1) n.binds;
  nodes = cond (eqb k key_node) (n.nodes + 1) n.nodes;
  fields = n.fields + m;
}

-- a level more; 65 stands for all above 64
unfoldable pub deeper : ℕ → ℕ
deeper d = cond (ltb d 65) (d + 1) 65

-- the levels of a line of the form f over parts of d levels: a `fun` and a node are a level of their own
unfoldable pub levels_over : ℕ → ℕ → ℕ
levels_over f d = cond (eqb f form_fun) (deeper d) (cond (ltb f form_bool) d (cond (ltb form_path f) d (deeper d)))

-- more levels than a line of the key k may have: 4 of fun in fun, 64 of nodes
unfoldable pub is_deep : ℕ → ℕ → Bool
is_deep k d = cond (eqb k key_type) (ltb 4 d) (cond (eqb k key_node) (ltb 64 d) false)

-- the state behind a line of the key k with m fields and d levels
unfoldable pub advance : State → ℕ → ℕ → ℕ → State
advance st k m d = record { key = k; counts = counted st.counts k m; deep = cond st.deep true (is_deep k d) }

-- a line's row
unfoldable pub put_row : List ℕ → ℕ → ℕ → ℕ → ℕ → ℕ → List ℕ
put_row rows r f first count levels = sets rows (r * 5) (f ∷ first ∷ count ∷ levels ∷ [])

-- a type row that stands already
unfoldable pub repeats : ℕ → ℕ → ℕ → Counts → List ℕ → List ℕ → Bool
repeats k f m n cells rows = cond (eqb k key_type) (is_repeated n.types types_at rows cells f n.fields m) false

-- a step: a fault, or the next state and the tables
pub data Stepped : Type 0 where
  bad : Fault → Stepped
  next : State → List ℕ → List ℕ → Stepped

-- the row of a line whose references are right
unfoldable pub placed : State → ℕ → ℕ → ℕ → List ℕ → Linked → Stepped
placed st k f m cells (unlinked rows) = bad fault.Reference
placed st k f m cells (linked d rows) =
    next (advance st k m (levels_over f d)) cells
    (put_row rows (base_of k + count_of st.counts k) f st.counts.fields m (levels_over f d))

-- a line of the form f with m fields: 4 where its key has no more rows, 5 where it stands already or a reference is wrong
unfoldable pub judged : State → ℕ → ℕ → ℕ → List ℕ → List ℕ → Stepped
judged st k f m cells rows =
    cond (ltb (count_of st.counts k) (limit_of k))
    (cond (repeats k f m st.counts cells rows) (bad fault.Reference)
    (placed st k f m cells (refs_from m st.counts (form_at f) 0 st.counts.fields cells 0 rows)))
    (bad fault.Limit)

-- a line whose value was read
abbrev pub valued : State → ℕ → Laid → List ℕ → Stepped
valued st k (faulty x cells) rows = bad x
valued st k (laid f m cells) rows = judged st k f m cells rows

-- one line: its key, the value behind the first equals sign, and what the value gives
unfoldable pub step_of : List ℕ → State → List ℕ → List ℕ → Stepped
step_of l st cells rows =
    cond (ltb (before 61 l) (length l))
    (cond (in_order st.key (key_of (take (before 61 l) l)))
    (valued st (key_of (take (before 61 l) l)) (lay (parse_line (key_of (take (before 61 l) l)) (drop (before 61 l + 1) l)) cells st.counts.fields) rows)
    (bad fault.Form))
    (bad fault.Form)

-- a type row whose K or D the body does not have
unfoldable pub is_ahead : ℕ → Counts → List ℕ → List ℕ → Bool
is_ahead r n cells rows =
    cond (eqb (form_in rows r) form_inst) (leb n.insts (value_in cells (first_in rows r)))
    (cond (eqb (form_in rows r) form_fn) (leb n.defs (value_in cells (first_in rows r))) false)

-- the first such row of m from r on, r + m where there is none
unfoldable pub first_ahead : ℕ → ℕ → Counts → List ℕ → List ℕ → ℕ
first_ahead zero r n cells rows = r
first_ahead (suc m) r n cells rows = cond (is_ahead r n cells rows) r (first_ahead m (r + 1) n cells rows)

-- what a file is: a fault at a line, or a body
pub data Ended : Type 0 where
  refused : Fault → ℕ → Ended
  read : Counts → List ℕ → List ℕ → Ended

-- what is judged behind the last line, which is before the line l: that `fn` was there, then K and D of types, then levels
unfoldable pub finish_of : State → ℕ → List ℕ → List ℕ → Ended
finish_of st l cells rows =
    cond (eqb st.key key_fn)
    (cond (ltb (first_ahead st.counts.types 0 st.counts cells rows) st.counts.types)
    (refused fault.Reference (first_ahead st.counts.types 0 st.counts cells rows + 1))
    (cond st.deep (refused fault.Levels (l - 1)) (read st.counts cells rows)))
    (refused fault.Form l)

-- a fault, at the line l, or the lines that follow
abbrev pub proceed : Stepped → ℕ → (State → List ℕ → List ℕ → Ended) → Ended
proceed (bad x) l k = refused x l
proceed (next st cells rows) l k = k st cells rows

-- the lines of a file from the line l on; behind the last line feed nothing may stand
unfoldable pub lines_from : List (List ℕ) → ℕ → State → List ℕ → List ℕ → Ended
lines_from [] l st cells rows = refused fault.Form l
lines_from (s ∷ []) l st cells rows = cond (eqb (length s) 0) (finish_of st l cells rows) (refused fault.Form l)
lines_from (s ∷ t ∷ ts) l st cells rows = proceed (step_of s st cells rows) l (lines_from (t ∷ ts) (l + 1))

-- document 01's number of a fault
abbrev pub fault_number : Fault → ℕ
fault_number fault.Form = 3
fault_number fault.Limit = 4
fault_number fault.Reference = 5
fault_number fault.Levels = 6

-- document 01's number of an answer
abbrev pub answer_number : Answer → ℕ
answer_number (answer.Body n) = 0
answer_number answer.TooLong = 1
answer_number answer.ShortTable = 2
answer_number (answer.Refused x l) = fault_number x

-- PLACE: the line for 3 to 6, else `-`
abbrev pub answer_place : Answer → Option ℕ
answer_place (answer.Body n) = none
answer_place answer.TooLong = none
answer_place answer.ShortTable = none
answer_place (answer.Refused x l) = some l

-- an answer with its number and its PLACE, and the tables
pub record Held : Type 0 where
  pub answer : Answer
  pub number : ℕ
  pub place : Option ℕ
  pub rows : List ℕ
  pub cells : List ℕ

abbrev pub held : Answer → List ℕ → List ℕ → Held
held a rows cells = record { answer = a; number = answer_number a; place = answer_place a; rows = rows; cells = cells }

-- zeros in a table's place
abbrev pub zeros : List ℕ → List ℕ
zeros t = replicate (length t) 0

-- on a fault the tables are zero throughout
abbrev pub settle : Ended → List ℕ → List ℕ → Held
settle (refused x l) rows cells = held (answer.Refused x l) (zeros rows) (zeros cells)
settle (read n cells' rows') rows cells = held (answer.Body n) rows' cells'

-- a file and the tables lent for it: 1 and 2 change no table
unfoldable pub body_of : List ℕ → List ℕ → List ℕ → Held
body_of s rows cells =
    cond (ltb most_bytes (length s)) (held answer.TooLong rows cells)
    (cond (ltb (length rows) rows_length) (held answer.ShortTable rows cells)
    (cond (ltb (length cells) cells_length) (held answer.ShortTable rows cells)
    (settle (lines_from (parts_from 10 0 s) 1 first (zeros cells) (zeros rows)) rows cells)))

-- what a step's answer says with the tables
abbrev pub stepped : Result State Fault → List ℕ → List ℕ → Stepped
stepped (Err x) cells rows = bad x
stepped (Ok st) cells rows = next st cells rows

abbrev pub ended : Result Counts (Fault × ℕ) → List ℕ → List ℕ → Ended
ended (Err (x, l)) cells rows = refused x l
ended (Ok n) cells rows = read n cells rows

-- how many fields there are behind a step
abbrev pub fields_in : Result State Fault → ℕ
fields_in (Err x) = 0
fields_in (Ok st) = st.counts.fields

-- What the functions below `check` promise. Definitions alone.
use Rattle.std.specs.Prelude.{◌≡◌, List, ℕ, ◌≤◌, length, Err, Ok}
use Rattle.std.proofs.Math.Option.{none, some}
use Rattle.theory.specs.Program.{run}
use Rattle.refs.specs.declared.Counts.{Counts}
use Rattle.body.specs.declared.Answer.TheVariants as reading
use Rattle.body.specs.Body.{most_bytes, rows_length, cells_length}
use Rattle.body.specs.Body as body
use Rattle.record.specs.Own.{log_at}
use Rattle.resolve.specs.Resolve.{type_body}
use Rattle.resolve.specs.Body.{first_state, last_state, TypedBy}
use Rattle.well_formed.specs.Good.{WellFormed}
use Rattle.tables.specs.Rows.{padded}
use Rattle.errors.specs.declared.ErrorRow.{ErrorRow}
use Rattle.answers.specs.declared.Answer.{Answer}
use Rattle.answers.specs.declared.Answer.TheVariants as answer
use Rattle.record.specs.declared.Record.{Record}
use Rattle.checker.specs.declared.Ended.{Ended}
use Rattle.answers.specs.declared.Walked.{Walked}
use Rattle.answers.specs.declared.Walked.TheVariants as walked
use Rattle.answers.specs.Lent.{Lent, held, lent_with, handed_with}
use Rattle.checker.specs.Check.{reading_of, check_of}

-- the rules refuse, with the number k at the node p
abbrev pub Declining : Counts → List ℕ → List ℕ → ℕ → ℕ → Type 0
Declining n rows cells k p = ((run (type_body n rows cells) (first_state rows cells)).0 ≡ none) × ((last_state n rows cells).stop ≡ some (k, p))

-- by what typing gave: of a body of these counts and tables, in the memory m
abbrev pub ReadAs : Counts → List ℕ → List ℕ → Walked → List ℕ → Type 0
ReadAs n rows cells (walked.Typed k c) m = (k ≡ n) × TypedBy m (Ok c) n rows cells
ReadAs n rows cells (walked.Declined k c p) m = TypedBy m (Err (record { number = k; «record» = c; node = p })) n rows cells
ReadAs n rows cells (walked.Refused x k) m = ⊥
ReadAs n rows cells walked.Unread m = ⊥

-- a body that was read is typed, in a memory that is long enough
pub record WalkRead (n : Counts) (rows cells m : List ℕ) (w : Walked) (m' : List ℕ) : Type 0 where
  pub by : WellFormed n rows cells → log_at ≤ length m → ReadAs n rows cells w m'

-- by what reading and typing gave: of the file s, in these tables and the memory m
abbrev pub WalkedAs : List ℕ → Walked → List ℕ → List ℕ → List ℕ → Type 0
WalkedAs s (walked.Typed n c) rows cells m = (body.held (reading.Body n) rows cells ≡ reading_of s) × TypedBy m (Ok c) n rows cells
WalkedAs s (walked.Declined k c p) rows cells m = (n : Counts) × (body.held (reading.Body n) rows cells ≡ reading_of s) × TypedBy m (Err (record { number = k; «record» = c; node = p })) n rows cells
WalkedAs s (walked.Refused x k) rows cells m = (reading_of s).answer ≡ reading.Refused x k
WalkedAs s walked.Unread rows cells m = ⊥

-- a file of at most 65,536 bytes is read and typed, in tables of declarations of just their lengths and a memory that is long enough
pub record WalkedIn (s rows cells m : List ℕ) (w : Walked) (rows' cells' m' : List ℕ) : Type 0 where
  pub by : length s ≤ most_bytes → length rows ≡ rows_length → length cells ≡ cells_length → log_at ≤ length m → WalkedAs s w rows' cells' m'

-- by what reading and typing gave: of the file s, in the memory m, the tables of declarations being as said
abbrev pub FileAs : List ℕ → Walked → Type 0 → List ℕ → Type 0
FileAs s (walked.Typed n c) T m = ((reading_of s).answer ≡ reading.Body n) × T × TypedBy m (Ok c) n (reading_of s).rows (reading_of s).cells
FileAs s (walked.Declined x c p) T m = (n : Counts) × ((reading_of s).answer ≡ reading.Body n) × TypedBy m (Err (record { number = x; «record» = c; node = p })) n (reading_of s).rows (reading_of s).cells
FileAs s (walked.Refused x l) T m = (reading_of s).answer ≡ reading.Refused x l
FileAs s walked.Unread T m = ⊥

-- a file of at most 65,536 bytes is read and typed, in a table of rows of just its length, and a table of fields and a memory that are long enough
pub record CellsWalked (s rows cells m : List ℕ) (w : Walked) (rows' cells' m' : List ℕ) : Type 0 where
  pub by : length s ≤ most_bytes → length rows ≡ rows_length → cells_length ≤ length cells → log_at ≤ length m
      → FileAs s w ((rows' ≡ (reading_of s).rows) × (cells' ≡ padded (length cells) (reading_of s).cells)) m'

-- the same in tables that are long enough
pub record FileWalked (s rows cells m : List ℕ) (w : Walked) (rows' cells' m' : List ℕ) : Type 0 where
  pub by : length s ≤ most_bytes → rows_length ≤ length rows → cells_length ≤ length cells → log_at ≤ length m
      → FileAs s w ((rows' ≡ padded (length rows) (reading_of s).rows) × (cells' ≡ padded (length cells) (reading_of s).cells)) m'

-- a file is checked but for its errors, for which n rows are lent: with any such table, handed back from the memory, answer and tables are `check_of`
pub record TablesChecked (s : List ℕ) (n : ℕ) (l : Lent) (r : Answer) (u : Lent) : Type 0 where
  pub with_errors_lem : (e : List ErrorRow) → length e ≡ n → held r (handed_with r e u) ≡ check_of s (lent_with e l)

-- ── with the record of the walk ──

-- the record of a file that has no walk
abbrev pub no_record : Record
no_record = record { counts = record { types = 0; vars = 0; inputs = 0 }; errors = 0; equations = 0; output = record { 0 = 0 } }

-- the record with which a walk ended
abbrev pub record_of : Walked → Record
record_of (walked.Typed n c) = c
record_of (walked.Declined k c p) = c
record_of (walked.Refused x k) = no_record
record_of walked.Unread = no_record

-- by the answer to the file s: the memory m and the record c hold the state in which the walk ended, on 0 and on 10 to 13
abbrev pub EndedAs : List ℕ → Answer → Record → List ℕ → Type 0
EndedAs s (answer.Checked t) c m = (n : Counts) × ((reading_of s).answer ≡ reading.Body n) × TypedBy m (Ok c) n (reading_of s).rows (reading_of s).cells
EndedAs s answer.TooLong c m = Unit {0}
EndedAs s answer.ShortTable c m = Unit {0}
EndedAs s (answer.Refused x l) c m = Unit {0}
EndedAs s (answer.Declined k p) c m = (n : Counts) × ((reading_of s).answer ≡ reading.Body n) × TypedBy m (Err (record { number = k; «record» = c; node = p })) n (reading_of s).rows (reading_of s).cells

-- a file is checked but for its errors, and its walk ended with this record
pub record WalkChecked (s : List ℕ) (n : ℕ) (l : Lent) (r : Ended) (u : Lent) : Type 0 where
  pub tables : TablesChecked s n l r.answer u
  pub ended : EndedAs s r.answer r.record u.memory

-- What `check` answers and leaves in the lent tables, on every input bytes. Definitions alone.
use Rattle.std.specs.Prelude.{List, cond, ℕ, length, replicate, ltb}
use Rattle.std.proofs.Math.Option.{Option, none, some}
use Rattle.theory.specs.Rules.{Pair}
use Rattle.theory.specs.Program.{run}
use Rattle.refs.specs.declared.Counts.{Counts}
use Rattle.body.specs.declared.Answer.{Answer as Reading}
use Rattle.body.specs.declared.Answer.TheVariants as reading
use Rattle.body.specs.Body.{most_bytes, rows_length, cells_length, body_of, Held as Read}
use Rattle.record.specs.Steps.{State}
use Rattle.resolve.specs.Resolve.{type_body}
use Rattle.resolve.specs.Body.{first_state}
use Rattle.answers.specs.declared.Answer.{Answer}
use Rattle.answers.specs.declared.Answer.TheVariants as answer
use Rattle.answers.specs.Lent.{Lent, cleared, too_short, Held, held, totals, filled}

-- the refusal that ended a walk: its number, and the node whose rule ran
abbrev pub declined : Option Pair → Answer
declined none = answer.Declined 0 (record { 0 = 0 })
declined (some p) = answer.Declined p.0 (record { 0 = p.1 })

-- by how the walk ended, in the state s: 0, or 10 to 13
abbrev pub ended_by : Counts → List ℕ → List ℕ → Option (Unit {0}) → State → Lent → Held
ended_by n rows cells (some u) s l = held (answer.Checked (totals n s)) (filled n rows cells s l)
ended_by n rows cells none s l = held (declined s.stop) (cleared l)

-- a body of these counts and tables: the rules run on it
unfoldable pub typed : Counts → List ℕ → List ℕ → Lent → Held
typed n rows cells l = let r = run (type_body n rows cells) (first_state rows cells) in ended_by n rows cells r.0 r.1 l

-- ── a file ──

-- what the reader makes of the file s: its answer, and the tables of declarations and nodes
unfoldable pub reading_of : List ℕ → Read
reading_of s = body_of s (replicate rows_length 0) (replicate cells_length 0)

-- by what the reader answers; 1 and 2 are judged before
abbrev pub read_by : Reading → List ℕ → List ℕ → Lent → Held
read_by (reading.Body n) rows cells l = typed n rows cells l
read_by reading.TooLong rows cells l = held answer.TooLong l
read_by reading.ShortTable rows cells l = held answer.ShortTable l
read_by (reading.Refused x k) rows cells l = held (answer.Refused x k) (cleared l)

-- `check`: 1 over 65,536 bytes, 2 a lent table below its length, both change no table; then the file
unfoldable pub check_of : List ℕ → Lent → Held
check_of s l =
    cond (ltb most_bytes (length s)) (held answer.TooLong l)
    (cond (too_short l) (held answer.ShortTable l)
    (let h = reading_of s in read_by h.answer h.rows h.cells l))

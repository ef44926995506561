-- What `typereport` prints of the bytes that it read. Definitions alone.
use Rattle.std.specs.Prelude.{List, [], ◌++◌, ℕ, replicate, take, None, Option, Some}
use Rattle.lex.specs.Text.{text}
use Rattle.body.specs.Body.{rows_length, cells_length}
use Rattle.errors.specs.Rows.{zero_row}
use Rattle.answers.specs.Lent.{Lent, lent, nodes_length, vars_length, types_length, errors_length, memory_length}
use Rattle.output.specs.Output.{Output, newline, ended}
use Rattle.report_text.specs.declared.Reported.{Reported}
use Rattle.report_text.specs.declared.Reported.TheVariants.{Written, NoRoom}
use Rattle.report.specs.Report.{report_of}

-- the tables that are lent: zeros, each of its least length, and no log
unfoldable pub lent_tables : Lent
lent_tables = lent (replicate rows_length 0) (replicate cells_length 0) (replicate nodes_length 0) (replicate vars_length 0) (replicate types_length 0) (replicate errors_length zero_row) [] (replicate memory_length 0)

-- how many bytes are printed, and what is then in the output, whose first bytes they are
pub record Printed : Type 0 where
  pub count : ℕ
  pub output : List ℕ

abbrev pub printed : ℕ → List ℕ → Printed
printed n o = record { count = n; output = o }

-- the bytes that are printed
abbrev pub printed_bytes : Printed → List ℕ
printed_bytes p = take p.count p.output

-- the line that is printed on 9
abbrev pub nine_line : List ℕ
nine_line = text "answer=9,-" ++ newline

-- how many bytes a text has that ends so: none where it had no room
abbrev pub text_bytes : Option ℕ → ℕ
text_bytes (Some n) = n
text_bytes None = 0

-- a text that was written
abbrev pub printed_text : Output → Printed
printed_text e = printed (text_bytes e.ending) e.bytes

-- by what `report` answers, and the output that it leaves: its text, or on 9 the line of that over the first bytes; where that line has no room either, nothing
abbrev pub printed_by : Reported → List ℕ → Printed
printed_by (Written a n) o = printed n o
printed_by (NoRoom a) o = printed_text (ended nine_line o)

-- what is printed of the file s where the output o is lent
unfoldable pub printed_of : List ℕ → List ℕ → Printed
printed_of s o = let r = report_of s lent_tables o in printed_by r.answer r.output

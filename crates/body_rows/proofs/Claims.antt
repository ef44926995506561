-- What is claimed of the text of a body, one citation each. Each assumption is an argument of the statement.
-- The claims are stated with the definitions of Text: `Row`, `file_text` of rows, `body_rows` and `lookup_in`, `file_text_in` of tables, `WritableRows`; with
-- `parsed_lines` and `body_of_parsed` of ParsedLines, `row_parsed` of File, and `WellFormedRows` and `HasRows` of Rows. The contract of `write_body` in crate
-- `body_write` cites `file_text_in`.
use Rattle.std.specs.Prelude.{ℕ, ◌≤◌, ◌≡◌, List, map, length}
use Rattle.std.proofs.Common.{sym, ap, ◌∙◌}
use Rattle.refs.specs.declared.Counts.{Counts}
use Rattle.output.specs.Output.{ended}
use Rattle.body.specs.declared.Answer.TheVariants as answer
use Rattle.body.specs.Body.{most_bytes, rows_length, cells_length, Held, body_of}
use Rattle.body_rows.specs.Text.{Row, file_text, Lookup, body_rows, lookup_in, WritableRows}
use Rattle.body_rows.specs.ParsedLines.{parsed_lines, body_of_parsed}
use Rattle.body_rows.specs.ParsedLines as parsed
use Rattle.body_rows.specs.File.{row_parsed}
use Rattle.body_rows.proofs.File as file
use Rattle.body_rows.specs.Tables as tables
use Rattle.body_rows.proofs.Tables as proved_tables
use Rattle.body_rows.specs.Rows.{WellFormedRows, HasRows}
use Rattle.body_rows.proofs.Accepts as accepts
use Rattle.body_rows.proofs.Accepted as accepted
use Rattle.body_rows.specs.Claims as held

-- ── 1. to read a text is to run the rules of the reader on its parsed lines ──

-- of every text, with every answer: nothing counts of its bytes but how many they are and what its lines are parsed as
pub read_parsed : (s rows cells : List ℕ) → body_of s rows cells ≡ body_of_parsed (length s) (parsed_lines s) rows cells
read_parsed = parsed.file_parsed

-- the lines of the text of rows are parsed as the rows
pub rows_parsed : (rs : List Row) → WritableRows rs → parsed_lines (file_text rs) ≡ map row_parsed rs
rows_parsed = file.rows_parsed

-- so to read the text of rows is to run the rules on the rows
pub read_rows : (rs : List Row) → WritableRows rs → (rows cells : List ℕ)
    → body_of (file_text rs) rows cells ≡ body_of_parsed (length (file_text rs)) (map row_parsed rs) rows cells
read_rows = file.file_read

-- ── 2. a file that is answered 0, with the counts n ──

module _ (s rows cells : List ℕ) (n : Counts) (read : (body_of s rows cells).answer ≡ answer.Body n) where
  -- the answer to it, and what is then in the two tables lent for it
  abbrev result : Held
  result = held.result s rows cells n read

  -- the text of its tables
  abbrev written : List ℕ
  written = held.written s rows cells n read

  -- is the file, byte for byte;
  pub write_after_read : written ≡ s
  write_after_read = proved_tables.text_of_read s rows cells n read

  -- so an output over which it is written, where it has room, begins with the file,
  pub written_back : (out : List ℕ) → ended written out ≡ ended s out
  written_back out = ap (λ (t : List ℕ). ended t out) write_after_read

  -- and it is read as these tables, with this answer, whatever stands in the tables lent for it, where they are as long
  pub read_after_write : (rows' cells' : List ℕ) → length rows' ≡ length rows → length cells' ≡ length cells → body_of written rows' cells' ≡ result
  read_after_write rows' cells' p q =
      ap (λ (t : List ℕ). body_of t rows' cells') write_after_read ∙ tables.lent_same s rows cells n read rows' cells' p q

  -- no other file has these rows
  pub one_file : (t : List ℕ) (m : Counts) → (body_of t rows cells).answer ≡ answer.Body m
      → body_rows m (lookup_in (body_of t rows cells).rows (body_of t rows cells).cells) ≡ body_rows n (lookup_in result.rows result.cells) → t ≡ s
  one_file t m read' e = sym (proved_tables.rows_of_read t rows cells m read').file ∙ ap file_text e ∙ (proved_tables.rows_of_read s rows cells n read).file

  -- its rows are well-formed
  pub well_formed_on_0 : WellFormedRows n (lookup_in result.rows result.cells)
  well_formed_on_0 = accepted.accepted_well_formed s rows cells n read

-- ── 3. rows that come from no file ──

-- the text of well-formed rows, of at most 65,536 bytes, is answered 0 over tables that are long enough, and the tables have these rows
pub read_well_formed : (n : Counts) (look : Lookup) → WellFormedRows n look → (rows cells : List ℕ) → rows_length ≤ length rows → cells_length ≤ length cells
    → length (file_text (body_rows n look)) ≤ most_bytes
    → (n' : Counts) × ((body_of (file_text (body_rows n look)) rows cells).answer ≡ answer.Body n')
    × HasRows n look n' (body_of (file_text (body_rows n look)) rows cells).rows (body_of (file_text (body_rows n look)) rows cells).cells
read_well_formed = accepts.well_formed_read

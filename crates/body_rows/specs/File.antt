-- A body file as a list of rows: reading its text is running the reader's steps on the rows, and every file that is read is the text of such a list.
-- Assumes nothing.
use Rattle.std.specs.Prelude.{ℕ, ◌<◌, ◌≤◌, ◌≡◌, refl, List, [], ◌∷◌, map, length}
use Rattle.std.proofs.Common.{arith, le-leb}
use Rattle.lex.specs.Text.{before, split, parts_from}
use Rattle.forms.specs.Form.{parsed}
use Rattle.refs.specs.declared.Counts.{Counts}
use Rattle.body.specs.declared.State.{State}
use Rattle.body.specs.Body.{most_bytes, rows_length, cells_length, first, Stepped, Ended, read, Held, zeros}
use Rattle.body_rows.specs.Text.{Row, row, key_at, line_text, file_text, WritableRow, WritableRows}
use Rattle.body_rows.specs.ParsedLines.{ParsedLine, keyed, parsed_line, parsed_parts, step_parsed, parsed_from}

-- ── definitions ──

-- the parsed line of a row
unfoldable pub row_parsed : Row → ParsedLine
row_parsed r = keyed (key_at r.form) (parsed r.form r.cells)

-- the rules of the reader on a row
abbrev pub step_row : Row → State → List ℕ → List ℕ → Stepped
step_row r = step_parsed (row_parsed r)

-- and on rows from the line l on
abbrev pub rows_from : List Row → ℕ → State → List ℕ → List ℕ → Ended
rows_from rs = parsed_from (map row_parsed rs)

-- ── written, then read ──

-- a part before others
pub parts_more : (s : List ℕ) (ss : List (List ℕ)) → 0 < length ss → parsed_parts (s ∷ ss) ≡ parsed_line s ∷ parsed_parts ss
unfolding parsed_parts
parts_more s [] h = absurd (omega arith)
parts_more s (t ∷ ts) h = refl

-- the parts of a file are those of its bytes
pub parts_all : (s : List ℕ) → parts_from 10 0 s ≡ split 10 s
unfolding parts_from
parts_all s = rw (le-leb 0 (length s) (omega arith))

-- ── read, then written ──

-- the line s is the row r, whose step is x
pub record LineIs (s : List ℕ) (r : Row) (st : State) (cells rows : List ℕ) (x : Stepped) : Type 0 where
  pub writable : WritableRow r
  pub line : line_text r ≡ s
  pub step : step_row r st cells rows ≡ x

-- rows that end in x, whose text is s
pub record RowsAre (s : List ℕ) (rs : List Row) (l : ℕ) (st : State) (cells rows : List ℕ) (x : Ended) : Type 0 where
  pub writable : WritableRows rs
  pub file : file_text rs ≡ s
  pub ends : rows_from rs l st cells rows ≡ x

-- a file that is read is the text of rows, and its tables are those of the rows
pub record FileIs (s : List ℕ) (rs : List Row) (n : Counts) (cells rows : List ℕ) (h : Held) : Type 0 where
  pub writable : WritableRows rs
  pub file : file_text rs ≡ s
  pub ends : rows_from rs 1 first (zeros cells) (zeros rows) ≡ read n h.cells h.rows
  pub short : length s ≤ most_bytes
  pub rows_long : rows_length ≤ length rows
  pub cells_long : cells_length ≤ length cells

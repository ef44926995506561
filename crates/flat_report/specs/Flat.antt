-- Rows of errors as numbers, nine for each, and the report over them. Definitions alone.
use Rattle.std.specs.Prelude.{◌≡◌, List, [], ◌∷◌, ℕ, zero, suc, ◌+◌, ◌*◌, ◌/◌, length, replicate}
use Rattle.std.proofs.lemmas.List.Edits.{sets}
use Rattle.type_table.specs.Memory.{cell}
use Rattle.errors.specs.declared.ErrorRow.{ErrorRow}
use Rattle.errors.specs.Rows.{zero_row, row_at, filled_to}
use Rattle.answers.specs.Lent.{lent}
use Rattle.report_text.specs.declared.Reported.{Reported}
use Rattle.report.specs.Report.{told, report_of}

-- the row i of a list of numbers
unfoldable pub row_from : List ℕ → ℕ → ErrorRow
row_from t i = record {
  kind = cell t (i * 9);
  cause = cell t (i * 9 + 1);
  span = cell t (i * 9 + 2);
  at = cell t (i * 9 + 3);
  between = cell t (i * 9 + 4);
  second = cell t (i * 9 + 5);
  a = cell t (i * 9 + 6);
  b = cell t (i * 9 + 7);
  c = cell t (i * 9 + 8);
}

-- the numbers of a row
abbrev pub row_numbers : ErrorRow → List ℕ
row_numbers r = r.kind ∷ r.cause ∷ r.span ∷ r.at ∷ r.between ∷ r.second ∷ r.a ∷ r.b ∷ r.c ∷ []

-- the first n rows of a list of numbers
unfoldable pub rows_from : List ℕ → ℕ → List ErrorRow
rows_from t n = filled_to (replicate n zero_row) (row_from t) n

-- how many whole rows n numbers are
abbrev pub rows_in : ℕ → ℕ
rows_in n = n / 9

-- the numbers t with the first n rows written over them
unfoldable pub put_rows : List ℕ → (ℕ → ErrorRow) → ℕ → List ℕ
put_rows t f zero = t
put_rows t f (suc i) = sets (put_rows t f i) (i * 9) (row_numbers (f i))

-- `report_flat`: answer, tables and output are those of `report` with the rows that the numbers stand for, and its last rows are written over the numbers
pub record Flat (s rows cells nodes vars types errors log memory out : List ℕ) (r : Reported) (rows' cells' nodes' vars' types' errors' log' memory' out' : List ℕ) : Type 0 where
  -- the last rows
  pub last : List ErrorRow
  pub stands : told r (lent rows' cells' nodes' vars' types' last log' memory') out' ≡ report_of s (lent rows cells nodes vars types (rows_from errors (rows_in (length errors))) log memory) out
  pub written : errors' ≡ put_rows errors (row_at last) (rows_in (length errors))

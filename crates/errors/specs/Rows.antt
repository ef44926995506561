-- The lent table of errors: one row per error, in order, zeros behind. Definitions alone.
use Rattle.std.specs.Prelude.{List, [], ◌∷◌, ◌++◌, ℕ, zero, suc, ◌-◌, length, replicate, set, get_or, ltb}
use Rattle.type_table.specs.Memory.{pick}
use Rattle.record.specs.declared.TypingError.{TypingError}
use Rattle.record.specs.Own.{kind_number, kind_at, span_tag, span_value, span_of, second_tag, second_value, second_of, error_at}
use Rattle.errors.specs.declared.ErrorRow.{ErrorRow}

-- ── rows ──

-- a row of zeros
abbrev pub zero_row : ErrorRow
zero_row = record { kind = 0; cause = 0; span = 0; at = 0; between = 0; second = 0; a = 0; b = 0; c = 0 }

-- the row of an error: KIND, CAUSE, P's tag and number, Q's flag and number, the values
unfoldable pub row_of : TypingError → ErrorRow
row_of e = record { kind = kind_number e.kind; cause = e.cause; span = span_tag e.at; at = span_value e.at; between = second_tag e.second; second = second_value e.second; a = e.a; b = e.b; c = e.c }

-- the error that a row stands for
unfoldable pub error_of : ErrorRow → TypingError
error_of r = record { kind = kind_at r.kind; cause = r.cause; at = span_of r.span r.at; second = second_of r.between r.second; a = r.a; b = r.b; c = r.c }

-- the row i of a table; zeros past its end
abbrev pub row_at : List ErrorRow → ℕ → ErrorRow
row_at t i = get_or t i zero_row

-- ── tables ──

-- the rows of the errors, which stand newest first: the oldest is written first
unfoldable pub error_rows : List TypingError → List ErrorRow
error_rows [] = []
error_rows (e ∷ l) = error_rows l ++ (row_of e ∷ [])

-- these rows, and zeros behind them up to n
abbrev pub padded_rows : ℕ → List ErrorRow → List ErrorRow
padded_rows n t = t ++ replicate (n - length t) zero_row

-- a row of zeros for each row
abbrev pub zero_rows : List ErrorRow → List ErrorRow
zero_rows t = replicate (length t) zero_row

-- ── what the code does ──

-- the row i of a memory with n errors; zeros past the last
unfoldable pub row_in : List ℕ → ℕ → ℕ → ErrorRow
row_in m n i = pick (ltb i n) (row_of (error_at m i)) zero_row

-- a table whose first k rows become those of f
unfoldable pub filled_to : List ErrorRow → (ℕ → ErrorRow) → ℕ → List ErrorRow
filled_to t f zero = t
filled_to t f (suc k) = set (filled_to t f k) k (f k)

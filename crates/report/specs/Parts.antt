-- What the functions below `report` promise. Definitions alone.
use Rattle.std.specs.Prelude.{◌≡◌, List, ℕ, length}
use Rattle.errors.specs.declared.ErrorRow.{ErrorRow}
use Rattle.answers.specs.Lent.{Lent, lent_with, handed_with}
use Rattle.report_text.specs.declared.Reported.{Reported}
use Rattle.report_text.specs.Written.{checked_answer}
use Rattle.report.specs.Report.{told, report_of}

-- a file is checked and reported but for its table of errors, for which n rows are lent: with any such table, handed back from the memory, answer, tables and
-- output are `report_of`
pub record TablesReported (s : List ℕ) (n : ℕ) (l : Lent) (o : List ℕ) (r : Reported) (u : Lent) (x : List ℕ) : Type 0 where
  pub with_errors_lem : (e : List ErrorRow) → length e ≡ n → told r (handed_with (checked_answer r) e u) x ≡ report_of s (lent_with e l) o

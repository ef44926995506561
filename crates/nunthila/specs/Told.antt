-- What the exported functions answer, leave in the lent tables and tell, on every input bytes. Definitions alone.
use Rattle.std.specs.Prelude.{List, ℕ}
use Rattle.std.proofs.lemmas.List.Edits.{sets}
use Rattle.answers.specs.Lent.{Lent}
use Rattle.checker.specs.Check.{check_of}
use Rattle.report_text.specs.Written.{checked_answer}
use Rattle.report.specs.Report.{report_of}
use Rattle.told.specs.Numbers.{told_numbers, text_length}
use Rattle.conflict_set.specs.declared.Sought.{Sought}
use Rattle.conflict_set.specs.declared.Sought.TheVariants.{Minimal, Shortest}
use Rattle.conflict_check.specs.Quarrel.{quarrel_of}
use Rattle.conflict_told.specs.Numbers.{lines_of, quarrel_numbers}

-- what is answered, what is then in the tables, and what is told
pub record Checked : Type 0 where
  pub number : ℕ
  pub tables : Lent
  pub told : List ℕ

abbrev pub checked : ℕ → Lent → List ℕ → Checked
checked k l t = record { number = k; tables = l; told = t }

-- `nunthila_check`: document 01's number, the tables of `check`, and the numbers of its answer
unfoldable pub check_told : List ℕ → Lent → List ℕ → Checked
check_told s l t = checked (check_of s l).number (check_of s l).tables (sets t 0 (told_numbers (check_of s l).answer 0))

-- the same with an output
pub record Reporting : Type 0 where
  pub number : ℕ
  pub tables : Lent
  pub output : List ℕ
  pub told : List ℕ

abbrev pub reporting : ℕ → Lent → List ℕ → List ℕ → Reporting
reporting k l o t = record { number = k; tables = l; output = o; told = t }

-- `nunthila_report`: document 01's number, tables and output of `report`, and the numbers of its answer
unfoldable pub report_told : List ℕ → Lent → List ℕ → List ℕ → Reporting
report_told s l o t =
    reporting (report_of s l o).number (report_of s l o).tables (report_of s l o).output
    (sets t 0 (told_numbers (checked_answer (report_of s l o).answer) (text_length (report_of s l o).answer)))

-- the papers' number, tables and output of `quarrel`, and the numbers of its answer
unfoldable pub sought_told : List ℕ → Sought → Lent → List ℕ → List ℕ → Reporting
sought_told s q l o t =
    let h = quarrel_of s q l o in
    reporting h.number h.tables h.output (sets t 0 (quarrel_numbers h.answer))

-- `nunthila_quarrel`: of the minimal conflict, with lines by a number
abbrev pub quarrel_told : List ℕ → ℕ → Lent → List ℕ → List ℕ → Reporting
quarrel_told s n l o t = sought_told s (Minimal (lines_of n)) l o t

-- `nunthila_shortest`: of a shortest one, with b subsets that may be tested
abbrev pub shortest_told : List ℕ → ℕ → ℕ → Lent → List ℕ → List ℕ → Reporting
shortest_told s n b l o t = sought_told s (Shortest (lines_of n) b) l o t

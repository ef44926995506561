-- What `report` answers, leaves in the lent tables and writes into the lent output, on every input bytes. Definitions alone.
use Rattle.std.specs.Prelude.{List, ◌++◌, cond, ℕ, length, drop, ltb}
use Rattle.std.proofs.Math.Option.{Option}
use Rattle.errors.specs.Rows.{row_at}
use Rattle.answers.specs.Lent.{Lent}
use Rattle.checker.specs.Check.{check_of}
use Rattle.output.specs.Output.{zeros}
use Rattle.report_text.specs.declared.Reported.{Reported}
use Rattle.report_text.specs.declared.Reported.TheVariants.{Written, NoRoom}
use Rattle.report_text.specs.Written.{text_of, report_number, report_place}

-- an answer with its number and its PLACE, and what is then in the tables and in the output
pub record Told : Type 0 where
  pub answer : Reported
  pub number : ℕ
  pub place : Option ℕ
  pub tables : Lent
  pub output : List ℕ

abbrev pub told : Reported → Lent → List ℕ → Told
told r l o = record { answer = r; number = report_number r; place = report_place r; tables = l; output = o }

-- the report of the file s with the tables l
unfoldable pub report_text : List ℕ → Lent → List ℕ
report_text s l = let h = check_of s l in text_of h.answer h.tables.nodes h.tables.vars h.tables.types (row_at h.tables.errors)

-- `report`: the text over the first bytes of the output, those after it unchanged; 9 where it has no room, and zeros throughout. The tables are as
-- `check` leaves them, with room and without
unfoldable pub report_of : List ℕ → Lent → List ℕ → Told
report_of s l o =
    let h = check_of s l in
    let t = report_text s l in
    cond (ltb (length o) (length t))
    (told (NoRoom h.answer) h.tables (zeros o))
    (told (Written h.answer (length t)) h.tables (t ++ drop (length t) o))

-- What `quarrel` answers, leaves in the lent tables and writes into the lent output, on every input bytes. Definitions alone.
use Rattle.std.specs.Prelude.{List, Bool, true, false, ℕ, eqb}
use Rattle.std.proofs.Math.Option.{Option, none}
use Rattle.answers.specs.declared.Answer.{Answer}
use Rattle.answers.specs.declared.Answer.TheVariants as answer
use Rattle.answers.specs.Lent.{Lent, answer_number, answer_place}
use Rattle.checker.specs.Check.{check_of}
use Rattle.checker.specs.File.{equations_of, types_of, kinds_of}
use Rattle.output.specs.Output.{zeros}
use Rattle.conflict_set.specs.declared.Sought.{Sought}
use Rattle.conflict_set.specs.declared.Outcome.{Outcome}
use Rattle.conflict_set.specs.declared.Outcome.TheVariants as outcome
use Rattle.conflict_set.specs.Text.{text_of, told_of}
use Rattle.conflict_check.specs.declared.Quarreled.{Quarreled}
use Rattle.conflict_check.specs.declared.Quarreled.TheVariants.{Refused, Written, Nothing, NoRoom}

-- ── answers ──

-- Check's answer
abbrev pub checked_answer : Quarreled → Answer
checked_answer (Refused a) = a
checked_answer (Written a n) = a
checked_answer (Nothing a) = a
checked_answer (NoRoom a) = a

-- the papers' number: Check's own other than 12, 0, 14 or 9
abbrev pub quarrel_number : Quarreled → ℕ
quarrel_number (Refused a) = answer_number a
quarrel_number (Written a n) = 0
quarrel_number (Nothing a) = 14
quarrel_number (NoRoom a) = 9

-- PLACE: Check's own, else `-`
abbrev pub quarrel_place : Quarreled → Option ℕ
quarrel_place (Refused a) = answer_place a
quarrel_place (Written a n) = none
quarrel_place (Nothing a) = none
quarrel_place (NoRoom a) = none

-- f) goes on behind Check's answer: it is 0 or 12
abbrev pub is_open : Answer → Bool
is_open (answer.Checked t) = true
is_open answer.TooLong = false
is_open answer.ShortTable = false
is_open (answer.Refused x l) = false
is_open (answer.Declined k p) = eqb k 12

-- the answer behind Check's, by what came of the equations
abbrev pub quarreled_by : Answer → Outcome → Quarreled
quarreled_by a (outcome.Written n) = Written a n
quarreled_by a outcome.Nothing = Nothing a
quarreled_by a outcome.NoRoom = NoRoom a

-- what is answered, and what is then in the output
pub record Said : Type 0 where
  pub answer : Quarreled
  pub output : List ℕ

abbrev pub said : Quarreled → List ℕ → Said
said r o = record { answer = r; output = o }

-- behind Check's answer a, with f)'s text or none (14), into the output o: zeros throughout on any refusal, 9 last
abbrev pub said_by : Bool → Answer → Option (List ℕ) → List ℕ → Said
said_by true a t o = said (quarreled_by a (told_of t o).answer) (told_of t o).bytes
said_by false a t o = said (Refused a) (zeros o)

-- ── of a file ──

-- an answer with its number and its PLACE, and what is then in the tables and in the output
pub record Told : Type 0 where
  pub answer : Quarreled
  pub number : ℕ
  pub place : Option ℕ
  pub tables : Lent
  pub output : List ℕ

abbrev pub told : Quarreled → Lent → List ℕ → Told
told r l o = record { answer = r; number = quarrel_number r; place = quarrel_place r; tables = l; output = o }

-- f)'s text of the file s; none is refusal 14
abbrev pub quarrel_text : Sought → List ℕ → Option (List ℕ)
quarrel_text sought s = text_of sought (types_of s) (kinds_of s) (equations_of s)

-- `quarrel`: Check's own refusals other than 12, then 14, then 9; the tables are as `check` leaves them
unfoldable pub quarrel_of : List ℕ → Sought → Lent → List ℕ → Told
quarrel_of s sought l o =
    let h = check_of s l in
    let w = said_by (is_open h.answer) h.answer (quarrel_text sought s) o in
    told w.answer h.tables w.output

-- The report of an answer and its tables, and what it is to write it into a lent output. Definitions alone.
use Rattle.std.specs.Prelude.{List, [], ◌++◌, cond, ℕ, length, drop, ltb}
use Rattle.std.proofs.Math.Option.{Option, none}
use Rattle.errors.specs.declared.ErrorRow.{ErrorRow}
use Rattle.answers.specs.declared.Answer.{Answer}
use Rattle.answers.specs.declared.Answer.TheVariants as answer
use Rattle.answers.specs.Lent.{answer_number, answer_place}
use Rattle.output.specs.Output.{zeros}
use Rattle.report_text.specs.Lines.{answer_line, tables_text}
use Rattle.report_text.specs.declared.Reported.{Reported}
use Rattle.report_text.specs.declared.Reported.TheVariants.{Written, NoRoom}

-- ── the text ──

-- the lines behind the first: those of the tables on 0, none for a refusal
abbrev pub behind_answer : Answer → List ℕ → List ℕ → List ℕ → (ℕ → ErrorRow) → List ℕ
behind_answer (answer.Checked n) nodes vars types errors = tables_text n.types n.vars n.declared.nodes n.errors nodes vars types errors
behind_answer answer.TooLong nodes vars types errors = []
behind_answer answer.ShortTable nodes vars types errors = []
behind_answer (answer.Refused x l) nodes vars types errors = []
behind_answer (answer.Declined k n) nodes vars types errors = []

-- the report of an answer with these tables and rows of errors: the `answer` line, and what stands behind it
unfoldable pub text_of : Answer → List ℕ → List ℕ → List ℕ → (ℕ → ErrorRow) → List ℕ
text_of a nodes vars types errors = answer_line (answer_number a) (answer_place a) ++ behind_answer a nodes vars types errors

-- ── the answer ──

-- the answer of the check that is reported
abbrev pub checked_answer : Reported → Answer
checked_answer (Written a n) = a
checked_answer (NoRoom a) = a

-- document 01's number: Check's own, or 9
abbrev pub report_number : Reported → ℕ
report_number (Written a n) = answer_number a
report_number (NoRoom a) = 9

-- PLACE: Check's own, `-` for 9
abbrev pub report_place : Reported → Option ℕ
report_place (Written a n) = answer_place a
report_place (NoRoom a) = none

-- what is answered, and what is then in the output
pub record Said : Type 0 where
  pub answer : Reported
  pub output : List ℕ

abbrev pub said : Reported → List ℕ → Said
said r o = record { answer = r; output = o }

-- the text t of the answer a into the output o: bytes after the text are unchanged; 9 where it is too short, and zeros throughout
unfoldable pub written : Answer → List ℕ → List ℕ → Said
written a t o = cond (ltb (length o) (length t)) (said (NoRoom a) (zeros o)) (said (Written a (length t)) (t ++ drop (length t) o))

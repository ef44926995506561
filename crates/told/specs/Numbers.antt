-- The numbers in which an answer is told. Definitions alone.
use Rattle.std.specs.Prelude.{List, ◌∷◌, [], ◌++◌, ℕ}
use Rattle.std.proofs.Math.Option.{Option, none, some}
use Rattle.answers.specs.declared.Totals.{Totals}
use Rattle.answers.specs.declared.Answer.{Answer}
use Rattle.answers.specs.declared.Answer.TheVariants as answer
use Rattle.answers.specs.Lent.{answer_number, answer_place}
use Rattle.report_text.specs.declared.Reported.{Reported}
use Rattle.report_text.specs.declared.Reported.TheVariants.{Written, NoRoom}

-- whether there is a place, and the place; 0 where there is none
abbrev pub place_numbers : Option ℕ → List ℕ
place_numbers none = 0 ∷ 0 ∷ []
place_numbers (some p) = 1 ∷ p ∷ []

-- how many rows of each table are in use: those of the file, its fields, and those that the walk made
abbrev pub total_numbers : Totals → List ℕ
total_numbers t =
    t.declared.types ∷ t.declared.defs ∷ t.declared.insts ∷ t.declared.binds ∷ t.declared.nodes ∷ t.declared.fields
    ∷ t.types ∷ t.vars ∷ t.errors ∷ t.equations ∷ []

-- those of a refusal
abbrev pub no_totals : Totals
no_totals = record { declared = record { types = 0; defs = 0; insts = 0; binds = 0; nodes = 0; fields = 0 }; types = 0; vars = 0; errors = 0; equations = 0 }

-- those of an answer
abbrev pub totals_of : Answer → Totals
totals_of (answer.Checked t) = t
totals_of answer.TooLong = no_totals
totals_of answer.ShortTable = no_totals
totals_of (answer.Refused x l) = no_totals
totals_of (answer.Declined k n) = no_totals

-- the fourteen numbers that are told: Check's answer and its place, the counts, and the bytes of the text
abbrev pub told_numbers : Answer → ℕ → List ℕ
told_numbers a n = answer_number a ∷ place_numbers (answer_place a) ++ total_numbers (totals_of a) ++ n ∷ []

-- those of a tool's own answer k, which has no place: Check's counts, and the bytes of the text
abbrev pub own_numbers : ℕ → Answer → ℕ → List ℕ
own_numbers k a n = k ∷ place_numbers none ++ total_numbers (totals_of a) ++ n ∷ []

-- how many bytes the text of a report has; none where it had no room
abbrev pub text_length : Reported → ℕ
text_length (Written a n) = n
text_length (NoRoom a) = 0

-- a number that is answered, and what is told
pub record NumberTold : Type 0 where
  pub number : ℕ
  pub told : List ℕ

abbrev pub number_told : ℕ → List ℕ → NumberTold
number_told k t = record { number = k; told = t }

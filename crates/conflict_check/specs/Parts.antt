-- What the functions below `quarrel` promise. Definitions alone.
use Rattle.std.specs.Prelude.{◌≡◌, List, Bool, true, false, ℕ, ◌≤◌, length}
use Rattle.record.specs.declared.Record.{Record}
use Rattle.errors.specs.declared.ErrorRow.{ErrorRow}
use Rattle.answers.specs.declared.Answer.{Answer}
use Rattle.answers.specs.Lent.{Lent, lent_with, handed_with}
use Rattle.output.specs.Output.{zeros}
use Rattle.conflict_set.specs.declared.Sought.{Sought}
use Rattle.conflict_set.specs.In.{Whole, Kept}
use Rattle.conflict_set.specs.Text.{conflict_text}
use Rattle.conflict_check.specs.declared.Quarreled.{Quarreled}
use Rattle.conflict_check.specs.declared.Quarreled.TheVariants.{Refused}
use Rattle.conflict_check.specs.Quarrel.{checked_answer, is_open, said, said_by, told, quarrel_of}

-- Check's own refusal
pub record Refuses (a : Answer) (x : List ℕ) (r : Quarreled) (y : List ℕ) : Type 0 where
  pub by : said r y ≡ said (Refused a) (zeros x)

-- over the memory m of a walk with the record c, which becomes w
pub record Finds (a : Answer) (c : Record) (sought : Sought) (m x w : List ℕ) (r : Quarreled) (y : List ℕ) : Type 0 where
  pub by : Whole m c.counts → c.equations ≤ 2048 → Kept m c.counts w × (said r y ≡ said_by true a (conflict_text m c.counts c.equations sought) x)

-- by whether f) goes on
abbrev pub ConflictIf : Bool → Answer → Record → Sought → List ℕ → List ℕ → List ℕ → Quarreled → List ℕ → Type 0
ConflictIf true a c sought m x w r y = Finds a c sought m x w r y
ConflictIf false a c sought m x w r y = Refuses a x r y × (w ≡ m)

-- by Check's answer
pub record ConflictAs (a : Answer) (c : Record) (sought : Sought) (m x w : List ℕ) (r : Quarreled) (y : List ℕ) : Type 0 where
  pub by : ConflictIf (is_open a) a c sought m x w r y

-- a file is checked and its minimal conflict written but for its table of errors, for which n rows are lent: with any such table, handed back from the memory, answer,
-- tables and output are `quarrel_of`
pub record TablesQuarreled (s : List ℕ) (n : ℕ) (sought : Sought) (l : Lent) (x : List ℕ) (r : Quarreled) (u : Lent) (y : List ℕ) : Type 0 where
  pub with_errors_lem : (e : List ErrorRow) → length e ≡ n → told r (handed_with (checked_answer r) e u) y ≡ quarrel_of s sought (lent_with e l) x

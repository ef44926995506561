-- What a body file raises by itself, whatever is lent to `check`: its equations and the states in which it raises them, its types, variables and errors. Definitions alone.
use Rattle.std.specs.Prelude.{List, [], ℕ}
use Rattle.std.proofs.Math.Option.{Option, none, some}
use Rattle.theory.specs.Rules.{Shape, Kind}
use Rattle.theory.specs.Program.{Equation}
use Rattle.type_table.specs.Sound.{fixed_types}
use Rattle.body.specs.declared.Answer.{Answer as Reading}
use Rattle.body.specs.declared.Answer.TheVariants as reading
use Rattle.record.specs.declared.TypingError.{TypingError}
use Rattle.record.specs.Steps.{State}
use Rattle.resolve.specs.Resolve.{type_body}
use Rattle.resolve.specs.Body.{first_state, last_state}
use Rattle.bounds.specs.Ended.{raised_in}
use Rattle.checker.specs.Check.{reading_of}

-- the state in which the walk ends; a file that is declined before it has none
abbrev pub state_by : Reading → List ℕ → List ℕ → Option State
state_by (reading.Body n) rows cells = some (last_state n rows cells)
state_by reading.TooLong rows cells = none
state_by reading.ShortTable rows cells = none
state_by (reading.Refused x k) rows cells = none

-- the state in which the walk of the file s ends
unfoldable pub state_of : List ℕ → Option State
state_of s = let h = reading_of s in state_by h.answer h.rows h.cells

-- the equations of a state, the newest first
abbrev pub equations_in : Option State → List Equation
equations_in none = []
equations_in (some t) = t.log

-- its types
abbrev pub types_in : Option State → List Shape
types_in none = fixed_types
types_in (some t) = t.rows

-- the kinds of its variables
abbrev pub kinds_in : Option State → List Kind
kinds_in none = []
kinds_in (some t) = t.kinds

-- its errors, the newest first
abbrev pub errors_in : Option State → List TypingError
errors_in none = []
errors_in (some t) = t.errs

-- the states in which a walk raises its equations, the newest first
abbrev pub raised_by : Reading → List ℕ → List ℕ → List State
raised_by (reading.Body n) rows cells = raised_in (type_body n rows cells) (first_state rows cells) []
raised_by reading.TooLong rows cells = []
raised_by reading.ShortTable rows cells = []
raised_by (reading.Refused x k) rows cells = []

-- "A body's equations are those its walk raises under these rules, in order": the newest first
abbrev pub equations_of : List ℕ → List Equation
equations_of s = equations_in (state_of s)

-- its types, fixed, declared and made
abbrev pub types_of : List ℕ → List Shape
types_of s = types_in (state_of s)

-- the kinds of the variables that the walk draws
abbrev pub kinds_of : List ℕ → List Kind
kinds_of s = kinds_in (state_of s)

-- the errors that the rules find, the newest first
abbrev pub errors_of : List ℕ → List TypingError
errors_of s = errors_in (state_of s)

-- the states in which the walk of the file s raises its equations, the newest first
unfoldable pub raised_of : List ℕ → List State
raised_of s = let h = reading_of s in raised_by h.answer h.rows h.cells

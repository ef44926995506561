-- What it is to type a body that was read, over a lent memory. Definitions alone.
use Rattle.std.specs.Prelude.{◌≡◌, List, ℕ, ◌≤◌, length, Err, Ok, Result}
use Rattle.std.proofs.Math.Option.{none, some}
use Rattle.theory.specs.Program.{run}
use Rattle.theory.specs.Start.{start}
use Rattle.type_table.specs.Sound.{fixed_types}
use Rattle.refs.specs.declared.Counts.{Counts}
use Rattle.nodes.specs.Nodes.{fn_line}
use Rattle.record.specs.Own.{log_at, blank}
use Rattle.record.specs.Steps.{State}
use Rattle.record.specs.Encodes.{Encodes, Fits}
use Rattle.resolve.specs.Resolve.{type_body}
use Rattle.record.specs.declared.Record.{Record}
use Rattle.record.specs.declared.Refusal.{Refusal}

-- the state that a walk starts from: the fixed types, no variable, no node typed; `return` answers to OUT of `fn`
abbrev pub first_state : List ℕ → List ℕ → State
first_state rows cells = start fixed_types (blank (fn_line rows cells).output.0)

-- the state in which the body ends
abbrev pub last_state : Counts → List ℕ → List ℕ → State
last_state n rows cells = (run (type_body n rows cells) (first_state rows cells)).1

-- whether it is answered 0: it is not refused
abbrev pub ends : Counts → List ℕ → List ℕ → Type 0
ends n rows cells = (run (type_body n rows cells) (first_state rows cells)).0 ≡ some tt

-- by the answer: the memory holds the last state, and a refusal is that of the body
abbrev pub TypedBy : List ℕ → Result Record Refusal → Counts → List ℕ → List ℕ → Type 0
TypedBy m (Ok d) n rows cells = ends n rows cells × Encodes m d (last_state n rows cells)
TypedBy m (Err q) n rows cells = ((run (type_body n rows cells) (first_state rows cells)).0 ≡ none) × ((last_state n rows cells).stop ≡ some (q.number, q.node.0)) × Encodes m q.record (last_state n rows cells)

-- the body is typed in a memory that is long enough, where its tables do not grow over their limits
pub record BodyTyped (m m' : List ℕ) (r : Result Record Refusal) (n : Counts) (rows cells : List ℕ) : Type 0 where
  pub by : log_at ≤ length m → Fits (last_state n rows cells) → TypedBy m' r n rows cells

-- What is written down of a rule's answer. Definitions alone.
use Rattle.std.specs.Prelude.{◌≡◌, List, ℕ, Err, Ok, Result}
use Rattle.record.specs.Steps.{set_node_type}
use Rattle.record.specs.Encodes.{Does}
use Rattle.record.specs.declared.Record.{Record}
use Rattle.record.specs.declared.Refusal.{Refusal}
use Rattle.type_table.specs.declared.TypeId.{TypeId}

-- by the answer
abbrev pub WrittenBy : List ℕ → ℕ → Result (Record × TypeId) Refusal → List ℕ → Type 0
WrittenBy m n (Ok (d, t)) w = Does m w (set_node_type n t.0)
WrittenBy m n (Err e) w = w ≡ m

-- from the memory m to w the type of the node n is written down, if there is one
pub record WrittenDown (m : List ℕ) (n : ℕ) (z : Result (Record × TypeId) Refusal) (w : List ℕ) : Type 0 where
  pub by : WrittenBy m n z w

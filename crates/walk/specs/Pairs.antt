-- What the answer for two nodes says. Definitions alone.
use Rattle.std.specs.Prelude.{List, ℕ, Err, Ok, Result}
use Rattle.record.specs.declared.Record.{Record}
use Rattle.record.specs.Steps.{Walk}
use Rattle.record.specs.Encodes.{Runs, Stops}
use Rattle.record.specs.declared.Refusal.{Refusal}
use Rattle.type_table.specs.declared.TypeId.{TypeId}

-- by the answer
abbrev pub PairsBy : List ℕ → Record → List ℕ → Result (Record × TypeId × TypeId) Refusal → Walk (ℕ × ℕ) → Type 0
PairsBy m c m' (Ok (d, x, y)) p = Runs m c m' d p (x.0, y.0)
PairsBy m c m' (Err e) p = Stops m c m' e.record p e.number e.node.0

-- two types, or a refusal
pub record Pairs (m : List ℕ) (c : Record) (m' : List ℕ) (r : Result (Record × TypeId × TypeId) Refusal) (p : Walk (ℕ × ℕ)) : Type 0 where
  pub by : PairsBy m c m' r p

-- How a part ends: a `?` returns its refusal as that of the whole, and an equation is met or has failed. Assumes nothing.
use Rattle.std.specs.Prelude.{◌≡◌, ◌⊎◌, List, Bool, true, false, ℕ, Err, Ok, Result}
use Rattle.std.specs.Result.{IsErr, IsErrAnd}
use Rattle.std.proofs.Math.Logic.{inl, inr}
use Rattle.record.specs.declared.Equated.{Equated}
use Rattle.record.specs.declared.Equated.TheVariants as equated
use Rattle.record.specs.declared.Record.{Record}
use Rattle.record.specs.declared.Refusal.{Refusal}
use Rattle.record.specs.Steps.{Walk, Step}
use Rattle.record.specs.Encodes.{Runs, Stops, Types, Rules, Equates}
use Rattle.record.specs.Runs.{typed_refused, ruled_refused, equation_met, equation_failed}
use Rattle.type_table.specs.declared.TypeId.{TypeId}

-- v is the answer of the part, and r what is returned of it
module _ {m m' : List ℕ} {c : Record} {A : Type 0} {v : Result A Refusal} {e : Refusal} (was : v ≡ Err e) where
  -- where a type is given
  pub exit : {p : Walk ℕ} (r : Result (Record × TypeId) Refusal) → IsErr r × IsErrAnd r (λ y. y ≡ e) → Stops m c m' e.record p e.number e.node.0 → Types m c m' r p
  exit (Ok x) h S = absurd h.1
  exit (Err y) h S = rw h.1 (typed_refused S)

  -- where none is given
  pub exit_rule : {p : Step} (r : Result Record Refusal) → IsErr r × IsErrAnd r (λ y. y ≡ e) → Stops m c m' e.record p e.number e.node.0 → Rules m c m' r p
  exit_rule (Ok x) h S = absurd h.1
  exit_rule (Err y) h S = rw h.1 (ruled_refused S)

-- met or failed, an equation has ended
pub equation_ended : {m m' : List ℕ} {c d : Record} {n : ℕ} {r : Equated} {p : Walk Bool} → (r ≡ equated.Met d) ⊎ (r ≡ equated.Failed d) → Equates m c m' n r p → (q : Bool) × Runs m c m' d p q
equation_ended (inl e) h = (true, equation_met e h)
equation_ended (inr e) h = (false, equation_failed e h)

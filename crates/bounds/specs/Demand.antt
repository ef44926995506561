-- Demand 3 for a body that was read: about the equations that the rules raise for it and the bindings in which its walk ends. Assumes nothing but what each statement says.
use Rattle.std.specs.Prelude.{◌≡◌, refl, ◌↔◌, List, [], ◌∷◌, ◌++◌, ℕ}
use Rattle.std.proofs.Math.Option.{none}
use Rattle.theory.specs.Program.{Equation}
use Rattle.theory.specs.Basics.{All}
use Rattle.theory.specs.Ways.{Way, Kinded, Agrees, Sided, Meets, Went, Failed}
use Rattle.theory.proofs.Claims as theory
use Rattle.type_table.specs.Sound.{fixed_types}
use Rattle.refs.specs.declared.Counts.{Counts}
use Rattle.nodes.specs.Nodes.{fn_line}
use Rattle.record.specs.Own.{blank}
use Rattle.record.specs.Steps.{State}
use Rattle.resolve.specs.Resolve.{type_body}
use Rattle.resolve.specs.Body.{last_state}

module _ (n : Counts) (rows cells : List ℕ) where
  -- the state in which the body ends
  abbrev pub end : State
  end = last_state n rows cells

  -- answered 0 without an error, each equation with plain sides or Diverges as its got side: a way meets all the equations exactly when it
  -- agrees with the bindings, and at least one such way exists
  pub without_error : end.errs ≡ [] → end.stop ≡ none → All (Sided end.rows) end.log
      → ((w : Way) → Kinded end.kinds w → All (Meets end.rows w) end.log ↔ Agrees end.rows end.mem.binds w)
      × ((w : Way) × Kinded end.kinds w × All (Meets end.rows w) end.log)
  without_error = theory.demand_3_without_error fixed_types (blank (fn_line rows cells).output.0) (type_body n rows cells) refl

  -- whatever the answer, the sides so up to and including the first equation q that fails or is refused 12: no way meets all the
  -- equations up to and including that one. The log has the newest first
  pub first_failure : (after before : List Equation) (q : Equation) → end.log ≡ after ++ q ∷ before → Failed q.answer → All Went before → All (Sided end.rows) (q ∷ before)
      → (w : Way) → Kinded end.kinds w → All (Meets end.rows w) (q ∷ before) → ⊥
  first_failure = theory.demand_3_first_failure fixed_types (blank (fn_line rows cells).output.0) (type_body n rows cells) refl

-- An equation that is raised, and the error of one that failed. Over plain variables.
use mathlib.Core.Path.{◌≡◌}
use mathlib.Core.List.{List}
use Prim.Native.Nat.{ℕ}
use Rattle.theory.specs.Rules.{mismatch}
use Rattle.record.specs.declared.Record.{Record}
use Rattle.record.specs.declared.TypingError.{TypingError}
use Rattle.record.specs.declared.Equated.{Equated}
use Rattle.record.specs.declared.Equated.TheVariants as equated
use Rattle.record.specs.Steps.{caused, error, equation}
use Rattle.record.specs.Encodes.{Runs, Raises, RaisesBy, Equates}

module _ {m m' : List ℕ} {c d : Record} {n x y : ℕ} {r : Equated} (h : Raises m c m' n x y r) (e : TypingError) where
  -- it is met
  pub raised_met : r ≡ equated.Met d → Equates m c m' n (equated.Met d) (equation n x y e)
  raised_met q = record { by = rw q at (h.by e) }

  -- it failed, and its error is emitted
  pub raised_failed : {f : TypingError} {m₂ : List ℕ} {d₂ : Record} → r ≡ equated.Failed d → f ≡ caused e mismatch → Runs m' d m₂ d₂ (error f) tt → Equates m c m₂ n (equated.Failed d₂) (equation n x y e)
  raised_failed {f} {m₂} {d₂} q p emits =
      let g : RaisesBy m c m' n x y (equated.Failed d) e = rw q at (h.by e) in
      record { by = g m₂ d₂ (rw p at emits) }

  -- it is refused
  pub raised_refused : {k : ℕ} → r ≡ equated.Refused k d → Equates m c m' n (equated.Refused k d) (equation n x y e)
  raised_refused q = record { by = rw q at (h.by e) }

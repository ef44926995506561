-- A result of type `()` can be stored in a local. It says nothing of the crate. Assumes nothing.
use Rattle.std.specs.Prelude.{◌≡◌, [], ◌∷◌, T as Holds}
use Rattle.std.proofs.Common.{sym, ap, subst}
use mir.Syntax.{ty_unit}
use mir.Val.{Val, WT, has_ty, vunit}
use denote.Steps.{only}

-- the machine value of a `()` is of the type
pub unit_typed : (u : Val) → u ∷ [] ≡ vunit ∷ [] → Holds (has_ty ty_unit u) × WT u
unit_typed u e = subst (λ (z : Val). Holds (has_ty ty_unit z) × WT z) (sym (ap only e)) (tt, tt)

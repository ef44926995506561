-- The last sentence of request n): no equation of a walk fails or is refused 12 exactly if all of them have a common solution. Assumes demand 3's invariant (`Claim`) and
-- that no equation was refused 13, which `none_13` of Thirteen proves of each walk that does not end in 13, with or without a negation.
use Rattle.std.specs.Prelude.{List}
use Rattle.theory.specs.Rules.{Shape, Kind}
use Rattle.theory.specs.Program.{Equation}
use Rattle.theory.specs.Basics.{All}
use Rattle.theory.specs.Ways.{Way, Kinded, Meets, Failed}

-- ── definitions ──

-- no equation of a log "fails or is refused 12"
abbrev pub NoneFails : List Equation → Type 0
NoneFails l = All (λ (q : Equation). Failed q.answer → ⊥) l

-- "all of them have a common solution, the definition of a solution not running the checker"
abbrev pub AllMet : List Shape → List Kind → List Equation → Type 0
AllMet rows kinds l = (w : Way) × Kinded kinds w × All (Meets rows w) l

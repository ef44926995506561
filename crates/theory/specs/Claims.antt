-- The state that the claims of proofs/Claims speak of. Those are what this crate proves, one citation each, in document 01's words.
use Rattle.std.specs.Prelude.{◌≡◌, List, true}
use Rattle.theory.specs.Rules.{Shape}
use Rattle.theory.specs.Program.{St, Prog, run}
use Rattle.theory.specs.Start.{ordered, start}

-- ── 4. demand 3, for any program of the steps ──

module _ {X Er A : Type 0} (rows : List Shape) (own : X) (p : Prog X Er A) (test : ordered rows ≡ true) where
  -- the state in which the program ends
  abbrev pub final : St X Er
  final = (run p (start rows own)).1

-- The equations of document 01's worked body as a program of the steps: it runs as the paper prints it, and demand 3's premises are met by it.
use Rattle.std.specs.Prelude.{◌≡◌, refl, List, [], ◌∷◌, ◌++◌, false, ℕ}
use Rattle.std.proofs.Math.Option.{none, some}
use Rattle.std.proofs.Math.Decide.{ℕ_discrete}
use Rattle.theory.specs.Rules.{w8, w16, w32, w64, bool, nil, float, double, uint, int, Shape, base, var, err, div, integer, success, choose, split, at_var, act, pass, bind, leads, seek, unify}
use Rattle.theory.specs.Program.{St, Prog, done, draw, equate, drawn, raised, emitted, refused, solve, run}
use Rattle.theory.specs.Start.{start}

-- nil, bool, u8 to u64, i8 to i64, f32, f64, err, diverges
abbrev pub fields : List Shape
fields = base nil ∷ base bool ∷ base (uint w8) ∷ base (uint w16) ∷ base (uint w32) ∷ base (uint w64) ∷ base (int w8) ∷ base (int w16) ∷ base (int w32) ∷ base (int w64) ∷ base float ∷ base double ∷ err ∷ div ∷ []

-- the literal of node 1 draws an integer variable; node 5 sets the parameter, an i32, against it; last, the declared i32 against the actual result
unfoldable pub worked : Prog (Unit {0}) (Unit {0}) ℕ
worked = draw integer none (λ r. equate 5 8 r (λ o. tt) (λ c. equate 6 8 8 (λ o. tt) (λ d. done r)))

-- the state in which it ends
abbrev pub end : St (Unit {0}) (Unit {0})
end = (run worked (start fields tt)).1

-- one made type, the variable's; the variable is bound to i32; two equations, both successes; no error, no refusal
pub worked_end : (end.rows ≡ fields ++ var 0 ∷ []) × (end.kinds ≡ integer ∷ []) × (end.origins ≡ none ∷ []) × (end.mem ≡ record { binds = some 8 ∷ []; marks = false ∷ [] }) × (end.errs ≡ []) × (end.stop ≡ none)
    × (end.log ≡ record { node = 6; expected = 8; got = 8; answer = success } ∷ record { node = 5; expected = 8; got = 14; answer = success } ∷ [])
unfolding worked start run drawn raised emitted refused solve unify choose split at_var act leads seek pass bind ℕ_discrete
worked_end = (refl, refl, refl, refl, refl, refl, refl)

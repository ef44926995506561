-- The state that a walk starts from, and the one computed test that its table has to pass. Assumes nothing.
use Rattle.std.specs.Prelude.{◌≡◌, refl, List, [], ◌∷◌, true, ℕ, suc, zero, ◌+◌, ◌<◌, length, ltb}
use Rattle.std.proofs.Math.Option.{none}
use Rattle.std.proofs.Common.{arith}
use Rattle.theory.specs.Rules.{Shape, kids, as_var, row}
use Rattle.theory.specs.Program.{sane}
use Rattle.theory.specs.Basics.{All, all_map, clash, and_both, ltb-true}
use Rattle.theory.specs.Demand.{Track, sane_facts}
use Rattle.theory.proofs.Demand.{blank_claim}
use Rattle.theory.specs.Start.{ordered_from, ordered, start}

-- ── what the test says ──

lower_at : (n : ℕ) (rows : List Shape) → ordered_from n rows ≡ true → (x : ℕ) → All (λ (y : ℕ). y < n + x) (kids (row rows x)) × (as_var (row rows x) ≡ none)
lower_at n [] e x = (tt, refl)
lower_at n (s ∷ l) e zero =
    let g = sane_facts n s (and_both (sane n s) (ordered_from (suc n) l) e).0 in
    (all_map (λ (y : ℕ). y < n) (λ (y : ℕ). y < n + 0) (kids s) (λ y k. omega arith) g.1, g.0)
lower_at n (s ∷ l) e (suc x) =
    let g = lower_at (suc n) l (and_both (sane n s) (ordered_from (suc n) l) e).1 x in
    (all_map (λ (y : ℕ). y < suc n + x) (λ (y : ℕ). y < n + suc x) (kids (row l x)) (λ y k. omega arith) g.0, g.1)

-- a walk over such a table starts with the invariant of demand 3
pub start_track : {X Er : Type 0} (rows : List Shape) (x : X) → ordered rows ≡ true → Track {X = X} {Er = Er} (start rows x)
unfolding start
start_track rows x e =
    let h = and_both (ltb 0 (length rows)) (ordered_from 0 rows) e in
    record {
      tables = record {
        claim = blank_claim rows [] [] (λ y. all_map (λ (z : ℕ). z < 0 + y) (λ (z : ℕ). z < y) (kids (row rows y)) (λ z k. omega arith) (lower_at 0 rows h.1 y).0) (ltb-true 0 (length rows) h.0) refl (λ v. refl) (λ y v p. let q = (lower_at 0 rows h.1 y).1 in clash (cc));
        origins_sized = refl;
        marks_sized = refl;
      };
      clean = λ i j. tt;
    }

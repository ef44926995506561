-- A list of equations by itself, over tables with nothing bound: it has a common solution or none, as unification says, negation marks
-- apart. Assumes `Fresh` tables, sides of the table, and plain sides or Diverges as the got side.
use Rattle.std.specs.Prelude.{◌≡◌, ◌≢◌, ◌↔◌, ℕ}
use Rattle.std.proofs.Math.Path.{refl}
use mathlib.Core.List.{List, [], ◌∷◌}
use Rattle.std.proofs.Math.Option.{Option}
use Rattle.theory.specs.Rules.{Shape, Kind, Out, success, mismatch, refused12, refused13, dry, Mem, Pair, Res, onward}
use Rattle.theory.specs.Program.{Equation, solve}
use Rattle.theory.specs.Basics.{All, clash}
use Rattle.theory.specs.Ways.{Way, Kinded, Sided, Went}
use Rattle.theory.specs.Exist.{way}
use Rattle.theory.proofs.Exist.{way_agrees, way_kinded}
use Rattle.theory.specs.Demand.{Claim}
use Rattle.theory.proofs.Demand.{claim⁺, blank_claim}
use Rattle.theory.specs.Solve.{Posed as Posed·S, Solves as Solves·S, solves as solves·S, Fresh as Fresh·S, Verdict as Verdict·S, VerdictOf as VerdictOf·S, Asked as Asked·S, log⁺ as log⁺·S}

-- ── definitions ──

module _ (rows : List Shape) where
  -- as specs/Solve has it
  abbrev Posed : Pair → Type 0
  Posed = Posed·S rows

  -- as specs/Solve has it
  abbrev Solves : Way → Pair → Type 0
  Solves = Solves·S rows

module _ (rows : List Shape) (kinds : List Kind) where
  -- as specs/Solve has it
  abbrev solves : List Pair → Mem → Res
  solves = solves·S rows kinds

  -- as specs/Solve has it
  abbrev Fresh : (m : Mem) → Type 0
  Fresh = Fresh·S rows kinds

  -- as specs/Solve has it
  abbrev Verdict : (Way → Type 0) → Out → List (Option ℕ) → Type 0
  Verdict = Verdict·S rows kinds

  -- as specs/Solve has it
  abbrev VerdictOf : (Way → Type 0) → Res → Type 0
  VerdictOf = VerdictOf·S rows kinds

  -- ── proofs ──

  verdict_iff : (E D : Way → Type 0) → ((w : Way) → E w ↔ D w) → (o : Out) (b : List (Option ℕ)) → Verdict E o b → Verdict D o b
  verdict_iff E D f success b v = (λ w k. (λ d. (v.0 w k).0 ((f w).1 d), λ a. (f w).0 ((v.0 w k).1 a)), (v.1.0, v.1.1, (f v.1.0).0 v.1.2))
  verdict_iff E D f mismatch b v = λ w k d. v w k ((f w).1 d)
  verdict_iff E D f refused12 b v = λ w k d. v w k ((f w).1 d)
  verdict_iff E D f refused13 b v = tt
  verdict_iff E D f dry b v = v

  -- as specs/Solve has it
  abbrev Asked : List Equation → List Pair → Way → Type 0
  Asked = Asked·S rows kinds

  module _ (p : Pair) (ps : List Pair) (m : Mem) (log : List Equation) (c : Claim rows kinds m.binds log) (o : All Went log) (s : All (Sided rows) log) (h : Posed rows p) where
    -- as specs/Solve has it
    abbrev log⁺ : List Equation
    log⁺ = log⁺·S rows kinds p ps m log c o s h

    -- by the answer of the first
    join : (q : Out) (m' : Mem) → (solve rows kinds m p.0 p.1).0 ≡ q → Claim rows kinds m'.binds log⁺ → (All Went log⁺ → VerdictOf (Asked log⁺ ps) (solves ps m')) → VerdictOf (Asked log (p ∷ ps)) (onward q m' (λ m''. solves ps m''))
    join success m' e d f = verdict_iff (Asked log⁺ ps) (Asked log (p ∷ ps)) (λ w. (λ a. (a.0.1, (a.0.0, a.1)), λ a. ((a.1.0, a.0), a.1.1))) (solves ps m').0 (solves ps m').1.binds (f (e, o))
    join mismatch m' e d f = λ w k a. d.noway.1 (rw e tt) o (h.2, s) w k (a.1.0, a.0)
    join refused12 m' e d f = λ w k a. d.noway.1 (rw e tt) o (h.2, s) w k (a.1.0, a.0)
    join refused13 m' e d f = tt
    join dry m' e d f = rw e at d.ended.0

  solves_told : (ps : List Pair) (m : Mem) (log : List Equation) → Claim rows kinds m.binds log → All Went log → All (Sided rows) log → All (Posed rows) ps → VerdictOf (Asked log ps) (solves ps m)
  unfolding solves·S
  solves_told [] m log c o s h =
      let u = way rows kinds c.lower m.binds c.good in
      let k = way_kinded rows kinds c.lower m.binds c.good in
      let x = (c.holds o s).1 in
      (λ w l. (λ a. (x w l).1 a.0, λ a. ((x w l).0 a, tt)), (u, k, ((x u k).0 (way_agrees rows kinds c.lower m.binds c.good), tt)))
  solves_told (p ∷ ps) m log c o s h =
      let r = solve rows kinds m p.0 p.1 in
      let d = claim⁺ rows kinds m log c 0 p.0 p.1 h.0.0 h.0.1 in
      join p ps m log c o s h.0 r.0 r.1 refl d (λ w. solves_told ps r.1 (log⁺ p ps m log c o s h.0) d w (h.0.2, s) h.1)

  -- from nothing bound: the answer is success only if there is a common solution, and a mismatch or 12 only if there is none
  pub solvable : (ps : List Pair) (m : Mem) → Fresh m → All (Posed rows) ps → VerdictOf (λ w. All (Solves rows w) ps) (solves ps m)
  solvable ps m f h =
      let c = blank_claim rows kinds m.binds f.lower f.some_row f.kinds_sized f.unbound f.meant in
      verdict_iff (Asked [] ps) (λ w. All (Solves rows w) ps) (λ w. (λ a. a.1, λ a. (tt, a))) (solves ps m).0 (solves ps m).1.binds (solves_told ps m [] c tt tt h)

  -- 13 apart, the answer is success exactly if there is a common solution
  pub solvable_exactly : (ps : List Pair) (m : Mem) → Fresh m → All (Posed rows) ps → (solves ps m).0 ≢ refused13 → ((solves ps m).0 ≡ success) ↔ ((w : Way) × Kinded kinds w × All (Solves rows w) ps)
  solvable_exactly ps m f h = by (solves ps m).0 (solvable ps m f h)
    where
      by : (o : Out) → Verdict (λ w. All (Solves rows w) ps) o (solves ps m).1.binds → o ≢ refused13 → (o ≡ success) ↔ ((w : Way) × Kinded kinds w × All (Solves rows w) ps)
      by success v q = (λ e. v.1, λ x. refl)
      by mismatch v q = (λ e. clash (cc), λ x. absurd (v x.0 x.1 x.2))
      by refused12 v q = (λ e. clash (cc), λ x. absurd (v x.0 x.1 x.2))
      by refused13 v q = absurd (q refl)
      by dry v q = absurd v

-- A list of equations by itself, over tables with nothing bound: it has a common solution or none, as unification says, negation marks
-- apart. Assumes `Fresh` tables, sides of the table, and plain sides or Diverges as the got side.
use Rattle.std.specs.Prelude.{◌≡◌, ◌↔◌, ℕ, ◌<◌, length}
use mathlib.Core.List.{List, [], ◌∷◌}
use Rattle.std.proofs.Math.Option.{Option, none, some}
use Rattle.theory.specs.Rules.{Shape, Kind, Out, success, mismatch, refused12, refused13, dry, Mem, Pair, Res, row, as_var, bound, and_then}
use Rattle.theory.specs.Program.{Equation, solve}
use Rattle.theory.specs.Basics.{All}
use Rattle.theory.specs.Ways.{Way, Kinded, Agrees, PlainSides, MeetsSides, Sided, Meets, Went}
use Rattle.theory.specs.Graph.{Lower}
use Rattle.theory.specs.Demand.{Claim, logged}

-- ── definitions ──

module _ (rows : List Shape) where
  -- both rows stand in the table, and are plain or the got one is Diverges
  abbrev pub Posed : Pair → Type 0
  Posed p = (p.0 < length rows) × (p.1 < length rows) × PlainSides rows p.0 p.1

  -- the way meets the equation of the pair
  abbrev pub Solves : Way → Pair → Type 0
  Solves w p = MeetsSides rows w p.0 p.1

module _ (rows : List Shape) (kinds : List Kind) where
  -- the pairs of an expected and a got row one after the other, to the first that does not go through
  unfoldable pub solves : List Pair → Mem → Res
  solves [] m = (success, m)
  solves (p ∷ ps) m = and_then (solve rows kinds m p.0 p.1) (λ m'. solves ps m')

  -- rows made of lower rows, each variable among those of the tables, and nothing bound
  pub record Fresh (m : Mem) : Type 0 where
    pub lower : Lower rows
    pub some_row : 0 < length rows
    pub kinds_sized : length kinds ≡ length m.binds
    pub unbound : (v : ℕ) → bound m.binds v ≡ none
    pub meant : (x v : ℕ) → as_var (row rows x) ≡ some v → v < length m.binds

  -- what an answer says of all that is asked, E, by the bindings at the end: success, that E's ways are those that agree with the
  -- bindings, and that there is one; a mismatch or a refusal 12, that there is none
  abbrev pub Verdict : (Way → Type 0) → Out → List (Option ℕ) → Type 0
  Verdict E success b = ((w : Way) → Kinded kinds w → E w ↔ Agrees rows b w) × ((w : Way) × Kinded kinds w × E w)
  Verdict E mismatch b = (w : Way) → Kinded kinds w → E w → ⊥
  Verdict E refused12 b = (w : Way) → Kinded kinds w → E w → ⊥
  Verdict E refused13 b = Unit {0}
  Verdict E dry b = ⊥

  -- what a result says
  abbrev pub VerdictOf : (Way → Type 0) → Res → Type 0
  VerdictOf E r = Verdict E r.0 r.1.binds

  -- ── proofs ──

  -- the equations asked before, and those to come
  abbrev pub Asked : List Equation → List Pair → Way → Type 0
  Asked log ps w = All (Meets rows w) log × All (Solves rows w) ps

  module _ (p : Pair) (ps : List Pair) (m : Mem) (log : List Equation) (c : Claim rows kinds m.binds log) (o : All Went log) (s : All (Sided rows) log) (h : Posed rows p) where
    -- the log with the first equation
    abbrev pub log⁺ : List Equation
    log⁺ = logged rows kinds m log c 0 p.0 p.1 h.0 h.1 ∷ log

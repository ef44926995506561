-- Demand 3 for any program of the steps: one invariant of the tables and of the equations raised (`Track`), one induction over programs.
-- Assumes `Track` of the state that the program starts from (`Start.start_track`).
use Rattle.std.specs.Prelude.{◌≡◌, ◌↔◌, List, [], ◌∷◌, ◌++◌, Bool, cond, ℕ, suc, zero, ◌≤◌, ◌<◌, ltb}
use Rattle.std.proofs.Math.Path.{refl}
use Rattle.std.proofs.Common.{arith}
use Rattle.std.proofs.Math.Option.{Option, none, some}
use Rattle.std.proofs.Math.Bool.{true, false}
use Rattle.std.proofs.Math.ListN.{length}
use Rattle.std.proofs.Math.Seq.{get_or-set_same}
use Rattle.theory.specs.Rules.{Shape, Kind, Mem, Res, kind, kids, as_var, bound, marked, succs}
use Rattle.theory.specs.Program.{Equation, St, all_below, no_var, sane, clip, marking, solve}
use Rattle.theory.specs.Basics.{All, and_both, ltb-true}
use Rattle.theory.specs.Ways.{Way, Kinded, Agrees, PlainBound, Inside, Sided, Meets, Went, Failed, NoWay}
use Rattle.theory.specs.Graph.{Lower, Good}
use Rattle.theory.specs.Keep.{Ended}
use Rattle.theory.specs.Lift.{lower_on}

-- the bindings are plain, and the ways that agree with them are those that meet all the equations
abbrev pub Exact : List Shape → List Kind → List (Option ℕ) → List Equation → Type 0
Exact rows kinds b log = PlainBound rows b × ((w : Way) → Kinded kinds w → Agrees rows b w ↔ All (Meets rows w) log)

-- what holds of the tables and of the equations raised so far
pub record Claim (rows : List Shape) (kinds : List Kind) (b : List (Option ℕ)) (log : List Equation) : Type 0 where
  pub lower : Lower rows
  pub good : Good rows kinds b
  pub kinds_sized : length kinds ≡ length b
  pub some_row : 0 < length rows
  pub inside : All (Inside rows) log
  pub holds : All Went log → All (Sided rows) log → Exact rows kinds b log
  pub noway : NoWay rows kinds log
  -- the steps never ran out
  pub ended : All (λ (q : Equation). Ended q.answer) log

-- the same, and the lists of variables have one length
pub record Tables (rows : List Shape) (kinds : List Kind) (origins : List (Option ℕ)) (m : Mem) (log : List Equation) : Type 0 where
  pub claim : Claim rows kinds m.binds log
  pub origins_sized : length origins ≡ length m.binds
  pub marks_sized : length m.marks ≡ length m.binds

-- the invariant of a walk
pub record Track {X Er : Type 0} (s : St X Er) : Type 0 where
  pub tables : Tables s.rows s.kinds s.origins s.mem s.log
  -- no error and no refusal: every equation went through
  pub clean : s.errs ≡ [] → s.stop ≡ none → All Went s.log

-- ── the tables grow ──

module _ (rows : List Shape) (t : Shape) (kinds kinds' : List Kind) (b b' : List (Option ℕ)) (log : List Equation) (claim : Claim rows kinds b log) (read_same : (v : ℕ) → bound b' v ≡ bound b v) (longer : length b ≤ length b')
    (kind-same : (v : ℕ) → v < length b → kind kinds' v ≡ kind kinds v) (new_var : (v : ℕ) → as_var t ≡ some v → v < length b') (new_low : All (λ (y : ℕ). y < length rows) (kids t)) (new_in : All (λ (y : ℕ). y < length rows) (succs b t (as_var t))) (sized' : length kinds' ≡ length b') where
  -- the rows with the new one
  abbrev pub rows⁺ : List Shape
  rows⁺ = rows ++ t ∷ []

  -- they are made of lower rows
  abbrev pub lower' : Lower rows⁺
  lower' = lower_on rows t claim.lower new_low

-- ── an equation is raised ──

module _ (rows : List Shape) (kinds : List Kind) (m : Mem) (log : List Equation) (claim : Claim rows kinds m.binds log) (p e g : ℕ) (he : e < length rows) (hg : g < length rows) where
  -- the result of the equation
  abbrev pub answered : Res
  answered = solve rows kinds m e g

  -- the equation as it is logged
  abbrev pub logged : Equation
  logged = record { node = p; expected = e; got = g; answer = answered.0 }

-- ── programs ──

-- a new variable is open, and the others read as before
pub read_past : (b : List (Option ℕ)) (v : ℕ) → bound (b ++ none ∷ []) v ≡ bound b v
read_past [] zero = refl
read_past [] (suc v) = refl
read_past (o ∷ b) zero = refl
read_past (o ∷ b) (suc v) = read_past b v

below_all : (n : ℕ) (l : List ℕ) → all_below n l ≡ true → All (λ (y : ℕ). y < n) l
below_all n [] e = tt
below_all n (y ∷ ys) e = let h = and_both (ltb y n) (all_below n ys) e in (ltb-true y n h.0, below_all n ys h.1)

no_var_lem : (o : Option ℕ) → no_var o ≡ true → o ≡ none
no_var_lem none e = refl
no_var_lem (some v) e = cc

-- what the test of a made row says
pub sane_facts : (n : ℕ) (t : Shape) → sane n t ≡ true → (as_var t ≡ none) × All (λ (y : ℕ). y < n) (kids t)
sane_facts n t e = let h = and_both (no_var (as_var t)) (all_below n (kids t)) e in (no_var_lem (as_var t) h.0, below_all n (kids t) h.1)

-- a clipped number is a row's
pub clip_in : (n x : ℕ) → 0 < n → clip n x < n
clip_in n x h = by (ltb x n) refl
  where
    by : (c : Bool) → ltb x n ≡ c → cond c x 0 < n
    by true e = ltb-true x n e
    by false e = h

module _ {X Er : Type 0} where
  -- a mark set on a variable that was drawn is set
  pub mark_set : (v : ℕ) (s : St X Er) → Track s → v < length s.mem.binds → marked (marking v s).mem v ≡ true
  unfolding marking
  mark_set v s t h = get_or-set_same s.mem.marks v true false (omega (arith, t.tables.marks_sized))

  -- ── demand 3 ──

  module _ (s : St X Er) (t : Track s) where
    noway_at : (post pre : List Equation) (q : Equation) → NoWay s.rows s.kinds (post ++ q ∷ pre) → Failed q.answer → All Went pre → All (Sided s.rows) (q ∷ pre) → (w : Way) → Kinded s.kinds w → All (Meets s.rows w) (q ∷ pre) → ⊥
    noway_at [] pre q h = h.1
    noway_at (p ∷ post) pre q h = noway_at post pre q h.0

    -- whatever the answer: no way meets the equations up to and including the first that fails or is refused 12
    pub demand_no : (post pre : List Equation) (q : Equation) → s.log ≡ post ++ q ∷ pre → Failed q.answer → All Went pre → All (Sided s.rows) (q ∷ pre) → (w : Way) → Kinded s.kinds w → All (Meets s.rows w) (q ∷ pre) → ⊥
    demand_no post pre q e = noway_at post pre q (rw e at t.tables.claim.noway)

-- What this crate proves, one citation each, in document 01's words. Each assumption is an argument of the statement.
use Rattle.std.specs.Prelude.{◌≡◌, ◌≢◌, ◌↔◌, List, [], ◌∷◌, ◌++◌, map, true, false, ℕ, suc, ◌<◌, ◌≤◌, length}
use Rattle.std.proofs.Math.Option.{Option, none, some}
use Rattle.theory.specs.Rules.{Shape, Kind, success, refused13, Mem, Pair, row, leads, far, seek, unify}
use Rattle.theory.specs.Program.{Equation, St, Prog, made_of, equal_rows, first_equal, sane, interned, fuel, solve}
use Rattle.theory.specs.Table.{table, more, outcome, stated, table_holds, more_holds, pool_rows, pool_lines, pool_holds}
use Rattle.theory.specs.Basics.{All}
use Rattle.theory.specs.Ways.{Way, Kinded, Plain, den, Agrees, Sided, Meets, Went, Failed}
use Rattle.theory.specs.Graph.{Lower, Good, Sure}
use Rattle.theory.specs.Sound.{Fair}
use Rattle.theory.proofs.Sound.{success_exact, failed_none}
use Rattle.theory.specs.Keep.{KeptBy}
use Rattle.theory.proofs.Keep.{solve_kept}
use Rattle.theory.specs.Enough.{leads_enough}
use Rattle.theory.proofs.Enough.{solve_more, seek_more}
use Rattle.theory.specs.Depth.{Functions, bounded}
use Rattle.theory.proofs.Depth.{four_enough}
use Rattle.theory.specs.Exist.{way}
use Rattle.theory.proofs.Exist.{way_agrees, way_kinded}
use Rattle.theory.specs.Demand.{Tables, demand_no}
use Rattle.theory.proofs.Demand.{track, demand_yes}
use Rattle.theory.specs.Start.{ordered, start}
use Rattle.theory.proofs.Start.{start_track}
use Rattle.theory.specs.Solve.{solves, Fresh, Posed, Solves, VerdictOf}
use Rattle.theory.proofs.Solve.{solvable, solvable_exactly}
use Rattle.theory.specs.Pool.{First}
use Rattle.theory.proofs.Pool.{first_some, first-none, equal_rows_iff, interned_row}
use Rattle.theory.specs.Claims.{final as final·S}

-- ── 1. one equation with plain sides ──

-- success: a way agrees with the bindings after exactly when it agrees with those before and both sides become the same type under it
pub equation_success : (rows : List Shape) (kinds : List Kind) (lower : Lower rows) (m : Mem) (e g : ℕ) → Plain rows e → Plain rows g → Fair rows m.binds → let r = solve rows kinds m e g in
    r.0 ≡ success → Fair rows r.1.binds × ((w : Way) → Kinded kinds w → Agrees rows r.1.binds w ↔ (Agrees rows m.binds w × (den rows w e ≡ den rows w g)))
equation_success = success_exact

-- a mismatch, or 12: under no way that agrees with the bindings do both sides become the same type
pub equation_failed : (rows : List Shape) (kinds : List Kind) (lower : Lower rows) (m : Mem) (e g : ℕ) → Plain rows e → Plain rows g → Fair rows m.binds
    → Failed (solve rows kinds m e g).0 → (w : Way) → Kinded kinds w → Agrees rows m.binds w → den rows w e ≡ den rows w g → ⊥
equation_failed = failed_none

-- ── 2. a way that agrees ──

-- bindings without a cycle, each variable's kind met: a way agrees with them, integer variables sized integers and float variables f32 or f64
pub agreeing_way : (rows : List Shape) (kinds : List Kind) → Lower rows → (b : List (Option ℕ)) → Good rows kinds b → (w : Way) × Kinded kinds w × Agrees rows b w
agreeing_way rows kinds lower b good = (way rows kinds lower b good, way_kinded rows kinds lower b good, way_agrees rows kinds lower b good)

-- ── 3. every equation ends, and makes no cycle ──

-- whatever the rows: an equation's steps suffice, its bindings have no cycle, and the lists of bindings and marks keep their lengths
pub equation_ends : (rows : List Shape) (kinds : List Kind) (m : Mem) (e g : ℕ) → Good rows kinds m.binds → e < length rows → g < length rows → KeptBy rows kinds m (solve rows kinds m e g)
equation_ends = solve_kept

-- more steps than it is given give the same,
pub equation_more_steps : (rows : List Shape) (kinds : List Kind) (m : Mem) (e g k : ℕ) → Good rows kinds m.binds → e < length rows → g < length rows → fuel rows m ≤ k
    → unify rows kinds k m e g ≡ solve rows kinds m e g
equation_more_steps = solve_more

-- and so it is with the search of step 3 along the bindings, which finds an end,
pub search_more_steps : (rows : List Shape) (kinds : List Kind) (b : List (Option ℕ)) → Good rows kinds b → (v x k : ℕ) → length rows < k
    → Sure (seek rows b v (suc (length rows)) x) × (seek rows b v k x ≡ seek rows b v (suc (length rows)) x)
search_more_steps = seek_more

-- and with that inside the type in which they end
pub inside_more_steps : (rows : List Shape) (kinds : List Kind) (b : List (Option ℕ)) → Good rows kinds b → (v x k : ℕ) → far rows b v ≤ k → leads rows b v k x ≡ leads rows b v (far rows b v) x
inside_more_steps = leads_enough

-- functions of the table at most 4 deep in one another, of rows without variables and lambdas: the rules that enter at most four functions
-- against lambdas in one another give the same result
pub recursion_bounded : (rows : List Shape) (kinds : List Kind) → Functions rows 4 → (n : ℕ) (m : Mem) (x y : ℕ) → bounded rows kinds 4 n m x y ≡ unify rows kinds n m x y
recursion_bounded = four_enough

-- ── 4. demand 3, for any program of the steps ──

module _ {X Er A : Type 0} (rows : List Shape) (own : X) (p : Prog X Er A) (test : ordered rows ≡ true) where
  -- as specs/Claims has it
  abbrev final : St X Er
  final = final·S rows own p test

  -- the tables at the end: bindings without a cycle, no equation out of steps, kinds, origins and marks one per variable
  pub final_tables : Tables final.rows final.kinds final.origins final.mem final.log
  final_tables = (track p (start rows own) (start_track rows own test)).tables

  -- without an error or refusal, each equation with plain sides or Diverges as its got side: a way meets all equations exactly when it
  -- agrees with the bindings, and at least one such way exists
  pub demand_3_without_error : final.errs ≡ [] → final.stop ≡ none → All (Sided final.rows) final.log
      → ((w : Way) → Kinded final.kinds w → All (Meets final.rows w) final.log ↔ Agrees final.rows final.mem.binds w)
      × ((w : Way) × Kinded final.kinds w × All (Meets final.rows w) final.log)
  demand_3_without_error = demand_yes final (track p (start rows own) (start_track rows own test))

  -- whatever the answer, the sides so up to and including the first equation q that fails or is refused 12: no way meets all the
  -- equations up to and including that one. The log has the newest first
  pub demand_3_first_failure : (after before : List Equation) (q : Equation) → final.log ≡ after ++ q ∷ before → Failed q.answer → All Went before → All (Sided final.rows) (q ∷ before)
      → (w : Way) → Kinded final.kinds w → All (Meets final.rows w) (q ∷ before) → ⊥
  demand_3_first_failure = demand_no final (track p (start rows own) (start_track rows own test))

-- ── 5. a list of equations by itself ──

-- nothing bound before: success only with a common solution, the solutions being the ways that agree with the bindings; a mismatch,
-- or 12, only with none; 13 says nothing; the steps never run out
pub list_solvable : (rows : List Shape) (kinds : List Kind) (ps : List Pair) (m : Mem) → Fresh rows kinds m → All (Posed rows) ps → VerdictOf rows kinds (λ w. All (Solves rows w) ps) (solves rows kinds ps m)
list_solvable = solvable

-- 13 apart: success exactly with a common solution
pub list_exactly : (rows : List Shape) (kinds : List Kind) (ps : List Pair) (m : Mem) → Fresh rows kinds m → All (Posed rows) ps → let o = (solves rows kinds ps m).0 in
    o ≢ refused13 → (o ≡ success) ↔ ((w : Way) × Kinded kinds w × All (Solves rows w) ps)
list_exactly = solvable_exactly

-- ── 6. pooling by value, first made first ──

-- an equal row found is the first one
pub pool_found : (rows : List Shape) (t : Shape) (r : ℕ) → first_equal 0 rows t ≡ some r → First rows t r
pool_found = first_some

-- none found: no row is equal
pub pool_not_found : (rows : List Shape) (t : Shape) → first_equal 0 rows t ≡ none → (x : ℕ) → x < length rows → equal_rows (row rows x) t ≡ false
pool_not_found = first-none

-- equal by value is equal, for instances, arrays, references and types of definitions
pub pool_equal : (s t : Shape) (a : ℕ) → made_of t ≡ some a → (equal_rows s t ≡ true) ↔ (s ≡ t)
pool_equal = equal_rows_iff

-- the row that a made type is given is that type
pub pool_row : {X Er : Type 0} (t : Shape) (s : St X Er) → sane (length s.rows) t ≡ true → row (interned t s).1.rows (interned t s).0 ≡ t
pool_row = interned_row

-- ── 7. the table ──

-- the thirteen lines of document 01
pub rules_table : map outcome table ≡ map stated table
rules_table = table_holds

-- further lines of the same form
pub rules_more : map outcome more ≡ map stated more
rules_more = more_holds

-- lines of pooling
pub pool_lines_lem : map (λ l. first_equal 0 pool_rows l.0) pool_lines ≡ map (λ l. l.1) pool_lines
pool_lines_lem = pool_holds

-- What the library claims, one citation each: first of the code's promises, then of the rules. Each assumption is an argument of the statement.
-- The contracts in src/lib.rt of `type_table` and `unify` cite the definitions Memory, View and Made there and Promise here.
use Rattle.std.specs.Prelude.{◌≡◌, ◌≢◌, ◌↔◌, List, [], ◌∷◌, ◌++◌, map, true, false, ℕ, ◌<◌, length, None}
use Rattle.std.proofs.Math.Option.{none, some}
use Rattle.theory.specs.Rules.{Shape, Kind, success, refused13, Mem, Pair, row, unify}
use Rattle.theory.specs.Program.{Equation, St, Prog, made_of, equal_rows, first_equal, run, raised, solve, solved}
use Rattle.theory.specs.Basics.{All}
use Rattle.theory.specs.Ways.{Way, Kinded, den, Agrees, Sided, Meets, Went, Failed}
use Rattle.theory.specs.Graph.{Good}
use Rattle.theory.specs.Keep.{KeptBy, Ended}
use Rattle.theory.specs.Depth.{Functions, bounded}
use Rattle.theory.specs.Start.{ordered, start}
use Rattle.theory.specs.Solve.{solves, Fresh, Posed, Solves}
use Rattle.theory.specs.Table.{table, outcome, stated}
use Rattle.theory.proofs.Claims as rules
use Rattle.type_table.specs.declared.Counts.{Counts}
use Rattle.type_table.specs.declared.TypeId.{TypeId}
use Rattle.type_table.specs.View.{type, onward_in, end_or, end_in}
use Rattle.type_table.specs.Sound.{Sound, state_of}
use Rattle.type_table.specs.Promises.{follow_promise}
use Rattle.type_table.proofs.Promises.{follow_ends}
use Rattle.unify.specs.declared.Answer.{Answer}
use Rattle.unify.specs.declared.Answer.TheVariants.{Success}
use Rattle.search.specs.Search.{binds_in}
use Rattle.unify.specs.Keeps as keeps
use Rattle.unify.specs.Meaning.{row_of, PlainSides, Fails}
use Rattle.unify.specs.Meaning as meaning
use Rattle.unify.specs.Follow as follow
use Rattle.unify.specs.Promise.{answer_is, Solved, SolvedBy, kinds_in, rows_in, solve_in}

-- ── 1. the promise of `unify` ──

-- of every memory, counts and rows: what the promise holds of one answer and memory it holds of no other
pub one_result : (m : List ℕ) (c : Counts) (x y : TypeId) (w u : List ℕ) (r q : Answer) → SolvedBy m c x y w r → SolvedBy m c x y u q → (r ≡ q) × (w ≡ u)
one_result = keeps.determined

-- sound tables stay sound: no cycle, kinds met, numbers in range
pub keeps_sound : (m : List ℕ) (c : Counts) → Sound m c → (x y : TypeId) (w : List ℕ) (r : Answer) → Solved m c x y w r → Sound w c
keeps_sound = keeps.unify_sound

-- in sound tables the steps never run out
pub enough_steps : (m : List ℕ) (c : Counts) → Sound m c → (x y : TypeId) → Ended (solve_in m c x.0 y.0).0
enough_steps = keeps.never_dry

-- it does what the step `equate` of a program does with the tables in the memory
pub equate_step : (m : List ℕ) (c : Counts) → Sound m c → (x y : TypeId) (w : List ℕ) (r : Answer) → Solved m c x y w r → {X Er : Type 0} (p : ℕ) (t : St X Er) → let e = row_of c x in let g = row_of c y in let q = solved e g (state_of m c t) in
    (state_of w c (raised p e g q t) ≡ raised p e g q (state_of m c t)) × (r ≡ answer_is q.0)
equate_step = keeps.unify_step

-- ── 2. what an answer says, both sides and all bindings plain ──

-- success: a way agrees with the bindings after exactly when it agrees with those before and meets the equation
pub success_says : (m : List ℕ) (c : Counts) → Sound m c → (x y : TypeId) → PlainSides m c x y → (w : List ℕ) → Solved m c x y w Success
    → (f : Way) → Kinded (kinds_in m c) f → Agrees (rows_in m c) (binds_in w c) f ↔ (Agrees (rows_in m c) (binds_in m c) f × (den (rows_in m c) f (row_of c x) ≡ den (rows_in m c) f (row_of c y)))
success_says = meaning.unify_success

-- a mismatch, or 12: no way that agrees with the bindings meets the equation
pub failure_says : (m : List ℕ) (c : Counts) → Sound m c → (x y : TypeId) → PlainSides m c x y → (w : List ℕ) (r : Answer) → Solved m c x y w r → Fails r
    → (f : Way) → Kinded (kinds_in m c) f → Agrees (rows_in m c) (binds_in m c) f → den (rows_in m c) f (row_of c x) ≡ den (rows_in m c) f (row_of c y) → ⊥
failure_says = meaning.unify_failed

-- a way that agrees with the bindings exists
pub a_way_agrees : (m : List ℕ) (c : Counts) → Sound m c → (f : Way) × Kinded (kinds_in m c) f × Agrees (rows_in m c) (binds_in m c) f
a_way_agrees = meaning.agreeing_way

-- ── 3. following bindings to their end ──

-- the end is no bound variable
pub end_is_open : (m : List ℕ) (c : Counts) → Sound m c → (x : ℕ) → onward_in m c (type (end_in m c x)) ≡ None
end_is_open m c sound = follow_promise sound

-- and it is reached: whatever row d stands for bindings without an end, and with any more steps k, it is the same
pub end_is_reached : (m : List ℕ) (c : Counts) → Sound m c → (x d k : ℕ) → c.types < k → end_or m c d k x ≡ end_in m c x
end_is_reached m c sound = follow_ends sound

-- a row and its end become the same type under every way that agrees with the bindings
pub end_means_same : (m : List ℕ) (c : Counts) → Sound m c → (f : Way) → Agrees (rows_in m c) (binds_in m c) f → (x : ℕ) → den (rows_in m c) f (end_in m c x) ≡ den (rows_in m c) f x
end_means_same = follow.follow_same

-- ── 4. the rules, whatever the rows ──

-- an equation is never out of fuel and makes no cycle
pub equation_ends : (rows : List Shape) (kinds : List Kind) (m : Mem) (e g : ℕ) → Good rows kinds m.binds → e < length rows → g < length rows → KeptBy rows kinds m (solve rows kinds m e g)
equation_ends = rules.equation_ends

-- with functions at most 4 deep in one another (document 01's limit), the rules enter no more than four functions against lambdas in one another
pub recursion_bounded : (rows : List Shape) (kinds : List Kind) → Functions rows 4 → (n : ℕ) (m : Mem) (x y : ℕ) → bounded rows kinds 4 n m x y ≡ unify rows kinds n m x y
recursion_bounded = rules.recursion_bounded

-- ── 5. demand 3, for any program of the steps ──

module _ {X Er A : Type 0} (rows : List Shape) (own : X) (p : Prog X Er A) (test : ordered rows ≡ true) where
  -- the state in which the program ends
  abbrev pub final : St X Er
  final = (run p (start rows own)).1

  -- answered without an error or refusal: a way meets all the equations exactly when it agrees with the bindings, and one such way exists
  pub demand_3_without_error : final.errs ≡ [] → final.stop ≡ none → All (Sided final.rows) final.log
      → ((w : Way) → Kinded final.kinds w → All (Meets final.rows w) final.log ↔ Agrees final.rows final.mem.binds w) × ((w : Way) × Kinded final.kinds w × All (Meets final.rows w) final.log)
  demand_3_without_error = rules.demand_3_without_error rows own p test

  -- whatever the answer: no way meets the equations up to and including the first that failed or was refused 12
  pub demand_3_first_failure : (after before : List Equation) (q : Equation) → final.log ≡ after ++ q ∷ before → Failed q.answer → All Went before → All (Sided final.rows) (q ∷ before)
      → (w : Way) → Kinded final.kinds w → All (Meets final.rows w) (q ∷ before) → ⊥
  demand_3_first_failure = rules.demand_3_first_failure rows own p test

-- ── 6. a list of equations by itself ──

-- from nothing bound, 13 apart: success exactly if there is a common solution
pub list_exactly : (rows : List Shape) (kinds : List Kind) (ps : List Pair) (m : Mem) → Fresh rows kinds m → All (Posed rows) ps → let o = (solves rows kinds ps m).0 in
    o ≢ refused13 → (o ≡ success) ↔ ((w : Way) × Kinded kinds w × All (Solves rows w) ps)
list_exactly = rules.list_exactly

-- ── 7. pooling ──

-- equal by value is equal, for instances, arrays, references and types of definitions
pub pool_equal : (s t : Shape) (a : ℕ) → made_of t ≡ some a → (equal_rows s t ≡ true) ↔ (s ≡ t)
pool_equal = rules.pool_equal

-- none found: no row is equal
pub pool_not_found : (rows : List Shape) (t : Shape) → first_equal 0 rows t ≡ none → (x : ℕ) → x < length rows → equal_rows (row rows x) t ≡ false
pool_not_found = rules.pool_not_found

-- ── 8. the table of document 01's conditions of acceptance ──

-- the thirteen lines, each with its whole result
pub thirteen_lines : map outcome table ≡ map stated table
thirteen_lines = rules.rules_table

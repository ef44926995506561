-- What is claimed of requests f) and n), one citation each: of the log of any walk, whatever it walks over. Here are their definitions and what rests on no
-- definition of the search; the other claims are in proofs/Claims: start there. Each assumption is an argument of the statement.
-- `Solvable` and `Unsolvable`, `Left` and `Minimal` are in Deletion, `Goes` and `Below` in Search, `Shortest` in Shortest, `NoneFails` and `AllMet` in CommonSolution: none of
-- them runs a checker. `conflict_of`, the set that f)'s promise names, is in Worked; `shortest_of`, the answer that n)'s names, in Shortest.
use Rattle.std.specs.Prelude.{◌≡◌, ℕ, ◌<◌, length}
use Rattle.std.proofs.Common.{ap}
use mathlib.Core.List.{List}
use Rattle.std.proofs.Math.Option.{Option, some}
use Rattle.theory.specs.Rules.{nil, double, int, w64, Shape, Kind, regular, integer, floating, success, Mem, Pair}
use Rattle.theory.specs.Program.{Equation, Prog, run, fuel}
use Rattle.theory.specs.Basics.{All}
use Rattle.theory.specs.Ways.{Ty, basic, Way}
use Rattle.theory.specs.Demand.{Claim}
use Rattle.theory.specs.Start.{start}
use Rattle.conflict_theory.specs.Code.{added}
use Rattle.conflict_theory.specs.Marks.{Unmarked}
use Rattle.conflict_theory.specs.OneBound.{PlainBinds, OneBound, opened, bound_by, binds_one, added_back}
use Rattle.conflict_theory.specs.Test.{MeetsAt, is_success}
use Rattle.conflict_theory.specs.Worked.{until_failed, in_order, sides_at, numbers, PlainPair, None13, conflict_of}
use Rattle.conflict_theory.specs.Thirteen.{ZeroOr12}
use Rattle.conflict_theory.specs.Thirteen as thirteen

-- a type of a kind
abbrev pub type_of : Kind → Ty
type_of regular = basic nil
type_of integer = basic (int w64)
type_of floating = basic double

-- of a walk that is answered 0 or 12, no equation was refused 13
pub none_13 : {X Er A : Type 0} (rows : List Shape) (own : X) (p : Prog X Er A) → ZeroOr12 (run p (start rows own)).1.stop → None13 (run p (start rows own)).1.log
none_13 = thirteen.none_13

module _ (rows : List Shape) (kinds : List Kind) (b : List (Option ℕ)) (log : List Equation) (claim : Claim rows kinds b log) (calm : None13 log)
    (k : List Equation) (worked : until_failed log ≡ some k) (plain : All (PlainPair rows) (in_order k)) where
  -- "the equations, by number from 0 in the order raised", "up to and including the first that failed with cause 1 or was refused 12"
  abbrev pub equations : List Pair
  equations = in_order k

  -- their numbers
  abbrev pub all : List ℕ
  all = numbers equations

  -- a way meets the equation of a number
  abbrev pub Met : Way → ℕ → Type 0
  Met w i = MeetsAt rows kinds (sides_at equations) w i

  -- a number of theirs
  abbrev pub Numbered : ℕ → Type 0
  Numbered i = i < length equations

  -- f)'s set, a subset of theirs
  abbrev pub conflict : List ℕ
  conflict = conflict_of rows kinds equations

-- what the search of the code rests on: a plain equation that goes through binds nothing, or one variable, which was open and to which one of its sides leads; opening that one
-- again takes the equation back
module _ (rows : List Shape) (kinds : List Kind) (at : ℕ → Pair) (plain : (i : ℕ) → PlainPair rows (at i)) (m : Mem) (binds : PlainBinds rows kinds m.binds) (unmarked : Unmarked m) (i : ℕ) (met : (added rows kinds at m i).0 ≡ success) where
  pub one_bound : OneBound rows kinds (fuel rows m) m (at i).0 (at i).1 (added rows kinds at m i).1
  one_bound = binds_one rows kinds m (at i) binds unmarked (plain i) met

  pub taken_back : opened (bound_by rows kinds at m i) (added rows kinds at m i).1 ≡ m
  taken_back = added_back rows kinds at (λ i. Unit {0}) (λ i h. plain i) m i binds unmarked tt (ap is_success met)

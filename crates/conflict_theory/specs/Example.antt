-- The definitions on vectors: three variables, x2 = Bool, x0 = Bool, x0 = x1, x1 = x2, x2 = i (an integer variable), the last of which fails. f) leaves 1, 2, 3 and 4;
-- n) finds 0 and 4 as the ninth subset, and with one test less keeps f)'s set.
use Rattle.std.specs.Prelude.{◌≡◌, refl, List, [], ◌∷◌, Bool, ℕ}
use Rattle.std.proofs.Math.Decide.{ℕ_discrete}
use Rattle.theory.specs.Rules.{bool, Shape, base, var, Kind, regular, integer, Pair, choose, act, split, at_var, pass, bind, leads, seek, unify}
use Rattle.theory.specs.Program.{solve}
use Rattle.theory.specs.Solve.{solves}
use Rattle.conflict_theory.specs.Test.{blank, unified, ok}
use Rattle.conflict_theory.specs.Deletion.{leave}
use Rattle.conflict_theory.specs.Worked.{from, numbers, sides_at, conflict_of}
use Rattle.conflict_theory.specs.Scan.{back, scan}
use Rattle.conflict_theory.specs.Subsets.{subsets, next}
use Rattle.conflict_theory.specs.Search.{tries, search}
use Rattle.conflict_theory.specs.Shortest.{shortest_of}
use Rattle.conflict_theory.specs.Code.{falls, scan_in, tries_in, search_in}

-- x0, x1, x2, i and Bool
abbrev rows : List Shape
rows = var 0 ∷ var 1 ∷ var 2 ∷ var 3 ∷ base bool ∷ []

abbrev kinds : List Kind
kinds = regular ∷ regular ∷ regular ∷ integer ∷ []

abbrev equations : List Pair
equations = (2, 4) ∷ (0, 4) ∷ (0, 1) ∷ (1, 2) ∷ (2, 3) ∷ []

-- the test
abbrev test : List ℕ → Bool
test = ok rows kinds (sides_at equations)

-- f)'s set
abbrev left : List ℕ
left = 1 ∷ 2 ∷ 3 ∷ 4 ∷ []

pub to_the_letter : conflict_of rows kinds equations ≡ left
unfolding conflict_of leave ok unified solves solve unify choose act split at_var pass bind leads seek blank from ℕ_discrete
to_the_letter = refl

pub scans : scan test 5 [] (numbers equations) ≡ left
unfolding scan back ok unified solves solve unify choose act split at_var pass bind leads seek blank from ℕ_discrete
scans = refl

pub code_scans : scan_in rows kinds (sides_at equations) 5 5 [] 0 ≡ left
unfolding scan_in falls unified solves solve unify choose act split at_var pass bind leads seek blank ℕ_discrete
code_scans = refl

pub ninth : shortest_of rows kinds equations 9 ≡ (0 ∷ 4 ∷ [], 2)
unfolding shortest_of search tries subsets conflict_of leave ok unified solves solve unify choose act split at_var pass bind leads seek blank from ℕ_discrete
ninth = refl

pub eighth : shortest_of rows kinds equations 8 ≡ (left, 2)
unfolding shortest_of search tries subsets conflict_of leave ok unified solves solve unify choose act split at_var pass bind leads seek blank from ℕ_discrete
eighth = refl

pub code_ninth : search_in test 5 1 3 9 left ≡ (0 ∷ 4 ∷ [], 2)
unfolding search_in tries_in next ok unified solves solve unify choose act split at_var pass bind leads seek blank from ℕ_discrete
code_ninth = refl

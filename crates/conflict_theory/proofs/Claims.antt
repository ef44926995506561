-- What is claimed of requests f) and n), one citation each: of the log of any walk, whatever it walks over. Start here. Each assumption is an argument of the statement.
-- `Solvable` and `Unsolvable`, `Left` and `Minimal` are in Deletion, `Goes` and `Below` in Search, `Shortest` in Shortest, `NoneFails` and `AllMet` in CommonSolution: none of
-- them runs a checker. `conflict_of`, the set that f)'s promise names, is in Worked; `shortest_of`, the answer that n)'s names, in Shortest.
use Rattle.std.specs.Prelude.{◌≡◌, ◌↔◌, true, false, ℕ, ◌-◌, ◌<◌, length}
use Rattle.std.proofs.Math.Path.{refl}
use Rattle.std.proofs.Common.{sym, subst, ◌∙◌, arith}
use mathlib.Core.List.{List, [], ◌∷◌, map}
use Rattle.std.proofs.Math.Option.{Option, some}
use Rattle.theory.specs.Rules.{Shape, Kind, regular, integer, floating, Pair, kind}
use Rattle.theory.specs.Program.{Equation}
use Rattle.theory.specs.Basics.{All, all_map2}
use Rattle.theory.specs.Ways.{Way, ty_fits, Kinded, Inside, Sided}
use Rattle.theory.specs.Demand.{Claim}
use Rattle.theory.specs.Solve.{Posed, Solves}
use Rattle.conflict_theory.specs.Sets.{Part}
use Rattle.conflict_theory.specs.Deletion.{Solvable, Unsolvable, Left, Minimal, left_minimal, left_one, leave_left}
use Rattle.conflict_theory.specs.Scan.{scan, scan_left}
use Rattle.conflict_theory.specs.Code.{scan_in, search_in, scan_same}
use Rattle.conflict_theory.proofs.CodeLaws.{search_same}
use Rattle.conflict_theory.specs.Subsets.{Picks, picks_part, from_distinct, from_length, picks_length}
use Rattle.conflict_theory.proofs.Search.{search_agree}
use Rattle.conflict_theory.specs.Shortest.{shortest_of, left_picks, Shortest}
use Rattle.conflict_theory.proofs.Shortest.{search_shortest}
use Rattle.conflict_theory.specs.CommonSolution.{NoneFails, AllMet}
use Rattle.conflict_theory.proofs.CommonSolution.{none_fails_exactly}
use Rattle.conflict_theory.specs.Test.{Sound, MeetsAt, unified, ok, ok_yes, ok_no}
use Rattle.conflict_theory.specs.Worked.{until_failed, in_order, sides_at, PlainPair, plain_sided, conflict_of, None13, order_all, each_at, from_below, until_failed_part}
use Rattle.conflict_theory.proofs.Worked.{worked_none}
use Rattle.conflict_theory.specs.Claims.{type_of, equations as equations·S, all as all·S, Met as Met·S, Numbered as Numbered·S, conflict as conflict·S}

type_fits : (k : Kind) → ty_fits k (type_of k) ≡ true
type_fits regular = refl
type_fits integer = refl
type_fits floating = refl

not_empty : (kinds : List Kind) (M : Way → ℕ → Type 0) (r : List ℕ) → Unsolvable (Kinded kinds) M r → 0 < length r
not_empty kinds M [] u = absurd (u (λ v. type_of (kind kinds v), λ v. type_fits (kind kinds v), tt))
not_empty kinds M (i ∷ r) u = omega arith

map_same : {A B : Type 0} (R : A → Type 0) (f g : A → B) → ((i : A) → R i → f i ≡ g i) → (l : List A) → All R l → map f l ≡ map g l
map_same R f g e [] h = refl
map_same R f g e (i ∷ l) h = rw (e i h.0, map_same R f g e l h.1) refl

module _ (rows : List Shape) (kinds : List Kind) (b : List (Option ℕ)) (log : List Equation) (claim : Claim rows kinds b log) (calm : None13 log)
    (k : List Equation) (worked : until_failed log ≡ some k) (plain : All (PlainPair rows) (in_order k)) where
  -- as specs/Claims has it
  abbrev equations : List Pair
  equations = equations·S rows kinds b log claim calm k worked plain

  -- as specs/Claims has it
  abbrev all : List ℕ
  all = all·S rows kinds b log claim calm k worked plain

  -- as specs/Claims has it
  abbrev Met : Way → ℕ → Type 0
  Met = Met·S rows kinds b log claim calm k worked plain

  -- as specs/Claims has it
  abbrev Numbered : ℕ → Type 0
  Numbered = Numbered·S rows kinds b log claim calm k worked plain

  all_numbered : All Numbered all
  all_numbered = from_below 0 (length equations) (length equations) (omega arith)

  posed : (i : ℕ) → Numbered i → Posed rows (sides_at equations i)
  posed =
      each_at (Posed rows) equations
      (all_map2 (λ (p : Pair). (p.0 < length rows) × (p.1 < length rows)) (PlainPair rows) (Posed rows) equations (λ p i h. (i.0, i.1, plain_sided rows p h))
      ((order_all (λ (p : Pair). (p.0 < length rows) × (p.1 < length rows)) k).0 (until_failed_part (Inside rows) log k worked claim.inside)) plain)

  sound : Sound rows kinds
  sound = record { lower = claim.lower; some_row = claim.some_row; meant = λ x v e. omega (arith, claim.good.meant x v e, claim.kinds_sized) }

  -- they have no common solution
  pub all_none : Unsolvable (Kinded kinds) Met all
  all_none = worked_none rows kinds b log claim calm k worked plain

  -- with the sides of each equation read wherever they are, `at`
  module _ (at : ℕ → Pair) (agrees : (i : ℕ) → Numbered i → at i ≡ sides_at equations i) where
    met_same : (w : Way) (i : ℕ) → Numbered i → (MeetsAt rows kinds at w i → Met w i) × (Met w i → MeetsAt rows kinds at w i)
    met_same w i h = (λ m. subst (Solves rows w) (agrees i h) m, λ m. subst (Solves rows w) (sym (agrees i h)) m)

    posed_at : (i : ℕ) → Numbered i → Posed rows (at i)
    posed_at i h = subst (Posed rows) (sym (agrees i h)) (posed i h)

    -- unification from nothing bound and nothing marked tells which of them have a common solution
    pub test_yes : (l : List ℕ) → All Numbered l → ok rows kinds at l ≡ true → Solvable (Kinded kinds) Met l
    test_yes l h e = let s = ok_yes rows kinds sound at Numbered posed_at l h e in (s.0, s.1, all_map2 Numbered (MeetsAt rows kinds at s.0) (Met s.0) l (λ i n. (met_same s.0 i n).0) h s.2)

    -- and which have none
    pub test_no : (l : List ℕ) → All Numbered l → ok rows kinds at l ≡ false → Unsolvable (Kinded kinds) Met l
    test_no l h e s = ok_no rows kinds sound at Numbered posed_at l h e (s.0, s.1, all_map2 Numbered (Met s.0) (MeetsAt rows kinds at s.0) l (λ i n. (met_same s.0 i n).1) h s.2)

  -- "drops from number 0 up each one whose removal leaves the rest unsolvable": that is what is left, by ways
  pub conflict_left : Left (Kinded kinds) Met [] all (conflict_of rows kinds equations)
  unfolding conflict_of
  conflict_left = leave_left (ok rows kinds (sides_at equations)) (Kinded kinds) Met Numbered (test_yes (sides_at equations) (λ i h. refl)) (test_no (sides_at equations) (λ i h. refl)) [] all all_numbered

  -- and nothing else is
  pub conflict_only : (r : List ℕ) → Left (Kinded kinds) Met [] all r → r ≡ conflict_of rows kinds equations
  conflict_only r h = left_one (Kinded kinds) Met [] all r (conflict_of rows kinds equations) h conflict_left

  -- "The answer is proved to be such a set": it has no common solution, and "Removing any single one of them must leave the others solvable"
  pub conflict_minimal : Minimal (Kinded kinds) Met (conflict_of rows kinds equations)
  conflict_minimal = left_minimal (Kinded kinds) Met all (conflict_of rows kinds equations) all_none conflict_left

  -- the scans of the code, one from the last equation back for each one kept, each equation unified once on top of those before it, find this set
  pub code_conflict : (at : ℕ → Pair) → ((i : ℕ) → Numbered i → at i ≡ sides_at equations i) → scan_in rows kinds at (length equations) (length equations) [] 0 ≡ conflict_of rows kinds equations
  code_conflict at agrees =
      let z : length equations - 0 ≡ length equations = omega arith in
      (rw z at (scan_same rows kinds at (Kinded kinds) Met Numbered (test_yes at agrees) (test_no at agrees) (length equations) (length equations) [] 0 (omega arith) (rw z all_numbered)))
      ∙ conflict_only (scan (ok rows kinds at) (length equations) [] all) (scan_left (ok rows kinds at) (Kinded kinds) Met Numbered (test_yes at agrees) (test_no at agrees) (length equations) [] all (omega (arith, from_length 0 (length equations))) all_numbered all_none)

  -- ── n ──

  -- as specs/Claims has it
  abbrev conflict : List ℕ
  conflict = conflict·S rows kinds b log claim calm k worked plain

  picked : (t : List ℕ) × (conflict ≡ t) × Picks t all
  picked = left_picks (Kinded kinds) Met [] all conflict conflict_left

  conflict_picked : Picks conflict all
  conflict_picked = rw picked.1 picked.2

  -- n)'s answer and `below=`, by ways: which subsets are tested, "the first unsolvable one, else f)'s set", and all that the request says of the two numbers
  pub shortest_is : (n : ℕ) → Shortest (Kinded kinds) Met n all conflict (shortest_of rows kinds equations n).0 (shortest_of rows kinds equations n).1
  unfolding shortest_of
  shortest_is n =
      search_shortest (ok rows kinds (sides_at equations)) (Kinded kinds) Met Numbered (test_yes (sides_at equations) (λ i h. refl)) (test_no (sides_at equations) (λ i h. refl)) n all conflict all_numbered (from_distinct 0 (length equations)) conflict_picked (not_empty kinds Met conflict conflict_minimal.none) conflict_minimal.none

  -- the answer's numbers are theirs
  pub shortest_part : (n : ℕ) → Part (shortest_of rows kinds equations n).0 all
  shortest_part n = picks_part (shortest_of rows kinds equations n).0 all (shortest_is n).picked

  same_test : (at : ℕ → Pair) → ((i : ℕ) → Numbered i → at i ≡ sides_at equations i) → (l : List ℕ) → All Numbered l → ok rows kinds at l ≡ ok rows kinds (sides_at equations) l
  unfolding ok unified
  same_test at agrees l h = rw (map_same Numbered at (sides_at equations) agrees l h) refl

  -- the search of the code, each subset made of the one before it, gives this answer
  pub code_shortest : (at : ℕ → Pair) → ((i : ℕ) → Numbered i → at i ≡ sides_at equations i) → (n : ℕ) → search_in (ok rows kinds at) (length equations) 1 (length conflict - 1) n conflict ≡ shortest_of rows kinds equations n
  unfolding shortest_of
  code_shortest at agrees n =
      search_same (ok rows kinds at) (length equations) (length conflict - 1) 1 n conflict (omega (arith, picks_length conflict all conflict_picked, from_length 0 (length equations)))
      ∙ search_agree (ok rows kinds at) (ok rows kinds (sides_at equations)) Numbered (same_test at agrees) (length conflict - 1) 1 n all conflict all_numbered

-- n), last sentence, of a log with demand 3's sides: "no equation fails or is refused 12 exactly if all of them have a common solution"
pub common_solution : (rows : List Shape) (kinds : List Kind) (b : List (Option ℕ)) (log : List Equation) → Claim rows kinds b log → None13 log → All (Sided rows) log → NoneFails log ↔ AllMet rows kinds log
common_solution = none_fails_exactly

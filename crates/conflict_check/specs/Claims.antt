-- What is claimed of `quarrel`, one citation each: document 02 f and n. Start here. Each assumption is an argument of the statement.
-- The contract of `quarrel` (src/lib.rt) is one equation: its answer, with the papers' number and PLACE, all lent tables and the output as it leaves them are `quarrel_of` of
-- Quarrel, for every input bytes `s`, every lent tables `l` and every output `o`. That every call ends, and that nothing is read or written out of bounds, is part of the
-- proof of each function. `equations_of`, `types_of` and `kinds_of` of crate `checker` are what the file raises by itself; `until_failed`, `in_order`, `PlainPair` and `conflict_of`
-- of crate `conflict_theory` are the request's words, and `Left` and `Minimal` say them by ways: no checker is run in them. Both forms of the sought have the same set.
use Rattle.std.specs.Prelude.{◌≡◌, ◌↔◌, List, [], ◌++◌, Bool, ℕ, ◌≤◌, ◌<◌, length, drop}
use Rattle.std.proofs.Math.Path.{refl}
use Rattle.std.proofs.Common.{sym, ap, ◌∙◌}
use Rattle.std.proofs.Math.Option.{none, some}
use Rattle.std.proofs.Math.Bool.{true, false}
use borrow.Author.Tests.{lt-ltb, le-ltb}
use Rattle.theory.specs.Program.{Equation}
use Rattle.theory.specs.Basics.{All}
use Rattle.theory.specs.Ways.{Way, Kinded, Sided}
use Rattle.answers.specs.Lent.{Lent}
use Rattle.checker.specs.Check.{check_of}
use Rattle.checker.specs.File.{equations_of, types_of, kinds_of}
use Rattle.output.specs.Output.{zeros, ended}
use Rattle.conflict_theory.specs.Deletion.{Left, Minimal}
use Rattle.conflict_theory.specs.Test.{MeetsAt}
use Rattle.conflict_theory.specs.Worked.{until_failed, in_order, sides_at, numbers, PlainPair, conflict_of}
use Rattle.conflict_theory.specs.Plains.{all_plain, all_exactly}
use Rattle.conflict_theory.specs.Shortest.{shortest_of, Shortest}
use Rattle.conflict_theory.specs.CommonSolution.{NoneFails, AllMet}
use Rattle.conflict_theory.proofs.Claims as theory
use Rattle.conflict_set.specs.declared.Sought.{Sought}
use Rattle.conflict_set.specs.Text.{sought_text, text_by, text_of, told_of}
use Rattle.conflict_check.specs.declared.Quarreled.{Quarreled}
use Rattle.conflict_check.specs.declared.Quarreled.TheVariants.{Refused, Written, Nothing, NoRoom}
use Rattle.conflict_check.specs.Quarrel.{is_open, Told, told, quarrel_text, quarrel_of}
use Rattle.conflict_check.specs.Answered.{file_claim, file_calm}

module _ (s : List ℕ) (sought : Sought) (l : Lent) (o : List ℕ) where
  -- the promise of `quarrel` holds of one answer, tables and output, and of no other
  pub one_result : (a b : Quarreled) (u v : Lent) (x y : List ℕ) → told a u x ≡ quarrel_of s sought l o → told b v y ≡ quarrel_of s sought l o → (a ≡ b) × (u ≡ v) × (x ≡ y)
  one_result a b u v x y p q = (ap (λ (h : Told). h.answer) (p ∙ sym q), ap (λ (h : Told). h.tables) (p ∙ sym q), ap (λ (h : Told). h.output) (p ∙ sym q))

  -- "the tables as Check left them"
  pub tables_as_checked : (quarrel_of s sought l o).tables ≡ (check_of s l).tables
  unfolding quarrel_of
  tables_as_checked = refl

  -- "the checker's own refusals other than 12" come first, with their PLACE; the output is zero throughout
  pub own_refusals : is_open (check_of s l).answer ≡ false → quarrel_of s sought l o ≡ told (Refused (check_of s l).answer) (check_of s l).tables (zeros o)
  unfolding quarrel_of
  own_refusals e = rw e refl

  module _ (answered : is_open (check_of s l).answer ≡ true) where
    -- by the text of the file: 14 without one
    pub on_14 : quarrel_text sought s ≡ none → quarrel_of s sought l o ≡ told (Nothing (check_of s l).answer) (check_of s l).tables (zeros o)
    unfolding quarrel_of told_of
    on_14 e = rw (answered, e) refl

    -- 14 "if no equation failed that way"
    pub none_failed : until_failed (equations_of s) ≡ none → quarrel_text sought s ≡ none
    unfolding text_of
    none_failed e = rw e refl

    module _ (k : List Equation) (until : until_failed (equations_of s) ≡ some k) where
      -- 14 if "one of those equations has a side that is not plain, Diverges as got side excepted"
      pub not_plain : (All (PlainPair (types_of s)) (in_order k) → ⊥) → quarrel_text sought s ≡ none
      unfolding text_of
      not_plain h = rw until (by (all_plain (types_of s) (in_order k)) refl)
        where
          by : (b : Bool) → all_plain (types_of s) (in_order k) ≡ b → text_by sought (types_of s) (kinds_of s) (some k) ≡ none
          by true p = absurd (h ((all_exactly (types_of s) (file_claim s l answered).1.lower (in_order k)).0 p))
          by false p = rw p refl

      module _ (plain : All (PlainPair (types_of s)) (in_order k)) where
        -- the set that is named
        abbrev pub set : List ℕ
        set = conflict_of (types_of s) (kinds_of s) (in_order k)

        -- a way meets the equation of a number
        abbrev pub Met : Way → ℕ → Type 0
        Met = MeetsAt (types_of s) (kinds_of s) (sides_at (in_order k))

        -- it is what "drops from number 0 up each one whose removal leaves the rest unsolvable" leaves,
        pub set_left : Left (Kinded (kinds_of s)) Met [] (numbers (in_order k)) set
        set_left = theory.conflict_left (types_of s) (kinds_of s) (file_claim s l answered).0 (equations_of s) (file_claim s l answered).1 (file_calm s l answered) k until plain

        -- and nothing else is;
        pub set_only : (r : List ℕ) → Left (Kinded (kinds_of s)) Met [] (numbers (in_order k)) r → r ≡ set
        set_only = theory.conflict_only (types_of s) (kinds_of s) (file_claim s l answered).0 (equations_of s) (file_claim s l answered).1 (file_calm s l answered) k until plain

        -- it has no common solution, and "Removing any single one of them must leave the others solvable"
        pub set_minimal : Minimal (Kinded (kinds_of s)) Met set
        set_minimal = theory.conflict_minimal (types_of s) (kinds_of s) (file_claim s l answered).0 (equations_of s) (file_claim s l answered).1 (file_calm s l answered) k until plain

        -- n): with a number of subsets that may be tested, its answer and `below=`
        abbrev pub shortest : ℕ → List ℕ × ℕ
        shortest b = shortest_of (types_of s) (kinds_of s) (in_order k) b

        -- which subsets are tested, in which order, and which is answered, by ways; the answer has no common solution; every non-empty subset smaller than `below=` was
        -- tested and is solvable, and no greater size has that; so the answer is longer than the best by at most the difference; and with a number not under the count of the
        -- subsets smaller than f)'s set the two are equal
        pub shortest_is : (b : ℕ) → Shortest (Kinded (kinds_of s)) Met b (numbers (in_order k)) set (shortest b).0 (shortest b).1
        shortest_is = theory.shortest_is (types_of s) (kinds_of s) (file_claim s l answered).0 (equations_of s) (file_claim s l answered).1 (file_calm s l answered) k until plain

        -- f): "its text is an `equation=` line for each one left"; n): "answers in f)'s text", and "A line `below=` ends it"
        abbrev pub text : List ℕ
        text = sought_text sought (types_of s) (kinds_of s) k

        text_is : quarrel_text sought s ≡ some text
        unfolding text_of
        text_is = rw (until, (all_exactly (types_of s) (file_claim s l answered).1.lower (in_order k)).1 plain) refl

        -- with room the answer is 0; the output begins with the text, and the bytes after it are unchanged
        pub with_room : length text ≤ length o → quarrel_of s sought l o ≡ told (Written (check_of s l).answer (length text)) (check_of s l).tables (text ++ drop (length text) o)
        unfolding quarrel_of told_of ended
        with_room h = rw (answered, text_is, le-ltb (length o) (length text) h) refl

        -- without it 9, and the output is zero throughout
        pub without_room : length o < length text → quarrel_of s sought l o ≡ told (NoRoom (check_of s l).answer) (check_of s l).tables (zeros o)
        unfolding quarrel_of told_of ended
        without_room h = rw (answered, text_is, lt-ltb (length o) (length text) h) refl

-- n), last sentence, of `check` on every input bytes: of a file answered 0 or 12 whose equation sides meet demand 3's premise, "no equation fails or is refused 12 exactly if
-- all of them have a common solution, the definition of a solution not running the checker". The request asks it of bodies that hold no negation; it holds of all.
pub common_solution : (s : List ℕ) (l : Lent) → is_open (check_of s l).answer ≡ true → All (Sided (types_of s)) (equations_of s) → NoneFails (equations_of s) ↔ AllMet (types_of s) (kinds_of s) (equations_of s)
common_solution s l answered sides = theory.common_solution (types_of s) (kinds_of s) (file_claim s l answered).0 (equations_of s) (file_claim s l answered).1 (file_calm s l answered) sides

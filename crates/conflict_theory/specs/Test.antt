-- The test of a set of equations by unification, from nothing bound and no mark: it tells whether they have a common solution. Assumes tables without a cycle and with
-- each variable's kind (`Sound`), sides of the table that are plain or Diverges as the got side (`posed`, of the numbers that `R` holds of; `at` has the sides of each).
use Rattle.std.specs.Prelude.{◌≡◌, refl, ◌≢◌, ◌↔◌, Bool, true, false, ℕ, suc, zero, ◌<◌, length, get_or, replicate}
use Rattle.std.proofs.Common.{sym}
use mathlib.Core.List.{List, [], ◌∷◌, map}
use Rattle.std.proofs.Math.Option.{Option, none, some}
use Rattle.std.proofs.lemmas.List.{length-replicate}
use Rattle.theory.specs.Rules.{Shape, Kind, Out, success, mismatch, refused12, refused13, dry, Mem, Pair, Res, row, as_var}
use Rattle.theory.specs.Basics.{All, all_map, clash}
use Rattle.theory.specs.Ways.{Way, Kinded}
use Rattle.theory.specs.Graph.{Lower}
use Rattle.theory.specs.Solve.{solves, Fresh, Posed, Solves}
use Rattle.theory.proofs.Solve.{solvable_exactly}
use Rattle.conflict_theory.specs.Deletion.{Solvable, Unsolvable}
use Rattle.conflict_theory.specs.Marks.{Unmarked, Not13, solves_calm}

-- ── definitions ──

-- nothing bound and nothing marked, for so many variables
unfoldable pub blank : ℕ → Mem
blank n = record { binds = replicate n none; marks = replicate n false }

-- it went through
abbrev pub is_success : Out → Bool
is_success success = true
is_success mismatch = false
is_success refused12 = false
is_success refused13 = false
is_success dry = false

-- the rows are made of lower rows, there is one, and each variable has a kind
pub record Sound (rows : List Shape) (kinds : List Kind) : Type 0 where
  pub lower : Lower rows
  pub some_row : 0 < length rows
  pub meant : (x v : ℕ) → as_var (row rows x) ≡ some v → v < length kinds

module _ (rows : List Shape) (kinds : List Kind) (at : ℕ → Pair) where
  -- a way meets the equation of a number
  abbrev pub MeetsAt : Way → ℕ → Type 0
  MeetsAt w i = Solves rows w (at i)

  -- the equations of these numbers "have a common solution among plain closed types", integer variables sized integers and float variables f32 or f64
  abbrev pub Common : List ℕ → Type 0
  Common l = Solvable (Kinded kinds) MeetsAt l

  -- they have none
  abbrev pub NoCommon : List ℕ → Type 0
  NoCommon l = Unsolvable (Kinded kinds) MeetsAt l

  -- unified one after the other, from nothing bound and nothing marked
  unfoldable pub unified : List ℕ → Res
  unified l = solves rows kinds (map at l) (blank (length kinds))

  -- the test
  unfoldable pub ok : List ℕ → Bool
  ok l = is_success (unified l).0

-- ── proofs ──

-- each element
pub replicate_at : {A : Type 0} (n : ℕ) (a : A) (v : ℕ) → get_or (replicate n a) v a ≡ a
replicate_at zero a v = refl
replicate_at (suc n) a zero = refl
replicate_at (suc n) a (suc v) = replicate_at n a v

-- of all images
pub mapped : {A B : Type 0} (P : B → Type 0) (f : A → B) (l : List A) → All P (map f l) ↔ All (λ i. P (f i)) l
mapped P f [] = (λ h. h, λ h. h)
mapped P f (x ∷ l) = (λ h. (h.0, (mapped P f l).0 h.1), λ h. (h.0, (mapped P f l).1 h.1))

-- only success passes
pub success_yes : (o : Out) → is_success o ≡ true → o ≡ success
success_yes success e = refl
success_yes mismatch e = cc
success_yes refused12 e = cc
success_yes refused13 e = cc
success_yes dry e = cc

not_13 : (o : Out) → Not13 o → o ≢ refused13
not_13 success h e = clash (cc)
not_13 mismatch h e = clash (cc)
not_13 refused12 h e = clash (cc)
not_13 refused13 h e = h
not_13 dry h e = clash (cc)

-- nothing is marked there
pub blank_unmarked : (n : ℕ) → Unmarked (blank n)
unfolding blank
blank_unmarked n v = replicate_at n false v

blank_fresh : (rows : List Shape) (kinds : List Kind) → Sound rows kinds → Fresh rows kinds (blank (length kinds))
unfolding blank
blank_fresh rows kinds s =
    record {
      lower = s.lower;
      some_row = s.some_row;
      kinds_sized = sym (length-replicate (length kinds) none);
      unbound = λ v. replicate_at (length kinds) none v;
      meant = λ x v e. rw (length-replicate {A = Option ℕ} (length kinds) none) (s.meant x v e);
    }

module _ (rows : List Shape) (kinds : List Kind) (sound : Sound rows kinds) (at : ℕ → Pair) (R : ℕ → Type 0) (posed : (i : ℕ) → R i → Posed rows (at i)) where
  exactly : (l : List ℕ) → All R l → ((unified rows kinds at l).0 ≡ success) ↔ Common rows kinds at l
  unfolding unified
  exactly l r =
      let ps = map at l in
      let m = blank (length kinds) in
      let s = solvable_exactly rows kinds ps m (blank_fresh rows kinds sound) ((mapped (Posed rows) at l).1 (all_map R (λ i. Posed rows (at i)) l posed r)) (not_13 (solves rows kinds ps m).0 (solves_calm rows kinds ps m (blank_unmarked (length kinds))).0) in
      (λ e. let x = s.0 e in (x.0, x.1, (mapped (Solves rows x.0) at l).0 x.2), λ x. s.1 (x.0, x.1, (mapped (Solves rows x.0) at l).1 x.2))

  -- a set that passes the test has a common solution
  pub ok_yes : (l : List ℕ) → All R l → ok rows kinds at l ≡ true → Common rows kinds at l
  unfolding ok
  ok_yes l r e = (exactly l r).0 (success_yes (unified rows kinds at l).0 e)

  -- one that does not has none
  pub ok_no : (l : List ℕ) → All R l → ok rows kinds at l ≡ false → NoCommon rows kinds at l
  unfolding ok
  ok_no l r e c = let p = (exactly l r).1 c in let q = rw p at e in clash (cc)

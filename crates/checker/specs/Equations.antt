-- Which equation of a file is refused, which errors are those of its equations, and that each of them ended. Assumes nothing.
use Rattle.std.specs.Prelude.{◌≡◌, List, ℕ, ◌≤◌}
use Rattle.std.proofs.Math.Path.{refl}
use Rattle.std.proofs.Common.{sym, subst}
use Rattle.std.proofs.Math.Option.{Option}
use Rattle.theory.specs.Rules.{refused12, refused13}
use Rattle.theory.specs.Program.{Equation}
use Rattle.theory.specs.Basics.{All}
use Rattle.type_table.specs.declared.NodeId.{NodeId}
use Rattle.refs.specs.declared.Counts.{Counts}
use Rattle.body.specs.declared.Answer.{Answer as Reading}
use Rattle.body.specs.declared.Answer.TheVariants as reading
use Rattle.record.specs.Steps.{State}
use Rattle.bounds.specs.Newest.{Unrefused, NewestIs}
use Rattle.bounds.specs.Causes.{Pairwise, Caused}
use Rattle.bounds.specs.Ended.{EndedIn}
use Rattle.bounds.proofs.Claims as walk
use Rattle.answers.specs.declared.Totals.{Totals}
use Rattle.answers.specs.declared.Answer.TheVariants as answer
use Rattle.answers.specs.Lent.{Lent}
use Rattle.checker.specs.Check.{reading_of, check_of}
use Rattle.checker.specs.File.{state_by, state_of, equations_in, equations_of, errors_in, errors_of, raised_by, raised_of}
use Rattle.checker.specs.Answers.{last_of, read_well_formed, on_0, on_10_to_13}
use Rattle.checker.specs.Demand.{state-is}

module _ (s : List ℕ) where
  -- each equation ended
  pub ended : Pairwise EndedIn (equations_of s) (raised_of s)
  unfolding state_of raised_of
  ended = by (reading_of s).answer
    where
      by : (a : Reading) → Pairwise EndedIn (equations_in (state_by a (reading_of s).rows (reading_of s).cells)) (raised_by a (reading_of s).rows (reading_of s).cells)
      by (reading.Body n) = walk.equations_ended n (reading_of s).rows (reading_of s).cells
      by reading.TooLong = tt
      by reading.ShortTable = tt
      by (reading.Refused x k) = tt

  -- the errors of the equations
  pub caused : Caused (errors_of s) (equations_of s)
  unfolding state_of
  caused = by (reading_of s).answer refl
    where
      by : (a : Reading) → (reading_of s).answer ≡ a → let t = state_by a (reading_of s).rows (reading_of s).cells in Caused (errors_in t) (equations_in t)
      by (reading.Body n) e = walk.errors_of_equations n (reading_of s).rows (reading_of s).cells (read_well_formed s n e)
      by reading.TooLong e = tt
      by reading.ShortTable e = tt
      by (reading.Refused x k) e = tt

  -- a fact of the equations of the state in which the rules end is one of those of the file
  of_file : (P : List Equation → Type 0) (n : Counts) → (reading_of s).answer ≡ reading.Body n → P (last_of s n).log → P (equations_of s)
  of_file P n e = subst (λ (t : Option State). P (equations_in t)) (sym (state-is s n e))

module _ (s : List ℕ) (l : Lent) where
  -- 12
  pub on_12 : (p : NodeId) → (check_of s l).answer ≡ answer.Declined 12 p → NewestIs refused12 p.0 (equations_of s)
  on_12 p e = let o = on_10_to_13 s l 12 p e in of_file s (NewestIs refused12 p.0) o.n o.read (walk.refused_12 o.n _ _ (read_well_formed s o.n o.read) p.0 o.refusal)

  -- 13
  pub on_13 : (p : NodeId) → (check_of s l).answer ≡ answer.Declined 13 p → NewestIs refused13 p.0 (equations_of s)
  on_13 p e = let o = on_10_to_13 s l 13 p e in of_file s (NewestIs refused13 p.0) o.n o.read (walk.refused_13 o.n _ _ (read_well_formed s o.n o.read) p.0 o.refusal)

  -- 10 and 11
  pub on_10_and_11 : (k : ℕ) (p : NodeId) → k ≤ 11 → (check_of s l).answer ≡ answer.Declined k p → All Unrefused (equations_of s)
  on_10_and_11 k p h e = let o = on_10_to_13 s l k p e in of_file s (All Unrefused) o.n o.read (walk.not_refused_by_10_and_11 o.n _ _ (read_well_formed s o.n o.read) k p.0 o.refusal h)

  -- 0
  pub unrefused_on_0 : (t : Totals) → (check_of s l).answer ≡ answer.Checked t → All Unrefused (equations_of s)
  unrefused_on_0 t e =
      let o = on_0 s l t e in
      let n : Counts = t.declared in
      of_file s (All Unrefused) n o.read (walk.not_refused n _ _ (read_well_formed s n o.read) (walk.answered_0 n (reading_of s).rows (reading_of s).cells o.ended))

-- What is known of a file that Check answers with 0 or 12: demand 3's invariant holds of its types, variables and equations, and no equation was refused 13. Assumes nothing.
use Rattle.std.specs.Prelude.{◌≡◌, refl, List, true, ℕ}
use Rattle.std.proofs.Common.{ap, ◌∙◌, inl, inr}
use Rattle.std.proofs.Math.Option.{Option, some}
use Rattle.theory.specs.Basics.{clash, eqb-true}
use Rattle.theory.specs.Demand.{Claim}
use Rattle.theory.proofs.Demand.{track}
use Rattle.theory.specs.Start.{start}
use Rattle.theory.proofs.Start.{start_track}
use Rattle.type_table.specs.Sound.{fixed_types}
use Rattle.refs.specs.declared.Counts.{Counts}
use Rattle.nodes.specs.Nodes.{fn_line}
use Rattle.body.specs.declared.Answer.{Answer as Reading}
use Rattle.body.specs.declared.Answer.TheVariants as reading
use Rattle.record.specs.Own.{blank}
use Rattle.record.specs.Steps.{State}
use Rattle.resolve.specs.Resolve.{type_body}
use Rattle.resolve.specs.Body.{last_state}
use Rattle.bounds.proofs.Claims.{answered_0}
use Rattle.answers.specs.declared.Answer.{Answer}
use Rattle.answers.specs.declared.Answer.TheVariants as answer
use Rattle.answers.specs.Lent.{Lent}
use Rattle.checker.specs.Check.{reading_of, check_of}
use Rattle.checker.specs.File.{state_by, state_of, equations_of, types_of, kinds_of}
use Rattle.checker.specs.Answers.{on_0, on_10_to_13}
use Rattle.conflict_theory.specs.Worked.{None13}
use Rattle.conflict_theory.specs.Thirteen.{ZeroOr12}
use Rattle.conflict_theory.specs.Claims.{none_13}
use Rattle.conflict_check.specs.Quarrel.{is_open}

-- the state in which the walk of the file ended, with these counts
abbrev pub last_of : List ℕ → Counts → State
last_of s n = last_state n (reading_of s).rows (reading_of s).cells

-- demand 3's invariant
pub state_claim : (n : Counts) (rows cells : List ℕ) → Claim (last_state n rows cells).rows (last_state n rows cells).kinds (last_state n rows cells).mem.binds (last_state n rows cells).log
state_claim n rows cells = (track (type_body n rows cells) (start fixed_types (blank (fn_line rows cells).output.0)) (start_track fixed_types (blank (fn_line rows cells).output.0) refl)).tables.claim

-- no equation was refused 13
pub state_calm : (n : Counts) (rows cells : List ℕ) → ZeroOr12 (last_state n rows cells).stop → None13 (last_state n rows cells).log
state_calm n rows cells = none_13 fixed_types (blank (fn_line rows cells).output.0) (type_body n rows cells)

-- the file has this state
pub state-is : (s : List ℕ) (n : Counts) → (reading_of s).answer ≡ reading.Body n → state_of s ≡ some (last_of s n)
unfolding state_of
state-is s n e = ap (λ (a : Reading). state_by a (reading_of s).rows (reading_of s).cells) e

module _ (s : List ℕ) (l : Lent) (answered : is_open (check_of s l).answer ≡ true) where
  -- its counts, and how its walk ended
  abbrev Ended : Type 0
  Ended = (n : Counts) × ((reading_of s).answer ≡ reading.Body n) × ZeroOr12 (last_of s n).stop

  ended : Ended
  ended = by (check_of s l).answer refl answered
    where
      by : (a : Answer) → (check_of s l).answer ≡ a → is_open a ≡ true → Ended
      by (answer.Checked t) e h = let o = on_0 s l t e in (t.declared, o.read, inl (answered_0 t.declared (reading_of s).rows (reading_of s).cells o.ended))
      by answer.TooLong e h = clash (cc)
      by answer.ShortTable e h = clash (cc)
      by (answer.Refused x j) e h = clash (cc)
      by (answer.Declined k p) e h = let o = on_10_to_13 s l k p e in (o.n, o.read, inr (p.0, o.refusal ∙ ap (λ (i : ℕ). some (i, p.0)) (eqb-true k 12 h)))

  -- demand 3's invariant, of the file
  pub file_claim : (b : List (Option ℕ)) × Claim (types_of s) (kinds_of s) b (equations_of s)
  file_claim = ((last_of s ended.0).mem.binds, rw (state-is s ended.0 ended.1) (state_claim ended.0 (reading_of s).rows (reading_of s).cells))

  -- none of its equations was refused 13
  pub file_calm : None13 (equations_of s)
  file_calm = rw (state-is s ended.0 ended.1) (state_calm ended.0 (reading_of s).rows (reading_of s).cells ended.2)

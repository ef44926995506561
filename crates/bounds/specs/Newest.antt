-- A well-formed body is refused with 12 or 13 only by its newest equation, at the node whose rule raised it. Assumes nothing.
use Rattle.std.specs.Prelude.{◌≡◌, ◌⊎◌, List, ◌∷◌, Bool, true, false, ℕ, ◌≤◌}
use Rattle.std.proofs.Math.Path.{refl}
use Rattle.std.proofs.Common.{inl, inr, arith}
use Rattle.std.proofs.Math.Option.{Option, none, some}
use Rattle.theory.specs.Rules.{Out, success, mismatch, refused12, refused13, dry, numbers_of, Pair, Res}
use Rattle.theory.specs.Program.{Equation, emitted, refused, raised, react, run}
use Rattle.theory.specs.Basics.{All}
use Rattle.theory.specs.Keep.{Ended}
use Rattle.theory.proofs.Demand.{track}
use Rattle.theory.specs.Start.{start}
use Rattle.theory.proofs.Start.{start_track}
use Rattle.type_table.specs.Sound.{fixed_types}
use Rattle.refs.specs.declared.Counts.{Counts}
use Rattle.record.specs.declared.TypingError.{TypingError}
use Rattle.record.specs.Own.{Own}
use Rattle.record.specs.Steps.{State}
use Rattle.resolve.specs.Resolve.{type_body}
use Rattle.well_formed.specs.Good.{WellFormed}

-- ── definitions ──

-- the equation was not refused: it succeeded or failed
abbrev pub Unrefused : Equation → Type 0
Unrefused q = (numbers_of q.answer).0 ≡ 0

-- of equations, newest first: the newest was raised by the rule of the node p and has the answer o, and none before it was refused
pub record NewestIs (o : Out) (p : ℕ) (l : List Equation) : Type 0 where
  pub newest : Equation
  pub before : List Equation
  pub all : l ≡ newest ∷ before
  pub node : newest.node ≡ p
  pub answer : newest.answer ≡ o
  pub rest : All Unrefused before

-- a refusal with the number k at the node p: 10 and 11 are a rule's own, and no equation was refused; any other number is that of the newest equation, raised at p
abbrev pub RefusedBy : ℕ → ℕ → List Equation → Type 0
RefusedBy k p l = ((k ≤ 11) × All Unrefused l) ⊎ ((o : Out) × ((numbers_of o).0 ≡ k) × NewestIs o p l)

-- by the refusal of a state, if there is one; else no equation was refused
abbrev pub StopBy : Option Pair → List Equation → Type 0
StopBy none l = All Unrefused l
StopBy (some r) l = RefusedBy r.0 r.1 l

-- ── a run ──

-- what follows the equation that has the result r
pub react_stop : {A : Type 0} (n a b : ℕ) (r : Res) (o : Out) → r.0 ≡ o → (e : Out → TypingError) (g : Bool → State → Option A × State) (s : State) → s.stop ≡ none → All Unrefused s.log
    → ((c : Bool) (t : State) → t.stop ≡ none → All Unrefused t.log → StopBy (g c t).1.stop (g c t).1.log)
    → let t = (react n o e g (raised n a b r s)).1 in StopBy t.stop t.log
unfolding raised emitted refused
react_stop n a b r success q e g s h l again = again true (raised n a b r s) h (rw q refl, l)
react_stop n a b r mismatch q e g s h l again = again false (emitted (e mismatch) (raised n a b r s)) h (rw q refl, l)
react_stop n a b r refused12 q e g s h l again = inr (refused12, refl, record { newest = _; before = s.log; all = refl; node = refl; answer = q; rest = l })
react_stop n a b r refused13 q e g s h l again = inr (refused13, refl, record { newest = _; before = s.log; all = refl; node = refl; answer = q; rest = l })
react_stop n a b r dry q e g s h l again = inr (dry, refl, record { newest = _; before = s.log; all = refl; node = refl; answer = q; rest = l })

-- ── a body ──

-- a number above 11 of an answer that is not out of steps: 12 and 13 are these answers
pub by_number : (k : ℕ) (p : ℕ) (l : List Equation) → RefusedBy k p l → All (λ (q : Equation). Ended q.answer) l → (12 ≡ k → NewestIs refused12 p l) × (13 ≡ k → NewestIs refused13 p l)
by_number k p l (inl q) d = (λ e. absurd (omega (arith, q.0)), λ e. absurd (omega (arith, q.0)))
by_number k p l (inr (success, e, q)) d = (λ f. absurd (omega arith), λ f. absurd (omega arith))
by_number k p l (inr (mismatch, e, q)) d = (λ f. absurd (omega arith), λ f. absurd (omega arith))
by_number k p l (inr (refused12, e, q)) d = (λ f. q, λ f. absurd (omega arith))
by_number k p l (inr (refused13, e, q)) d = (λ f. absurd (omega arith), λ f. q)
by_number k p l (inr (dry, e, q)) d = let r = rw q.all at d in let x = rw q.answer at r.0 in absurd x

-- 10 and 11 are no number of an answer
pub by_own : (k p : ℕ) (l : List Equation) → k ≤ 11 → RefusedBy k p l → All Unrefused l
by_own k p l h (inl q) = q.1
by_own k p l h (inr (success, e, q)) = rw q.all (rw q.answer refl, q.rest)
by_own k p l h (inr (mismatch, e, q)) = rw q.all (rw q.answer refl, q.rest)
by_own k p l h (inr (refused12, e, q)) = absurd (omega arith)
by_own k p l h (inr (refused13, e, q)) = absurd (omega arith)
by_own k p l h (inr (dry, e, q)) = absurd (omega arith)

module _ (n : Counts) (rows cells : List ℕ) (w : WellFormed n rows cells) (own : Own) where
  -- the state in which the body ends
  abbrev pub end : State
  end = (run (type_body n rows cells) (start fixed_types own)).1

  -- no equation is out of steps
  pub body_ended : All (λ (q : Equation). Ended q.answer) end.log
  body_ended = (track (type_body n rows cells) (start fixed_types own) (start_track fixed_types own refl)).tables.claim.ended

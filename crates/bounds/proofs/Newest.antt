-- Of Newest: the theorems that rest on a declaration which an edit of a definition in specs/ refuses. The definitions and the other theorems stand in
-- specs/Newest.antt. Assumes nothing.
use Rattle.std.specs.Prelude.{◌≡◌, List, ℕ, ◌≤◌, length}
use Rattle.std.proofs.Math.Path.{refl, subst}
use Rattle.std.proofs.Common.{sym, inl}
use Rattle.std.proofs.Math.Option.{Option, none, some}
use Rattle.theory.specs.Rules.{refused12, refused13}
use Rattle.theory.specs.Program.{done, refuse, draw, intern, equate, emit, mark, read, write, clip, drawn, emitted, written, refused, marking, interned, solved, run}
use Rattle.theory.specs.Basics.{All}
use Rattle.theory.specs.Start.{start}
use Rattle.refs.specs.declared.Counts.{Counts}
use Rattle.record.specs.Own.{Own}
use Rattle.record.specs.Steps.{State, Walk}
use Rattle.resolve.specs.Resolve.{body_with}
use Rattle.well_formed.specs.Good.{WellFormed}
use Rattle.bounds.specs.Declared.{declared, behind_types, body_behind}
use Rattle.bounds.specs.Answered.{interned_stop}
use Rattle.bounds.specs.Confined.{IsConfined, Any, any_numbers, any_state, any_known}
use Rattle.bounds.proofs.ConfinedWalk.{behind_types_confined}
use Rattle.bounds.specs.Raised.{interned_log}
use Rattle.bounds.specs.Newest.{NewestIs, StopBy, Unrefused, body_ended, by_number, by_own, react_stop}
use Rattle.bounds.specs.Newest as held

-- ── a run ──

-- a program that refuses by itself with 10 and 11 alone
run_stop : {A : Type 0} (N : Counts) (p : Walk A) → IsConfined N any_numbers Any p → (s : State) → s.stop ≡ none → All Unrefused s.log → StopBy (run p s).1.stop (run p s).1.log
unfolding run IsConfined drawn emitted written refused marking
run_stop N (done a) c s h l = rw h l
run_stop N (refuse k n) c s h l = inl (c.1, l)
run_stop N (draw k o f) c s h l = run_stop N (f (length s.rows)) (c.1 (length s.rows) tt) (drawn k o s) h l
run_stop N (intern t f) c s h l = run_stop N (f (interned t s).0) (c.3 (interned t s).0 tt) (interned t s).1 (rw (interned_stop t s) h) (rw (interned_log t s) l)
run_stop N (equate n x y e f) c s h l =
    let a = clip (length s.rows) x in
    let b = clip (length s.rows) y in
    react_stop n a b (solved a b s) (solved a b s).0 refl e (λ d t. run (f d) t) s h l (λ d t. run_stop N (f d) (c.4 d) t)
run_stop N (emit e p) c s h l = run_stop N p c.0 (emitted e s) h l
run_stop N (mark v p) c s h l = run_stop N p c (marking v s) h l
run_stop N (read f) c s h l = run_stop N (f s) (c s (any_state s)) s h l
run_stop N (write o p) c s h l = run_stop N p c.1 (written o s) h l

-- ── a body ──

module _ (n : Counts) (rows cells : List ℕ) (w : WellFormed n rows cells) (own : Own) where
  -- the state in which the body ends
  abbrev end : State
  end = held.end n rows cells w own

  -- its refusal, if there is one, is as above
  body_stop : StopBy end.stop end.log
  unfolding start
  body_stop =
      subst (λ (r : Option (Unit {0}) × State). StopBy r.1.stop r.1.log) (sym (body_behind n rows cells w own))
      (run_stop n (behind_types n rows cells) (behind_types_confined n rows cells w (any_known n (body_with n rows cells))).by (start (declared rows cells n.types) own) refl tt)

  -- 12 is that of the newest equation
  pub body_12 : (p : ℕ) → end.stop ≡ some (12, p) → NewestIs refused12 p end.log
  body_12 p e = (by_number 12 p end.log (rw e at body_stop) (body_ended n rows cells w own)).0 refl

  -- and so is 13
  pub body_13 : (p : ℕ) → end.stop ≡ some (13, p) → NewestIs refused13 p end.log
  body_13 p e = (by_number 13 p end.log (rw e at body_stop) (body_ended n rows cells w own)).1 refl

  -- without a refusal no equation was refused,
  pub body_unrefused : end.stop ≡ none → All Unrefused end.log
  body_unrefused e = rw e at body_stop

  -- and with a rule's own none
  pub body_own_refusal : (k p : ℕ) → end.stop ≡ some (k, p) → k ≤ 11 → All Unrefused end.log
  body_own_refusal k p e h = by_own k p end.log h (rw e at body_stop)

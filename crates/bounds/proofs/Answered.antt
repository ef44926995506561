-- Of Answered: the theorems that rest on a declaration which an edit of a definition in specs/ refuses. The definitions and the other theorems stand in
-- specs/Answered.antt. Assumes nothing.
use Rattle.std.specs.Prelude.{◌≡◌, refl, ℕ, length}
use Rattle.std.proofs.Math.Option.{none, some}
use Rattle.theory.specs.Program.{done, refuse, draw, intern, equate, emit, mark, read, write, clip, drawn, emitted, written, refused, marking, raised, interned, solved, run}
use Rattle.record.specs.Steps.{State, Walk}
use Rattle.bounds.specs.Answered.{Told, interned_stop, react_told}

-- a program from a state without a refusal leaves one exactly where it has no answer
pub run_told : {A : Type 0} (p : Walk A) (s : State) → s.stop ≡ none → Told (run p s)
unfolding run drawn emitted written refused marking raised
run_told (done a) s h = h
run_told (refuse k n) s h = (k, n, refl)
run_told (draw k o f) s h = run_told (f (length s.rows)) (drawn k o s) h
run_told (intern t f) s h = run_told (f (interned t s).0) (interned t s).1 (rw (interned_stop t s) h)
run_told (equate n x y e f) s h =
    let a = clip (length s.rows) x in
    let b = clip (length s.rows) y in
    react_told n (solved a b s).0 e (λ c t. run (f c) t) (raised n a b (solved a b s) s) h (λ c t. run_told (f c) t)
run_told (emit e p) s h = run_told p (emitted e s) h
run_told (mark v p) s h = run_told p (marking v s) h
run_told (read f) s h = run_told (f s) s h
run_told (write o p) s h = run_told p (written o s) h

module _ {A : Type 0} (p : Walk A) (s : State) (h : s.stop ≡ none) where
  -- where it has an answer there is no refusal
  pub answered : (a : A) → (run p s).0 ≡ some a → (run p s).1.stop ≡ none
  answered a e = rw e at (run_told p s h)

  -- where it has none there is one
  pub unanswered : (run p s).0 ≡ none → (k : ℕ) × (q : ℕ) × ((run p s).1.stop ≡ some (k, q))
  unanswered e = rw e at (run_told p s h)

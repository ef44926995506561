-- Each equation of a well-formed body is raised by the rule of one of its nodes. Assumes nothing.
use Rattle.std.specs.Prelude.{◌≡◌, refl, List, Bool, true, false, ℕ, ◌<◌, length}
use Rattle.std.proofs.Math.Option.{Option, none, some}
use Rattle.theory.specs.Rules.{Shape, mismatch}
use Rattle.theory.specs.Program.{Equation, done, refuse, draw, intern, equate, emit, mark, read, write, clip, first_equal, sane, drawn, appended, emitted, written, refused, marking, raised, pooled, intern_if, interned, solved, react_cases, run}
use Rattle.theory.specs.Basics.{All}
use Rattle.refs.specs.declared.Counts.{Counts}
use Rattle.record.specs.Steps.{State, Walk}
use Rattle.bounds.specs.Confined.{IsConfined, Any, any_numbers, any_state}

-- each equation was raised at one of N nodes
abbrev pub AtNodes : ℕ → List Equation → Type 0
AtNodes N l = All (λ (q : Equation). q.node < N) l

-- a type that is made raises none
pub interned_log : (t : Shape) (s : State) → (interned t s).1.log ≡ s.log
unfolding interned appended
interned_log t s = by (sane (length s.rows) t)
  where
    found : (o : Option ℕ) → (pooled t o s).1.log ≡ s.log
    found none = refl
    found (some r) = refl

    by : (b : Bool) → (intern_if b t s).1.log ≡ s.log
    by true = found (first_equal 0 s.rows t)
    by false = refl

-- a program whose rules are those of N nodes raises each equation at one of them
pub run_raised : {A : Type 0} (N : Counts) (p : Walk A) → IsConfined N any_numbers Any p → (s : State) → AtNodes N.nodes s.log → AtNodes N.nodes (run p s).1.log
unfolding run IsConfined drawn emitted written refused marking raised
run_raised N (done a) c s h = h
run_raised N (refuse k n) c s h = h
run_raised N (draw k o f) c s h = run_raised N (f (length s.rows)) (c.1 (length s.rows) tt) (drawn k o s) h
run_raised N (intern t f) c s h = run_raised N (f (interned t s).0) (c.3 (interned t s).0 tt) (interned t s).1 (rw (interned_log t s) h)
run_raised N (equate n x y e f) c s h =
    let a = clip (length s.rows) x in
    let b = clip (length s.rows) y in
    let t = raised n a b (solved a b s) s in
    let g : AtNodes N.nodes t.log = (c.0.lower, h) in
    react_cases (λ r. AtNodes N.nodes r.1.log) n (solved a b s).0 e (λ d u. run (f d) u) t (run_raised N (f true) (c.4 true) t g) (run_raised N (f false) (c.4 false) (emitted (e mismatch) t) g) g g
run_raised N (emit e p) c s h = run_raised N p c.0 (emitted e s) h
run_raised N (mark v p) c s h = run_raised N p c (marking v s) h
run_raised N (read f) c s h = run_raised N (f s) (c s (any_state s)) s h
run_raised N (write o p) c s h = run_raised N p c.1 (written o s) h

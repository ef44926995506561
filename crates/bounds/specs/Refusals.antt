-- A well-formed body is refused with 10 to 13, at one of its nodes. Assumes nothing.
use Rattle.std.specs.Prelude.{Bool, true, false, ℕ, length}
use Rattle.std.proofs.Math.Option.{Option, none, some}
use Rattle.theory.specs.Rules.{Out, mismatch, Pair}
use Rattle.theory.specs.Program.{done, refuse, draw, intern, equate, emit, mark, read, write, clip, drawn, emitted, written, refused, marking, raised, interned, solved, react, react_cases, run}
use Rattle.refs.specs.declared.Counts.{Counts}
use Rattle.record.specs.declared.TypingError.{TypingError}
use Rattle.record.specs.Steps.{State, Walk}
use Rattle.bounds.specs.Answered.{interned_stop}
use Rattle.bounds.specs.Confined.{Placed, IsConfined, Any, any_numbers, any_state}

-- a refusal, if there is one, is such as `Placed` says
abbrev pub PlacedBy : ℕ → Option Pair → Type 0
PlacedBy N none = Unit {0}
PlacedBy N (some r) = Placed N r.0 r.1

-- what follows an equation
react_placed : {A : Type 0} (N n : ℕ) (o : Out) (e : Out → TypingError) (g : Bool → State → Option A × State) (s : State) → Placed N 12 n → Placed N 13 n → PlacedBy N s.stop
    → ((c : Bool) (t : State) → PlacedBy N t.stop → PlacedBy N (g c t).1.stop) → PlacedBy N (react n o e g s).1.stop
unfolding emitted refused
react_placed N n o e g s p q h again = react_cases (λ r. PlacedBy N r.1.stop) n o e g s (again true s h) (again false (emitted (e mismatch) s) h) p q

-- a program that refuses with 10 to 13 at one of N nodes leaves no other refusal
pub run_placed : {A : Type 0} (N : Counts) (p : Walk A) → IsConfined N any_numbers Any p → (s : State) → PlacedBy N.nodes s.stop → PlacedBy N.nodes (run p s).1.stop
unfolding run IsConfined drawn emitted written refused marking raised
run_placed N (done a) c s h = h
run_placed N (refuse k n) c s h = c.0
run_placed N (draw k o f) c s h = run_placed N (f (length s.rows)) (c.1 (length s.rows) tt) (drawn k o s) h
run_placed N (intern t f) c s h = run_placed N (f (interned t s).0) (c.3 (interned t s).0 tt) (interned t s).1 (rw (interned_stop t s) h)
run_placed N (equate n x y e f) c s h =
    let a = clip (length s.rows) x in
    let b = clip (length s.rows) y in
    react_placed N.nodes n (solved a b s).0 e (λ d t. run (f d) t) (raised n a b (solved a b s) s) c.0 c.1 h (λ d t. run_placed N (f d) (c.4 d) t)
run_placed N (emit e p) c s h = run_placed N p c.0 (emitted e s) h
run_placed N (mark v p) c s h = run_placed N p c (marking v s) h
run_placed N (read f) c s h = run_placed N (f s) (c s (any_state s)) s h
run_placed N (write o p) c s h = run_placed N p c.1 (written o s) h

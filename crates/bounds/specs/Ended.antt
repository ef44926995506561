-- Each equation of a run ended with the steps that it was given, in the state in which it was raised. Assumes nothing.
use Rattle.std.specs.Prelude.{◌≡◌, refl, ◌≢◌, List, [], ◌∷◌, Bool, true, false, ℕ, ◌≤◌, ◌<◌, length}
use Rattle.std.proofs.Math.Option.{Option}
use Rattle.theory.specs.Rules.{Out, success, mismatch, refused12, refused13, dry, unify}
use Rattle.theory.specs.Program.{Equation, done, refuse, draw, intern, equate, emit, mark, read, write, clip, fuel, drawn, emitted, written, refused, marking, raised, interned, solved, react, run}
use Rattle.theory.specs.Basics.{clash}
use Rattle.theory.specs.Keep.{Ended}
use Rattle.theory.proofs.Keep.{solve_kept}
use Rattle.theory.proofs.Enough.{solve_more}
use Rattle.theory.specs.Demand.{Track, clip_in}
use Rattle.theory.proofs.Demand.{track}
use Rattle.theory.specs.Start.{start}
use Rattle.theory.proofs.Start.{start_track}
use Rattle.type_table.specs.Sound.{fixed_types}
use Rattle.refs.specs.declared.Counts.{Counts}
use Rattle.record.specs.declared.TypingError.{TypingError}
use Rattle.record.specs.Own.{Own}
use Rattle.record.specs.Steps.{State, Walk}
use Rattle.resolve.specs.Resolve.{type_body}
use Rattle.bounds.specs.Raised.{interned_log}
use Rattle.bounds.specs.Causes.{Pairwise}

-- ── definitions ──

-- what follows an equation by its answer: k after a success or a mismatch, and l after a refusal
abbrev onwards : Out → (Out → TypingError) → (Bool → State → List State) → List State → State → List State
onwards success e k l s = k true s
onwards mismatch e k l s = k false (emitted (e mismatch) s)
onwards refused12 e k l s = l
onwards refused13 e k l s = l
onwards dry e k l s = l

module _ {A : Type 0} where
  -- the states in which running a program raises its equations, newest first, and then those of l
  unfoldable pub raised_in : Walk A → State → List State → List State
  raised_in (done a) s l = l
  raised_in (refuse k n) s l = l
  raised_in (draw k o f) s l = raised_in (f (length s.rows)) (drawn k o s) l
  raised_in (intern t f) s l = raised_in (f (interned t s).0) (interned t s).1 l
  raised_in (equate n x y e f) s l =
      let a = clip (length s.rows) x in
      let b = clip (length s.rows) y in
      onwards (solved a b s).0 e (λ c t. raised_in (f c) t (s ∷ l)) (s ∷ l) (raised n a b (solved a b s) s)
  raised_in (emit e p) s l = raised_in p (emitted e s) l
  raised_in (mark v p) s l = raised_in p (marking v s) l
  raised_in (read f) s l = raised_in (f s) s l
  raised_in (write o p) s l = raised_in p (written o s) l

-- the equation q ended in the state t: its sides are types, its answer is that of the rules with the steps that they are given, it is not that these ran out, and any
-- more steps give the same answer, bindings and marks
pub record EndedIn (q : Equation) (t : State) : Type 0 where
  pub expected : q.expected < length t.rows
  pub got : q.got < length t.rows
  pub answer : q.answer ≡ (solved q.expected q.got t).0
  pub ended : q.answer ≢ dry
  pub more : (k : ℕ) → fuel t.rows t.mem ≤ k → unify t.rows t.kinds k t.mem q.expected q.got ≡ solved q.expected q.got t

-- ── a run ──

-- an answer that has ended is not that the steps ran out
not_dry : (o : Out) → Ended o → o ≢ dry
not_dry success d e = clash (cc)
not_dry mismatch d e = clash (cc)
not_dry refused12 d e = clash (cc)
not_dry refused13 d e = clash (cc)
not_dry dry d e = absurd d

-- the equation that is raised in a state with the invariant of demand 3
raised_ended : (s : State) → Track s → (n a b : ℕ) → a < length s.rows → b < length s.rows → EndedIn (record { node = n; expected = a; got = b; answer = (solved a b s).0 }) s
raised_ended s t n a b ha hb =
    let good = t.tables.claim.good in
    record {
      expected = ha;
      got = hb;
      answer = refl;
      ended = not_dry (solved a b s).0 (solve_kept s.rows s.kinds s.mem a b good ha hb).ended;
      more = λ k l. solve_more s.rows s.kinds s.mem a b k good ha hb l;
    }

-- what follows it
react_ended : {A : Type 0} (n : ℕ) (o : Out) (e : Out → TypingError) (g : Bool → State → Option A × State) (k : Bool → State → List State) (l : List State) (s : State)
    → Track (react n o e (λ c t. run {A = Bool} (done c) t) s).1 → Pairwise EndedIn s.log l → ((c : Bool) (t : State) → Track t → Pairwise EndedIn t.log l → Pairwise EndedIn (g c t).1.log (k c t))
    → Pairwise EndedIn (react n o e g s).1.log (onwards o e k l s)
unfolding run emitted refused
react_ended n success e g k l s t h again = again true s t h
react_ended n mismatch e g k l s t h again = again false (emitted (e mismatch) s) t h
react_ended n refused12 e g k l s t h again = h
react_ended n refused13 e g k l s t h again = h
react_ended n dry e g k l s t h again = h

-- each equation that a program raises ended in the state in which it was raised
run_ended : {A : Type 0} (p : Walk A) (s : State) (l : List State) → Track s → Pairwise EndedIn s.log l → Pairwise EndedIn (run p s).1.log (raised_in p s l)
unfolding run raised_in drawn emitted written refused marking raised
run_ended (done a) s l t h = h
run_ended (refuse k n) s l t h = h
run_ended (draw k o f) s l t h = run_ended (f (length s.rows)) (drawn k o s) l (track (draw k o done) s t) h
run_ended (intern u f) s l t h = run_ended (f (interned u s).0) (interned u s).1 l (track (intern u done) s t) (rw (interned_log u s) h)
run_ended (equate n x y e f) s l t h =
    let a = clip (length s.rows) x in
    let b = clip (length s.rows) y in
    let r = t.tables.claim.some_row in
    react_ended n (solved a b s).0 e (λ c u. run (f c) u) (λ c u. raised_in (f c) u (s ∷ l)) (s ∷ l) (raised n a b (solved a b s) s) (track (equate n x y e done) s t)
    (raised_ended s t n a b (clip_in (length s.rows) x r) (clip_in (length s.rows) y r), h) (λ c u. run_ended (f c) u (s ∷ l))
run_ended (emit e p) s l t h = run_ended p (emitted e s) l (track {A = Unit {0}} (emit e (done tt)) s t) h
run_ended (mark v p) s l t h = run_ended p (marking v s) l (track {A = Unit {0}} (mark v (done tt)) s t) h
run_ended (read f) s l t h = run_ended (f s) s l t h
run_ended (write o p) s l t h = run_ended p (written o s) l (track {A = Unit {0}} (write o (done tt)) s t) h

-- so the equations of a body
pub body_ended : (n : Counts) (rows cells : List ℕ) (own : Own) → Pairwise EndedIn (run (type_body n rows cells) (start fixed_types own)).1.log (raised_in (type_body n rows cells) (start fixed_types own) [])
unfolding start
body_ended n rows cells own = run_ended (type_body n rows cells) (start fixed_types own) [] (start_track fixed_types own refl) tt

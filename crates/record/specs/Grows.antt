-- A program only adds to the tables: what fits after it fitted before. Assumes nothing.
use Rattle.std.specs.Prelude.{◌≡◌, refl, List, [], ◌∷◌, ◌++◌, Bool, true, false, ℕ, ◌+◌, ◌≤◌, length}
use Rattle.std.proofs.Math.Option.{Option, none, some}
use Rattle.std.proofs.Common.{arith, length-append}
use Rattle.theory.specs.Rules.{Shape, var, Kind, Out, mismatch, Res}
use Rattle.theory.specs.Program.{done, refuse, draw, intern, equate, emit, mark, read, write, clip, first_equal, sane, drawn, appended, emitted, written, refused, marking, raised, pooled, intern_if, interned, solved, react, react_cases, run, ◌>>=◌, go_on, run_bind}
use Rattle.record.specs.declared.TypingError.{TypingError}
use Rattle.record.specs.Own.{Own}
use Rattle.record.specs.Steps.{State, Walk}
use Rattle.record.specs.Encodes.{input_total, Fits}

-- the tables of t are no shorter than those of s
pub record Grown (s t : State) : Type 0 where
  pub rows : length s.rows ≤ length t.rows
  pub vars : length s.kinds ≤ length t.kinds
  pub inputs : input_total s.rows ≤ input_total t.rows
  pub errors : length s.errs ≤ length t.errs
  pub equations : length s.log ≤ length t.log

-- tables are no shorter than themselves
pub grown_same : (s : State) → Grown s s
grown_same s = record { rows = omega arith; vars = omega arith; inputs = omega arith; errors = omega arith; equations = omega arith }

-- from one state to another and on to a third
pub grown_trans : {s t u : State} → Grown s t → Grown t u → Grown s u
grown_trans p q = record {
  rows = omega (arith, p.rows, q.rows);
  vars = omega (arith, p.vars, q.vars);
  inputs = omega (arith, p.inputs, q.inputs);
  errors = omega (arith, p.errors, q.errors);
  equations = omega (arith, p.equations, q.equations);
}

-- what fits after growing fitted before
pub grown_fits : {s t : State} → Grown s t → Fits t → Fits s
grown_fits g f = record {
  rows = omega (arith, g.rows, f.rows);
  vars = omega (arith, g.vars, f.vars);
  inputs = omega (arith, g.inputs, f.inputs);
  errors = omega (arith, g.errors, f.errors);
  equations = omega (arith, g.equations, f.equations);
}

-- the inputs of all rows, and of one more
pub total-append : (l r : List Shape) → input_total (l ++ r) ≡ input_total l + input_total r
unfolding input_total
total-append [] r = omega arith
total-append (s ∷ l) r = let e : input_total (l ++ r) ≡ input_total l + input_total r = total-append l r in omega (arith, e)

-- a drawn variable
drawn_grown : (k : Kind) (o : Option ℕ) (s : State) → Grown s (drawn k o s)
unfolding drawn
drawn_grown k o s = record {
  rows = omega (arith, length-append s.rows (var (length s.mem.binds) ∷ []));
  vars = omega (arith, length-append s.kinds (k ∷ []));
  inputs = omega (arith, total-append s.rows (var (length s.mem.binds) ∷ []));
  errors = omega arith;
  equations = omega arith;
}

-- a new row
appended_grown : (t : Shape) (s : State) → Grown s (appended t s)
unfolding appended
appended_grown t s = record {
  rows = omega (arith, length-append s.rows (t ∷ []));
  vars = omega arith;
  inputs = omega (arith, total-append s.rows (t ∷ []));
  errors = omega arith;
  equations = omega arith;
}

-- a row that is made or found
pooled_grown : (t : Shape) (r : Option ℕ) (s : State) → Grown s (pooled t r s).1
pooled_grown t none s = appended_grown t s
pooled_grown t (some r) s = grown_same s

-- a row that may be made
intern_if_grown : (b : Bool) (t : Shape) (s : State) → Grown s (intern_if b t s).1
intern_if_grown true t s = pooled_grown t (first_equal 0 s.rows t) s
intern_if_grown false t s = grown_same s

-- a made type
interned_grown : (t : Shape) (s : State) → Grown s (interned t s).1
unfolding interned
interned_grown t s = intern_if_grown (sane (length s.rows) t) t s

-- one error more
emitted_grown : (e : TypingError) (s : State) → Grown s (emitted e s)
unfolding emitted
emitted_grown e s = record { rows = omega arith; vars = omega arith; inputs = omega arith; errors = omega arith; equations = omega arith }

-- the walk's own
written_grown : (o : Own) (s : State) → Grown s (written o s)
unfolding written
written_grown o s = record { rows = omega arith; vars = omega arith; inputs = omega arith; errors = omega arith; equations = omega arith }

-- a refusal
refused_grown : (n p : ℕ) (s : State) → Grown s (refused n p s)
unfolding refused
refused_grown n p s = record { rows = omega arith; vars = omega arith; inputs = omega arith; errors = omega arith; equations = omega arith }

-- a mark
marking_grown : (v : ℕ) (s : State) → Grown s (marking v s)
unfolding marking
marking_grown v s = record { rows = omega arith; vars = omega arith; inputs = omega arith; errors = omega arith; equations = omega arith }

-- an equation
raised_grown : (p e g : ℕ) (r : Res) (s : State) → Grown s (raised p e g r s)
unfolding raised
raised_grown p e g r s = record { rows = omega arith; vars = omega arith; inputs = omega arith; errors = omega arith; equations = omega arith }

-- what follows an equation
react_grown : {A : Type 0} (p : ℕ) (o : Out) (f : Out → TypingError) (k : Bool → State → Option A × State) (s : State) → ((c : Bool) (t : State) → Grown t (k c t).1) → Grown s (react p o f k s).1
react_grown p o f k s h = react_cases (λ r. Grown s r.1) p o f k s (h true s) (grown_trans (emitted_grown (f mismatch) s) (h false (emitted (f mismatch) s))) (refused_grown 12 p s) (refused_grown 13 p s)

-- every program only adds to the tables
pub run_grown : {A : Type 0} (p : Walk A) (s : State) → Grown s (run p s).1
unfolding run
run_grown (done a) s = grown_same s
run_grown (refuse n p) s = refused_grown n p s
run_grown (draw k o f) s = grown_trans (drawn_grown k o s) (run_grown (f (length s.rows)) (drawn k o s))
run_grown (intern t f) s = grown_trans (interned_grown t s) (run_grown (f (interned t s).0) (interned t s).1)
run_grown (equate p x y f k) s =
    let e = clip (length s.rows) x in
    let g = clip (length s.rows) y in
    grown_trans (raised_grown p e g (solved e g s) s) (react_grown p (solved e g s).0 f (λ c s'. run (k c) s') (raised p e g (solved e g s) s) (λ c t. run_grown (k c) t))
run_grown (emit e p) s = grown_trans (emitted_grown e s) (run_grown p (emitted e s))
run_grown (mark v p) s = grown_trans (marking_grown v s) (run_grown p (marking v s))
run_grown (read f) s = run_grown (f s) s
run_grown (write x p) s = grown_trans (written_grown x s) (run_grown p (written x s))

-- what fits after two parts fitted after the first
pub first_fits : {A B : Type 0} (p : Walk A) (g : A → Walk B) (s : State) → Fits (run (◌>>=◌ p g) s).1 → Fits (run p s).1
first_fits {A = A} p g s f = grown_fits (by (run p s).0 refl) (rw (run_bind p g s) at f)
  where
    by : (o : Option A) → (run p s).0 ≡ o → Grown (run p s).1 (go_on (run p s) (λ a s'. run (g a) s')).1
    by none e = rw e (grown_same (run p s).1)
    by (some a) e = rw e (run_grown (g a) (run p s).1)

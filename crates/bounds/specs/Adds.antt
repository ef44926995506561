-- What a program adds to the tables at most, and how that adds up over its parts. Assumes nothing.
use Rattle.std.specs.Prelude.{◌≡◌, refl, [], ◌∷◌, Bool, true, false, ℕ, ◌+◌, ◌≤◌, length, get_or}
use Rattle.std.proofs.Common.{◌∙◌, arith, rules, length-append}
use Rattle.std.proofs.Math.Option.{Option, none, some}
use Rattle.theory.specs.Rules.{Shape, var, Kind, Out, mismatch, Res}
use Rattle.theory.specs.Program.{first_equal, sane, drawn, appended, emitted, written, refused, marking, raised, pooled, intern_if, interned, react, react_cases, run, ◌>>=◌, go_on, run_bind}
use Rattle.nodes.specs.Nodes.{is_some}
use Rattle.record.specs.declared.TypingError.{TypingError}
use Rattle.record.specs.Own.{Own}
use Rattle.record.specs.Steps.{State, Walk}
use Rattle.record.specs.Encodes.{input_count, input_total}
use Rattle.record.specs.Grows.{total-append}

-- so many variables, type rows, inputs, errors and equations
pub record Cost : Type 0 where
  pub vars : ℕ
  pub rows : ℕ
  pub inputs : ℕ
  pub errors : ℕ
  pub equations : ℕ

-- a cost
abbrev pub cost : ℕ → ℕ → ℕ → ℕ → ℕ → Cost
cost v t i e q = record { vars = v; rows = t; inputs = i; errors = e; equations = q }

-- none of each
abbrev pub nothing : Cost
nothing = cost 0 0 0 0 0

-- two costs together
abbrev pub both : Cost → Cost → Cost
both a b = cost (a.vars + b.vars) (a.rows + b.rows) (a.inputs + b.inputs) (a.errors + b.errors) (a.equations + b.equations)

-- no number of a is over that of b
pub record Within (a b : Cost) : Type 0 where
  pub vars : a.vars ≤ b.vars
  pub rows : a.rows ≤ b.rows
  pub inputs : a.inputs ≤ b.inputs
  pub errors : a.errors ≤ b.errors
  pub equations : a.equations ≤ b.equations

-- as many nodes have a place for their RAW in p as in o, and a node that has a RAW in o has one in p
pub record Kept (o p : Own) : Type 0 where
  pub places : length p.raw ≡ length o.raw
  pub typed : (i : ℕ) → is_some (get_or o.raw i none) ≡ true → is_some (get_or p.raw i none) ≡ true

-- the tables of t are those of s and at most c more, and no RAW is lost
pub record Larger (c : Cost) (s t : State) : Type 0 where
  pub vars : length t.kinds ≤ length s.kinds + c.vars
  pub rows : length t.rows ≤ length s.rows + c.rows
  pub inputs : input_total t.rows ≤ input_total s.rows + c.inputs
  pub errors : length t.errs ≤ length s.errs + c.errors
  pub equations : length t.log ≤ length s.log + c.equations
  pub kept : Kept s.own t.own

-- the program p adds at most c to the tables
pub record Adds {A : Type 0} (c : Cost) (p : Walk A) : Type 0 where
  pub larger : (s : State) → Larger c s (run p s).1

-- the program p adds at most c of its answer to the tables
pub record AddsBy {A : Type 0} (c : Option A → Cost) (p : Walk A) : Type 0 where
  pub larger : (s : State) → Larger (c (run p s).0) s (run p s).1

-- ── states ──

-- the same RAW
pub kept_same : {o p : Own} → p.raw ≡ o.raw → Kept o p
kept_same e = record { places = rw e; typed = λ i h. rw e h }

-- from one to another and on to a third
kept_trans : {o p q : Own} → Kept o p → Kept p q → Kept o q
kept_trans a b = record { places = b.places ∙ a.places; typed = λ i h. b.typed i (a.typed i h) }

-- the same state
pub same_larger : (s : State) → Larger nothing s s
same_larger s = record { vars = omega arith; rows = omega arith; inputs = omega arith; errors = omega arith; equations = omega arith; kept = kept_same refl }

-- from one state to another and on to a third
pub larger_trans : {a b : Cost} {s t u : State} → Larger a s t → Larger b t u → Larger (both a b) s u
larger_trans p q = record {
  vars = omega (arith, p.vars, q.vars);
  rows = omega (arith, p.rows, q.rows);
  inputs = omega (arith, p.inputs, q.inputs);
  errors = omega (arith, p.errors, q.errors);
  equations = omega (arith, p.equations, q.equations);
  kept = kept_trans p.kept q.kept;
}

-- a cost that is no less
pub larger_within : {a b : Cost} {s t : State} → Within a b → Larger a s t → Larger b s t
larger_within w p = record {
  vars = omega (arith, p.vars, w.vars);
  rows = omega (arith, p.rows, w.rows);
  inputs = omega (arith, p.inputs, w.inputs);
  errors = omega (arith, p.errors, w.errors);
  equations = omega (arith, p.equations, w.equations);
  kept = p.kept;
}

-- a drawn variable is one more, with its row
pub drawn_larger : (k : Kind) (o : Option ℕ) (s : State) → Larger (cost 1 1 0 0 0) s (drawn k o s)
unfolding drawn input_total
drawn_larger k o s = record {
  vars = omega (arith, length-append s.kinds (k ∷ []));
  rows = omega (arith, length-append s.rows (var (length s.mem.binds) ∷ []));
  inputs = omega (arith, total-append s.rows (var (length s.mem.binds) ∷ []));
  errors = omega arith;
  equations = omega arith;
  kept = kept_same refl;
}

-- a new row has its inputs
appended_larger : (t : Shape) (s : State) → Larger (cost 0 1 (input_count t) 0 0) s (appended t s)
unfolding appended input_total
appended_larger t s = record {
  vars = omega arith;
  rows = omega (arith, length-append s.rows (t ∷ []));
  inputs = omega (arith, total-append s.rows (t ∷ []));
  errors = omega arith;
  equations = omega arith;
  kept = kept_same refl;
}

-- a row that is found is none more
pooled_larger : (t : Shape) (r : Option ℕ) (s : State) → Larger (cost 0 1 (input_count t) 0 0) s (pooled t r s).1
pooled_larger t none s = appended_larger t s
pooled_larger t (some r) s = larger_within (search rules) (same_larger s)

-- nor is one that cannot be made
intern_if_larger : (b : Bool) (t : Shape) (s : State) → Larger (cost 0 1 (input_count t) 0 0) s (intern_if b t s).1
intern_if_larger true t s = pooled_larger t (first_equal 0 s.rows t) s
intern_if_larger false t s = larger_within (search rules) (same_larger s)

-- a made type is at most one row more
pub interned_larger : (t : Shape) (s : State) → Larger (cost 0 1 (input_count t) 0 0) s (interned t s).1
unfolding interned
interned_larger t s = intern_if_larger (sane (length s.rows) t) t s

-- one error more
pub emitted_larger : (e : TypingError) (s : State) → Larger (cost 0 0 0 1 0) s (emitted e s)
unfolding emitted
emitted_larger e s = record { vars = omega arith; rows = omega arith; inputs = omega arith; errors = omega arith; equations = omega arith; kept = kept_same refl }

-- the walk's own is not in these tables
pub written_larger : (o : Own) (s : State) → Kept s.own o → Larger nothing s (written o s)
unfolding written
written_larger o s k = record { vars = omega arith; rows = omega arith; inputs = omega arith; errors = omega arith; equations = omega arith; kept = k }

-- nor is a refusal
pub refused_larger : (n p : ℕ) (s : State) → Larger nothing s (refused n p s)
unfolding refused
refused_larger n p s = record { vars = omega arith; rows = omega arith; inputs = omega arith; errors = omega arith; equations = omega arith; kept = kept_same refl }

-- nor a mark
pub marking_larger : (v : ℕ) (s : State) → Larger nothing s (marking v s)
unfolding marking
marking_larger v s = record { vars = omega arith; rows = omega arith; inputs = omega arith; errors = omega arith; equations = omega arith; kept = kept_same refl }

-- one equation more
raised_larger : (p e g : ℕ) (r : Res) (s : State) → Larger (cost 0 0 0 0 1) s (raised p e g r s)
unfolding raised
raised_larger p e g r s = record { vars = omega arith; rows = omega arith; inputs = omega arith; errors = omega arith; equations = omega arith; kept = kept_same refl }

-- an equation that is answered emits at most one error
react_larger : (p : ℕ) (o : Out) (f : Out → TypingError) (s : State) → Larger (cost 0 0 0 1 0) s (react p o f (λ c t. (some c, t)) s).1
react_larger p o f s =
    react_cases (λ (r : Option Bool × State). Larger (cost 0 0 0 1 0) s r.1) p o f (λ c t. (some c, t)) s
    (larger_within (search rules) (same_larger s))
    (emitted_larger (f mismatch) s)
    (larger_within (search rules) (refused_larger 12 p s))
    (larger_within (search rules) (refused_larger 13 p s))

-- an equation is one more, and at most one error
pub equated_larger : (p e g : ℕ) (r : Res) (f : Out → TypingError) (s : State) → Larger (cost 0 0 0 1 1) s (react p r.0 f (λ c t. (some c, t)) (raised p e g r s)).1
equated_larger p e g r f s = larger_trans (raised_larger p e g r s) (react_larger p r.0 f (raised p e g r s))

-- ── programs ──

module _ {A : Type 0} where
  -- a cost that is no less
  pub adds_within : {a b : Cost} {p : Walk A} → Within a b → Adds a p → Adds b p
  adds_within w h = record { larger = λ s. larger_within w (h.larger s) }

  -- what adds nothing adds at most any cost
  pub adds_any : {b : Cost} {p : Walk A} → Adds nothing p → Adds b p
  adds_any h = adds_within (search rules) h

module _ {A B : Type 0} where
  -- one part and then another, by the answer of the first
  pub by_then : {a : Option A → Cost} {b : A → Cost} {c : Cost} {p : Walk A} (g : A → Walk B) → AddsBy a p → ((x : A) → Adds (b x) (g x))
      → Within (a none) c → ((x : A) → Within (both (a (some x)) (b x)) c) → Adds c (◌>>=◌ p g)
  by_then {a} {b} {c} {p} g P Q refused answered = record { larger = λ s. rw (run_bind p g s) (by s (run p s).0 refl) }
    where
      by : (s : State) (o : Option A) → (run p s).0 ≡ o → Larger c s (go_on (run p s) (λ x t. run (g x) t)).1
      by s none e = rw e (larger_within refused (rw e at (P.larger s)))
      by s (some x) e = rw e (larger_within (answered x) (larger_trans (rw e at (P.larger s)) ((Q x).larger (run p s).1)))

  -- one part and then another add the costs of both
  pub then : {a b : Cost} {p : Walk A} (g : A → Walk B) → Adds a p → ((x : A) → Adds b (g x)) → Adds (both a b) (◌>>=◌ p g)
  then {a} {b} {p} g P Q = by_then {a = λ o. a} {b = λ x. b} g (record { larger = P.larger }) Q
      (search rules)
      (λ x. search rules)

  -- where the first adds nothing, the cost of the second
  pub nothing_then : {b : Cost} {p : Walk A} (g : A → Walk B) → Adds nothing p → ((x : A) → Adds b (g x)) → Adds b (◌>>=◌ p g)
  nothing_then {b} g P Q = adds_within (search rules) (then g P Q)

  -- where the second adds nothing, the cost of the first
  pub then_nothing : {a : Cost} {p : Walk A} (g : A → Walk B) → Adds a p → ((x : A) → Adds nothing (g x)) → Adds a (◌>>=◌ p g)
  then_nothing {a} g P Q = adds_within (search rules) (then g P Q)

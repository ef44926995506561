-- What a walk may do with the tables: a typing rule is a program of these steps. Definitions, and that a program in two parts runs as its parts.
use Rattle.std.specs.Prelude.{◌≡◌, List, [], ◌∷◌, ◌++◌, Bool, true, false, cond, ◌&&◌, ℕ, suc, ◌+◌, ◌*◌, length, set, eqb, ltb}
use Rattle.std.proofs.Math.Path.{refl}
use Rattle.std.proofs.Math.Option.{Option, none, some}
use Rattle.theory.specs.Rules.{Base, bool, nil, float, double, uint, int, inst, Shape, base, var, arr, ref, fn, fun, lam, err, div, Kind, Out, success, mismatch, refused12, refused13, dry, Mem, Pair, Res, head, kids, as_var, unify}

-- ── made types ──

-- an instance has its number
abbrev pub made_of_base : Base → Option ℕ
made_of_base bool = none
made_of_base nil = none
made_of_base float = none
made_of_base double = none
made_of_base (uint w) = none
made_of_base (int w) = none
made_of_base (inst k) = some k

-- the number that an instance, an array, a reference or a definition's type is made of; a lambda has its node for itself
abbrev pub made_of : Shape → Option ℕ
made_of (base b) = made_of_base b
made_of (var v) = none
made_of (arr e) = some e
made_of (ref e) = some e
made_of (fn d) = some d
made_of (fun s o i) = none
made_of (lam n o i) = none
made_of err = none
made_of div = none

-- both there and equal
abbrev pub equal_numbers : Option ℕ → Option ℕ → Bool
equal_numbers none o = false
equal_numbers (some a) none = false
equal_numbers (some a) (some b) = eqb a b

-- equal by value
abbrev pub equal_rows : Shape → Shape → Bool
equal_rows s t = eqb (head s) (head t) && equal_numbers (made_of s) (made_of t)

-- the first row equal to s, of rows that count from n
abbrev pub first_equal : ℕ → List Shape → Shape → Option ℕ
first_equal n [] s = none
first_equal n (t ∷ l) s = let r = first_equal (suc n) l s in cond (equal_rows t s) (some n) r

-- all of them are below n
abbrev pub all_below : ℕ → List ℕ → Bool
all_below n [] = true
all_below n (y ∷ ys) = ltb y n && all_below n ys

-- it is no variable
abbrev pub no_var : Option ℕ → Bool
no_var none = true
no_var (some v) = false

-- a row that may be made of n rows: its parts are among them, and it is no variable
abbrev pub sane : ℕ → Shape → Bool
sane n s = no_var (as_var s) && all_below n (kids s)

-- ── the state of a walk ──

-- an equation as it was raised, with its answer
pub record Equation : Type 0 where
  -- the node whose rule raised it
  pub node : ℕ
  pub expected : ℕ
  pub got : ℕ
  pub answer : Out

-- the tables of a walk, its log and errors
pub record St (X Er : Type 0) : Type 0 where
  pub rows : List Shape
  pub kinds : List Kind
  -- the node that drew a variable, none for a literal
  pub origins : List (Option ℕ)
  pub mem : Mem
  -- newest first, as are the errors
  pub log : List Equation
  pub errs : List Er
  -- the number of a refusal, and the node whose rule ran
  pub stop : Option Pair
  -- the walk's own: node types, locals, ..
  pub own : X

-- a program that answers an A, or refuses
pub data Prog (X Er A : Type 0) : Type 0 where
  done : A → Prog X Er A
  -- with this number, at this node
  refuse : ℕ → ℕ → Prog X Er A
  -- a new variable of a kind, with its origin: the number of its row
  draw : Kind → Option ℕ → (ℕ → Prog X Er A) → Prog X Er A
  -- a type, made where no equal row stands: its number
  intern : Shape → (ℕ → Prog X Er A) → Prog X Er A
  -- at a node, raise the equation of an expected and a got row; a mismatch emits its error, a refusal ends the walk
  equate : ℕ → ℕ → ℕ → (Out → Er) → (Bool → Prog X Er A) → Prog X Er A
  emit : Er → Prog X Er A → Prog X Er A
  -- set a variable's negation mark
  mark : ℕ → Prog X Er A → Prog X Er A
  read : (St X Er → Prog X Er A) → Prog X Er A
  write : X → Prog X Er A → Prog X Er A

-- a row's number, 0 for what is none
abbrev pub clip : ℕ → ℕ → ℕ
clip n x = cond (ltb x n) x 0

module _ {X Er : Type 0} where
  -- a new variable, open and unmarked, and its row
  unfoldable pub drawn : Kind → Option ℕ → St X Er → St X Er
  drawn k o s = record { rows = s.rows ++ var (length s.mem.binds) ∷ []; kinds = s.kinds ++ k ∷ []; origins = s.origins ++ o ∷ []; mem = record { binds = s.mem.binds ++ none ∷ []; marks = s.mem.marks ++ false ∷ [] }; log = s.log; errs = s.errs; stop = s.stop; own = s.own }

  -- a new row
  unfoldable pub appended : Shape → St X Er → St X Er
  appended t s = record { rows = s.rows ++ t ∷ []; kinds = s.kinds; origins = s.origins; mem = s.mem; log = s.log; errs = s.errs; stop = s.stop; own = s.own }

  -- one error more
  unfoldable pub emitted : Er → St X Er → St X Er
  emitted e s = record { rows = s.rows; kinds = s.kinds; origins = s.origins; mem = s.mem; log = s.log; errs = e ∷ s.errs; stop = s.stop; own = s.own }

  -- the walk's own is changed
  unfoldable pub written : X → St X Er → St X Er
  written x s = record { rows = s.rows; kinds = s.kinds; origins = s.origins; mem = s.mem; log = s.log; errs = s.errs; stop = s.stop; own = x }

  -- the walk ends with this number at this node
  unfoldable pub refused : ℕ → ℕ → St X Er → St X Er
  refused n p s = record { rows = s.rows; kinds = s.kinds; origins = s.origins; mem = s.mem; log = s.log; errs = s.errs; stop = some (n, p); own = s.own }

  -- a mark is set
  unfoldable pub marking : ℕ → St X Er → St X Er
  marking v s = record { rows = s.rows; kinds = s.kinds; origins = s.origins; mem = record { binds = s.mem.binds; marks = set s.mem.marks v true }; log = s.log; errs = s.errs; stop = s.stop; own = s.own }

  -- an equation was raised at the node p: its bindings and marks, and its entry in the log
  unfoldable pub raised : ℕ → ℕ → ℕ → Res → St X Er → St X Er
  raised p e g r s = record { rows = s.rows; kinds = s.kinds; origins = s.origins; mem = r.1; log = record { node = p; expected = e; got = g; answer = r.0 } ∷ s.log; errs = s.errs; stop = s.stop; own = s.own }

  -- the row that stands for a made type: the first equal one, else a new one
  abbrev pub pooled : Shape → Option ℕ → St X Er → ℕ × St X Er
  pooled t none s = (length s.rows, appended t s)
  pooled t (some r) s = (r, s)

  -- made only of what stands
  abbrev pub intern_if : Bool → Shape → St X Er → ℕ × St X Er
  intern_if true t s = pooled t (first_equal 0 s.rows t) s
  intern_if false t s = (0, s)

  -- a made type's number, and the tables with it; 0 for what cannot be made of the rows
  unfoldable pub interned : Shape → St X Er → ℕ × St X Er
  interned t s = intern_if (sane (length s.rows) t) t s

-- as many steps as an equation can take
abbrev pub fuel : List Shape → Mem → ℕ
fuel rows m = suc (length m.binds * suc (length rows + length rows) + (length rows + length rows))

-- the equation of expected e and got g over these tables
unfoldable pub solve : List Shape → List Kind → Mem → ℕ → ℕ → Res
solve rows kinds m e g = unify rows kinds (fuel rows m) m e g

module _ {X Er : Type 0} where
  -- an equation over the tables of a state
  abbrev pub solved : ℕ → ℕ → St X Er → Res
  solved e g s = solve s.rows s.kinds s.mem e g

  -- what comes after an equation at the node p, by its answer
  abbrev pub react : {A : Type 0} → ℕ → Out → (Out → Er) → (Bool → St X Er → Option A × St X Er) → St X Er → Option A × St X Er
  react p success f k s = k true s
  react p mismatch f k s = k false (emitted (f mismatch) s)
  react p refused12 f k s = (none, refused 12 p s)
  react p refused13 f k s = (none, refused 13 p s)
  react p dry f k s = (none, refused 12 p s)

  -- what holds behind a success, behind a mismatch and its error, and of the refusals 12 and 13, holds behind every answer
  pub react_cases : {A : Type 0} (P : Option A × St X Er → Type 0) (p : ℕ) (o : Out) (f : Out → Er) (k : Bool → St X Er → Option A × St X Er) (s : St X Er)
      → P (k true s) → P (k false (emitted (f mismatch) s)) → P (none, refused 12 p s) → P (none, refused 13 p s) → P (react p o f k s)
  react_cases P p success f k s met failed at_12 at_13 = met
  react_cases P p mismatch f k s met failed at_12 at_13 = failed
  react_cases P p refused12 f k s met failed at_12 at_13 = at_12
  react_cases P p refused13 f k s met failed at_12 at_13 = at_13
  react_cases P p dry f k s met failed at_12 at_13 = at_12

  -- what running a program does
  unfoldable pub run : {A : Type 0} → Prog X Er A → St X Er → Option A × St X Er
  run (done a) s = (some a, s)
  run (refuse n p) s = (none, refused n p s)
  run (draw k o f) s = run (f (length s.rows)) (drawn k o s)
  run (intern t f) s = run (f (interned t s).0) (interned t s).1
  run (equate p x y f k) s =
      let e = clip (length s.rows) x in
      let g = clip (length s.rows) y in
      react p (solved e g s).0 f (λ c s'. run (k c) s') (raised p e g (solved e g s) s)
  run (emit e p) s = run p (emitted e s)
  run (mark v p) s = run p (marking v s)
  run (read f) s = run (f s) s
  run (write x p) s = run p (written x s)

  -- one program after another
  unfoldable pub ◌>>=◌ : {A B : Type 0} → Prog X Er A → (A → Prog X Er B) → Prog X Er B
  ◌>>=◌ (done a) g = g a
  ◌>>=◌ (refuse n p) g = refuse n p
  ◌>>=◌ (draw k o f) g = draw k o (λ r. ◌>>=◌ (f r) g)
  ◌>>=◌ (intern t f) g = intern t (λ r. ◌>>=◌ (f r) g)
  ◌>>=◌ (equate p x y f k) g = equate p x y f (λ c. ◌>>=◌ (k c) g)
  ◌>>=◌ (emit e p) g = emit e (◌>>=◌ p g)
  ◌>>=◌ (mark v p) g = mark v (◌>>=◌ p g)
  ◌>>=◌ (read f) g = read (λ s. ◌>>=◌ (f s) g)
  ◌>>=◌ (write x p) g = write x (◌>>=◌ p g)

  -- go on with an answer, not after a refusal
  abbrev pub go_on : {A B : Type 0} → Option A × St X Er → (A → St X Er → Option B × St X Er) → Option B × St X Er
  go_on r k = elim r.0 [ none ↦ (none, r.1) | some a ↦ k a r.1 ]

  react_bind : {A B : Type 0} (p : ℕ) (o : Out) (f : Out → Er) (k : Bool → St X Er → Option A × St X Er) (g : A → St X Er → Option B × St X Er) (h : Bool → St X Er → Option B × St X Er) (s : St X Er)
      → ((c : Bool) (s' : St X Er) → h c s' ≡ go_on (k c s') g) → react p o f h s ≡ go_on (react p o f k s) g
  react_bind p success f k g h s e = e true s
  react_bind p mismatch f k g h s e = e false (emitted (f mismatch) s)
  react_bind p refused12 f k g h s e = refl
  react_bind p refused13 f k g h s e = refl
  react_bind p dry f k g h s e = refl

  -- a walk in two parts is the first and then the second
  pub run_bind : {A B : Type 0} (p : Prog X Er A) (g : A → Prog X Er B) (s : St X Er) → run (◌>>=◌ p g) s ≡ go_on (run p s) (λ a s'. run (g a) s')
  unfolding run ◌>>=◌
  run_bind (done a) g s = refl
  run_bind (refuse n p) g s = refl
  run_bind (draw k o f) g s = run_bind (f (length s.rows)) g (drawn k o s)
  run_bind (intern t f) g s = run_bind (f (interned t s).0) g (interned t s).1
  run_bind (equate p x y f k) g s =
      let e = clip (length s.rows) x in
      let d = clip (length s.rows) y in
      react_bind p (solved e d s).0 f (λ c s'. run (k c) s') (λ a s'. run (g a) s') (λ c s'. run (◌>>=◌ (k c) g) s') (raised p e d (solved e d s) s) (λ c s'. run_bind (k c) g s')
  run_bind (emit e p) g s = run_bind p g (emitted e s)
  run_bind (mark v p) g s = run_bind p g (marking v s)
  run_bind (read f) g s = run_bind (f s) g s
  run_bind (write x p) g s = run_bind p g (written x s)

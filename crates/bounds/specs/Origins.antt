-- Each variable that a well-formed body draws has the origin of its kind: a Regular one a node, that of a literal none. Assumes nothing.
use Rattle.std.specs.Prelude.{◌≡◌, List, [], ◌∷◌, ◌++◌, Bool, true, false, ℕ, suc, zero, ◌+◌, ◌<◌, length, get_or}
use Rattle.std.proofs.Math.Option.{Option, none, some}
use Rattle.std.proofs.Common.{arith, lt-ltb}
use Rattle.theory.specs.Rules.{Shape, Kind, Out, mismatch, kind}
use Rattle.theory.specs.Program.{done, refuse, draw, intern, equate, emit, mark, read, write, clip, first_equal, sane, drawn, appended, emitted, written, refused, marking, raised, pooled, intern_if, interned, solved, react, react_cases, run}
use Rattle.refs.specs.declared.Counts.{Counts}
use Rattle.record.specs.declared.TypingError.{TypingError}
use Rattle.record.specs.Steps.{State, Walk, drawn_by}
use Rattle.bounds.specs.Confined.{DrawnAt, IsConfined, any_numbers, any_state}

-- the origins of variables of these kinds, among m nodes
abbrev pub Origins : ℕ → List Kind → List (Option ℕ) → Type 0
Origins m [] [] = Unit {0}
Origins m [] (o ∷ os) = ⊥
Origins m (k ∷ ks) [] = ⊥
Origins m (k ∷ ks) (o ∷ os) = DrawnAt m k o × Origins m ks os

-- so those of a state
abbrev pub OriginsOf : ℕ → State → Type 0
OriginsOf m s = Origins m s.kinds s.origins

-- one variable more
origins_more : (m : ℕ) (ks : List Kind) (os : List (Option ℕ)) (k : Kind) (o : Option ℕ) → Origins m ks os → DrawnAt m k o → Origins m (ks ++ k ∷ []) (os ++ o ∷ [])
origins_more m [] [] k o h p = (p, tt)
origins_more m [] (x ∷ os) k o h p = absurd h
origins_more m (y ∷ ks) [] k o h p = absurd h
origins_more m (y ∷ ks) (x ∷ os) k o h p = (h.0, origins_more m ks os k o h.1 p)

-- the origin of a variable
pub origin_of_lem : (m : ℕ) (ks : List Kind) (os : List (Option ℕ)) → Origins m ks os → (v : ℕ) → v < length ks → DrawnAt m (kind ks v) (get_or os v none)
origin_of_lem m [] [] h v l = absurd (omega arith)
origin_of_lem m [] (o ∷ os) h v l = absurd h
origin_of_lem m (k ∷ ks) [] h v l = absurd h
origin_of_lem m (k ∷ ks) (o ∷ os) h zero l = h.0
origin_of_lem m (k ∷ ks) (o ∷ os) h (suc v) l = origin_of_lem m ks os h.1 v (omega arith)

-- the node that draws a variable is its origin
pub drawn_some : (n : ℕ) → n < 65535 → drawn_by n ≡ some n
drawn_some n h = let e : n + 1 ≡ suc n = omega arith in rw (lt-ltb n 65535 h, e)

-- a made type draws nothing
interned_origins : (m : ℕ) (t : Shape) (s : State) → OriginsOf m s → OriginsOf m (interned t s).1
unfolding interned appended
interned_origins m t s h = by (sane (length s.rows) t)
  where
    found : (o : Option ℕ) → OriginsOf m (pooled t o s).1
    found none = h
    found (some r) = h

    by : (b : Bool) → OriginsOf m (intern_if b t s).1
    by true = found (first_equal 0 s.rows t)
    by false = h

-- nor does an equation
react_origins : {A : Type 0} (m n : ℕ) (o : Out) (e : Out → TypingError) (g : Bool → State → Option A × State) (s : State) → OriginsOf m s
    → ((c : Bool) (t : State) → OriginsOf m t → OriginsOf m (g c t).1) → OriginsOf m (react n o e g s).1
unfolding emitted refused
react_origins m n o e g s h again = react_cases (λ r. OriginsOf m r.1) n o e g s (again true s h) (again false (emitted (e mismatch) s) h) h h

-- a confined program leaves no other origins
pub run_origins : {A : Type 0} (Q : A → Type 0) (N : Counts) (p : Walk A) → IsConfined N any_numbers Q p → (s : State) → OriginsOf N.nodes s → OriginsOf N.nodes (run p s).1
unfolding run IsConfined drawn emitted written refused marking raised
run_origins Q N (done a) c s h = h
run_origins Q N (refuse k n) c s h = h
run_origins Q N (draw k o f) c s h = run_origins Q N (f (length s.rows)) (c.1 (length s.rows) tt) (drawn k o s) (origins_more N.nodes s.kinds s.origins k o h c.0)
run_origins Q N (intern t f) c s h = run_origins Q N (f (interned t s).0) (c.3 (interned t s).0 tt) (interned t s).1 (interned_origins N.nodes t s h)
run_origins Q N (equate n x y e f) c s h =
    let a = clip (length s.rows) x in
    let b = clip (length s.rows) y in
    react_origins N.nodes n (solved a b s).0 e (λ d t. run (f d) t) (raised n a b (solved a b s) s) h (λ d t. run_origins Q N (f d) (c.4 d) t)
run_origins Q N (emit e p) c s h = run_origins Q N p c.0 (emitted e s) h
run_origins Q N (mark v p) c s h = run_origins Q N p c (marking v s) h
run_origins Q N (read f) c s h = run_origins Q N (f s) (c s (any_state s)) s h
run_origins Q N (write o p) c s h = run_origins Q N p c.1 (written o s) h

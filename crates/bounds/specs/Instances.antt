-- The rows of a well-formed body hold only instances of its file, and so may each way that meets its equations. Assumes nothing.
use Rattle.std.specs.Prelude.{◌≡◌, refl, List, Bool, true, false, cond, ℕ, suc, zero, ◌<◌, ltb, length}
use Rattle.std.proofs.Common.{sym, ap, ◌∙◌, inl, inr, ltb-true, lt-ltb}
use Rattle.std.proofs.Math.Option.{Option, none, some}
use Rattle.theory.specs.Rules.{Base, bool, nil, float, double, uint, int, inst, Shape, base, var, arr, ref, fn, fun, lam, err, div, Kind, regular, integer, floating, mismatch, row, kind, iter}
use Rattle.theory.specs.Program.{Equation, done, refuse, draw, intern, equate, emit, mark, read, write, clip, first_equal, sane, drawn, appended, emitted, written, refused, marking, raised, pooled, intern_if, interned, solved, react_cases, run}
use Rattle.theory.specs.Basics.{clash}
use Rattle.theory.specs.Ways.{Ty, basic, array_of, Way, ty_fits, den_of, den_at, den, Meets}
use Rattle.refs.specs.declared.Counts.{Counts}
use Rattle.record.specs.Steps.{State, Walk}
use Rattle.bounds.specs.Confined.{BaseParts, Parts, IsConfined, Any, any_state}
use Rattle.bounds.specs.InRows.{standing, rows_more}

-- ── definitions ──

-- an instance is one of the first k
abbrev pub BaseOf : ℕ → Base → Type 0
BaseOf k bool = Unit {0}
BaseOf k nil = Unit {0}
BaseOf k float = Unit {0}
BaseOf k double = Unit {0}
BaseOf k (uint w) = Unit {0}
BaseOf k (int w) = Unit {0}
BaseOf k (inst i) = i < k

-- so each instance in a type
abbrev pub TypeOf : ℕ → Ty → Type 0
TypeOf k (basic b) = BaseOf k b
TypeOf k (array_of t) = TypeOf k t

-- a way gives only types of the first k instances
abbrev pub WayOf : ℕ → Way → Type 0
WayOf k w = (v : ℕ) → TypeOf k (w v)

-- ── the rows of a run ──

-- each row is made of definitions and instances of the file
abbrev pub RowsOf : Counts → List Shape → Type 0
RowsOf N l = (x : ℕ) → Parts (standing N Any) (row l x)

-- a made type
interned_of : (N : Counts) (t : Shape) (s : State) → RowsOf N s.rows → Parts (standing N Any) t → RowsOf N (interned t s).1.rows
unfolding interned appended
interned_of N t s h p = by (sane (length s.rows) t)
  where
    found : (o : Option ℕ) → RowsOf N (pooled t o s).1.rows
    found none = rows_more (Parts (standing N Any)) s.rows t h p
    found (some r) = h

    by : (b : Bool) → RowsOf N (intern_if b t s).1.rows
    by true = found (first_equal 0 s.rows t)
    by false = h

-- a program that makes types of such alone
pub run_of : {A : Type 0} (N : Counts) (p : Walk A) → IsConfined N (standing N Any) Any p → (s : State) → RowsOf N s.rows → RowsOf N (run p s).1.rows
unfolding run IsConfined drawn emitted written refused marking raised
run_of N (done a) c s h = h
run_of N (refuse k n) c s h = h
run_of N (draw k o f) c s h = run_of N (f (length s.rows)) (c.1 (length s.rows) tt) (drawn k o s) (rows_more (Parts (standing N Any)) s.rows (var (length s.mem.binds)) h tt)
run_of N (intern t f) c s h = run_of N (f (interned t s).0) (c.3 (interned t s).0 tt) (interned t s).1 (interned_of N t s h c.2)
run_of N (equate n x y e f) c s h =
    let a = clip (length s.rows) x in
    let b = clip (length s.rows) y in
    let t = raised n a b (solved a b s) s in
    react_cases (λ r. RowsOf N r.1.rows) n (solved a b s).0 e (λ d u. run (f d) u) t (run_of N (f true) (c.4 true) t h) (run_of N (f false) (c.4 false) (emitted (e mismatch) t) h) h h
run_of N (emit e p) c s h = run_of N p c.0 (emitted e s) h
run_of N (mark v p) c s h = run_of N p c (marking v s) h
run_of N (read f) c s h = run_of N (f s) (c s (record { rows = h; binds = (any_state s).binds; own = (any_state s).own })) s h
run_of N (write o p) c s h = run_of N p c.1 (written o s) h

-- ── a way without other instances ──

-- Nil for any instance but the first k
abbrev trim_base : ℕ → Base → Base
trim_base k bool = bool
trim_base k nil = nil
trim_base k float = float
trim_base k double = double
trim_base k (uint w) = uint w
trim_base k (int w) = int w
trim_base k (inst i) = cond (ltb i k) (inst i) nil

-- the same in a type
abbrev pub trim : ℕ → Ty → Ty
trim k (basic b) = basic (trim_base k b)
trim k (array_of t) = array_of (trim k t)

-- what is left is of the first k
pub trim_base_of : (k : ℕ) (b : Base) → BaseOf k (trim_base k b)
trim_base_of k bool = tt
trim_base_of k nil = tt
trim_base_of k float = tt
trim_base_of k double = tt
trim_base_of k (uint w) = tt
trim_base_of k (int w) = tt
trim_base_of k (inst i) = by (ltb i k) refl
  where
    by : (c : Bool) → ltb i k ≡ c → BaseOf k (cond c (inst i) nil)
    by true e = ltb-true i k e
    by false e = tt

-- the kind of a variable is still met
pub trim_fits : (k : ℕ) (l : Kind) (t : Ty) → ty_fits l t ≡ true → ty_fits l (trim k t) ≡ true
trim_fits k l (array_of t) e = e
trim_fits k regular (basic b) e = refl
trim_fits k integer (basic bool) e = e
trim_fits k integer (basic nil) e = e
trim_fits k integer (basic float) e = e
trim_fits k integer (basic double) e = e
trim_fits k integer (basic (uint w)) e = e
trim_fits k integer (basic (int w)) e = e
trim_fits k integer (basic (inst i)) e = clash (cc)
trim_fits k floating (basic bool) e = e
trim_fits k floating (basic nil) e = e
trim_fits k floating (basic float) e = e
trim_fits k floating (basic double) e = e
trim_fits k floating (basic (uint w)) e = e
trim_fits k floating (basic (int w)) e = e
trim_fits k floating (basic (inst i)) e = clash (cc)

-- a base type of the first k stays
trim_same : (N : Counts) (b : Base) → BaseParts (standing N Any) b → trim_base N.insts b ≡ b
trim_same N bool h = refl
trim_same N nil h = refl
trim_same N float h = refl
trim_same N double h = refl
trim_same N (uint w) h = refl
trim_same N (int w) h = refl
trim_same N (inst i) h = rw (lt-ltb i N.insts h)

module _ (N : Counts) (rows : List Shape) (h : RowsOf N rows) (w : Way) where
  -- the way without other instances
  abbrev pub trimmed : Way
  trimmed v = trim N.insts (w v)

  -- what a row becomes under it
  shape_trimmed : (f g : ℕ → Ty) → ((x : ℕ) → g x ≡ trim N.insts (f x)) → (s : Shape) → Parts (standing N Any) s → den_of trimmed g s ≡ trim N.insts (den_of w f s)
  shape_trimmed f g e (base b) p = ap basic (sym (trim_same N b p))
  shape_trimmed f g e (var v) p = refl
  shape_trimmed f g e (arr x) p = ap array_of (e x)
  shape_trimmed f g e (ref x) p = refl
  shape_trimmed f g e (fn d) p = refl
  shape_trimmed f g e (fun s o i) p = refl
  shape_trimmed f g e (lam n o i) p = refl
  shape_trimmed f g e err p = refl
  shape_trimmed f g e div p = refl

  den_steps : (k x : ℕ) → iter (den_at rows trimmed) (basic nil) k x ≡ trim N.insts (iter (den_at rows w) (basic nil) k x)
  den_steps zero x = refl
  den_steps (suc k) x = shape_trimmed (iter (den_at rows w) (basic nil) k) (iter (den_at rows trimmed) (basic nil) k) (den_steps k) (row rows x) (h x)

  den_trimmed : (x : ℕ) → den rows trimmed x ≡ trim N.insts (den rows w x)
  unfolding den
  den_trimmed x = den_steps (length rows) x

  -- it meets what the way meets
  pub meets_trimmed : (q : Equation) → Meets rows w q → Meets rows trimmed q
  meets_trimmed q (inl e) = inl e
  meets_trimmed q (inr e) = inr (den_trimmed q.expected ∙ ap (trim N.insts) e ∙ sym (den_trimmed q.got))

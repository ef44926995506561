-- Each type number that the run of a well-formed body uses behind its type lines is that of a row. Assumes nothing.
use Rattle.std.specs.Prelude.{◌≡◌, refl, List, [], ◌∷◌, ◌++◌, Bool, true, false, get_or, replicate}
use Rattle.std.proofs.Math.Option.{Option, none, some}
use Prim.Native.Nat.{ℕ, suc, zero, ◌<◌, ◌≤◌}
use Rattle.std.proofs.Common.{arith, lt-ltb, length-append}
use Rattle.std.proofs.Math.ListN.{length}
use Rattle.theory.specs.Rules.{Base, bool, nil, float, double, uint, int, inst, Shape, base, var, arr, ref, fn, fun, lam, err, div, Kind, Out, success, mismatch, refused12, refused13, dry, as_var, row, bound}
use Rattle.theory.specs.Program.{done, refuse, draw, intern, equate, emit, mark, read, write, clip, first_equal, all_below, sane, drawn, appended, emitted, written, marking, raised, pooled, intern_if, interned, solved, react, run}
use Rattle.theory.specs.Basics.{All, all_map, clash}
use Rattle.theory.specs.Demand.{Track}
use Rattle.theory.proofs.Demand.{track}
use Rattle.theory.proofs.Pool.{first_some}
use Rattle.theory.specs.Start.{start}
use Rattle.theory.proofs.Start.{start_track}
use Rattle.type_table.specs.Sound.{fixed_types}
use Rattle.refs.specs.declared.Counts.{Counts}
use Rattle.nodes.specs.Nodes.{items_of, def_inputs, field_type, fn_line}
use Rattle.record.specs.Own.{Own, blank}
use Rattle.record.specs.Steps.{State, Walk}
use Rattle.resolve.specs.Resolve.{declare_types, body_with}
use Rattle.well_formed.specs.Good.{WellFormed}
use Rattle.bounds.specs.Declared.{line_shape, declared, declared_length, row_all, Line, array, function, instance_of, definition, line, array_lower, output_lower, inputs_lower, types_declared}
use Rattle.bounds.specs.Refers.{Declared, Refers, type_more, numbers_all, refers, fn_output}
use Rattle.bounds.specs.Confined.{Maybe, Numbers, BaseParts, Parts, OwnTypes, StateTypes, IsConfined, Any, Known}
use Rattle.bounds.specs.Nesting.{Behind}

module _ {A : Type 0} where
  -- at each step of a run: both sides of an equation are rows, a type is made of rows that stand, and where the tables are read the type that `return` answers
  -- to and RAW of each node are rows
  unfoldable pub InRows : Walk A → State → Type 0
  InRows (done a) s = Unit {0}
  InRows (refuse k n) s = Unit {0}
  InRows (draw k o f) s = InRows (f (length s.rows)) (drawn k o s)
  InRows (intern t f) s = (sane (length s.rows) t ≡ true) × InRows (f (interned t s).0) (interned t s).1
  InRows (equate n x y e f) s =
      let a = clip (length s.rows) x in
      let b = clip (length s.rows) y in
      (x < length s.rows) × (y < length s.rows) × Behind (solved a b s).0 e (λ c t. InRows (f c) t) (raised n a b (solved a b s) s)
  InRows (emit e p) s = InRows p (emitted e s)
  InRows (mark v p) s = InRows p (marking v s)
  InRows (read f) s = OwnTypes (λ x. x < length s.rows) s.own × InRows (f s) s
  InRows (write o p) s = InRows p (written o s)

-- ── more types ──

-- the definitions and instances of the file, and types by T
abbrev pub standing : Counts → (ℕ → Type 0) → Numbers
standing N T = record { type = T; def = λ d. d < N.defs; inst = λ k. k < N.insts }

module _ (N : Counts) (T U : ℕ → Type 0) (h : (x : ℕ) → T x → U x) where
  -- a number, if there is one
  maybe_more : (o : Option ℕ) → Maybe T o → Maybe U o
  maybe_more none m = tt
  maybe_more (some x) m = h x m

  -- what a base type is made of
  base_more : (b : Base) → BaseParts (standing N T) b → BaseParts (standing N U) b
  base_more bool m = tt
  base_more nil m = tt
  base_more float m = tt
  base_more double m = tt
  base_more (uint w) m = tt
  base_more (int w) m = tt
  base_more (inst k) m = m

  -- what a type is made of
  pub parts_more : (s : Shape) → Parts (standing N T) s → Parts (standing N U) s
  parts_more (base b) m = base_more b m
  parts_more (var v) m = tt
  parts_more (arr e) m = h e m
  parts_more (ref e) m = h e m
  parts_more (fn d) m = m
  parts_more (fun s o i) m = (h o m.0, all_map T U i h m.1)
  parts_more (lam n o i) m = (h o m.0, all_map T U i h m.1)
  parts_more err m = tt
  parts_more div m = tt

  -- the walk's own
  own_more : (o : Own) → OwnTypes T o → OwnTypes U o
  own_more o m = record { output = h o.output m.output; raw = λ i. maybe_more (get_or o.raw i none) (m.raw i) }

-- ── the state of a run ──

-- the invariant of demand 3, and every row, the type that `return` answers to and RAW of each node is made of rows
pub record Stands (N : Counts) (s : State) : Type 0 where
  pub track : Track s
  pub rows : (x : ℕ) → Parts (standing N (λ y. y < length s.rows)) (row s.rows x)
  pub own : OwnTypes (λ y. y < length s.rows) s.own

-- so its types are types, wherever each row is one
state_types : (N : Counts) (s : State) → Stands N s → (T : ℕ → Type 0) → ((x : ℕ) → x < length s.rows → T x) → StateTypes (standing N T) s
state_types N s I T h = record {
  rows = λ x. parts_more N (λ y. y < length s.rows) T h (row s.rows x) (I.rows x);
  binds = λ v. by v (bound s.mem.binds v) refl;
  own = own_more N (λ y. y < length s.rows) T h s.own I.own;
}
  where
    by : (v : ℕ) (o : Option ℕ) → bound s.mem.binds v ≡ o → Maybe T o
    by v none e = tt
    by v (some r) e = h r (I.track.tables.claim.good.held v r e)

-- what holds of each row of a table and of one more holds of each row of both
pub rows_more : (P : Shape → Type 0) (l : List Shape) (t : Shape) → ((x : ℕ) → P (row l x)) → P t → (x : ℕ) → P (row (l ++ t ∷ []) x)
rows_more P [] t h p zero = p
rows_more P [] t h p (suc x) = h x
rows_more P (s ∷ l) t h p zero = h zero
rows_more P (s ∷ l) t h p (suc x) = rows_more P l t (λ y. h (suc y)) p x

-- one row more
longer : (l : List Shape) (t : Shape) → length (l ++ t ∷ []) ≡ suc (length l)
longer l t = omega (arith, length-append l (t ∷ []))

-- the rows and the walk's own with one row more
module _ (N : Counts) (s : State) (I : Stands N s) (t : Shape) where
  -- a row below the old length is one below the new
  old_row : (x : ℕ) → x < length s.rows → x < length (s.rows ++ t ∷ [])
  old_row x l = omega (arith, longer s.rows t)

  -- the rows
  rows_stand : Parts (standing N (λ y. y < length s.rows)) t → (x : ℕ) → Parts (standing N (λ y. y < length (s.rows ++ t ∷ []))) (row (s.rows ++ t ∷ []) x)
  rows_stand p =
      let T : ℕ → Type 0 = λ y. y < length s.rows in
      let U : ℕ → Type 0 = λ y. y < length (s.rows ++ t ∷ []) in
      rows_more (Parts (standing N U)) s.rows t (λ x. parts_more N T U old_row (row s.rows x) (I.rows x)) (parts_more N T U old_row t p)

  -- the walk's own
  own_stands : OwnTypes (λ y. y < length (s.rows ++ t ∷ [])) s.own
  own_stands = own_more N (λ y. y < length s.rows) (λ y. y < length (s.rows ++ t ∷ [])) old_row s.own I.own

-- a drawn variable
drawn_stands : (N : Counts) (k : Kind) (o : Option ℕ) (s : State) → Stands N s → Stands N (drawn k o s)
unfolding run drawn
drawn_stands N k o s I = record {
  track = track (draw k o done) s I.track;
  rows = rows_stand N s I (var (length s.mem.binds)) tt;
  own = own_stands N s I (var (length s.mem.binds));
}

-- ── made types ──

-- numbers below k
below_true : (k : ℕ) (l : List ℕ) → All (λ x. x < k) l → all_below k l ≡ true
below_true k [] h = refl
below_true k (x ∷ l) h = rw (lt-ltb x k h.0) (below_true k l h.1)

-- a type made of rows that is no variable may be made of them
parts_sane : (N : Counts) (k : ℕ) (t : Shape) → as_var t ≡ none → Parts (standing N (λ y. y < k)) t → sane k t ≡ true
parts_sane N k (base b) e p = refl
parts_sane N k (var v) e p = clash (cc)
parts_sane N k (arr x) e p = rw (lt-ltb x k p)
parts_sane N k (ref x) e p = rw (lt-ltb x k p)
parts_sane N k (fn d) e p = refl
parts_sane N k (fun s o i) e p = rw (lt-ltb o k p.0) (below_true k i p.1)
parts_sane N k (lam n o i) e p = rw (lt-ltb o k p.0) (below_true k i p.1)
parts_sane N k err e p = refl
parts_sane N k div e p = refl

-- a made type: its number is a row, no row is lost, and the state stands
record Interned (N : Counts) (s : State) (r : ℕ × State) : Type 0 where
  number : r.0 < length r.1.rows
  longer : length s.rows ≤ length r.1.rows
  stands : Stands N r.1

-- so it is made
interned_stands : (N : Counts) (t : Shape) (s : State) → Stands N s → sane (length s.rows) t ≡ true → Parts (standing N (λ y. y < length s.rows)) t → Interned N s (interned t s)
unfolding run interned appended
interned_stands N t s I e p = by (track (intern t done) s I.track) e
  where
    found : (o : Option ℕ) → first_equal 0 s.rows t ≡ o → Track (pooled t o s).1 → Interned N s (pooled t o s)
    found none q k = record {
      number = omega (arith, longer s.rows t);
      longer = omega (arith, longer s.rows t);
      stands = record { track = k; rows = rows_stand N s I t p; own = own_stands N s I t };
    }
    found (some r) q k = record { number = (first_some s.rows t r q).in_table; longer = omega arith; stands = I }

    by : Track (intern_if (sane (length s.rows) t) t s).1 → sane (length s.rows) t ≡ true → Interned N s (intern_if (sane (length s.rows) t) t s)
    by k z = rw z (found (first_equal 0 s.rows t) refl (rw z at k))

-- ── a run ──

-- a program that is confined wherever each row is a type uses only rows
pub run_in_rows : {A : Type 0} (N : Counts) (p : Walk A) (s : State) → Stands N s → ((T : ℕ → Type 0) → ((x : ℕ) → x < length s.rows → T x) → IsConfined N (standing N T) Any p) → InRows p s
unfolding IsConfined InRows run drawn emitted written marking raised
run_in_rows N (done a) s I H = tt
run_in_rows N (refuse k n) s I H = tt
run_in_rows N (draw k o f) s I H =
    let q = longer s.rows (var (length s.mem.binds)) in
    run_in_rows N (f (length s.rows)) (drawn k o s) (drawn_stands N k o s I) (λ T h. (H T (λ x l. h x (omega (arith, q)))).1 (length s.rows) (h (length s.rows) (omega (arith, q))))
run_in_rows N (intern t f) s I H =
    let q = H (λ x. x < length s.rows) (λ x l. l) in
    let e = parts_sane N (length s.rows) t q.1 q.2 in
    let J = interned_stands N t s I e q.2 in
    (e, run_in_rows N (f (interned t s).0) (interned t s).1 J.stands (λ T h. (H T (λ x l. h x (omega (arith, J.longer)))).3 (interned t s).0 (h (interned t s).0 J.number)))
run_in_rows N (equate n x y e f) s I H =
    let q = H (λ z. z < length s.rows) (λ z l. l) in
    let a = clip (length s.rows) x in
    let b = clip (length s.rows) y in (
      q.2,
      q.3,
      by (solved a b s).0 (raised n a b (solved a b s) s) (track (equate n x y e done) s I.track) I.rows I.own
          (λ c t J l. run_in_rows N (f c) t J (λ T h. (H T (λ z k. h z (omega (arith, l)))).4 c)),
    )
  where
    by : (o : Out) (t : State) → Track (react n o e (λ c u. run {A = Bool} (done c) u) t).1 → ((z : ℕ) → Parts (standing N (λ y. y < length t.rows)) (row t.rows z)) → OwnTypes (λ y. y < length t.rows) t.own
        → ((c : Bool) (u : State) → Stands N u → length u.rows ≡ length t.rows → InRows (f c) u) → Behind o e (λ c u. InRows (f c) u) t
    by success t k r w again = again true t (record { track = k; rows = r; own = w }) refl
    by mismatch t k r w again = again false (emitted (e mismatch) t) (record { track = k; rows = r; own = w }) refl
    by refused12 t k r w again = tt
    by refused13 t k r w again = tt
    by dry t k r w again = tt
run_in_rows N (emit e p) s I H = run_in_rows N p (emitted e s) (record { track = track {A = Unit {0}} (emit e (done tt)) s I.track; rows = I.rows; own = I.own }) (λ T h. (H T h).0)
run_in_rows N (mark v p) s I H = run_in_rows N p (marking v s) (record { track = track {A = Unit {0}} (mark v (done tt)) s I.track; rows = I.rows; own = I.own }) H
run_in_rows N (read f) s I H = (I.own, run_in_rows N (f s) s I (λ T h. H T h s (state_types N s I T h)))
run_in_rows N (write o p) s I H =
    let q = H (λ x. x < length s.rows) (λ x l. l) in
    run_in_rows N p (written o s) (record { track = track {A = Unit {0}} (write o (done tt)) s I.track; rows = I.rows; own = q.0 }) (λ T h. (H T h).1)

-- ── a body ──

-- the state behind the type lines
abbrev pub declared_state : Counts → List ℕ → List ℕ → State
declared_state n rows cells = start (declared rows cells n.types) (blank (fn_line rows cells).output.0)

-- no node is typed
blank_raw : (T : ℕ → Type 0) (k i : ℕ) → Maybe T (get_or (replicate k none) i none)
blank_raw T zero i = tt
blank_raw T (suc k) zero = tt
blank_raw T (suc k) (suc i) = blank_raw T k i

module _ (n : Counts) (rows cells : List ℕ) (w : WellFormed n rows cells) where
  -- the type of a line is made of declared types
  line_parts : (i : ℕ) → i < n.types → Parts (standing n (Declared n)) (line_shape rows cells i)
  line_parts i h = by (line n rows cells w i h)
    where
      by : Line rows cells i → Parts (standing n (Declared n)) (line_shape rows cells i)
      by (array f p) = rw p (omega (arith, array_lower n rows cells w i h f))
      by (function f p) =
          rw p (
            omega (arith, output_lower n rows cells w i h f),
            numbers_all (Declared n) cells _ _ (λ c l. omega (arith, inputs_lower n rows cells w i h f c l)),
          )
      by (instance_of f p) = rw p (w.insts_there i h f)
      by (definition f p) = rw p (w.defs_there i h f)

  -- so is each row behind the type lines
  pub declared_parts : (k : ℕ) → k ≤ n.types → (x : ℕ) → Parts (standing n (Declared n)) (row (declared rows cells k) x)
  unfolding declared
  declared_parts zero h x = row_all (Parts (standing n (Declared n))) fixed_types (search) tt x
  declared_parts (suc k) h x = rows_more (Parts (standing n (Declared n))) (declared rows cells k) (line_shape rows cells k) (declared_parts k (omega arith)) (line_parts k (omega arith)) x

  -- a declared type is a row behind the type lines
  declared_below : (x : ℕ) → Declared n x → x < length (declared rows cells n.types)
  declared_below x h = omega (arith, declared_length rows cells n.types)

  -- the state behind the type lines stands
  pub start_stands : Stands n (declared_state n rows cells)
  unfolding start blank
  start_stands =
      let T : ℕ → Type 0 = λ y. y < length (declared rows cells n.types) in
      let o : Own = blank (fn_line rows cells).output.0 in
      record {
        track = rw (types_declared n rows cells w o) at (track (declare_types rows cells n.types) (start fixed_types o) (start_track fixed_types o refl));
        rows = λ x. parts_more n (Declared n) T declared_below (row (declared rows cells n.types) x) (declared_parts n.types (omega arith) x);
        own = record { output = declared_below _ (fn_output n rows cells w); raw = blank_raw T 1024 };
      }

  -- so the invariant of demand 3 holds there
  pub declared_track : Track (declared_state n rows cells)
  declared_track = start_stands.track

  -- each declared type is a type, wherever each row is
  pub known : (T : ℕ → Type 0) → ((x : ℕ) → x < length (declared rows cells n.types) → T x) → Known n (body_with n rows cells) (standing n T)
  known T h =
      let R : Refers n (body_with n rows cells) = refers n rows cells w in
      let k : (x : ℕ) → Declared n x → T x = λ x l. h x (declared_below x l) in
      record {
        type = k;
        def = λ d l. l;
        inst = λ i l. l;
        outputs = λ d l. k _ (R.outputs d l);
        inputs = λ d l. all_map (Declared n) T (items_of cells (def_inputs rows d)) k (R.inputs d l);
        fields = λ i name l. type_more (Declared n) T k (field_type rows cells i name) (R.fields i name l);
      }

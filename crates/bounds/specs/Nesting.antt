-- A walk over a well-formed body adds rows of the six made forms alone, so functions stand at most 4 deep in one another, in the tables behind it and at each of its
-- equations. Assumes nothing.
use Rattle.std.specs.Prelude.{◌≡◌, List, [], ◌∷◌, ◌++◌, Bool, true, false, cond, ℕ, suc, zero, ◌+◌, ◌-◌, ◌<◌, ◌≤◌, ltb, length}
use Rattle.std.proofs.Math.Path.{refl, ap}
use Rattle.std.proofs.Common.{sym, ◌∙◌, inl, inr, append_assoc, append-nil, true≢false, add-zero, ltb-true, ltb-false, get_or-append-add}
use Rattle.std.proofs.Math.Option.{Option, none, some}
use native.Mathlib.Omega.{arith}
use Rattle.std.proofs.Math.ListN.{get_or-append}
use Rattle.theory.specs.Rules.{Shape, base, var, arr, ref, fn, fun, lam, err, div, nil, Kind, Out, success, mismatch, refused12, refused13, dry, row}
use Rattle.theory.specs.Program.{done, refuse, draw, intern, equate, emit, mark, read, write, clip, first_equal, sane, drawn, appended, emitted, written, refused, marking, raised, pooled, intern_if, interned, solved, react_cases, run, ◌>>=◌}
use Rattle.theory.specs.Basics.{All, all_map, clash}
use Rattle.theory.specs.Depth.{In, Pure, pure_base, pure_fn, pure_err, pure_div, pure_array, pure_function, Functions}
use Rattle.type_table.specs.Sound.{fixed_types}
use Rattle.forms.specs.Form.{forms, form_at, kind_at, LowType}
use Rattle.refs.specs.declared.Counts.{Counts}
use Rattle.refs.specs.Refs.{form_in, first_in, count_in, levels_in, value_in}
use Rattle.nodes.specs.declared.TypeRow.{TypeRow}
use Rattle.nodes.specs.declared.TypeRow.TheVariants as row·T
use Rattle.nodes.specs.Nodes.{numbers_from, type_row_at, is_fun}
use Rattle.record.specs.declared.TypingError.{TypingError}
use Rattle.record.specs.Steps.{State, Walk, Step, array_of, fn_def_lem, instance, make_function, for_each}
use Rattle.resolve.specs.Resolve.{type_of_line, declare_type, declare_types}
use Rattle.body.specs.Body.{levels_over, deeper}
use Rattle.well_formed.specs.Good.{WellFormed, kind_in}
use Rattle.well_formed.specs.Levels.{TypeIn, type_good, type_lower, fun_levels, part_levels}
use Rattle.bounds.specs.Weights.{kind_by}
use Rattle.bounds.specs.Declared.{line_shape, declared, declared_length, declared_row, declared_fixed, row_all, Line, array, function, instance_of, definition, line}
use Rattle.bounds.specs.Confined.{is_made, IsConfined, Any, any_numbers, any_state}

-- ── tables that grow by made types ──

-- r is l and then rows of the six made forms
pub record More (l r : List Shape) : Type 0 where
  pub rest : List Shape
  pub rows : r ≡ l ++ rest
  pub made : All (λ s. is_made s ≡ true) rest

-- a table is itself
pub more_same : (l : List Shape) → More l l
more_same l = record { rest = []; rows = sym (append-nil l); made = tt }

-- each of a list and one more
all_more : (P : Shape → Type 0) (l : List Shape) (t : Shape) → All P l → P t → All P (l ++ t ∷ [])
all_more P [] t h p = (p, tt)
all_more P (s ∷ l) t h p = (h.0, all_more P l t h.1 p)

-- one row more
more_one : (l r : List Shape) (t : Shape) → More l r → is_made t ≡ true → More l (r ++ t ∷ [])
more_one l r t m e = record {
  rest = m.rest ++ t ∷ [];
  rows = ap (λ (q : List Shape). q ++ t ∷ []) m.rows ∙ append_assoc l m.rest (t ∷ []);
  made = all_more (λ s. is_made s ≡ true) m.rest t m.made e;
}

module _ (l : List Shape) where
  -- a drawn variable
  drawn_more : (k : Kind) (o : Option ℕ) (s : State) → More l s.rows → More l (drawn k o s).rows
  unfolding drawn
  drawn_more k o s m = more_one l s.rows (var (length s.mem.binds)) m refl

  -- a made type
  interned_more : (t : Shape) (s : State) → More l s.rows → is_made t ≡ true → More l (interned t s).1.rows
  unfolding interned appended
  interned_more t s m e = by (sane (length s.rows) t)
    where
      found : (o : Option ℕ) → More l (pooled t o s).1.rows
      found none = more_one l s.rows t m e
      found (some r) = m

      by : (b : Bool) → More l (intern_if b t s).1.rows
      by true = found (first_equal 0 s.rows t)
      by false = m

  -- a program that makes types of these forms
  pub run_more : {A : Type 0} (N : Counts) (p : Walk A) → IsConfined N any_numbers Any p → (s : State) → More l s.rows → More l (run p s).1.rows
  unfolding run IsConfined emitted written refused marking raised
  run_more N (done a) f s m = m
  run_more N (refuse k n) f s m = m
  run_more N (draw k o g) f s m = run_more N (g (length s.rows)) (f.1 (length s.rows) tt) (drawn k o s) (drawn_more k o s m)
  run_more N (intern t g) f s m = run_more N (g (interned t s).0) (f.3 (interned t s).0 tt) (interned t s).1 (interned_more t s m f.0)
  run_more N (equate n x y e g) f s m =
      let a = clip (length s.rows) x in
      let b = clip (length s.rows) y in
      let t = raised n a b (solved a b s) s in
      react_cases (λ r. More l r.1.rows) n (solved a b s).0 e (λ c u. run (g c) u) t (run_more N (g true) (f.4 true) t m) (run_more N (g false) (f.4 false) (emitted (e mismatch) t) m) m m
  run_more N (emit e p) f s m = run_more N p f.0 (emitted e s) m
  run_more N (mark v p) f s m = run_more N p f (marking v s) m
  run_more N (read g) f s m = run_more N (g s) (f s (any_state s)) s m
  run_more N (write o p) f s m = run_more N p f.1 (written o s) m

-- ── at each equation ──

-- what K says of the state behind an equation, by its answer
abbrev pub Behind : Out → (Out → TypingError) → (Bool → State → Type 0) → State → Type 0
Behind success e K s = K true s
Behind mismatch e K s = K false (emitted (e mismatch) s)
Behind refused12 e K s = Unit {0}
Behind refused13 e K s = Unit {0}
Behind dry e K s = Unit {0}

-- what holds behind a success, and behind a mismatch and its error, holds behind every answer
behind_cases : (o : Out) (e : Out → TypingError) (K : Bool → State → Type 0) (s : State) → K true s → K false (emitted (e mismatch) s) → Behind o e K s
behind_cases success e K s met failed = met
behind_cases mismatch e K s met failed = failed
behind_cases refused12 e K s met failed = tt
behind_cases refused13 e K s met failed = tt
behind_cases dry e K s met failed = tt

module _ {A : Type 0} (P : State → Type 0) where
  -- P holds of the state at each equation that running a program raises
  unfoldable pub AtEquations : Walk A → State → Type 0
  AtEquations (done a) s = Unit {0}
  AtEquations (refuse k n) s = Unit {0}
  AtEquations (draw k o f) s = AtEquations (f (length s.rows)) (drawn k o s)
  AtEquations (intern t f) s = AtEquations (f (interned t s).0) (interned t s).1
  AtEquations (equate n x y e f) s =
      let a = clip (length s.rows) x in
      let b = clip (length s.rows) y in
      P s × Behind (solved a b s).0 e (λ c t. AtEquations (f c) t) (raised n a b (solved a b s) s)
  AtEquations (emit e p) s = AtEquations p (emitted e s)
  AtEquations (mark v p) s = AtEquations p (marking v s)
  AtEquations (read f) s = AtEquations (f s) s
  AtEquations (write o p) s = AtEquations p (written o s)

-- a program that makes types of these forms: what holds of every table that grew by such
pub at_confined : {A : Type 0} (P : State → Type 0) (l : List Shape) → ((s : State) → More l s.rows → P s)
    → (N : Counts) (p : Walk A) → IsConfined N any_numbers Any p → (s : State) → More l s.rows → AtEquations P p s
unfolding AtEquations IsConfined emitted written marking raised
at_confined P l h N (done a) f s m = tt
at_confined P l h N (refuse k n) f s m = tt
at_confined P l h N (draw k o g) f s m = at_confined P l h N (g (length s.rows)) (f.1 (length s.rows) tt) (drawn k o s) (drawn_more l k o s m)
at_confined P l h N (intern t g) f s m = at_confined P l h N (g (interned t s).0) (f.3 (interned t s).0 tt) (interned t s).1 (interned_more l t s m f.0)
at_confined P l h N (equate n x y e g) f s m =
    let a = clip (length s.rows) x in
    let b = clip (length s.rows) y in
    let t = raised n a b (solved a b s) s in
    (h s m, behind_cases (solved a b s).0 e (λ c u. AtEquations P (g c) u) t (at_confined P l h N (g true) (f.4 true) t m) (at_confined P l h N (g false) (f.4 false) (emitted (e mismatch) t) m))
at_confined P l h N (emit e p) f s m = at_confined P l h N p f.0 (emitted e s) m
at_confined P l h N (mark v p) f s m = at_confined P l h N p f (marking v s) m
at_confined P l h N (read g) f s m = at_confined P l h N (g s) (f s (any_state s)) s m
at_confined P l h N (write o p) f s m = at_confined P l h N p f.1 (written o s) m

-- ── the declared types raise no equation ──

module _ {A : Type 0} where
  -- a program raises no equation
  unfoldable pub Silent : Walk A → Type 0
  Silent (done a) = Unit {0}
  Silent (refuse k n) = Unit {0}
  Silent (draw k o f) = (r : ℕ) → Silent (f r)
  Silent (intern t f) = (r : ℕ) → Silent (f r)
  Silent (equate n x y e f) = ⊥
  Silent (emit e p) = Silent p
  Silent (mark v p) = Silent p
  Silent (read f) = (s : State) → Silent (f s)
  Silent (write o p) = Silent p

  -- the one that is chosen of two
  cond_silent : (b : Bool) (p q : Walk A) → Silent p → Silent q → Silent (cond b p q)
  cond_silent true p q P Q = P
  cond_silent false p q P Q = Q

module _ {A B : Type 0} where
  -- one program after another
  then_silent : (p : Walk A) (g : A → Walk B) → Silent p → ((x : A) → Silent (g x)) → Silent (◌>>=◌ p g)
  unfolding Silent ◌>>=◌
  then_silent (done a) g P Q = Q a
  then_silent (refuse k n) g P Q = tt
  then_silent (draw k o f) g P Q = λ r. then_silent (f r) g (P r) Q
  then_silent (intern t f) g P Q = λ r. then_silent (f r) g (P r) Q
  then_silent (equate n x y e f) g P Q = absurd P
  then_silent (emit e p) g P Q = then_silent p g P Q
  then_silent (mark v p) g P Q = then_silent p g P Q
  then_silent (read f) g P Q = λ s. then_silent (f s) g (P s) Q
  then_silent (write o p) g P Q = then_silent p g P Q

  -- behind a program that raises none, the equations are those of what follows its answer
  pub at_then : (P : State → Type 0) (p : Walk A) (g : A → Walk B) → Silent p → (s : State) (a : A) (t : State) → run p s ≡ (some a, t) → AtEquations P (g a) t → AtEquations P (◌>>=◌ p g) s
  unfolding AtEquations Silent run ◌>>=◌
  at_then P (done b) g q s a t e h =
      let o : some b ≡ some a = ap (λ (r : Option A × State). r.0) e in
      let x : b ≡ a = cc in
      let y : s ≡ t = ap (λ (r : Option A × State). r.1) e in
      rw (x, y) h
  at_then P (refuse k n) g q s a t e h = let o : none ≡ some a = ap (λ (r : Option A × State). r.0) e in clash (cc)
  at_then P (draw k o f) g q s a t e h = at_then P (f (length s.rows)) g (q (length s.rows)) (drawn k o s) a t e h
  at_then P (intern u f) g q s a t e h = at_then P (f (interned u s).0) g (q (interned u s).0) (interned u s).1 a t e h
  at_then P (equate n x y r f) g q s a t e h = absurd q
  at_then P (emit r p) g q s a t e h = at_then P p g q (emitted r s) a t e h
  at_then P (mark v p) g q s a t e h = at_then P p g q (marking v s) a t e h
  at_then P (read f) g q s a t e h = at_then P (f s) g (q s) s a t e h
  at_then P (write o p) g q s a t e h = at_then P p g q (written o s) a t e h

-- a loop
each_silent : (i k : ℕ) (f : ℕ → Step) → ((j : ℕ) → Silent (f j)) → Silent (for_each i k f)
unfolding for_each Silent
each_silent i zero f h = tt
each_silent i (suc k) f h = then_silent (f i) (λ u. for_each (suc i) k f) (h i) (λ u. each_silent (suc i) k f h)

-- a type line
line_silent : (cells : List ℕ) (t : TypeRow) → Silent (type_of_line cells t)
unfolding Silent array_of make_function instance fn_def_lem
line_silent cells (row·T.Array e) = λ r. tt
line_silent cells (row·T.Fun s o t) = λ s r. tt
line_silent cells (row·T.Inst k) = cond_silent (ltb k.0 64) _ _ (λ r. tt) tt
line_silent cells (row·T.Fn d) = cond_silent (ltb d.0 256) _ _ (λ r. tt) tt

-- the type lines
pub types_silent : (rows cells : List ℕ) (k : ℕ) → Silent (declare_types rows cells k)
unfolding declare_types declare_type Silent
types_silent rows cells k = each_silent 0 k _ (λ i. then_silent (type_of_line cells (type_row_at rows cells i)) _ (line_silent cells (type_row_at rows cells i)) (λ x. tt))

-- ── functions in one another ──

-- no made form is a function type
made_no_fun : (s : Shape) → is_made s ≡ true → is_fun s ≡ false
made_no_fun (base b) e = refl
made_no_fun (var v) e = refl
made_no_fun (arr x) e = refl
made_no_fun (ref x) e = refl
made_no_fun (fn d) e = refl
made_no_fun (fun s o i) e = clash (cc)
made_no_fun (lam n o i) e = refl
made_no_fun err e = refl
made_no_fun div e = refl

-- a type that no other is in
is_alone : Shape → Bool
is_alone (base b) = true
is_alone (var v) = false
is_alone (arr e) = false
is_alone (ref e) = false
is_alone (fn d) = true
is_alone (fun s o i) = false
is_alone (lam n o i) = false
is_alone err = true
is_alone div = true

-- it is at most 0 deep
alone_pure : (l : List Shape) (d x : ℕ) (s : Shape) → row l x ≡ s → is_alone s ≡ true → Pure l d x
unfolding is_alone
alone_pure l d x (base b) e a = pure_base b e
alone_pure l d x (var v) e a = clash (cc)
alone_pure l d x (arr y) e a = clash (cc)
alone_pure l d x (ref y) e a = clash (cc)
alone_pure l d x (fn f) e a = pure_fn f e
alone_pure l d x (fun s o i) e a = clash (cc)
alone_pure l d x (lam n o i) e a = clash (cc)
alone_pure l d x err e a = pure_err e
alone_pure l d x div e a = pure_div e

-- so is each fixed type
fixed_alone : (x : ℕ) → is_alone (row fixed_types x) ≡ true
unfolding is_alone
fixed_alone = row_all (λ s. is_alone s ≡ true) fixed_types (search) refl

-- what holds of each of k fields holds of each number of them
in_numbers : (Q : ℕ → Type 0) (cells : List ℕ) (j k : ℕ) → ((c : ℕ) → c < k → Q (value_in cells (j + c))) → (y : ℕ) → In y (numbers_from cells j k) → Q y
unfolding numbers_from
in_numbers Q cells j zero h y m = absurd m
in_numbers Q cells j (suc k) h y (inl e) = rw (← e) (rw (add-zero j) at (h 0 (omega arith)))
in_numbers Q cells j (suc k) h y (inr m) = in_numbers Q cells (suc j) k (λ c l. let e : suc j + c ≡ j + suc c = omega arith in rw e (h (suc c) (omega arith))) y m

module _ (n : Counts) (rows cells : List ℕ) (w : WellFormed n rows cells) (l : List Shape) (m : More (declared rows cells n.types) l) where
  -- a row of the declared types stays
  old_row : (x : ℕ) → x < 14 + n.types → row l x ≡ row (declared rows cells n.types) x
  old_row x h =
      ap (λ (q : List Shape). row q x) m.rows
      ∙ get_or-append (declared rows cells n.types) m.rest (base nil) x (omega (arith, declared_length rows cells n.types))

  -- a fixed type stays
  fixed_row : (x : ℕ) → x < 14 → row l x ≡ row fixed_types x
  fixed_row x h = old_row x (omega arith) ∙ declared_fixed rows cells n.types x h

  -- a type line is the type i + 14
  pub line_row : (i : ℕ) → i < n.types → row l (14 + i) ≡ line_shape rows cells i
  line_row i h = old_row (14 + i) (omega arith) ∙ declared_row rows cells n.types i h

  -- any other row is no function type
  new_row : (x : ℕ) → 14 + n.types ≤ x → is_fun (row l x) ≡ false
  new_row x h =
      let c = declared_length rows cells n.types in
      let e : length (declared rows cells n.types) + (x - (14 + n.types)) ≡ x = omega arith in
      ap (λ (q : List Shape). is_fun (row q x)) m.rows
      ∙ ap (λ (y : ℕ). is_fun (row (declared rows cells n.types ++ m.rest) y)) (sym e)
      ∙ ap is_fun (get_or-append-add (declared rows cells n.types) m.rest (x - (14 + n.types)) (base nil))
      ∙ row_all (λ s. is_fun s ≡ false) m.rest (all_map (λ s. is_made s ≡ true) (λ s. is_fun s ≡ false) m.rest made_no_fun m.made) refl (x - (14 + n.types))

  -- a type in a line: a fixed type, or that of a lower line
  part_pure : (i j d : ℕ) → i < n.types → j < count_in rows i → kind_in rows i j ≡ LowType → ((x : ℕ) → TypeIn rows cells i j x → Pure l d (14 + x)) → Pure l d (value_in cells (first_in rows i + j))
  part_pure i j d h b k again = by (ltb (value_in cells (first_in rows i + j)) 14) refl
    where
      by : (c : Bool) → ltb (value_in cells (first_in rows i + j)) 14 ≡ c → Pure l d (value_in cells (first_in rows i + j))
      by true p =
          let x : ℕ = value_in cells (first_in rows i + j) in
          alone_pure l d x (row fixed_types x) (fixed_row x (ltb-true x 14 p)) (fixed_alone x)
      by false p =
          let x : ℕ = value_in cells (first_in rows i + j) in
          let e : 14 + (x - 14) ≡ x = omega (arith, ltb-false x 14 p) in
          rw e at (again (x - 14) (record { there = b; kind = k; value = omega (arith, ltb-false x 14 p) }))

  -- a fun has a level
  fun_level : (i : ℕ) → i < n.types → form_in rows i ≡ 1 → 0 < levels_in rows i
  unfolding levels_over deeper
  fun_level i h f = rw f at (type_good n rows cells w i h).level

  -- E of an array
  array_pure : (i d : ℕ) → i < n.types → form_in rows i ≡ 0 → ((x : ℕ) → x < i → levels_in rows x ≤ levels_in rows i → Pure l d (14 + x)) → Pure l d (value_in cells (first_in rows i))
  unfolding form_at forms kind_at
  array_pure i d h f again =
      let b : 1 ≤ count_in rows i = rw f at (type_good n rows cells w i h).least in
      rw (add-zero (first_in rows i)) at
      (part_pure i 0 d h b (rw f) (λ x t. again x (type_lower n rows cells w i 0 x h t) (part_levels n rows cells w i 0 x h t)))

  -- OUT and each IN of a fun
  fun_part : (i d : ℕ) → i < n.types → form_in rows i ≡ 1 → ((x : ℕ) → x < i → levels_in rows x < levels_in rows i → Pure l d (14 + x))
      → (j : ℕ) → 1 ≤ j → j < count_in rows i → Pure l d (value_in cells (first_in rows i + j))
  unfolding form_at forms
  fun_part i d h f again j a b =
      part_pure i j d h b (rw f (kind_by (λ k. k ≡ LowType) (form_at 1) j (λ z. absurd (omega arith)) (λ z. refl) refl refl))
      (λ x t. again x (type_lower n rows cells w i j x h t) (fun_levels n rows cells w i j x h f t))

  -- the parts of a fun
  fun_pure : (i d : ℕ) → i < n.types → form_in rows i ≡ 1 → ((x : ℕ) → x < i → levels_in rows x < levels_in rows i → Pure l d (14 + x))
      → (y : ℕ) → In y (value_in cells (first_in rows i + 1) ∷ numbers_from cells (first_in rows i + 2) (count_in rows i - 2)) → Pure l d y
  unfolding form_at forms
  fun_pure i d h f again y (inl e) =
      let b : 2 ≤ count_in rows i = rw f at (type_good n rows cells w i h).least in
      rw (← e) (fun_part i d h f again 1 (omega arith) (omega arith))
  fun_pure i d h f again y (inr p) =
      in_numbers (Pure l d) cells (first_in rows i + 2) (count_in rows i - 2)
      (λ c b. let e : first_in rows i + 2 + c ≡ first_in rows i + (2 + c) = omega arith in rw e (fun_part i d h f again (2 + c) (omega arith) (omega arith))) y p

  -- the type of a line is no deeper than the line has levels
  line_pure : (k i d : ℕ) → i < k → i < n.types → levels_in rows i ≤ d → Pure l d (14 + i)
  line_pure zero i d b h v = absurd (omega arith)
  line_pure (suc k) i d b h v = by d (line n rows cells w i h) v (λ x e. line_pure k x e)
    where
      by : (d : ℕ) → Line rows cells i → levels_in rows i ≤ d → ((x e : ℕ) → x < k → x < n.types → levels_in rows x ≤ e → Pure l e (14 + x)) → Pure l d (14 + i)
      by d (array f p) v again = pure_array _ (line_row i h ∙ p) (array_pure i d h f (λ x a c. again x d (omega arith) (omega arith) (omega arith)))
      by zero (function f p) v again = absurd (omega (arith, fun_level i h f))
      by (suc d) (function f p) v again = pure_function _ _ _ (line_row i h ∙ p) (fun_pure i d h f (λ x a c. again x d (omega arith) (omega arith) (omega arith)))
      by d (instance_of f p) v again = pure_base _ (line_row i h ∙ p)
      by d (definition f p) v again = pure_fn _ (line_row i h ∙ p)

  -- functions stand at most 4 deep in one another
  pub four_deep : Functions l 4
  four_deep x s o i e = by (ltb x 14) refl (ltb x (14 + n.types)) refl
    where
      by : (a : Bool) → ltb x 14 ≡ a → (b : Bool) → ltb x (14 + n.types) ≡ b → Pure l 4 x
      by true p b q = alone_pure l 4 x (row fixed_types x) (fixed_row x (ltb-true x 14 p)) (fixed_alone x)
      by false p true q =
          let j : 14 + (x - 14) ≡ x = omega (arith, ltb-false x 14 p) in
          let h : x - 14 < n.types = omega (arith, ltb-false x 14 p, ltb-true x (14 + n.types) q) in
          rw j at (line_pure (suc (x - 14)) (x - 14) 4 (omega arith) h (w.nesting (x - 14) h))
      by false p false q = absurd (true≢false (sym (ap is_fun e) ∙ new_row x (ltb-false x (14 + n.types) q)))

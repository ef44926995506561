-- What each return of the functions around the walk shows: the program of a step, from those of its parts.
use Rattle.std.specs.Prelude.{Err, None, Ok, Option as Option·R, Result, Some}
use Rattle.std.specs.Result.{IsErr, IsErrAnd}
use Rattle.std.specs.Option.{unwrap_or}
use mathlib.Core.Path.{◌≡◌, refl, sym, ap, ◌∙◌}
use mathlib.Core.List.{List}
use mathlib.Core.Option.{Option, none, some}
use mathlib.Core.Bool.{Bool, true, false}
use Prim.Native.Nat.{ℕ, suc, zero, ◌+◌, ◌-◌, ◌<◌, ◌≤◌}
use native.Mathlib.Numerals.{add-one}
use lib.ListN.{get_or, length}
use lib.Dec.{eqb}
use borrow.Author.Tests.{eqb-true, eqb-false}
use Rattle.theory.specs.Rules.{as_var, row, kind}
use Rattle.theory.specs.Program.{run}
use Rattle.theory.specs.Start.{start}
use Rattle.type_table.specs.declared.Counts.{Counts}
use Rattle.type_table.specs.declared.TypeId.{TypeId}
use Rattle.type_table.specs.declared.NodeId.{NodeId}
use Rattle.type_table.specs.declared.VarId.{VarId}
use Rattle.type_table.specs.declared.Kind.{Kind as KindV}
use Rattle.type_table.specs.declared.Kind.TheVariants as kind·V
use Rattle.type_table.specs.Memory.{mem_of, pick, head_at, number_at, rows_of, kinds_of, origins_of, binds_of, binding_at, kind_of}
use Rattle.type_table.specs.Made.{kind_number}
use Rattle.type_table.specs.View.{kind_in, origin_in, bound_code, bound_in, onward_in, end_in}
use Rattle.type_table.specs.View as view
use Rattle.type_table.specs.Tables.{length-rows, bound_at}
use Rattle.type_table.specs.Reads.{origin_meant, kind_read, origin_read}
use Rattle.type_table.specs.Sound.{fixed_types, state_of}
use Rattle.refs.specs.declared.Counts.{Counts as CountsB}
use Rattle.nodes.specs.declared.Items.{Items}
use Rattle.nodes.specs.declared.TypeRow.{TypeRow}
use Rattle.nodes.specs.declared.Function.{Function}
use Rattle.nodes.specs.Nodes.{Body, item, declared_at, type_row_at, fn_line}
use Rattle.nodes.specs.Shapes.{not_var, row_not_var, row_not_arr, row_head, row_var, row_arr}
use Rattle.record.specs.declared.Record.{Record}
use Rattle.record.specs.declared.Span.TheVariants as span
use Rattle.record.specs.Own.{log_at, raws_of, blank, node_type}
use Rattle.record.specs.Steps.{State, array_of, error, equation, set_node_type, set_final, for_each}
use Rattle.record.specs.Encodes.{Encodes, Runs, Stops, Rules}
use Rattle.record.specs.Runs.{runs_done, then, then_stops, stops, runs_shape_of, runs_output, runs_node_type, after_rules, typed_some, untyped_none}
use Rattle.record.specs.Loops.{Onto, onto_start, onto_next, onto_end}
use Rattle.record.specs.declared.ErrorKind.TheVariants as error·K
use Rattle.rules.specs.Rules.{err_type, at, own_error, mismatch, equate_on}
use Rattle.walk.specs.Walk.{typeck_expr}
use Rattle.resolve.specs.Body.{first_state, BodyTyped}
use Rattle.resolve.specs.Resolve.{type_of_line, declare_type, bound_of, end_by, end_from, end_of, drawn_as, or_zero, variable_type, resolve_variable, resolve_element, resolve_type_variable, resolve_node, declare_types, param_type_lem, param, params, result, typeck, resolve_nodes, body_with, type_body}
use Rattle.record.specs.declared.Refusal.{Refusal}

-- ── the end of a row's bindings ──

module _ (m : List ℕ) (c : Counts) where
  -- a binding of a row, as the code follows it and as the state has it
  onward_is : (x : ℕ) → onward_in m c (view.type x) ≡ bound_code (bound_of (binds_of m c.vars) (as_var (row (rows_of m c.types) x)))
  unfolding onward_in bound_in
  onward_is x = by (eqb (head_at m c.types x) 12) refl
    where
      by : (b : Bool) → eqb (head_at m c.types x) 12 ≡ b → pick b (bound_code (binding_at m c.vars (number_at m c.types x))) None ≡ bound_code (bound_of (binds_of m c.vars) (as_var (row (rows_of m c.types) x)))
      by true e = rw (row_var m c.types x (eqb-true (head_at m c.types x) 12 e), bound_at m c.vars (number_at m c.types x))
      by false e = rw (not_var (row (rows_of m c.types) x) (λ p. eqb-false (head_at m c.types x) 12 e (sym (row_head m c.types x) ∙ p)))

  -- one step along a binding
  end_step : (f g : ℕ → ℕ) → ((y : ℕ) → f y ≡ g y) → (x : ℕ) (o : Option ℕ) → view.end_by f x (bound_code o) ≡ end_by g x o
  end_step f g h x none = refl
  end_step f g h x (some y) = h y

  -- as many steps as there are
  end_from_lem : (n x : ℕ) → view.end_from m c n x ≡ end_from (rows_of m c.types) (binds_of m c.vars) n x
  end_from_lem zero x = refl
  end_from_lem (suc n) x = ap (view.end_by (view.end_from m c n) x) (onward_is x) ∙ end_step (view.end_from m c n) (end_from (rows_of m c.types) (binds_of m c.vars) n) (end_from_lem n) x (bound_of (binds_of m c.vars) (as_var (row (rows_of m c.types) x)))

  -- the end that the code finds is that of the state
  end_is : (x : ℕ) → end_in m c x ≡ end_from (rows_of m c.types) (binds_of m c.vars) (suc (length (rows_of m c.types))) x
  unfolding end_in
  end_is x = end_from_lem (c.types + 1) x ∙ ap (λ (n : ℕ). end_from (rows_of m c.types) (binds_of m c.vars) n x) (add-one c.types ∙ ap suc (sym (length-rows m c.types)))

-- ── what is read of the state ──

module _ {m : List ℕ} {c : Record} where
  -- the end of a row's bindings, as it stands in the memory
  pub runs_end_of : (x : ℕ) → Runs m c m c (end_of x) (end_in m c.counts x)
  unfolding run end_of state_of mem_of
  runs_end_of x = record {
    ran = λ s e f. (ap some (sym (end_is m c.counts x ∙ ap (λ (s : State). end_from s.rows s.mem.binds (suc (length s.rows)) x) e.tables)), e);
  }

  -- the kind of a variable and its origin, as they stand in the memory
  pub runs_drawn_as : (v : ℕ) → Runs m c m c (drawn_as v) (kind (kinds_of m c.counts.vars) v, get_or (origins_of m c.counts.vars) v none)
  unfolding run drawn_as state_of
  runs_drawn_as v = record {
    ran = λ s e f. (ap (λ (s : State). some (kind s.kinds v, get_or s.origins v none)) (sym e.tables), e);
  }

-- ── an open variable ──

-- the kind of the table is the one that was read
kind_is : (m : List ℕ) (c : Counts) (v : VarId) (k : KindV) → k ≡ kind_in m c v → kind (kinds_of m c.vars) v.0 ≡ kind_of (kind_number k)
kind_is m c v k is = sym (kind_read m c v) ∙ ap (λ (k : KindV). kind_of (kind_number k)) (sym is)

module _ {m : List ℕ} {c : Record} (v : VarId) (k : KindV) (is : k ≡ kind_in m c.counts v) where
  -- an integer
  pub open_integer : k ≡ kind·V.Integer → Runs m c m c (variable_type v.0) 9
  unfolding variable_type
  open_integer h = then _ (runs_drawn_as v.0) (rw (kind_is m c.counts v k is ∙ ap (λ (k : KindV). kind_of (kind_number k)) h) runs_done)

  -- a float
  pub open_float : k ≡ kind·V.Float → Runs m c m c (variable_type v.0) 11
  unfolding variable_type
  open_float h = then _ (runs_drawn_as v.0) (rw (kind_is m c.counts v k is ∙ ap (λ (k : KindV). kind_of (kind_number k)) h) runs_done)

  -- a Regular one: InferFail at its origin
  pub open_regular : {m' : List ℕ} {d : Record} (p : ℕ) → p ≡ or_zero (get_or (origins_of m c.counts.vars) v.0 none) → k ≡ kind·V.Regular → Runs m c m' d (error (own_error error·K.InferFail (at p) 0 0)) tt → Runs m c m' d (variable_type v.0) err_type
  unfolding variable_type
  open_regular p o h R = then _ (runs_drawn_as v.0) (rw (kind_is m c.counts v k is ∙ ap (λ (k : KindV). kind_of (kind_number k)) h, ← o) (then _ R runs_done))

-- ── a variable, an array of one, anything else ──

module _ {m : List ℕ} {c : Record} (x h : ℕ) (is : h ≡ head_at m c.counts.types x) where
  -- what is neither stays
  pub resolve_other : (h ≡ 12 → ⊥) → (h ≡ 8 → ⊥) → Runs m c m c (resolve_type_variable x) x
  unfolding resolve_type_variable
  resolve_other n k = then _ (runs_shape_of x) (rw (row_not_var m c.counts.types x h is n, row_not_arr m c.counts.types x h is k) runs_done)

  -- an array of anything else stays
  pub array_other : (y : ℕ) → (h ≡ 12 → ⊥) → Runs m c m c (resolve_element y (some x)) y
  array_other y n = then _ (runs_shape_of x) (rw (row_not_var m c.counts.types x h is n) runs_done)

  module _ {m' : List ℕ} {d : Record} where
    -- a bare variable
    pub resolve_bare : (t : ℕ) → h ≡ 12 → Runs m c m' d (resolve_variable x) t → Runs m c m' d (resolve_type_variable x) t
    unfolding resolve_type_variable
    resolve_bare t v R = then _ (runs_shape_of x) (rw (row_var m c.counts.types x (sym is ∙ v)) R)

    -- an array
    pub resolve_arr : (e t : ℕ) → h ≡ 8 → e ≡ number_at m c.counts.types x → Runs m c m' d (resolve_element x (some e)) t → Runs m c m' d (resolve_type_variable x) t
    unfolding resolve_type_variable
    resolve_arr e t v n R = then _ (runs_shape_of x) (rw (row_arr m c.counts.types x (sym is ∙ v), ← n) R)

    -- an array of a variable
    pub array_of_var : {m₁ : List ℕ} {c₁ : Record} (y t z : ℕ) → h ≡ 12 → Runs m c m₁ c₁ (resolve_variable x) y → Runs m₁ c₁ m' d (array_of y) t → Runs m c m' d (resolve_element z (some x)) t
    array_of_var y t z v D R = then _ (runs_shape_of x) (rw (row_var m c.counts.types x (sym is ∙ v)) (then _ D R))

module _ {m : List ℕ} {c : Record} (x y h : ℕ) (end : y ≡ end_in m c.counts x) (is : h ≡ head_at m c.counts.types y) where
  -- bindings that end at another type
  pub end_settled : (h ≡ 12 → ⊥) → Runs m c m c (resolve_variable x) y
  unfolding resolve_variable
  end_settled n = then _ (runs_end_of x) (rw (← end) (then _ (runs_shape_of y) (rw (row_not_var m c.counts.types y h is n) runs_done)))

  -- bindings that end at an open variable
  pub end_open : {m' : List ℕ} {d : Record} (v t : ℕ) → h ≡ 12 → v ≡ number_at m c.counts.types y → Runs m c m' d (variable_type v) t → Runs m c m' d (resolve_variable x) t
  unfolding resolve_variable
  end_open v t k n R = then _ (runs_end_of x) (rw (← end) (then _ (runs_shape_of y) (rw (row_var m c.counts.types y (sym is ∙ k), ← n) R)))

-- ── nodes, type lines, the function ──

module _ {m : List ℕ} {c : Record} (n : ℕ) (v : Option·R TypeId) (is : v ≡ node_type (get_or (raws_of m) n none)) where
  -- a node that has no type
  pub node_untyped : v ≡ None → Runs m c m c (resolve_node n) tt
  unfolding resolve_node
  node_untyped h = then _ (runs_node_type n) (rw (untyped_none (get_or (raws_of m) n none) (sym is ∙ h)) runs_done)

  -- one that has
  pub node_typed : {m₁ m' : List ℕ} {d : Record} (x : TypeId) (y : ℕ) → v ≡ Some x → Runs m c m₁ d (resolve_type_variable x.0) y → Runs m₁ d m' d (set_final n y) tt → Runs m c m' d (resolve_node n) tt
  unfolding resolve_node
  node_typed x y h R F = then _ (runs_node_type n) (rw (typed_some (get_or (raws_of m) n none) x (sym is ∙ h)) (then _ R F))

-- the type line i
pub line_declared : {m m' : List ℕ} {c d : Record} (rows cells : List ℕ) (i t : ℕ) (v k : TypeRow) → v ≡ type_row_at rows cells i → v ≡ k → Runs m c m' d (type_of_line cells k) t → Runs m c m' d (declare_type rows cells i) tt
unfolding declare_type
line_declared rows cells i t v k h e R = rw (← h, e) (then _ R runs_done)

-- P of `fn` with its type
pub param_typed : {m m' : List ℕ} {c : Record} (n : ℕ) (v w : Option·R TypeId) (x : TypeId) → v ≡ w → v ≡ Some x → Runs m c m' c (set_node_type n x.0) tt → Runs m c m' c (param_type_lem n w) tt
param_typed n v w x h e R = rw (← h, e) R

-- P of `fn` without one
pub param_untyped : {m : List ℕ} {c : Record} (n : ℕ) (v w : Option·R TypeId) → v ≡ w → v ≡ None → Runs m c m c (param_type_lem n w) tt
param_untyped n v w h e = rw (← h, e) runs_done

-- the equation of declared and actual result: met or not
pub result_on : {m m' : List ℕ} {c d : Record} (n y : ℕ) {q : Bool} → Runs m c m' d (equation n c.output.0 y (mismatch error·K.TypeMismatch span.Signature c.output.0 y 0)) q → Runs m c m' d (result n y) tt
unfolding result equate_on
result_on n y R = then _ runs_output (then _ R runs_done)

-- refused
pub result_off : {m m' : List ℕ} {c d : Record} (n y k : ℕ) → Stops m c m' d (equation n c.output.0 y (mismatch error·K.TypeMismatch span.Signature c.output.0 y 0)) k n → Stops m c m' d (result n y) k n
unfolding result equate_on
result_off n y k R = then_stops _ runs_output (stops _ R)

-- BODY, and its result
pub typeck_on : {m m₁ m' : List ℕ} {c c₁ : Record} (b : Body) (n y : ℕ) {z : Result Record Refusal} → Runs m c m₁ c₁ (typeck_expr b 64 n) y → Rules m₁ c₁ m' z (result n y) → Rules m c m' z (typeck b n)
unfolding typeck
typeck_on b n y T R = after_rules _ T R

-- BODY is refused
pub typeck_off : {m m' : List ℕ} {c d : Record} (b : Body) (n k p : ℕ) → Stops m c m' d (typeck_expr b 64 n) k p → Stops m c m' d (typeck b n) k p
unfolding typeck
typeck_off b n k p T = stops _ T

module _ (n : CountsB) (rows cells : List ℕ) {m m₁ m₂ m₃ : List ℕ} {c c₁ c₂ c₃ : Record} (D : Runs m c m₁ c₁ (declare_types rows cells n.types) tt) (P : Runs m₁ c₁ m₂ c₂ (params rows cells (fn_line rows cells).params) tt) where
  -- a body that is typed
  pub body_on : {m' : List ℕ} {c' : Record} → Runs m₂ c₂ m₃ c₃ (typeck (body_with n rows cells) (fn_line rows cells).body.0) tt → Runs m₃ c₃ m' c' (resolve_nodes n.nodes) tt → Runs m c m' c' (type_body n rows cells) tt
  unfolding type_body
  body_on T R = then _ D (then _ P (then _ T R))

  -- a body that is refused
  pub body_off : (k p : ℕ) → Stops m₂ c₂ m₃ c₃ (typeck (body_with n rows cells) (fn_line rows cells).body.0) k p → Stops m c m₃ c₃ (type_body n rows cells) k p
  unfolding type_body
  body_off k p T = then_stops _ D (then_stops _ P (stops _ T))

-- ── loops ──

module _ (rows cells : List ℕ) (n : ℕ) where
  -- no type line is declared
  pub lines-first : {m : List ℕ} {c : Record} → Onto m c m c (declare_types rows cells n) (for_each 0 (n - 0) (declare_type rows cells))
  unfolding declare_types
  lines-first = onto_start (declare_type rows cells) n

  module _ {m₀ m : List ℕ} {c₀ c : Record} (i : ℕ) where
    -- one more
    pub lines_next : {m₁ : List ℕ} {c₁ : Record} → i < n → Onto m₀ c₀ m c (declare_types rows cells n) (for_each i (n - i) (declare_type rows cells)) → Runs m c m₁ c₁ (declare_type rows cells i) tt → Onto m₀ c₀ m₁ c₁ (declare_types rows cells n) (for_each (i + 1) (n - (i + 1)) (declare_type rows cells))
    lines_next l O R = onto_next (declare_type rows cells) i n l O R

    -- all are
    pub lines_last : n ≤ i → Onto m₀ c₀ m c (declare_types rows cells n) (for_each i (n - i) (declare_type rows cells)) → Runs m₀ c₀ m c (declare_types rows cells n) tt
    lines_last h O = onto_end (declare_type rows cells) i n h O

module _ (n : ℕ) where
  -- no node is resolved
  pub nodes_first : {m : List ℕ} {c : Record} → Onto m c m c (resolve_nodes n) (for_each 0 (n - 0) resolve_node)
  unfolding resolve_nodes
  nodes_first = onto_start resolve_node n

  module _ {m₀ m : List ℕ} {c₀ c : Record} (i : ℕ) where
    -- one more
    pub nodes_next : {m₁ : List ℕ} {c₁ : Record} → i < n → Onto m₀ c₀ m c (resolve_nodes n) (for_each i (n - i) resolve_node) → Runs m c m₁ c₁ (resolve_node i) tt → Onto m₀ c₀ m₁ c₁ (resolve_nodes n) (for_each (i + 1) (n - (i + 1)) resolve_node)
    nodes_next l O R = onto_next resolve_node i n l O R

    -- all are
    pub nodes_last : n ≤ i → Onto m₀ c₀ m c (resolve_nodes n) (for_each i (n - i) resolve_node) → Runs m₀ c₀ m c (resolve_nodes n) tt
    nodes_last h O = onto_end resolve_node i n h O

module _ (rows cells : List ℕ) (t : Items) where
  -- no P is typed
  pub params_first : {m : List ℕ} {c : Record} → Onto m c m c (params rows cells t) (for_each 0 (t.count - 0) (param rows cells t))
  unfolding params
  params_first = onto_start (param rows cells t) t.count

  module _ {m₀ m : List ℕ} {c₀ c : Record} (i k : ℕ) where
    -- one more
    pub params_next : {m₁ : List ℕ} {c₁ : Record} (n : ℕ) → i < k → n ≡ item cells t i → Onto m₀ c₀ m c (params rows cells t) (for_each i (k - i) (param rows cells t)) → Runs m c m₁ c₁ (param_type_lem n (declared_at rows cells n)) tt
        → Onto m₀ c₀ m₁ c₁ (params rows cells t) (for_each (i + 1) (k - (i + 1)) (param rows cells t))
    unfolding param
    params_next n l e O R = onto_next (param rows cells t) i k l O (rw e at R)

    -- all are
    pub params_last : k ≤ i → Onto m₀ c₀ m c (params rows cells t) (for_each i (k - i) (param rows cells t)) → Runs m₀ c₀ m c (params rows cells t) tt
    params_last h O = onto_end (param rows cells t) i k h O

-- ── origins ──

-- the node that drew a variable
pub origin_is : (m : List ℕ) (c : Counts) (v : VarId) (o : Option·R NodeId) (n : NodeId) → o ≡ origin_in m c v → n ≡ unwrap_or o (record { 0 = 0 }) → n.0 ≡ or_zero (get_or (origins_of m c.vars) v.0 none)
origin_is m c v o n h e = ap (λ (x : NodeId). x.0) e ∙ by o ∙ ap (λ (o : Option·R NodeId). or_zero (origin_meant o)) h ∙ ap or_zero (origin_read m c v)
  where
    by : (o : Option·R NodeId) → (unwrap_or o (record { 0 = 0 })).0 ≡ or_zero (origin_meant o)
    by None = refl
    by (Some x) = refl

-- ── a body ──

module _ (n : CountsB) (rows cells : List ℕ) (f : Function) (line : f ≡ fn_line rows cells) (m : List ℕ) {m₀ m₁ m₂ m₃ : List ℕ} {c₀ c₁ : Record}
    (S : log_at ≤ length m → Encodes m₀ c₀ (start fixed_types (blank f.output.0))) (D : Runs m₀ c₀ m₁ c₁ (declare_types rows cells n.types) tt) (P : Runs m₁ c₁ m₂ c₁ (params rows cells f.params) tt) where
  -- a body that is typed
  pub body_done : {m' : List ℕ} {c₃ c' : Record} → Runs m₂ c₁ m₃ c₃ (typeck (body_with n rows cells) f.body.0) tt → Runs m₃ c₃ m' c' (resolve_nodes n.nodes) tt → BodyTyped m m' (Ok c') n rows cells
  body_done T R = record {
    by = λ large fits.
        let s : Encodes m₀ c₀ (first_state rows cells) = rw line at (S large) in
        (body_on n rows cells D (rw line at P) (rw line at T) R).ran (first_state rows cells) s fits;
  }

  -- a body that is refused: r is what a `?` returns of the refusal q
  pub body_refused : {q : Refusal} (r : Result Record Refusal) → IsErr r × IsErrAnd r (λ y. y ≡ q) → Stops m₂ c₁ m₃ q.record (typeck (body_with n rows cells) f.body.0) q.number q.node.0 → BodyTyped m m₃ r n rows cells
  body_refused (Ok d) h T = absurd h.1
  body_refused {q} (Err y) h T = rw h.1 (record {
    by = λ large fits.
        let s : Encodes m₀ c₀ (first_state rows cells) = rw line at (S large) in
        (body_off n rows cells D (rw line at P) q.number q.node.0 (rw line at T)).stopped (first_state rows cells) s fits;
  })

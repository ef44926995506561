-- What a whole well-formed body adds to the tables: its declared types, the walk, the equation of its result, its final types. Assumes nothing.
use Rattle.std.specs.Prelude.{◌≡◌, List, ℕ, ◌+◌, ◌*◌, ◌<◌, ◌≤◌, eqb, length, None, Option as Option·R, Some}
use Rattle.std.proofs.Math.Option.{Option, none, some}
use Rattle.std.proofs.Common.{arith, rules, eqb-true}
use Rattle.theory.specs.Rules.{Shape, Kind, regular, integer, floating, as_var}
use Rattle.theory.specs.Program.{run}
use Rattle.type_table.specs.Memory.{pick}
use Rattle.forms.specs.Form.{forms, form_at}
use Rattle.refs.specs.declared.Counts.{Counts}
use Rattle.refs.specs.Refs.{form_in, count_in}
use Rattle.nodes.specs.declared.Items.{Items}
use Rattle.nodes.specs.declared.TypeRow.{TypeRow}
use Rattle.nodes.specs.declared.TypeRow.TheVariants as line
use Rattle.nodes.specs.Nodes.{count_behind, item, items_of, declared_at, type_row_of, type_row_at, fn_line, as_arr}
use Rattle.resolve.specs.Resolve.{type_of_line, declare_type, declare_types, param_type_lem, param, params, result, typeck, end_of, drawn_as, open_type, variable_type, settled, resolve_variable, resolve_array, resolve_element, resolve_shape, resolve_type_variable, final_type, resolve_node, resolve_nodes, body_with, type_body}
use Rattle.well_formed.specs.Good.{WellFormed}
use Rattle.well_formed.specs.Weight.{body_in, tree_bound}
use Rattle.well_formed.specs.Levels.{type_good}
use Rattle.bounds.specs.Adds.{Cost, cost, nothing, Adds, same_larger, adds_within, adds_any, then, nothing_then, then_nothing}
use Rattle.bounds.specs.Steps.{row_of_lem, one_error, one_equation_lem, times, done_adds, set_node_type_adds, set_final_adds, node_type_adds, shape_of_adds, output_adds, array_of_adds, fn_def_adds, instance_adds, make_function_adds, error_adds, each_same}
use Rattle.bounds.specs.Weights.{items_inside, whole, pick_by, body_lower}
use Rattle.bounds.specs.Rules.{equate_on_adds}
use Rattle.bounds.specs.Calls.{numbers_length}
use Rattle.bounds.specs.Visits.{child}
use Rattle.bounds.specs.Walk.{expr_adds}
use Rattle.bounds.specs.Declared.{behind_types}
use Rattle.type_table.specs.declared.TypeId.{TypeId}

-- ── declared types ──

-- a fun of at most 16 inputs
fun_adds : (cells : List ℕ) (s o : ℕ) (t : Items) → t.count ≤ 16 → Adds (row_of_lem 16) (type_of_line cells (line.Fun s (record { 0 = o }) t))
fun_adds cells s o t h =
    let l : length (items_of cells t) ≡ t.count = numbers_length cells _ t.count in
    adds_within (search rules) (make_function_adds s o (items_of cells t))

module _ (n : Counts) (rows cells : List ℕ) (w : WellFormed n rows cells) where
  -- a fun has at most 16 inputs
  fun_inputs : (i : ℕ) → i < n.types → form_in rows i ≡ 1 → count_behind (count_in rows i) 2 ≤ 16
  unfolding form_at forms
  fun_inputs i h e =
      let least : 2 ≤ count_in rows i = rw e at (type_good n rows cells w i h).least in
      let most : count_in rows i ≤ 18 = rw e at (type_good n rows cells w i h).most in
      omega (arith, items_inside (count_in rows i) 2 least)

  -- a type line is at most one row of at most 16 inputs
  line_adds : (i : ℕ) → i < n.types → Adds (row_of_lem 16) (type_of_line cells (type_row_at rows cells i))
  unfolding type_row_at type_row_of
  line_adds i h =
      by 0 _ _ (λ e. adds_within (search rules) (array_of_adds _))
      (by 1 _ _ (λ e. fun_adds cells _ _ _ (fun_inputs i h e))
      (by 2 _ _ (λ e. adds_within (search rules) (instance_adds _))
      (adds_within (search rules) (fn_def_adds _))))
    where
      by : (f : ℕ) (p q : TypeRow) → (form_in rows i ≡ f → Adds (row_of_lem 16) (type_of_line cells p)) → Adds (row_of_lem 16) (type_of_line cells q)
          → Adds (row_of_lem 16) (type_of_line cells (pick (eqb (form_in rows i) f) p q))
      by f p q P Q = pick_by (λ (t : TypeRow). Adds (row_of_lem 16) (type_of_line cells t)) (eqb (form_in rows i) f) p q (λ e. P (eqb-true _ f e)) (λ z. Q)

  -- the type lines
  declare_types_adds : Adds (times n.types (row_of_lem 16)) (declare_types rows cells n.types)
  unfolding declare_types declare_type
  declare_types_adds = each_same (row_of_lem 16) 0 n.types _ (λ i l. then_nothing _ (line_adds i (omega arith)) (λ x. done_adds tt))

  -- ── the function ──

  -- a declared type
  param_type_adds : (p : ℕ) (t : Option·R TypeId) → Adds nothing (param_type_lem p t)
  param_type_adds p (Some t) = set_node_type_adds p t.0
  param_type_adds p None = done_adds tt

  -- each P of `fn`
  pub params_adds : (t : Items) → Adds nothing (params rows cells t)
  unfolding params param
  params_adds t = adds_within (search rules) (each_same nothing 0 t.count _ (λ i l. param_type_adds (item cells t i) (declared_at rows cells (item cells t i))))

  -- the equation of the result
  pub result_adds : (p y : ℕ) → Adds one_equation_lem (result p y)
  unfolding result
  result_adds p y = nothing_then _ output_adds (λ x. equate_on_adds p x y _)

  -- BODY and its result
  pub typeck_adds : Adds (child n.nodes) (typeck (body_with n rows cells) (fn_line rows cells).body.0)
  unfolding typeck fn_line
  typeck_adds =
      let lower = body_lower n rows cells w in
      let size = whole n rows cells w (body_in rows cells) lower in
      let bound = tree_bound n rows cells w 64 in
      adds_within (search rules) (then _ (expr_adds n rows cells w 64 (body_in rows cells) lower) (λ y. result_adds _ y))

-- ── final types ──

-- the end of a row's bindings
end_of_adds : (x : ℕ) → Adds nothing (end_of x)
unfolding run end_of
end_of_adds x = record { larger = λ s. same_larger s }

-- a variable's kind and origin
drawn_as_adds : (v : ℕ) → Adds nothing (drawn_as v)
unfolding run drawn_as
drawn_as_adds v = record { larger = λ s. same_larger s }

-- an open variable
open_type_adds : (o : Option ℕ) (k : Kind) → Adds one_error (open_type o k)
open_type_adds o integer = adds_any (done_adds _)
open_type_adds o floating = adds_any (done_adds _)
open_type_adds o regular = then_nothing _ (error_adds _) (λ u. done_adds _)

-- the type of an open variable
variable_type_adds : (v : ℕ) → Adds one_error (variable_type v)
unfolding variable_type
variable_type_adds v = nothing_then _ (drawn_as_adds v) (λ k. open_type_adds k.1 k.0)

-- the end of bindings
settled_adds : (y : ℕ) (o : Option ℕ) → Adds one_error (settled y o)
settled_adds y none = adds_any (done_adds y)
settled_adds y (some v) = variable_type_adds v

-- a variable
resolve_variable_adds : (x : ℕ) → Adds one_error (resolve_variable x)
unfolding resolve_variable
resolve_variable_adds x = nothing_then _ (end_of_adds x) (λ y. nothing_then _ (shape_of_adds y) (λ s. settled_adds y (as_var s)))

-- an array of a variable
resolve_array_adds : (x e : ℕ) (o : Option ℕ) → Adds (cost 0 1 0 1 0) (resolve_array x e o)
resolve_array_adds x e none = adds_any (done_adds x)
resolve_array_adds x e (some v) = then _ (resolve_variable_adds e) (λ y. array_of_adds y)

-- an array
resolve_element_adds : (x : ℕ) (o : Option ℕ) → Adds (cost 0 1 0 1 0) (resolve_element x o)
resolve_element_adds x none = adds_any (done_adds x)
resolve_element_adds x (some e) = nothing_then _ (shape_of_adds e) (λ s. resolve_array_adds x e (as_var s))

-- a type
resolve_shape_adds : (x : ℕ) (s : Shape) (o : Option ℕ) → Adds (cost 0 1 0 1 0) (resolve_shape x s o)
resolve_shape_adds x s none = resolve_element_adds x (as_arr s)
resolve_shape_adds x s (some v) = adds_within (search rules) (resolve_variable_adds x)

-- a type that is resolved
resolve_type_variable_adds : (x : ℕ) → Adds (cost 0 1 0 1 0) (resolve_type_variable x)
unfolding resolve_type_variable
resolve_type_variable_adds x = nothing_then _ (shape_of_adds x) (λ s. resolve_shape_adds x s (as_var s))

-- the final type of a node that has a type
final_type_adds : (p : ℕ) (o : Option ℕ) → Adds (cost 0 1 0 1 0) (final_type p o)
final_type_adds p none = adds_any (done_adds tt)
final_type_adds p (some x) = then_nothing _ (resolve_type_variable_adds x) (λ y. set_final_adds p y)

-- the final types of k nodes
pub resolve_nodes_adds : (k : ℕ) → Adds (times k (cost 0 1 0 1 0)) (resolve_nodes k)
unfolding resolve_nodes resolve_node
resolve_nodes_adds k = each_same (cost 0 1 0 1 0) 0 k _ (λ i l. nothing_then _ (node_type_adds i) (λ t. final_type_adds i t))

-- ── a body ──

-- so many variables, type rows, inputs, errors and equations for so many nodes
abbrev pub nodes_cost : Counts → Cost
nodes_cost n = cost n.nodes (3 * n.nodes) n.nodes (3 * n.nodes) (2 * n.nodes)

-- what a body runs behind its type lines adds at most what its nodes allow
pub behind_types_adds : (n : Counts) (rows cells : List ℕ) → WellFormed n rows cells → Adds (nodes_cost n) (behind_types n rows cells)
behind_types_adds n rows cells w =
    adds_within (search rules)
    (nothing_then _ (params_adds n rows cells w _) (λ b. then _ (typeck_adds n rows cells w) (λ c. resolve_nodes_adds n.nodes)))

-- so many variables, type rows, inputs, errors and equations for so many type lines and nodes
abbrev pub body_cost : Counts → Cost
body_cost n = cost n.nodes (n.types + 3 * n.nodes) (16 * n.types + n.nodes) (3 * n.nodes) (2 * n.nodes)

-- a body adds at most what its types and nodes allow
pub body_adds : (n : Counts) (rows cells : List ℕ) → WellFormed n rows cells → Adds (body_cost n) (type_body n rows cells)
unfolding type_body
body_adds n rows cells w = adds_within (search rules) (then _ (declare_types_adds n rows cells w) (λ a. behind_types_adds n rows cells w))

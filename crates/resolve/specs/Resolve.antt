-- A whole body as a program: its declared types, the walk, the equation of declared and actual result, the final types. Definitions alone.
use Rattle.std.specs.Prelude.{List, ℕ, suc, length, get_or, None, Option as Option·R, Some}
use Rattle.std.proofs.Math.Option.{Option, none, some}
use Rattle.theory.specs.Rules.{Shape, Kind, regular, integer, floating, as_var, row, kind, bound, iter}
use Rattle.theory.specs.Program.{done, read, ◌>>=◌}
use Rattle.refs.specs.declared.Counts.{Counts}
use Rattle.nodes.specs.declared.Items.{Items}
use Rattle.nodes.specs.declared.TypeRow.{TypeRow}
use Rattle.nodes.specs.declared.TypeRow.TheVariants as line
use Rattle.nodes.specs.Nodes.{Body, item, items_of, declared_at, type_row_at, fn_line, as_arr}
use Rattle.record.specs.declared.ErrorKind.TheVariants as error·K
use Rattle.record.specs.declared.Span.TheVariants as span
use Rattle.record.specs.Steps.{Walk, Step, set_node_type, set_final, node_type_lem, shape_of_lem, output, array_of, fn_def_lem, instance, make_function, error, for_each}
use Rattle.rules.specs.Rules.{err_type, at, own_error, mismatch, equate_on}
use Rattle.walk.specs.Walk.{typeck_expr}
use Rattle.type_table.specs.declared.TypeId.{TypeId}

-- ── declared types ──

-- the type of a type line
abbrev pub type_of_line : List ℕ → TypeRow → Walk ℕ
type_of_line cells (line.Array e) = array_of e.0
type_of_line cells (line.Fun s o t) = make_function s o.0 (items_of cells t)
type_of_line cells (line.Inst k) = instance k.0
type_of_line cells (line.Fn d) = fn_def_lem d.0

-- the declared type of P of `fn`
abbrev pub param_type_lem : ℕ → Option·R TypeId → Step
param_type_lem n (Some t) = set_node_type n t.0
param_type_lem n None = done tt

module _ (rows cells : List ℕ) where
  -- the type line i
  unfoldable pub declare_type : ℕ → Step
  declare_type i = do
    _ ← type_of_line cells (type_row_at rows cells i)
    done tt

  -- the first n type lines, in order
  unfoldable pub declare_types : ℕ → Step
  declare_types n = for_each 0 n declare_type

  -- ── the function ──

  -- P of `fn`
  unfoldable pub param : Items → ℕ → Step
  param t i = param_type_lem (item cells t i) (declared_at rows cells (item cells t i))

  -- each P of `fn`, in order
  unfoldable pub params : Items → Step
  params t = for_each 0 t.count (param t)

-- the equation of declared and actual result, in the rule of BODY
unfoldable pub result : ℕ → ℕ → Step
result n y = do
  x ← output
  equate_on n x y (mismatch error·K.TypeMismatch span.Signature x y 0)

-- `typeck`: BODY, 64 levels of nodes at most, and its result
unfoldable pub typeck : Body → ℕ → Step
typeck b n = do
  y ← typeck_expr b 64 n
  result n y

-- ── final types ──

-- what a row is bound to, if it is a variable
abbrev pub bound_of : List (Option ℕ) → Option ℕ → Option ℕ
bound_of b none = none
bound_of b (some v) = bound b v

-- the row itself where it is not bound, else what f answers of the row that it is bound to
abbrev pub end_by : (ℕ → ℕ) → ℕ → Option ℕ → ℕ
end_by f x none = x
end_by f x (some y) = f y

-- the end of a row's bindings (`ty_var_ty`), followed variable by variable in at most n steps
abbrev pub end_from : List Shape → List (Option ℕ) → ℕ → ℕ → ℕ
end_from ts b n x = iter (λ (f : ℕ → ℕ) (y : ℕ). end_by f y (bound_of b (as_var (row ts y)))) err_type n x

-- the end of a row's bindings
unfoldable pub end_of : ℕ → Walk ℕ
end_of x = read (λ s. done (end_from s.rows s.mem.binds (suc (length s.rows)) x))

-- the kind of a variable, and the node that drew it
unfoldable pub drawn_as : ℕ → Walk (Kind × Option ℕ)
drawn_as v = read (λ s. done (kind s.kinds v, get_or s.origins v none))

-- a node's number; every Regular variable has an origin
abbrev pub or_zero : Option ℕ → ℕ
or_zero none = 0
or_zero (some n) = n

-- an open variable: i64, f64, or InferFail at its origin and err
abbrev pub open_type : Option ℕ → Kind → Walk ℕ
open_type o integer = done 9
open_type o floating = done 11
open_type o regular = do
  _ ← error (own_error error·K.InferFail (at (or_zero o)) 0 0)
  done err_type

-- the type of an open variable
unfoldable pub variable_type : ℕ → Walk ℕ
variable_type v = do
  k ← drawn_as v
  open_type k.1 k.0

-- the end of bindings, or what an open variable gives
abbrev pub settled : ℕ → Option ℕ → Walk ℕ
settled y none = done y
settled y (some v) = variable_type v

-- a variable's type
unfoldable pub resolve_variable : ℕ → Walk ℕ
resolve_variable x = do
  y ← end_of x
  s ← shape_of_lem y
  settled y (as_var s)

-- an array of a variable
abbrev pub resolve_array : ℕ → ℕ → Option ℕ → Walk ℕ
resolve_array x e none = done x
resolve_array x e (some v) = do
  y ← resolve_variable e
  array_of y

-- an array, by its element
abbrev pub resolve_element : ℕ → Option ℕ → Walk ℕ
resolve_element x none = done x
resolve_element x (some e) = do
  s ← shape_of_lem e
  resolve_array x e (as_var s)

-- a bare variable, or what is none
abbrev pub resolve_shape : ℕ → Shape → Option ℕ → Walk ℕ
resolve_shape x s none = resolve_element x (as_arr s)
resolve_shape x s (some v) = resolve_variable x

-- `resolve_type_variable`: only a bare variable or an array directly of one is resolved
unfoldable pub resolve_type_variable : ℕ → Walk ℕ
resolve_type_variable x = do
  s ← shape_of_lem x
  resolve_shape x s (as_var s)

-- the final type of a node that has a type
abbrev pub final_type : ℕ → Option ℕ → Step
final_type n none = done tt
final_type n (some x) = do
  y ← resolve_type_variable x
  set_final n y

-- the final type of the node n
unfoldable pub resolve_node : ℕ → Step
resolve_node n = do
  t ← node_type_lem n
  final_type n t

-- the final types of the first k nodes, in number order
unfoldable pub resolve_nodes : ℕ → Step
resolve_nodes k = for_each 0 k resolve_node

-- ── a body ──

-- a body with these tables and counts
abbrev pub body_with : Counts → List ℕ → List ℕ → Body
body_with n rows cells = record { rows = rows; cells = cells; binds = n.binds }

-- declared types, P of `fn`, `typeck`, final types
unfoldable pub type_body : Counts → List ℕ → List ℕ → Step
type_body n rows cells = do
  _ ← declare_types rows cells n.types
  _ ← params rows cells (fn_line rows cells).params
  _ ← typeck (body_with n rows cells) (fn_line rows cells).body.0
  resolve_nodes n.nodes

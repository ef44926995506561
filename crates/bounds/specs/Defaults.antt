-- The walk of a body with any other answers in the place of the defaults of its definitions: Claims has that it runs as the walk itself. Definitions alone.
use Rattle.std.specs.Prelude.{List, map, ℕ, suc, zero, length, get_or, None, Option as Option·R, Some}
use Rattle.std.proofs.Math.Option.{Option, none, some}
use Rattle.theory.specs.Rules.{Shape, lam, Kind, regular, integer, floating, as_var, row, iter}
use Rattle.theory.specs.Program.{clip, done, intern, read, ◌>>=◌}
use Rattle.refs.specs.declared.Counts.{Counts}
use Rattle.nodes.specs.declared.Items.{Items}
use Rattle.nodes.specs.declared.Node.{Node}
use Rattle.nodes.specs.declared.Node.TheVariants as form
use Rattle.nodes.specs.Nodes.{Body, items_of, node_at, block_at, fn_line, as_arr}
use Rattle.record.specs.declared.ErrorKind.TheVariants as error·K
use Rattle.record.specs.Steps.{State, Walk, Step, set_node_type, set_final, node_type_lem, shape_of_lem, array_of, error, for_each}
use Rattle.rules.specs.Rules as rule
use Rattle.walk.specs.Walk.{Visit, typeck_block, typeck_else, rule_of}
use Rattle.resolve.specs.Resolve.{declare_types, params, result, bound_of, end_by, drawn_as, body_with}
use Rattle.type_table.specs.declared.NodeId.{NodeId}
use Rattle.type_table.specs.declared.TypeId.{TypeId}

-- what is answered where the rules have nothing to say
pub record Defaults : Type 0 where
  -- the typing of a node for which no level is left; err in `typeck_expr`
  pub level : ℕ → Walk ℕ
  -- the rule of a `let` or a `param` as an expression; err in `rule_of`
  pub expression : ℕ → Walk ℕ
  -- a BLOCK that is no block; nil in `Block-of`
  pub block : ℕ → Walk ℕ
  -- the type of a lambda's param that has none; `or_nil` of Steps
  pub param : ℕ
  -- P of InferFail of a variable that no node drew; `or_zero` of Resolve
  pub origin : ℕ
  -- the end of bindings that do not end; err in `end_from`
  pub ending : ℕ

-- a number, d where there is none
abbrev pub or_other : ℕ → Option ℕ → ℕ
or_other d none = d
or_other d (some x) = x

-- ── the rules that have a default: `Block-of`, `typeck_expr_if`, `typeck_loop`, `param_type`, `typeck_lambda`, `rule_of` ──

module _ (D : Defaults) (b : Body) (E : Visit) where
  -- the BLOCK k
  abbrev pub other_block : ℕ → Option·R (Option·R NodeId × Items) → Walk ℕ
  other_block k (Some (e, t)) = typeck_block b E e t
  other_block k None = D.block k

  -- `typeck_expr_if`
  unfoldable pub other_if : ℕ → ℕ → ℕ → Option·R NodeId → Walk ℕ
  other_if n a k e = do
    x ← E a
    _ ← rule.condition a x
    y ← other_block k (block_at b.rows b.cells k)
    typeck_else b E n y e

  -- `ExprKind::Loop`
  unfoldable pub other_loop : ℕ → Walk ℕ
  other_loop k = do
    _ ← other_block k (block_at b.rows b.cells k)
    done rule.nil_type

  -- the type of a param, as an input of a type that is made
  abbrev pub other_input : State → ℕ → ℕ
  other_input s p = clip (length s.rows) (or_other D.param (get_or s.own.raw p none))

  -- `typeck_lambda`
  unfoldable pub other_lambda : ℕ → Option·R TypeId → ℕ → Items → Walk ℕ
  other_lambda n o e t = do
    _ ← rule.lambda_params b.rows b.cells t
    x ← rule.lambda_output n o
    y ← E e
    _ ← rule.equate_on n x y (rule.mismatch error·K.TypeMismatch (rule.at e) x y 0)
    read (λ s. intern (lam n x (map (other_input s) (items_of b.cells t))) done)

  -- the rule of a node
  abbrev pub other_rule : ℕ → Node → Walk ℕ
  other_rule n form.Bool = rule_of b E n form.Bool
  other_rule n form.Int = rule_of b E n form.Int
  other_rule n form.Float = rule_of b E n form.Float
  other_rule n form.Str = rule_of b E n form.Str
  other_rule n (form.Bin o l r) = rule_of b E n (form.Bin o l r)
  other_rule n (form.Un o e) = rule_of b E n (form.Un o e)
  other_rule n (form.Field e name) = rule_of b E n (form.Field e name)
  other_rule n (form.List t) = rule_of b E n (form.List t)
  other_rule n (form.Index t i) = rule_of b E n (form.Index t i)
  other_rule n (form.Assign v e) = rule_of b E n (form.Assign v e)
  other_rule n (form.OpAssign v e) = rule_of b E n (form.OpAssign v e)
  other_rule n (form.If a k e) = other_if n a.0 k.0 e
  other_rule n (form.Loop k) = other_loop k.0
  other_rule n form.Break = rule_of b E n form.Break
  other_rule n (form.Call f t) = rule_of b E n (form.Call f t)
  other_rule n (form.MethodCall e name t) = rule_of b E n (form.MethodCall e name t)
  other_rule n (form.Return e) = rule_of b E n (form.Return e)
  other_rule n (form.Block e t) = rule_of b E n (form.Block e t)
  other_rule n (form.Let t e) = D.expression n
  other_rule n (form.Param t) = D.expression n
  other_rule n (form.Lambda o e t) = other_lambda n o e.0 t
  other_rule n (form.Path r k t) = rule_of b E n (form.Path r k t)

-- `type_of`
unfoldable pub other_expr : Defaults → Body → ℕ → Visit
other_expr D b zero n = D.level n
other_expr D b (suc k) n = do
  t ← other_rule D b (other_expr D b k) n (node_at b.rows b.cells n)
  _ ← set_node_type n t
  done t

-- ── the final types: `end_of_lem`, `open_type`, and what leads to them ──

module _ (D : Defaults) where
  -- the end of a row's bindings
  unfoldable pub other_end : ℕ → Walk ℕ
  other_end x = read (λ s. done (iter (λ (f : ℕ → ℕ) (y : ℕ). end_by f y (bound_of s.mem.binds (as_var (row s.rows y)))) D.ending (suc (length s.rows)) x))

  -- an open variable
  abbrev pub other_open : Option ℕ → Kind → Walk ℕ
  other_open o integer = done 9
  other_open o floating = done 11
  other_open o regular = do
    _ ← error (rule.own_error error·K.InferFail (rule.at (or_other D.origin o)) 0 0)
    done rule.err_type

  -- the end of bindings, or what an open variable gives
  abbrev pub other_settled : ℕ → Option ℕ → Walk ℕ
  other_settled y none = done y
  other_settled y (some v) = do
    k ← drawn_as v
    other_open k.1 k.0

  -- a variable's type
  unfoldable pub other_variable : ℕ → Walk ℕ
  other_variable x = do
    y ← other_end x
    s ← shape_of_lem y
    other_settled y (as_var s)

  -- an array of a variable
  abbrev pub other_array : ℕ → ℕ → Option ℕ → Walk ℕ
  other_array x e none = done x
  other_array x e (some v) = do
    y ← other_variable e
    array_of y

  -- an array, by its element
  abbrev pub other_element : ℕ → Option ℕ → Walk ℕ
  other_element x none = done x
  other_element x (some e) = do
    s ← shape_of_lem e
    other_array x e (as_var s)

  -- a bare variable, or what is none
  abbrev pub other_shape : ℕ → Shape → Option ℕ → Walk ℕ
  other_shape x s none = other_element x (as_arr s)
  other_shape x s (some v) = other_variable x

  -- `resolve_type_variable`
  unfoldable pub other_resolved : ℕ → Walk ℕ
  other_resolved x = do
    s ← shape_of_lem x
    other_shape x s (as_var s)

  -- the final type of a node that has a type
  abbrev pub other_final : ℕ → Option ℕ → Step
  other_final n none = done tt
  other_final n (some x) = do
    y ← other_resolved x
    set_final n y

  -- the final type of the node n
  unfoldable pub other_node : ℕ → Step
  other_node n = do
    t ← node_type_lem n
    other_final n t

  -- ── a body ──

  -- `typeck`
  unfoldable pub other_typeck : Body → ℕ → Step
  other_typeck b n = do
    y ← other_expr D b 64 n
    result n y

  -- behind its type lines
  unfoldable pub other_behind : Counts → List ℕ → List ℕ → Step
  other_behind n rows cells = do
    _ ← params rows cells (fn_line rows cells).params
    _ ← other_typeck (body_with n rows cells) (fn_line rows cells).body.0
    for_each 0 n.nodes other_node

  -- `type_body` with these answers
  unfoldable pub other_body : Counts → List ℕ → List ℕ → Step
  other_body n rows cells = do
    _ ← declare_types rows cells n.types
    other_behind n rows cells

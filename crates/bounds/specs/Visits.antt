-- What each rule adds to the tables that types other nodes, where E, which types a child, adds at most what its weight allows.
-- A node may add 1 variable, 2 rows, 1 input, 1 error and 1 equation for itself, and whoever types it 1 error and 1 equation more. Assumes nothing.
use Rattle.std.specs.Prelude.{◌≡◌, List, Bool, true, false, cond, ℕ, suc, ◌+◌, ◌*◌, ◌-◌, ◌<◌, ◌≤◌, eqb, None, Option as Option·R, Some}
use Rattle.std.proofs.Math.Path.{refl}
use Rattle.std.proofs.Common.{ap, arith, rules}
use Rattle.std.proofs.Math.Option.{Option, none, some}
use Rattle.std.proofs.lemmas.Bool.{eqb-false}
use Rattle.theory.specs.Program.{◌>>=◌}
use Rattle.nodes.specs.declared.Items.{Items}
use Rattle.nodes.specs.declared.BinOp.{BinOp}
use Rattle.nodes.specs.declared.UnOp.{UnOp}
use Rattle.nodes.specs.declared.Callee.{Callee}
use Rattle.nodes.specs.Nodes.{Body, item}
use Rattle.record.specs.declared.Span.{Span}
use Rattle.record.specs.Steps.{Walk}
use Rattle.rules.specs.Rules as rule
use Rattle.walk.specs.Walk.{Visit, two, typeck_expr_bin_op, typeck_assign, typeck_op_assign, typeck_expr_un_op, typeck_expr_field, element, elements, rest, typeck_expr_list, index_of, typeck_expr_index, typeck_local, stmt, stmts, tail, typeck_block, block_at_lem, typeck_else, typeck_branches, typeck_expr_if, typeck_loop, arg, args, verify_arguments_for_call, call_of, typeck_call, verify_arguments_for_method_call, meth_call_of, typeck_expr_meth_call, typeck_return, lambda_body, typeck_lambda}
use Rattle.bounds.specs.Adds.{Cost, cost, nothing, both, Within, Adds, adds_within, adds_any, by_then, then, then_nothing}
use Rattle.bounds.specs.Steps.{one_error, one_equation_lem, times, done_adds, sum_from, each_adds}
use Rattle.bounds.specs.Rules as rules
use Rattle.bounds.specs.Calls as calls
use Rattle.type_table.specs.declared.NodeId.{NodeId}
use Rattle.type_table.specs.declared.TypeId.{TypeId}

-- ── what a weight allows ──

-- the typing of a node of the weight w
abbrev pub tree : ℕ → Cost
tree w = cost w (2 * w) w (2 * w - 1) (2 * w - 1)

-- the same for each node of a tree, and 1 error and 1 equation that are raised for it
abbrev pub each_node : Cost
each_node = cost 1 2 1 2 2

-- the typing of a node of the weight w, and what whoever types it raises for it
abbrev pub child : ℕ → Cost
child w = times w each_node

-- E types the node y at the cost of the weight w
pub record Typed (E : Visit) (y w : ℕ) : Type 0 where
  pub least : 1 ≤ w
  pub adds : Adds (tree w) (E y)

-- by whether there is one
abbrev pub TypedBy : Visit → Option·R NodeId → ℕ → Type 0
TypedBy E None w = Unit {0}
TypedBy E (Some e) w = Typed E e.0 w

-- the same of a node, if there is one
pub record TypedMaybe (E : Visit) (e : Option·R NodeId) (w : ℕ) : Type 0 where
  pub by : TypedBy E e w

-- the same of each item, by its place
abbrev pub TypedItems : Visit → List ℕ → Items → (ℕ → ℕ) → Type 0
TypedItems E cells t c = (i : ℕ) → i < t.count → Typed E (item cells t i) (c i)

-- a child alone
pub typed_child : {E : Visit} {y w : ℕ} → Typed E y w → Adds (child w) (E y)
typed_child T = adds_within (search rules) T.adds

-- a child, and at most an equation for it
typed_then : {B : Type 0} {E : Visit} {y w : ℕ} (g : ℕ → Walk B) → Typed E y w → ((x : ℕ) → Adds one_equation_lem (g x)) → Adds (child w) (◌>>=◌ (E y) g)
typed_then g T Q = let l = T.least in adds_within (search rules) (then g T.adds Q)

-- the first of some numbers and the others
sum_first : (k : ℕ) (c : ℕ → ℕ) → 0 < k → sum_from 0 k c ≡ c 0 + sum_from 1 (k - 1) c
unfolding sum_from
sum_first k c l = let e : k ≡ suc (k - 1) = omega arith in ap (λ (z : ℕ). sum_from 0 z c) e

module _ (b : Body) (E : Visit) where
  -- ── operators ──

  -- two children
  two_adds : {l r u v : ℕ} → Typed E l u → Typed E r v → Adds (child (u + v)) (two b E l r)
  unfolding two
  two_adds L R = adds_within (search rules) (then _ (typed_child L) (λ x. then_nothing _ (typed_child R) (λ y. done_adds _)))

  -- a binary operation
  pub bin_adds : {l r u v d : ℕ} (n : ℕ) (o : BinOp) → Typed E l u → Typed E r v → u + v ≤ d → Adds (tree (suc d)) (typeck_expr_bin_op b E n o l r)
  unfolding typeck_expr_bin_op
  bin_adds n o L R h = adds_within (search rules) (then _ (two_adds L R) (λ t. rules.bin_op_adds n o _ _ t.0 t.1))

  -- an assignment
  pub assign_adds : {l r u v d : ℕ} (n : ℕ) → Typed E l u → Typed E r v → u + v ≤ d → Adds (tree (suc d)) (typeck_assign b E n l r)
  unfolding typeck_assign
  assign_adds n L R h = adds_within (search rules) (then _ (two_adds L R) (λ t. rules.assign_adds n _ _ t.0 t.1))

  -- an assignment with an operator
  pub op_assign_adds : {l r u v d : ℕ} (n : ℕ) → Typed E l u → Typed E r v → u + v ≤ d → Adds (tree (suc d)) (typeck_op_assign b E n l r)
  unfolding typeck_op_assign
  op_assign_adds n L R h = adds_within (search rules) (then _ (two_adds L R) (λ t. rules.op_assign_adds n t.0 t.1))

  -- a unary operation
  pub un_adds : {e u d : ℕ} (o : UnOp) → Typed E e u → u ≤ d → Adds (tree (suc d)) (typeck_expr_un_op b E o e)
  unfolding typeck_expr_un_op
  un_adds o T h = adds_within (search rules) (then _ (typed_child T) (λ x. rules.un_op_adds o _ x))

  -- a field
  pub field_adds : {e u d : ℕ} (name : ℕ) → Typed E e u → u ≤ d → Adds (tree (suc d)) (typeck_expr_field b E e name)
  unfolding typeck_expr_field
  field_adds name T h = adds_within (search rules) (then _ (typed_child T) (λ x. calls.field_adds b.rows b.cells _ x name))

  -- ── lists and indices ──

  module _ {c : ℕ → ℕ} (n : ℕ) (t : Items) (T : TypedItems E b.cells t c) where
    -- the later elements of a list
    elements_adds : 0 < t.count → (x : ℕ) → Adds (child (sum_from 1 (t.count - 1) c)) (elements b E n t x)
    unfolding elements element
    elements_adds l x = each_adds each_node c 1 (t.count - 1) _ (λ i k. typed_then _ (T i (omega arith)) (λ y. rules.element_adds n _ x y))

    -- a list
    pub list_adds : {d : ℕ} → sum_from 0 t.count c ≤ d → Adds (tree (suc d)) (typeck_expr_list b E n t)
    unfolding typeck_expr_list rest
    list_adds {d} h = by (eqb t.count 0) refl
      where
        full : 0 < t.count → Adds (tree (suc d)) (◌>>=◌ (E (item b.cells t 0)) (λ x. rest b E n t x))
        full l =
            let s : sum_from 0 t.count c ≡ c 0 + sum_from 1 (t.count - 1) c = sum_first t.count c l in
            adds_within (search rules) (then _ (typed_child (T 0 l)) (λ x. then _ (elements_adds l x) (λ u. rules.list_of_adds x)))

        by : (q : Bool) → eqb t.count 0 ≡ q → Adds (tree (suc d)) (cond q (rule.empty_list n) (◌>>=◌ (E (item b.cells t 0)) (λ x. rest b E n t x)))
        by true p = adds_within (search rules) (rules.empty_list_adds n)
        by false p = full (omega (arith, eqb-false t.count 0 p))

  -- an index of an array
  index_of_adds : {i v : ℕ} (n : ℕ) → Typed E i v → (o : Option ℕ) → Adds (child v) (index_of b E n i o)
  unfolding index_of
  index_of_adds n T none = adds_any (done_adds _)
  index_of_adds n T (some e) = typed_then _ T (λ y. rules.index_adds n e y)

  -- an index
  pub index_adds : {t i u v d : ℕ} (n : ℕ) → Typed E t u → Typed E i v → u + v ≤ d → Adds (tree (suc d)) (typeck_expr_index b E n t i)
  unfolding typeck_expr_index
  index_adds n T I h =
      let l = T.least in
      adds_within (search rules) (then _ T.adds (λ x. then _ (rules.element_of_adds n x) (λ o. index_of_adds n I o)))

  -- ── let, block, if, loop ──

  -- a let
  pub local_adds : {u d : ℕ} (n : ℕ) (t : Option·R TypeId) (e : Option·R NodeId) → TypedMaybe E e u → u ≤ d → Adds (child (suc d)) (typeck_local b E n t e)
  unfolding typeck_local
  local_adds n t None T h = adds_within (search rules) (rules.let_without_init_adds n t)
  local_adds n t (Some e) T h = adds_within (search rules) (typed_then _ T.by (λ y. rules.let_with_init_adds n t y))

  -- the tail of a block
  tail_adds : {u : ℕ} (e : Option·R NodeId) → TypedMaybe E e u → Adds (child u) (tail b E e)
  unfolding tail
  tail_adds None T = adds_any (done_adds _)
  tail_adds (Some e) T = typed_child T.by

  -- a block
  pub block_adds : {u : ℕ} (c : ℕ → ℕ) (e : Option·R NodeId) (t : Items) → TypedMaybe E e u → ((i : ℕ) → i < t.count → Adds (child (c i)) (stmt b E t i))
      → Adds (child (u + sum_from 0 t.count c)) (typeck_block b E e t)
  unfolding typeck_block stmts
  block_adds c e t T S = adds_within (search rules) (then _ (each_adds each_node c 0 t.count _ (λ i l. S i (omega arith))) (λ x. tail_adds e T))

  -- what stands after else
  else_adds : {v : ℕ} (n x : ℕ) (e : Option·R NodeId) → TypedMaybe E e v → Adds (child v) (typeck_else b E n x e)
  unfolding typeck_else
  else_adds n x None T = adds_any (done_adds _)
  else_adds n x (Some e) T = typed_then _ T.by (λ y. rules.branches_adds n e.0 x y)

  -- an `if`
  pub if_adds : {a u v d : ℕ} (n k s : ℕ) (e : Option·R NodeId) → Typed E a u → Adds (child s) (block_at_lem b E k) → TypedMaybe E e v → u + s + v ≤ d
      → Adds (tree (suc d)) (typeck_expr_if b E n a k e)
  unfolding typeck_expr_if typeck_branches
  if_adds n k s e C K T h =
      let l = C.least in
      adds_within (search rules) (then _ C.adds (λ x. then _ (rules.condition_adds _ x) (λ z. then _ K (λ y. else_adds n y e T))))

  -- a loop
  pub loop_adds : {d : ℕ} (k s : ℕ) → Adds (child s) (block_at_lem b E k) → s ≤ d → Adds (tree (suc d)) (typeck_loop b E k)
  unfolding typeck_loop
  loop_adds k s K h = adds_within (search rules) (then_nothing _ K (λ x. done_adds _))

  -- a `return`
  pub return_adds : {u d : ℕ} (n : ℕ) (e : Option·R NodeId) → TypedMaybe E e u → u ≤ d → Adds (tree (suc d)) (typeck_return b E n e)
  unfolding typeck_return
  return_adds n None T h = adds_within (search rules) (rules.returned_adds n n _)
  return_adds n (Some e) T h = adds_within (search rules) (typed_then _ T.by (λ y. rules.returned_adds n e.0 y))

  -- ── calls and lambdas ──

  module _ {c : ℕ → ℕ} (n : ℕ) (t : Items) (T : TypedItems E b.cells t c) where
    -- the arguments
    args_adds : (p : Span) (f : Callee) (from : ℕ) → Adds (child (sum_from 0 t.count c)) (args b E n p f t from)
    unfolding args arg
    args_adds p f from = each_adds each_node c 0 t.count _ (λ i k. typed_then _ (T i (omega arith)) (λ y. calls.argument_adds b.rows b.cells n p f (from + i) y))

    -- the amounts and the arguments
    verified_adds : (f : Callee) (o : ℕ) → Adds (both one_error (child (sum_from 0 t.count c))) (verify_arguments_for_call b E n f t o)
    unfolding verify_arguments_for_call
    verified_adds f o = then _ (calls.amounts_adds b.rows b.cells _ f t.count) (λ x. then_nothing _ (args_adds _ f 0) (λ y. done_adds o))

    -- a callee and its arguments
    call_of_adds : (o : Option (Callee × ℕ)) → Adds (both one_error (child (sum_from 0 t.count c))) (call_of b E n t o)
    call_of_adds none = adds_any (done_adds _)
    call_of_adds (some f) = verified_adds f.0 f.1

    -- a call
    pub call_adds : {f u d : ℕ} → Typed E f u → u + sum_from 0 t.count c ≤ d → Adds (tree (suc d)) (typeck_call b E n f t)
    unfolding typeck_call
    call_adds F h =
        let l = F.least in
        adds_within (search rules) (then _ F.adds (λ x. then _ (calls.callee_of_adds b.rows b.cells n x) (λ o. call_of_adds o)))

    -- the amounts of a method call, its receiver and its arguments
    abbrev method_cost : Cost
    method_cost = both one_error (both one_equation_lem (child (sum_from 0 t.count c)))

    -- a method's amounts, receiver and arguments
    method_verified_adds : (d x : ℕ) → Adds method_cost (verify_arguments_for_method_call b E n d x t)
    unfolding verify_arguments_for_method_call
    method_verified_adds d x =
        then _ (calls.amounts_adds b.rows b.cells _ _ (t.count + 1))
        (λ y. then _ (calls.argument_adds b.rows b.cells n _ _ 0 x) (λ z. then_nothing _ (args_adds _ _ 1) (λ u. done_adds _)))

    -- the cost of a method call by its method: nothing where there is none
    abbrev method_cost_of : Option ℕ → Cost
    method_cost_of none = nothing
    method_cost_of (some d) = method_cost

    -- a method and its arguments
    meth_call_of_adds : (x : ℕ) (o : Option ℕ) → Adds (method_cost_of o) (meth_call_of b E n x t o)
    meth_call_of_adds x none = done_adds _
    meth_call_of_adds x (some d) = method_verified_adds d x

    -- a method is sought, and its arguments only where it is found
    sought_within : (o : Option ℕ) → Within (both (calls.sought_cost (some o)) (method_cost_of o)) method_cost
    sought_within none = search rules
    sought_within (some d) = search rules

    -- a method call
    pub meth_call_adds : {e u d : ℕ} (name : ℕ) → Typed E e u → u + sum_from 0 t.count c ≤ d → Adds (tree (suc d)) (typeck_expr_meth_call b E n e name t)
    unfolding typeck_expr_meth_call
    meth_call_adds name R h =
        let l = R.least in
        adds_within (search rules)
        (then _ R.adds (λ x. by_then {a = calls.sought_cost} {b = method_cost_of} _ (calls.method_of_adds b n _ x name) (meth_call_of_adds x) (search rules) sought_within))

  -- a lambda
  pub lambda_adds : {e u s d : ℕ} (n : ℕ) (o : Option·R TypeId) (t : Items) → Typed E e u → t.count ≤ s → u + s ≤ d → Adds (tree (suc d)) (typeck_lambda b E n o e t)
  unfolding typeck_lambda lambda_body
  lambda_adds n o t T k h =
      let l = T.least in
      adds_within (search rules)
      (then _ (calls.lambda_params_adds b.rows b.cells t)
      (λ x. then _ (calls.lambda_output_adds n o) (λ y. then _ T.adds (λ z. calls.lambda_adds b.cells n _ y z t))))

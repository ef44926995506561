-- What the typing of a node of a well-formed body adds to the tables: what its weight allows. Assumes nothing.
use Rattle.std.specs.Prelude.{◌≡◌, List, ℕ, suc, zero, ◌+◌, ◌<◌, ◌≤◌, eqb, Option}
use Rattle.std.proofs.Math.Path.{refl}
use Rattle.std.proofs.Common.{ap, arith, add-zero, rules}
use Rattle.std.proofs.Math.Bool.{true}
use borrow.Author.Tests.{eqb-true}
use Rattle.theory.specs.Rules.{integer, floating}
use Rattle.type_table.specs.Memory.{pick}
use Rattle.forms.specs.Form.{forms, form_at, kind_at}
use Rattle.refs.specs.declared.Counts.{Counts}
use Rattle.refs.specs.Refs.{nodes_at, form_in, first_in, tag_in, value_in, refers_to}
use Rattle.nodes.specs.declared.Node.{Node}
use Rattle.nodes.specs.declared.BinOp.{BinOp}
use Rattle.nodes.specs.declared.UnOp.{UnOp}
use Rattle.nodes.specs.Nodes.{field_in, maybe_node, node_of, node_at, field_of, let_at, block_at}
use Rattle.record.specs.Steps.{Walk}
use Rattle.walk.specs.Walk.{Visit, typeck_expr_bin_op, typeck_assign, typeck_op_assign, typeck_expr_un_op, typeck_expr_field, typeck_expr_list, typeck_expr_index, typeck_stmt, stmt, typeck_block, block_of, block_at_lem, typeck_expr_if, typeck_loop, typeck_call, typeck_expr_meth_call, typeck_return, typeck_lambda, rule_of, typeck_rule, typeck_expr}
use Rattle.resolve.specs.Resolve.{body_with}
use Rattle.well_formed.specs.Good.{WellFormed}
use Rattle.well_formed.specs.UsedOnce.{child_in}
use Rattle.well_formed.specs.Weight.{sum_to}
use Rattle.bounds.specs.Adds.{Adds, adds_within, adds_any, then_nothing, nothing_then}
use Rattle.bounds.specs.Steps.{done_adds, refuse_adds, set_node_type_adds, new_infer_var_adds}
use Rattle.bounds.specs.Weights.{pick_by, is_node, is_optional, kind_by, tree_size, part_size, children_size, first_child, items_at, first_field, Part, whole, node_part, optional_part, front, item_part, items_front, sum_least}
use Rattle.bounds.specs.Calls as calls
use Rattle.bounds.specs.Visits.{tree, child, Typed, TypedMaybe, TypedItems, typed_child}
use Rattle.bounds.specs.Visits as visits
use Rattle.nodes.specs.declared.Items.{Items}
use Rattle.type_table.specs.declared.NodeId.{NodeId}
use Rattle.type_table.specs.declared.TypeId.{TypeId}

-- a program adds at most what the weight of the node x allows
abbrev Allowed : List ℕ → List ℕ → ℕ → Walk ℕ → Type 0
Allowed rows cells x p = Adds (tree (suc (children_size rows cells x))) p

module _ (n : Counts) (rows cells : List ℕ) (w : WellFormed n rows cells) (E : Visit) (visit : (y : ℕ) → y < n.nodes → Adds (tree (tree_size rows cells y)) (E y)) where
  -- a node is typed at the cost of its weight
  typed : (y : ℕ) → y < n.nodes → Typed E y (tree_size rows cells y)
  typed y h = record { least = omega (arith, whole n rows cells w y h); adds = visit y h }

  -- a child is typed at the cost of its weight
  part_typed : {x i y : ℕ} → Part n rows cells x i y → Typed E y (part_size rows cells x i)
  part_typed {y = y} P = rw P.weighs (typed y P.lower)

  module _ (x : ℕ) (h : x < n.nodes) (f : ℕ) (e : form_in rows (nodes_at + x) ≡ f) where
    -- a child of the least number of fields
    node_typed : (i y : ℕ) → i < (form_at f).4 → is_node (kind_at (form_at f) i) ≡ true → child_in rows cells (nodes_at + x) i ≡ y → Typed E y (part_size rows cells x i)
    node_typed i y l k v = part_typed (node_part n rows cells w x h f e i y l k v)

    -- a child that may be missing
    maybe_typed : (i j : ℕ) → i < (form_at f).4 → is_optional (kind_at (form_at f) i) ≡ true → first_in rows (nodes_at + x) + i ≡ j → TypedMaybe E (maybe_node (field_in cells j)) (part_size rows cells x i)
    unfolding maybe_node
    maybe_typed i j l k q =
        pick_by (λ (m : Option NodeId). TypedMaybe E m (part_size rows cells x i)) (eqb (tag_in cells j) 0) _ _
        (λ z. record { by = tt })
        (λ z. record { by = part_typed (optional_part n rows cells w x h f e i (value_in cells j) l k (rw q z) (ap (value_in cells) q)) })

    -- the items behind the first a fields
    items_typed : (a : ℕ) → a ≤ (form_at f).4 → ((i : ℕ) → a ≤ i → is_node (kind_at (form_at f) i) ≡ true) → TypedItems E cells (items_at rows x a) (λ j. part_size rows cells x (a + j))
    items_typed a l k j b = part_typed (item_part n rows cells w x h f e a l k j b)

  -- ── statements and blocks ──

  -- a statement
  stmt_adds : (y : ℕ) → y < n.nodes → Adds (child (tree_size rows cells y)) (typeck_stmt (body_with n rows cells) E y (let_at rows cells y))
  unfolding typeck_stmt let_at field_of form_at forms kind_at is_optional refers_to sum_to
  stmt_adds y h =
      pick_by (λ (l : Option (Option TypeId × Option NodeId)). Adds (child (tree_size rows cells y)) (typeck_stmt (body_with n rows cells) E y l)) (eqb (form_in rows (nodes_at + y)) 25) _ _
      (λ e. let f : form_in rows (nodes_at + y) ≡ 25 = eqb-true _ 25 e in
      rw (whole n rows cells w y h)
      (visits.local_adds (body_with n rows cells) E y _ _ (maybe_typed y h 25 f 1 _ (omega arith) refl refl) (omega (arith, front n rows cells w y h 25 f 2 (omega arith)))))
      (λ z. then_nothing _ (typed_child (typed y h)) (λ t. done_adds tt))

  module _ (x : ℕ) (h : x < n.nodes) where
    -- a block
    block_adds : form_in rows (nodes_at + x) ≡ 24 → (j : ℕ) → first_in rows (nodes_at + x) + 0 ≡ j → Adds (child (children_size rows cells x)) (typeck_block (body_with n rows cells) E (maybe_node (field_in cells j)) (items_at rows x 1))
    unfolding stmt form_at forms kind_at is_node is_optional refers_to sum_to
    block_adds e j q =
        let kinds : (i : ℕ) → 1 ≤ i → is_node (kind_at (form_at 24) i) ≡ true = λ i l. kind_by (λ k. is_node k ≡ true) (form_at 24) i (λ z. absurd (omega arith)) (λ z. refl) refl refl in
        let fits = items_front n rows cells w x h 24 e 1 (omega arith) in
        adds_within (search rules)
        (visits.block_adds (body_with n rows cells) E (λ i. part_size rows cells x (1 + i)) _ (items_at rows x 1) (maybe_typed x h 24 e 0 j (omega arith) refl q)
        (λ i l. let P = item_part n rows cells w x h 24 e 1 (omega arith) kinds i l in rw P.weighs (stmt_adds _ P.lower)))

    -- BLOCK of an `if` or a loop
    block_at_adds : Adds (child (tree_size rows cells x)) (block_at_lem (body_with n rows cells) E x)
    unfolding block_at_lem block_at field_of
    block_at_adds =
        let s = whole n rows cells w x h in
        pick_by (λ (k : Option (Option NodeId × Items)). Adds (child (tree_size rows cells x)) (block_of (body_with n rows cells) E k)) (eqb (form_in rows (nodes_at + x)) 24) _ _
        (λ e. adds_within (search rules) (block_adds (eqb-true _ 24 e) _ refl))
        (λ z. adds_any (done_adds _))

  -- the same of a child
  part_block_adds : {x i y : ℕ} → Part n rows cells x i y → Adds (child (part_size rows cells x i)) (block_at_lem (body_with n rows cells) E y)
  part_block_adds {y = y} P = rw P.weighs (block_at_adds y P.lower)

  module _ (x : ℕ) (h : x < n.nodes) where
    -- ── the rule of each form ──

    -- bin,OP,L,R
    bin_adds : form_in rows (nodes_at + x) ≡ 11 → (o : BinOp)
        → Allowed rows cells x (typeck_expr_bin_op (body_with n rows cells) E x o (child_in rows cells (nodes_at + x) 1) (child_in rows cells (nodes_at + x) 2))
    unfolding form_at forms kind_at is_node refers_to sum_to
    bin_adds e o =
        visits.bin_adds (body_with n rows cells) E x o (node_typed x h 11 e 1 _ (omega arith) refl refl) (node_typed x h 11 e 2 _ (omega arith) refl refl)
        (omega (arith, front n rows cells w x h 11 e 3 (omega arith)))

    -- un,OP,E
    un_adds : form_in rows (nodes_at + x) ≡ 12 → (o : UnOp)
        → Allowed rows cells x (typeck_expr_un_op (body_with n rows cells) E o (child_in rows cells (nodes_at + x) 1))
    unfolding form_at forms kind_at is_node refers_to sum_to
    un_adds e o =
        visits.un_adds (body_with n rows cells) E o (node_typed x h 12 e 1 _ (omega arith) refl refl) (omega (arith, front n rows cells w x h 12 e 2 (omega arith)))

    -- field,E,NAME
    field_adds : form_in rows (nodes_at + x) ≡ 13 → (name : ℕ)
        → Allowed rows cells x (typeck_expr_field (body_with n rows cells) E (first_child rows cells x) name)
    unfolding form_at forms kind_at is_node refers_to sum_to
    field_adds e name =
        visits.field_adds (body_with n rows cells) E name (node_typed x h 13 e 0 _ (omega arith) refl (first_field rows cells x)) (omega (arith, front n rows cells w x h 13 e 1 (omega arith)))

    -- list,E..
    list_adds : form_in rows (nodes_at + x) ≡ 14 → Allowed rows cells x (typeck_expr_list (body_with n rows cells) E x (items_at rows x 0))
    unfolding form_at forms kind_at is_node refers_to sum_to
    list_adds e =
        visits.list_adds (body_with n rows cells) E x (items_at rows x 0)
        (items_typed x h 14 e 0 (omega arith) (λ i l. kind_by (λ k. is_node k ≡ true) (form_at 14) i (λ z. refl) (λ z. refl) refl refl))
        (omega (arith, items_front n rows cells w x h 14 e 0 (omega arith)))

    -- index,THING,I
    index_adds : form_in rows (nodes_at + x) ≡ 15
        → Allowed rows cells x (typeck_expr_index (body_with n rows cells) E x (first_child rows cells x) (child_in rows cells (nodes_at + x) 1))
    unfolding form_at forms kind_at is_node refers_to sum_to
    index_adds e =
        visits.index_adds (body_with n rows cells) E x (node_typed x h 15 e 0 _ (omega arith) refl (first_field rows cells x)) (node_typed x h 15 e 1 _ (omega arith) refl refl)
        (omega (arith, front n rows cells w x h 15 e 2 (omega arith)))

    -- assign,V,E
    assign_adds : form_in rows (nodes_at + x) ≡ 16
        → Allowed rows cells x (typeck_assign (body_with n rows cells) E x (first_child rows cells x) (child_in rows cells (nodes_at + x) 1))
    unfolding form_at forms kind_at is_node refers_to sum_to
    assign_adds e =
        visits.assign_adds (body_with n rows cells) E x (node_typed x h 16 e 0 _ (omega arith) refl (first_field rows cells x)) (node_typed x h 16 e 1 _ (omega arith) refl refl)
        (omega (arith, front n rows cells w x h 16 e 2 (omega arith)))

    -- opassign,V,E
    op_assign_adds : form_in rows (nodes_at + x) ≡ 17
        → Allowed rows cells x (typeck_op_assign (body_with n rows cells) E x (first_child rows cells x) (child_in rows cells (nodes_at + x) 1))
    unfolding form_at forms kind_at is_node refers_to sum_to
    op_assign_adds e =
        visits.op_assign_adds (body_with n rows cells) E x (node_typed x h 17 e 0 _ (omega arith) refl (first_field rows cells x)) (node_typed x h 17 e 1 _ (omega arith) refl refl)
        (omega (arith, front n rows cells w x h 17 e 2 (omega arith)))

    -- if,C,BLOCK,E|-
    if_adds : form_in rows (nodes_at + x) ≡ 18
        → Allowed rows cells x
        (typeck_expr_if (body_with n rows cells) E x (first_child rows cells x) (child_in rows cells (nodes_at + x) 1) (maybe_node (field_in cells (first_in rows (nodes_at + x) + 2))))
    unfolding form_at forms kind_at is_node is_optional refers_to sum_to
    if_adds e =
        let K = node_part n rows cells w x h 18 e 1 (child_in rows cells (nodes_at + x) 1) (omega arith) refl refl in
        visits.if_adds (body_with n rows cells) E x _ (part_size rows cells x 1) _ (node_typed x h 18 e 0 _ (omega arith) refl (first_field rows cells x)) (part_block_adds K)
        (maybe_typed x h 18 e 2 _ (omega arith) refl refl) (omega (arith, front n rows cells w x h 18 e 3 (omega arith)))

    -- loop,BLOCK
    loop_adds : form_in rows (nodes_at + x) ≡ 19 → Allowed rows cells x (typeck_loop (body_with n rows cells) E (first_child rows cells x))
    unfolding form_at forms kind_at is_node refers_to sum_to
    loop_adds e =
        let K = node_part n rows cells w x h 19 e 0 (first_child rows cells x) (omega arith) refl (first_field rows cells x) in
        visits.loop_adds (body_with n rows cells) E _ (part_size rows cells x 0) (part_block_adds K) (omega (arith, front n rows cells w x h 19 e 1 (omega arith)))

    -- call,F,A..
    call_adds : form_in rows (nodes_at + x) ≡ 21 → Allowed rows cells x (typeck_call (body_with n rows cells) E x (first_child rows cells x) (items_at rows x 1))
    unfolding form_at forms kind_at is_node refers_to sum_to
    call_adds e =
        visits.call_adds (body_with n rows cells) E x (items_at rows x 1)
        (items_typed x h 21 e 1 (omega arith) (λ i l. kind_by (λ k. is_node k ≡ true) (form_at 21) i (λ z. refl) (λ z. refl) refl refl))
        (node_typed x h 21 e 0 _ (omega arith) refl (first_field rows cells x))
        (omega (arith, items_front n rows cells w x h 21 e 1 (omega arith)))

    -- mcall,R,NAME,A..
    meth_call_adds : form_in rows (nodes_at + x) ≡ 22 → (name : ℕ)
        → Allowed rows cells x (typeck_expr_meth_call (body_with n rows cells) E x (first_child rows cells x) name (items_at rows x 2))
    unfolding form_at forms kind_at is_node refers_to sum_to
    meth_call_adds e name =
        visits.meth_call_adds (body_with n rows cells) E x (items_at rows x 2)
        (items_typed x h 22 e 2 (omega arith) (λ i l. kind_by (λ k. is_node k ≡ true) (form_at 22) i (λ z. absurd (omega arith)) (λ z. absurd (omega arith)) refl refl))
        name (node_typed x h 22 e 0 _ (omega arith) refl (first_field rows cells x))
        (omega (arith, items_front n rows cells w x h 22 e 2 (omega arith)))

    -- return,E|-
    return_adds : form_in rows (nodes_at + x) ≡ 23 → Allowed rows cells x (typeck_return (body_with n rows cells) E x (maybe_node (field_in cells (first_in rows (nodes_at + x)))))
    unfolding form_at forms kind_at is_optional refers_to sum_to
    return_adds e =
        visits.return_adds (body_with n rows cells) E x _ (maybe_typed x h 23 e 0 _ (omega arith) refl (add-zero _)) (omega (arith, front n rows cells w x h 23 e 1 (omega arith)))

    -- lambda,OUT|-,BODY,P..
    lambda_adds : form_in rows (nodes_at + x) ≡ 27 → (o : Option TypeId)
        → Allowed rows cells x (typeck_lambda (body_with n rows cells) E x o (child_in rows cells (nodes_at + x) 1) (items_at rows x 2))
    unfolding form_at forms kind_at is_node refers_to sum_to
    lambda_adds e o =
        let T = items_typed x h 27 e 2 (omega arith) (λ i l. kind_by (λ k. is_node k ≡ true) (form_at 27) i (λ z. absurd (omega arith)) (λ z. absurd (omega arith)) refl refl) in
        visits.lambda_adds (body_with n rows cells) E x o (items_at rows x 2) (node_typed x h 27 e 1 _ (omega arith) refl refl)
        (sum_least 0 (items_at rows x 2).count (λ j. part_size rows cells x (2 + j)) (λ j l. (T j (omega arith)).least))
        (omega (arith, items_front n rows cells w x h 27 e 2 (omega arith)))

    -- the rule of a node
    pub rule_adds : Allowed rows cells x (typeck_rule (body_with n rows cells) E x)
    unfolding typeck_rule node_at node_of
    rule_adds =
        by 7 _ _ (λ e. adds_any (done_adds _))
        (by 8 _ _ (λ e. adds_within (search rules) (new_infer_var_adds integer _))
        (by 9 _ _ (λ e. adds_within (search rules) (new_infer_var_adds floating _))
        (by 11 _ _ (λ e. bin_adds e _)
        (by 12 _ _ (λ e. un_adds e _)
        (by 13 _ _ (λ e. field_adds e _)
        (by 14 _ _ list_adds
        (by 15 _ _ index_adds
        (by 16 _ _ assign_adds
        (by 17 _ _ op_assign_adds
        (by 18 _ _ if_adds
        (by 19 _ _ loop_adds
        (by 20 _ _ (λ e. adds_any (done_adds _))
        (by 21 _ _ call_adds
        (by 22 _ _ (λ e. meth_call_adds e _)
        (by 23 _ _ return_adds
        (by 24 _ _ (λ e. adds_within (search rules) (block_adds x h e _ (add-zero _)))
        (by 25 _ _ (λ e. adds_any (done_adds _))
        (by 26 _ _ (λ e. adds_any (done_adds _))
        (by 27 _ _ (λ e. lambda_adds e _)
        (by 28 _ _ (λ e. adds_within (search rules) (calls.path_adds (body_with n rows cells) x _ _ _))
        (adds_any (refuse_adds 10 x))))))))))))))))))))))
      where
        by : (f : ℕ) (p q : Node) → (form_in rows (nodes_at + x) ≡ f → Allowed rows cells x (rule_of (body_with n rows cells) E x p))
            → Allowed rows cells x (rule_of (body_with n rows cells) E x q)
            → Allowed rows cells x (rule_of (body_with n rows cells) E x (pick (eqb (form_in rows (nodes_at + x)) f) p q))
        by f p q P Q =
            pick_by (λ (m : Node). Allowed rows cells x (rule_of (body_with n rows cells) E x m)) (eqb (form_in rows (nodes_at + x)) f) p q
            (λ e. P (eqb-true _ f e)) (λ z. Q)

-- the typing of a node of a well-formed body, of any number of levels, adds at most what its weight allows
pub expr_adds : (n : Counts) (rows cells : List ℕ) → WellFormed n rows cells → (k x : ℕ) → x < n.nodes → Adds (tree (tree_size rows cells x)) (typeck_expr (body_with n rows cells) k x)
unfolding typeck_expr
expr_adds n rows cells w zero x h = adds_any (done_adds _)
expr_adds n rows cells w (suc k) x h =
    rw (whole n rows cells w x h)
    (then_nothing _ (rule_adds n rows cells w (typeck_expr (body_with n rows cells) k) (λ y l. expr_adds n rows cells w k y l) x h)
    (λ t. nothing_then _ (set_node_type_adds x t) (λ u. done_adds t)))

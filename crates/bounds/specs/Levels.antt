-- The levels of a walk never run out: with as many levels as a node has, its typing is the same program as with any more. Assumes nothing.
use Rattle.std.specs.Prelude.{◌≡◌, List, Bool, false, cond, eqb, None, Option as Option·R, Some}
use Rattle.std.proofs.Math.Path.{refl, fun_ext}
use Rattle.std.proofs.Common.{ap, ◌∙◌, arith, add-zero, eqb-true}
use Rattle.std.proofs.Math.Option.{Option, none, some}
use Rattle.std.proofs.Math.Bool.{true}
use Prim.Native.Nat.{ℕ, suc, zero, ◌+◌, ◌-◌, ◌<◌, ◌≤◌}
use Rattle.std.proofs.lemmas.Bool.{eqb-false}
use Rattle.theory.specs.Program.{◌>>=◌}
use Rattle.type_table.specs.Memory.{pick}
use Rattle.forms.specs.Form.{forms, form_at, kind_at}
use Rattle.refs.specs.declared.Counts.{Counts}
use Rattle.refs.specs.Refs.{nodes_at, form_in, first_in, levels_in, tag_in, value_in, refers_to}
use Rattle.nodes.specs.declared.Items.{Items}
use Rattle.nodes.specs.declared.BinOp.{BinOp}
use Rattle.nodes.specs.declared.UnOp.{UnOp}
use Rattle.nodes.specs.declared.Callee.{Callee}
use Rattle.nodes.specs.declared.Node.{Node}
use Rattle.nodes.specs.Nodes.{Body, field_in, item, maybe_node, node_of, node_at, field_of, let_at, block_at, fn_line}
use Rattle.record.specs.declared.Span.{Span}
use Rattle.record.specs.Steps.{Walk, Step, for_each}
use Rattle.rules.specs.Rules as rule
use Rattle.walk.specs.Walk.{Visit, two, typeck_expr_bin_op, typeck_assign, typeck_op_assign, typeck_expr_un_op, typeck_expr_field, element, elements, rest, typeck_expr_list, index_of, typeck_expr_index, typeck_local, typeck_stmt, stmt, stmts, tail, typeck_block, block_of, block_at_lem, typeck_else, typeck_branches, typeck_expr_if, typeck_loop, arg, args, verify_arguments_for_call, call_of, typeck_call, verify_arguments_for_method_call, meth_call_of, typeck_expr_meth_call, typeck_return, lambda_body, typeck_lambda, rule_of, typeck_rule, typeck_expr}
use Rattle.resolve.specs.Resolve.{body_with}
use Rattle.well_formed.specs.Good.{WellFormed}
use Rattle.well_formed.specs.UsedOnce.{child_in}
use Rattle.well_formed.specs.Weight.{node_level, body_in}
use Rattle.well_formed.proofs.Levels.{child_fewer}
use Rattle.bounds.specs.Weights.{pick_by, is_node, is_optional, kind_by, first_child, items_at, first_field, Part, node_part, optional_part, item_part, body_lower}
use Rattle.type_table.specs.declared.NodeId.{NodeId}
use Rattle.type_table.specs.declared.TypeId.{TypeId}

-- ── programs ──

-- the same first part, and the same second part for every answer
bind_same : {A B : Type 0} {p q : Walk A} {f g : A → Walk B} → p ≡ q → ((x : A) → f x ≡ g x) → ◌>>=◌ p f ≡ ◌>>=◌ q g
bind_same {A} {B} {q = q} {f = f} e h = ap (λ (r : Walk A). ◌>>=◌ r f) e ∙ ap (λ (k : A → Walk B). ◌>>=◌ q k) (fun_ext h)

-- a loop of the same turns
each_same : (i k : ℕ) (f g : ℕ → Step) → ((j : ℕ) → j < i + k → f j ≡ g j) → for_each i k f ≡ for_each i k g
unfolding for_each
each_same i zero f g h = refl
each_same i (suc k) f g h = bind_same (h i (omega arith)) (λ x. each_same (suc i) k f g (λ j l. h j (omega arith)))

-- ── the rules, where E and F type each child of a node by the same program ──

-- by whether there is one
abbrev SameBy : Visit → Visit → Option·R NodeId → Type 0
SameBy E F None = Unit {0}
SameBy E F (Some e) = E e.0 ≡ F e.0

-- E and F type a node, if there is one, by the same program
record SameMaybe (E F : Visit) (e : Option·R NodeId) : Type 0 where
  by : SameBy E F e

-- and so each item
abbrev SameItems : Visit → Visit → List ℕ → Items → Type 0
SameItems E F cells t = (i : ℕ) → i < t.count → E (item cells t i) ≡ F (item cells t i)

module _ (b : Body) (E F : Visit) where
  -- two children
  two_same : {l r : ℕ} → E l ≡ F l → E r ≡ F r → two b E l r ≡ two b F l r
  unfolding two
  two_same L R = bind_same L (λ x. bind_same R (λ y. refl))

  -- a binary operation
  bin_same : {l r : ℕ} (n : ℕ) (o : BinOp) → E l ≡ F l → E r ≡ F r → typeck_expr_bin_op b E n o l r ≡ typeck_expr_bin_op b F n o l r
  unfolding typeck_expr_bin_op
  bin_same n o L R = bind_same (two_same L R) (λ t. refl)

  -- an assignment
  assign_same : {l r : ℕ} (n : ℕ) → E l ≡ F l → E r ≡ F r → typeck_assign b E n l r ≡ typeck_assign b F n l r
  unfolding typeck_assign
  assign_same n L R = bind_same (two_same L R) (λ t. refl)

  -- an assignment with an operator
  op_assign_same : {l r : ℕ} (n : ℕ) → E l ≡ F l → E r ≡ F r → typeck_op_assign b E n l r ≡ typeck_op_assign b F n l r
  unfolding typeck_op_assign
  op_assign_same n L R = bind_same (two_same L R) (λ t. refl)

  -- a unary operation
  un_same : {e : ℕ} (o : UnOp) → E e ≡ F e → typeck_expr_un_op b E o e ≡ typeck_expr_un_op b F o e
  unfolding typeck_expr_un_op
  un_same o T = bind_same T (λ x. refl)

  -- a field
  field_same : {e : ℕ} (name : ℕ) → E e ≡ F e → typeck_expr_field b E e name ≡ typeck_expr_field b F e name
  unfolding typeck_expr_field
  field_same name T = bind_same T (λ x. refl)

  -- a list
  list_same : (n : ℕ) (t : Items) → SameItems E F b.cells t → typeck_expr_list b E n t ≡ typeck_expr_list b F n t
  unfolding typeck_expr_list rest elements element
  list_same n t T = by (eqb t.count 0) refl
    where
      full : 0 < t.count → ◌>>=◌ (E (item b.cells t 0)) (λ x. rest b E n t x) ≡ ◌>>=◌ (F (item b.cells t 0)) (λ x. rest b F n t x)
      full l = bind_same (T 0 l) (λ x. bind_same (each_same 1 (t.count - 1) _ _ (λ i k. bind_same (T i (omega arith)) (λ y. refl))) (λ u. refl))

      by : (q : Bool) → eqb t.count 0 ≡ q
          → cond q (rule.empty_list n) (◌>>=◌ (E (item b.cells t 0)) (λ x. rest b E n t x)) ≡ cond q (rule.empty_list n) (◌>>=◌ (F (item b.cells t 0)) (λ x. rest b F n t x))
      by true p = refl
      by false p = full (omega (arith, eqb-false t.count 0 p))

  -- an index of an array
  index_of_same : {i : ℕ} (n : ℕ) → E i ≡ F i → (o : Option ℕ) → index_of b E n i o ≡ index_of b F n i o
  unfolding index_of
  index_of_same n T none = refl
  index_of_same n T (some e) = bind_same T (λ y. refl)

  -- an index
  index_same : {t i : ℕ} (n : ℕ) → E t ≡ F t → E i ≡ F i → typeck_expr_index b E n t i ≡ typeck_expr_index b F n t i
  unfolding typeck_expr_index
  index_same n T I = bind_same T (λ x. bind_same refl (λ o. index_of_same n I o))

  -- a let
  local_same : (n : ℕ) (t : Option·R TypeId) (e : Option·R NodeId) → SameMaybe E F e → typeck_local b E n t e ≡ typeck_local b F n t e
  unfolding typeck_local
  local_same n t None T = refl
  local_same n t (Some e) T = bind_same T.by (λ y. refl)

  -- the tail of a block
  tail_same : (e : Option·R NodeId) → SameMaybe E F e → tail b E e ≡ tail b F e
  unfolding tail
  tail_same None T = refl
  tail_same (Some e) T = T.by

  -- a block
  block_same : (e : Option·R NodeId) (t : Items) → SameMaybe E F e → ((i : ℕ) → i < t.count → stmt b E t i ≡ stmt b F t i) → typeck_block b E e t ≡ typeck_block b F e t
  unfolding typeck_block stmts
  block_same e t T S = bind_same (each_same 0 t.count _ _ (λ i l. S i (omega arith))) (λ x. tail_same e T)

  -- what stands after else
  else_same : (n x : ℕ) (e : Option·R NodeId) → SameMaybe E F e → typeck_else b E n x e ≡ typeck_else b F n x e
  unfolding typeck_else
  else_same n x None T = refl
  else_same n x (Some e) T = bind_same T.by (λ y. refl)

  -- an `if`
  if-same : {a : ℕ} (n k : ℕ) (e : Option·R NodeId) → E a ≡ F a → block_at_lem b E k ≡ block_at_lem b F k → SameMaybe E F e → typeck_expr_if b E n a k e ≡ typeck_expr_if b F n a k e
  unfolding typeck_expr_if typeck_branches
  if-same n k e C K T = bind_same C (λ x. bind_same refl (λ z. bind_same K (λ y. else_same n y e T)))

  -- a loop
  loop_same : (k : ℕ) → block_at_lem b E k ≡ block_at_lem b F k → typeck_loop b E k ≡ typeck_loop b F k
  unfolding typeck_loop
  loop_same k K = bind_same K (λ x. refl)

  -- a `return`
  return_same : (n : ℕ) (e : Option·R NodeId) → SameMaybe E F e → typeck_return b E n e ≡ typeck_return b F n e
  unfolding typeck_return
  return_same n None T = refl
  return_same n (Some e) T = bind_same T.by (λ y. refl)

  module _ (n : ℕ) (t : Items) (T : SameItems E F b.cells t) where
    -- the arguments
    args_same : (p : Span) (f : Callee) (from : ℕ) → args b E n p f t from ≡ args b F n p f t from
    unfolding args arg
    args_same p f from = each_same 0 t.count _ _ (λ i l. bind_same (T i (omega arith)) (λ y. refl))

    -- a callee and its arguments
    call_of_same : (o : Option (Callee × ℕ)) → call_of b E n t o ≡ call_of b F n t o
    unfolding verify_arguments_for_call
    call_of_same none = refl
    call_of_same (some f) = bind_same refl (λ x. bind_same (args_same (rule.at n) f.0 0) (λ y. refl))

    -- a call
    call_same : {f : ℕ} → E f ≡ F f → typeck_call b E n f t ≡ typeck_call b F n f t
    unfolding typeck_call
    call_same G = bind_same G (λ x. bind_same refl call_of_same)

    -- a method and its arguments
    meth_call_of_same : (x : ℕ) (o : Option ℕ) → meth_call_of b E n x t o ≡ meth_call_of b F n x t o
    unfolding verify_arguments_for_method_call
    meth_call_of_same x none = refl
    meth_call_of_same x (some d) = bind_same refl (λ y. bind_same refl (λ z. bind_same (args_same _ _ 1) (λ u. refl)))

    -- a method call
    meth_call_same : {e : ℕ} (name : ℕ) → E e ≡ F e → typeck_expr_meth_call b E n e name t ≡ typeck_expr_meth_call b F n e name t
    unfolding typeck_expr_meth_call
    meth_call_same name R = bind_same R (λ x. bind_same refl (meth_call_of_same x))

  -- a lambda
  lambda_same : {e : ℕ} (n : ℕ) (o : Option·R TypeId) (t : Items) → E e ≡ F e → typeck_lambda b E n o e t ≡ typeck_lambda b F n o e t
  unfolding typeck_lambda lambda_body
  lambda_same n o t T = bind_same refl (λ x. bind_same refl (λ y. bind_same T (λ z. refl)))

-- ── the nodes of a well-formed body ──

module _ (n : Counts) (rows cells : List ℕ) (w : WellFormed n rows cells) (k : ℕ) (E F : Visit) (visit : (y : ℕ) → y < n.nodes → levels_in rows (nodes_at + y) ≤ k → E y ≡ F y) where
  -- a child of a node of at most one level more
  part_same : {x i y : ℕ} → x < n.nodes → levels_in rows (nodes_at + x) ≤ suc k → Part n rows cells x i y → E y ≡ F y
  part_same {x} {i} {y} h l P = visit y P.lower (omega (arith, child_fewer n rows cells w x i y h P.child))

  module _ (x : ℕ) (h : x < n.nodes) (l : levels_in rows (nodes_at + x) ≤ suc k) (f : ℕ) (e : form_in rows (nodes_at + x) ≡ f) where
    -- a child of the least number of fields
    node_same : (i y : ℕ) → i < (form_at f).4 → is_node (kind_at (form_at f) i) ≡ true → child_in rows cells (nodes_at + x) i ≡ y → E y ≡ F y
    node_same i y b t v = part_same h l (node_part n rows cells w x h f e i y b t v)

    -- a child that may be missing
    maybe_same : (i j : ℕ) → i < (form_at f).4 → is_optional (kind_at (form_at f) i) ≡ true → first_in rows (nodes_at + x) + i ≡ j → SameMaybe E F (maybe_node (field_in cells j))
    unfolding maybe_node
    maybe_same i j b t q =
        pick_by (λ (m : Option·R NodeId). SameMaybe E F m) (eqb (tag_in cells j) 0) _ _
        (λ z. record { by = tt })
        (λ z. record { by = part_same h l (optional_part n rows cells w x h f e i (value_in cells j) b t (rw q z) (ap (value_in cells) q)) })

    -- the items behind the first a fields
    items_same : (a : ℕ) → a ≤ (form_at f).4 → ((i : ℕ) → a ≤ i → is_node (kind_at (form_at f) i) ≡ true) → SameItems E F cells (items_at rows x a)
    items_same a b t j c = part_same h l (item_part n rows cells w x h f e a b t j c)

  -- a statement
  stmt_same : (y : ℕ) → y < n.nodes → levels_in rows (nodes_at + y) ≤ k → typeck_stmt (body_with n rows cells) E y (let_at rows cells y) ≡ typeck_stmt (body_with n rows cells) F y (let_at rows cells y)
  unfolding let_at field_of form_at forms kind_at is_optional refers_to typeck_stmt
  stmt_same y h l =
      pick_by (λ (m : Option·R (Option·R TypeId × Option·R NodeId)). typeck_stmt (body_with n rows cells) E y m ≡ typeck_stmt (body_with n rows cells) F y m) (eqb (form_in rows (nodes_at + y)) 25) _ _
      (λ e. local_same (body_with n rows cells) E F y _ _ (maybe_same y h (omega arith) 25 (eqb-true _ 25 e) 1 _ (omega arith) refl refl))
      (λ z. bind_same (visit y h l) (λ t. refl))

  module _ (x : ℕ) (h : x < n.nodes) (l : levels_in rows (nodes_at + x) ≤ suc k) where
    -- a block
    node_block_same : form_in rows (nodes_at + x) ≡ 24 → (j : ℕ) → first_in rows (nodes_at + x) + 0 ≡ j
        → typeck_block (body_with n rows cells) E (maybe_node (field_in cells j)) (items_at rows x 1) ≡ typeck_block (body_with n rows cells) F (maybe_node (field_in cells j)) (items_at rows x 1)
    unfolding stmt form_at forms kind_at is_node is_optional refers_to
    node_block_same e j q =
        let kinds : (i : ℕ) → 1 ≤ i → is_node (kind_at (form_at 24) i) ≡ true = λ i b. kind_by (λ t. is_node t ≡ true) (form_at 24) i (λ z. absurd (omega arith)) (λ z. refl) refl refl in
        block_same (body_with n rows cells) E F _ (items_at rows x 1) (maybe_same x h l 24 e 0 j (omega arith) refl q)
        (λ i b.
        let P = item_part n rows cells w x h 24 e 1 (omega arith) kinds i b in
        stmt_same _ P.lower (omega (arith, child_fewer n rows cells w x _ _ h P.child)))

    -- BLOCK of an `if` or a loop
    block_at_same : block_at_lem (body_with n rows cells) E x ≡ block_at_lem (body_with n rows cells) F x
    unfolding block_at_lem block_at field_of
    block_at_same =
        pick_by (λ (m : Option·R (Option·R NodeId × Items)). block_of (body_with n rows cells) E m ≡ block_of (body_with n rows cells) F m) (eqb (form_in rows (nodes_at + x)) 24) _ _
        (λ e. node_block_same (eqb-true _ 24 e) _ refl)
        (λ z. refl)

  module _ (x : ℕ) (h : x < n.nodes) (l : levels_in rows (nodes_at + x) ≤ suc k) where
    -- BLOCK in a field of the node
    part_block_same : {i y : ℕ} → Part n rows cells x i y → block_at_lem (body_with n rows cells) E y ≡ block_at_lem (body_with n rows cells) F y
    part_block_same {i} {y} P = block_at_same y P.lower (omega (arith, child_fewer n rows cells w x i y h P.child))

    -- the rule of a node of at most one level more
    rule_same : typeck_rule (body_with n rows cells) E x ≡ typeck_rule (body_with n rows cells) F x
    unfolding typeck_rule node_at node_of form_at forms kind_at is_node is_optional refers_to
    rule_same =
        by 7 _ _ (λ e. refl)
        (by 8 _ _ (λ e. refl)
        (by 9 _ _ (λ e. refl)
        (by 11 _ _ (λ e. bin_same b E F x _ (child 11 e 1 (omega arith) refl) (child 11 e 2 (omega arith) refl))
        (by 12 _ _ (λ e. un_same b E F _ (child 12 e 1 (omega arith) refl))
        (by 13 _ _ (λ e. field_same b E F _ (first 13 e (omega arith) refl))
        (by 14 _ _ (λ e. list_same b E F x _ (items_same x h l 14 e 0 (omega arith) (λ i a. kind_by (λ t. is_node t ≡ true) (form_at 14) i (λ z. refl) (λ z. refl) refl refl)))
        (by 15 _ _ (λ e. index_same b E F x (first 15 e (omega arith) refl) (child 15 e 1 (omega arith) refl))
        (by 16 _ _ (λ e. assign_same b E F x (first 16 e (omega arith) refl) (child 16 e 1 (omega arith) refl))
        (by 17 _ _ (λ e. op_assign_same b E F x (first 17 e (omega arith) refl) (child 17 e 1 (omega arith) refl))
        (by 18 _ _
        (λ e. if-same b E F x _ _ (first 18 e (omega arith) refl) (part_block_same (node_part n rows cells w x h 18 e 1 _ (omega arith) refl refl))
        (maybe_same x h l 18 e 2 _ (omega arith) refl refl))
        (by 19 _ _ (λ e. loop_same b E F _ (part_block_same (node_part n rows cells w x h 19 e 0 _ (omega arith) refl (first_field rows cells x))))
        (by 20 _ _ (λ e. refl)
        (by 21 _ _
        (λ e. call_same b E F x _ (items_same x h l 21 e 1 (omega arith) (λ i a. kind_by (λ t. is_node t ≡ true) (form_at 21) i (λ z. refl) (λ z. refl) refl refl))
        (first 21 e (omega arith) refl))
        (by 22 _ _
        (λ e. meth_call_same b E F x _
        (items_same x h l 22 e 2 (omega arith) (λ i a. kind_by (λ t. is_node t ≡ true) (form_at 22) i (λ z. absurd (omega arith)) (λ z. absurd (omega arith)) refl refl))
        _ (first 22 e (omega arith) refl))
        (by 23 _ _ (λ e. return_same b E F x _ (maybe_same x h l 23 e 0 _ (omega arith) refl (add-zero _)))
        (by 24 _ _ (λ e. node_block_same x h l e _ (add-zero _))
        (by 25 _ _ (λ e. refl)
        (by 26 _ _ (λ e. refl)
        (by 27 _ _ (λ e. lambda_same b E F x _ _ (child 27 e 1 (omega arith) refl))
        (by 28 _ _ (λ e. refl)
        refl))))))))))))))))))))
      where
        b : Body
        b = body_with n rows cells

        by : (f : ℕ) (p q : Node) → (form_in rows (nodes_at + x) ≡ f → rule_of b E x p ≡ rule_of b F x p) → rule_of b E x q ≡ rule_of b F x q
            → rule_of b E x (pick (eqb (form_in rows (nodes_at + x)) f) p q) ≡ rule_of b F x (pick (eqb (form_in rows (nodes_at + x)) f) p q)
        by f p q P Q = pick_by (λ (m : Node). rule_of b E x m ≡ rule_of b F x m) (eqb (form_in rows (nodes_at + x)) f) p q (λ e. P (eqb-true _ f e)) (λ z. Q)

        child : (f : ℕ) → form_in rows (nodes_at + x) ≡ f → (i : ℕ) → i < (form_at f).4 → is_node (kind_at (form_at f) i) ≡ true → E (child_in rows cells (nodes_at + x) i) ≡ F (child_in rows cells (nodes_at + x) i)
        child f e i a t = node_same x h l f e i _ a t refl

        first : (f : ℕ) → form_in rows (nodes_at + x) ≡ f → 0 < (form_at f).4 → is_node (kind_at (form_at f) 0) ≡ true → E (first_child rows cells x) ≡ F (first_child rows cells x)
        first f e a t = node_same x h l f e 0 _ a t (first_field rows cells x)

module _ (n : Counts) (rows cells : List ℕ) (w : WellFormed n rows cells) where
  -- with as many levels as a node has, one more makes no difference
  pub level_more : (k x : ℕ) → x < n.nodes → levels_in rows (nodes_at + x) ≤ k → typeck_expr (body_with n rows cells) k x ≡ typeck_expr (body_with n rows cells) (suc k) x
  unfolding typeck_expr
  level_more zero x h l = absurd (omega (arith, node_level n rows cells w x h))
  level_more (suc k) x h l =
      bind_same
      (rule_same n rows cells w k (typeck_expr (body_with n rows cells) k) (typeck_expr (body_with n rows cells) (suc k)) (λ y b m. level_more k y b m) x h l)
      (λ t. refl)

  -- nor do any more
  pub levels_more : (j k x : ℕ) → x < n.nodes → levels_in rows (nodes_at + x) ≤ k → typeck_expr (body_with n rows cells) k x ≡ typeck_expr (body_with n rows cells) (k + j) x
  levels_more zero k x h l = rw (add-zero k)
  levels_more (suc j) k x h l =
      level_more k x h l ∙ levels_more j (suc k) x h (omega arith) ∙ ap (λ (m : ℕ). typeck_expr (body_with n rows cells) m x) (omega arith)

  -- BODY is typed by the same program with 64 levels and with any more
  pub body_levels : (j : ℕ) → typeck_expr (body_with n rows cells) 64 (fn_line rows cells).body.0 ≡ typeck_expr (body_with n rows cells) (64 + j) (fn_line rows cells).body.0
  unfolding fn_line
  body_levels j = levels_more j 64 (body_in rows cells) (body_lower n rows cells w) (w.depth (body_in rows cells) (body_lower n rows cells w))

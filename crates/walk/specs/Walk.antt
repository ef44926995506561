-- The typing rules that type other nodes: each is a program over E, which types a child; the recursion stands in `typeck_expr` alone. Definitions alone.
use Rattle.std.proofs.Math.Option.{Option, none, some}
use Rattle.std.specs.Prelude.{cond, ℕ, suc, zero, ◌+◌, ◌-◌, eqb, None, Option as Option·R, Some}
use Rattle.theory.specs.Rules.{integer, floating}
use Rattle.theory.specs.Program.{done, refuse, ◌>>=◌}
use Rattle.nodes.specs.declared.Items.{Items}
use Rattle.nodes.specs.declared.BinOp.{BinOp}
use Rattle.nodes.specs.declared.UnOp.{UnOp}
use Rattle.nodes.specs.declared.Callee.{Callee}
use Rattle.nodes.specs.declared.Callee.TheVariants as callee
use Rattle.nodes.specs.declared.Node.{Node}
use Rattle.nodes.specs.declared.Node.TheVariants as form
use Rattle.nodes.specs.Nodes.{Body, item, node_at, let_at, block_at, output_of}
use Rattle.record.specs.declared.Span.{Span}
use Rattle.record.specs.declared.Span.TheVariants as span
use Rattle.record.specs.Steps.{Walk, Step, set_node_type, new_infer_var, for_each}
use Rattle.rules.specs.Rules as rule
use Rattle.type_table.specs.declared.NodeId.{NodeId}
use Rattle.type_table.specs.declared.TypeId.{TypeId}

-- how a node is typed
abbrev pub Visit : Type 0
Visit = ℕ → Walk ℕ

module _ (b : Body) (E : Visit) where
  -- two nodes, in order
  unfoldable pub two : ℕ → ℕ → Walk (ℕ × ℕ)
  two l r = do
    x ← E l
    y ← E r
    done (x, y)

  -- `typeck_expr_bin_op`
  unfoldable pub typeck_expr_bin_op : ℕ → BinOp → ℕ → ℕ → Walk ℕ
  typeck_expr_bin_op n o l r = do
    t ← two l r
    rule.bin_op_lem n o l r t.0 t.1

  -- `ExprKind::Assign`
  unfoldable pub typeck_assign : ℕ → ℕ → ℕ → Walk ℕ
  typeck_assign n v e = do
    t ← two v e
    rule.assign n v e t.0 t.1

  -- `ExprKind::AssignWithOp`
  unfoldable pub typeck_op_assign : ℕ → ℕ → ℕ → Walk ℕ
  typeck_op_assign n v e = do
    t ← two v e
    rule.op_assign n t.0 t.1

  -- `typeck_expr_un_op`
  unfoldable pub typeck_expr_un_op : UnOp → ℕ → Walk ℕ
  typeck_expr_un_op o e = do
    x ← E e
    rule.un_op_lem o e x

  -- `typeck_expr_field`
  unfoldable pub typeck_expr_field : ℕ → ℕ → Walk ℕ
  typeck_expr_field e name = do
    x ← E e
    rule.field b.rows b.cells e x name

  -- the element i of a list, against the type x of the first
  unfoldable pub element : ℕ → Items → ℕ → ℕ → Step
  element n t x i = do
    y ← E (item b.cells t i)
    rule.element n (item b.cells t i) x y

  -- each later element of a list, in order
  unfoldable pub elements : ℕ → Items → ℕ → Step
  elements n t x = for_each 1 (t.count - 1) (element n t x)

  -- a list whose first element has the type x
  unfoldable pub rest : ℕ → Items → ℕ → Walk ℕ
  rest n t x = do
    _ ← elements n t x
    rule.list_of x

  -- `typeck_expr_list`
  unfoldable pub typeck_expr_list : ℕ → Items → Walk ℕ
  typeck_expr_list n t = cond (eqb t.count 0) (rule.empty_list n) (do
    x ← E (item b.cells t 0)
    rest n t x)

  -- the index i of an array of e; that of what is no array stays untyped
  unfoldable pub index_of : ℕ → ℕ → Option ℕ → Walk ℕ
  index_of n i none = done rule.err_type
  index_of n i (some e) = do
    y ← E i
    rule.index n e y

  -- `typeck_expr_index`
  unfoldable pub typeck_expr_index : ℕ → ℕ → ℕ → Walk ℕ
  typeck_expr_index n t i = do
    x ← E t
    e ← rule.element_of n x
    index_of n i e

  -- `typeck_local`
  unfoldable pub typeck_local : ℕ → Option·R TypeId → Option·R NodeId → Step
  typeck_local n t None = rule.let_without_init n t
  typeck_local n t (Some e) = do
    y ← E e.0
    rule.let_with_init n t y

  -- `typeck_stmt`: a let, or an expression
  unfoldable pub typeck_stmt : ℕ → Option·R (Option·R TypeId × Option·R NodeId) → Step
  typeck_stmt n (Some (t, e)) = typeck_local n t e
  typeck_stmt n None = do
    _ ← E n
    done tt

  -- the statement i
  unfoldable pub stmt : Items → ℕ → Step
  stmt t i = typeck_stmt (item b.cells t i) (let_at b.rows b.cells (item b.cells t i))

  -- the statements of a block, in order
  unfoldable pub stmts : Items → Step
  stmts t = for_each 0 t.count (stmt t)

  -- the tail of a block; without one it is Nil
  unfoldable pub tail : Option·R NodeId → Walk ℕ
  tail None = done rule.nil_type
  tail (Some e) = E e.0

  -- `typeck_block`: statements, then the tail
  unfoldable pub typeck_block : Option·R NodeId → Items → Walk ℕ
  typeck_block e t = do
    _ ← stmts t
    tail e

  -- the BLOCK of an `if` or a loop, which gets no type itself
  abbrev pub block_of : Option·R (Option·R NodeId × Items) → Walk ℕ
  block_of (Some (e, t)) = typeck_block e t
  block_of None = done rule.nil_type

  -- the BLOCK n
  unfoldable pub block_at_lem : ℕ → Walk ℕ
  block_at_lem n = block_of (block_at b.rows b.cells n)

  -- what stands after else, against the type x of the block
  unfoldable pub typeck_else : ℕ → ℕ → Option·R NodeId → Walk ℕ
  typeck_else n x None = done rule.nil_type
  typeck_else n x (Some e) = do
    y ← E e.0
    rule.branches n e.0 x y

  -- the block of an `if`, and what stands after else
  unfoldable pub typeck_branches : ℕ → ℕ → Option·R NodeId → Walk ℕ
  typeck_branches n k e = do
    x ← block_at_lem k
    typeck_else n x e

  -- `typeck_expr_if`
  unfoldable pub typeck_expr_if : ℕ → ℕ → ℕ → Option·R NodeId → Walk ℕ
  typeck_expr_if n a k e = do
    x ← E a
    _ ← rule.condition a x
    typeck_branches n k e

  -- `ExprKind::Loop`
  unfoldable pub typeck_loop : ℕ → Walk ℕ
  typeck_loop k = do
    _ ← block_at_lem k
    done rule.nil_type

  -- the argument i of a call; the first has the position `from`
  unfoldable pub arg : ℕ → Span → Callee → Items → ℕ → ℕ → Step
  arg n p f t from i = do
    y ← E (item b.cells t i)
    rule.argument b.rows b.cells n p f (from + i) y

  -- the arguments, in order; extra ones are typed
  unfoldable pub args : ℕ → Span → Callee → Items → ℕ → Step
  args n p f t from = for_each 0 t.count (arg n p f t from)

  -- `verify_arguments_for_call`; then the call has the type o
  unfoldable pub verify_arguments_for_call : ℕ → Callee → Items → ℕ → Walk ℕ
  verify_arguments_for_call n f t o = do
    _ ← rule.amounts b.rows b.cells (rule.at n) f t.count
    _ ← args n (rule.at n) f t 0
    done o

  -- the arguments of a failed callee stay untyped
  abbrev pub call_of : ℕ → Items → Option (Callee × ℕ) → Walk ℕ
  call_of n t none = done rule.err_type
  call_of n t (some f) = verify_arguments_for_call n f.0 t f.1

  -- `ExprKind::Call`
  unfoldable pub typeck_call : ℕ → ℕ → Items → Walk ℕ
  typeck_call n f t = do
    x ← E f
    g ← rule.callee_of b.rows b.cells n x
    call_of n t g

  -- `verify_arguments_for_method_call`: the receiver, of the type x, is argument 0; errors span the bind item
  unfoldable pub verify_arguments_for_method_call : ℕ → ℕ → ℕ → Items → Walk ℕ
  verify_arguments_for_method_call n d x t = do
    _ ← rule.amounts b.rows b.cells (span.Item (record { 0 = d })) (callee.Def (record { 0 = d })) (t.count + 1)
    _ ← rule.argument b.rows b.cells n (span.Item (record { 0 = d })) (callee.Def (record { 0 = d })) 0 x
    _ ← args n (span.Item (record { 0 = d })) (callee.Def (record { 0 = d })) t 1
    done (output_of b.rows b.cells d)

  -- the arguments of a failed method or an error receiver stay untyped
  abbrev pub meth_call_of : ℕ → ℕ → Items → Option ℕ → Walk ℕ
  meth_call_of n x t none = done rule.err_type
  meth_call_of n x t (some d) = verify_arguments_for_method_call n d x t

  -- `typeck_expr_meth_call`
  unfoldable pub typeck_expr_meth_call : ℕ → ℕ → ℕ → Items → Walk ℕ
  typeck_expr_meth_call n e name t = do
    x ← E e
    d ← rule.method_of b n e x name
    meth_call_of n x t d

  -- `ExprKind::Return`
  unfoldable pub typeck_return : ℕ → Option·R NodeId → Walk ℕ
  typeck_return n None = rule.returned n n rule.nil_type
  typeck_return n (Some e) = do
    y ← E e.0
    rule.returned n e.0 y

  -- BODY of a lambda, whose output is o
  unfoldable pub lambda_body : ℕ → ℕ → Items → ℕ → Walk ℕ
  lambda_body n e t o = do
    y ← E e
    rule.lambda b.cells n e o y t

  -- `typeck_lambda`: inputs, an output, then BODY
  unfoldable pub typeck_lambda : ℕ → Option·R TypeId → ℕ → Items → Walk ℕ
  typeck_lambda n o e t = do
    _ ← rule.lambda_params b.rows b.cells t
    x ← rule.lambda_output n o
    lambda_body n e t x

  -- `typeck_expr`, by the node's form; `let` and `param` are no expressions
  abbrev pub rule_of : ℕ → Node → Walk ℕ
  rule_of n form.Bool = done rule.bool_type
  rule_of n form.Int = new_infer_var integer none
  rule_of n form.Float = new_infer_var floating none
  rule_of n form.Str = refuse 10 n
  rule_of n (form.Bin o l r) = typeck_expr_bin_op n o l.0 r.0
  rule_of n (form.Un o e) = typeck_expr_un_op o e.0
  rule_of n (form.Field e name) = typeck_expr_field e.0 name
  rule_of n (form.List t) = typeck_expr_list n t
  rule_of n (form.Index t i) = typeck_expr_index n t.0 i.0
  rule_of n (form.Assign v e) = typeck_assign n v.0 e.0
  rule_of n (form.OpAssign v e) = typeck_op_assign n v.0 e.0
  rule_of n (form.If a k e) = typeck_expr_if n a.0 k.0 e
  rule_of n (form.Loop k) = typeck_loop k.0
  rule_of n form.Break = done rule.diverges_type
  rule_of n (form.Call f t) = typeck_call n f.0 t
  rule_of n (form.MethodCall e name t) = typeck_expr_meth_call n e.0 name t
  rule_of n (form.Return e) = typeck_return n e
  rule_of n (form.Block e t) = typeck_block e t
  rule_of n (form.Let t e) = done rule.err_type
  rule_of n (form.Param t) = done rule.err_type
  rule_of n (form.Lambda o e t) = typeck_lambda n o e.0 t
  rule_of n (form.Path r k t) = rule.path b n r k t

  -- the rule of the node n
  unfoldable pub typeck_rule : ℕ → Walk ℕ
  typeck_rule n = rule_of n (node_at b.rows b.cells n)

-- `type_of`: the type of a node, which is written down; k levels of nodes are left
unfoldable pub typeck_expr : Body → ℕ → Visit
typeck_expr b zero n = done rule.err_type
typeck_expr b (suc k) n = do
  t ← typeck_rule b (typeck_expr b k) n
  _ ← set_node_type n t
  done t

-- Of ConfinedWalk: the theorems that rest on a declaration which an edit of a definition in specs/ refuses. The definitions and the other theorems stand in
-- specs/ConfinedWalk.antt. Assumes nothing.
use Rattle.std.specs.Prelude.{List, Bool, ℕ, suc, zero, ◌<◌}
use Rattle.std.proofs.Math.Path.{refl}
use Rattle.std.proofs.Math.Option.{none}
use Rattle.std.proofs.Common.{arith}
use Rattle.theory.specs.Rules.{integer, floating}
use Rattle.refs.specs.declared.Counts.{Counts}
use Rattle.nodes.specs.declared.Node.{Node}
use Rattle.nodes.specs.declared.Node.TheVariants as form
use Rattle.nodes.specs.Nodes.{Body, node_at, block_at, fn_line}
use Rattle.record.specs.declared.ErrorKind.TheVariants as error·K
use Rattle.record.specs.declared.Span.TheVariants as span
use Rattle.rules.specs.Rules as rule
use Rattle.walk.specs.Walk.{Visit, typeck_expr_bin_op, typeck_assign, typeck_op_assign, typeck_expr_un_op, typeck_expr_field, typeck_expr_index, block_at_lem, typeck_branches, typeck_expr_if, typeck_loop, typeck_call, typeck_expr_meth_call, lambda_body, typeck_lambda, rule_of, typeck_rule, typeck_expr}
use Rattle.resolve.specs.Resolve.{result, typeck, body_with}
use Rattle.well_formed.specs.Good.{WellFormed}
use Rattle.bounds.specs.Weights.{body_lower}
use Rattle.bounds.specs.Declared.{behind_types}
use Rattle.bounds.specs.Refers.{NodeLower, Refers, refers, fn_params}
use Rattle.bounds.specs.Confined.{Numbers, Confined, Any, Known, declared_known, then_confined, done_confined, refuse_10_confined, set_node_type_confined, output_confined, new_infer_var_confined, equate_for_confined, equate_on_confined, bin_op_confined, un_op_confined, element_of_confined, condition_confined, field_confined, callee_of_confined, method_of_confined, lambda_output_confined, lambda_params_confined, lambda_rule_confined}
use Rattle.bounds.proofs.Confined.{path_confined}
use Rattle.bounds.specs.ConfinedWalk.{block_confined, block_of_confined, call_of_confined, else_confined, index_of_confined, list_confined, meth_call_of_confined, params_confined, resolve_nodes_confined, return_confined, two_confined}

-- ── the rules that type other nodes, where E types each node by such a program ──

module _ {N : Counts} {W : Numbers} {b : Body} (K : Known N b W) (R : Refers N b) (E : Visit) (visit : (y : ℕ) → y < N.nodes → Confined N W W.type (E y)) where
  -- the rule of a node
  rule_confined : (n : ℕ) (m : Node) → n < N.nodes → NodeLower N b.cells m → Confined N W W.type (rule_of b E n m)
  unfolding typeck_expr_bin_op typeck_assign typeck_op_assign typeck_expr_un_op typeck_expr_field typeck_expr_index typeck_expr_if typeck_branches block_at_lem typeck_loop typeck_call typeck_expr_meth_call typeck_lambda lambda_body rule.assign rule.op_assign
  rule_confined n form.Bool h c = done_confined _ (K.type 1 (omega arith))
  rule_confined n form.Int h c = new_infer_var_confined integer none refl
  rule_confined n form.Float h c = new_infer_var_confined floating none refl
  rule_confined n form.Str h c = refuse_10_confined n h
  rule_confined n (form.Bin o l r) h c = then_confined _ (two_confined K R E visit l.0 r.0 c.0 c.1) (λ t q. bin_op_confined K n o _ _ _ _ h q.0 q.1)
  rule_confined n (form.Un o e) h c = then_confined _ (visit e.0 c) (λ x u. un_op_confined K o e.0 x u)
  rule_confined n (form.Field e name) h c = then_confined _ (visit e.0 c) (λ x u. field_confined K R e.0 x name)
  rule_confined n (form.List t) h c = list_confined K R E visit n t h c
  rule_confined n (form.Index t i) h c = then_confined _ (visit t.0 c.0) (λ x u. then_confined _ (element_of_confined K n x) (λ e v. (index_of_confined K R E visit) n i.0 e h c.1 v))
  rule_confined n (form.Assign v e) h c = then_confined _ (two_confined K R E visit v.0 e.0 c.0 c.1) (λ t q. equate_for_confined K n t.0 t.1 (rule.between error·K.TypeMismatch v.0 e.0 t.0 t.1) _ h q.0 q.1 (K.type 0 (omega arith)) refl refl)
  rule_confined n (form.OpAssign v e) h c = then_confined _ (two_confined K R E visit v.0 e.0 c.0 c.1) (λ t q. equate_for_confined K n t.0 t.1 (rule.mismatch error·K.NoBinaryOp (rule.at n) t.0 t.1 0) _ h q.0 q.1 (K.type 0 (omega arith)) refl refl)
  rule_confined n (form.If a k e) h c =
      then_confined _ (visit a.0 c.0)
      (λ x u. then_confined _ (condition_confined K a.0 x)
      (λ z q. then_confined _ (block_of_confined K R E visit (block_at b.rows b.cells k.0) (R.blocks k.0 c.1)) (λ y v. (else_confined K R E visit) n y e h v c.2)))
  rule_confined n (form.Loop k) h c = then_confined _ (block_of_confined K R E visit (block_at b.rows b.cells k.0) (R.blocks k.0 c)) (λ y v. done_confined _ (K.type 0 (omega arith)))
  rule_confined n form.Break h c = done_confined _ (K.type 13 (omega arith))
  rule_confined n (form.Call f t) h c = then_confined _ (visit f.0 c.0) (λ x u. then_confined _ (callee_of_confined K R n x) (λ g q. (call_of_confined K R E visit) n t g h c.1 q))
  rule_confined n (form.MethodCall e name t) h c =
      then_confined _ (visit e.0 c.0) (λ x u. then_confined _ (method_of_confined K R n e.0 x name) (λ d q. (meth_call_of_confined K R E visit) n x t d h u c.1 q))
  rule_confined n (form.Return e) h c = return_confined K R E visit n e h c
  rule_confined n (form.Block e t) h c = block_confined K R E visit e t c.0 c.1
  rule_confined n (form.Let t e) h c = done_confined _ (K.type 12 (omega arith))
  rule_confined n (form.Param t) h c = done_confined _ (K.type 12 (omega arith))
  rule_confined n (form.Lambda o e t) h c =
      then_confined _ (lambda_params_confined K R t c.2)
      (λ z q. then_confined _ (lambda_output_confined K n o h (declared_known K o c.0))
      (λ x u. then_confined _ (visit e.0 c.1) (λ y v. lambda_rule_confined K b.cells n e.0 x y t h u v)))
  rule_confined n (form.Path r k t) h c = path_confined K R n r k t h c.0 c.1

-- the typing of a node, of any number of levels
expr_confined : {N : Counts} {W : Numbers} (b : Body) → Known N b W → Refers N b → (k x : ℕ) → x < N.nodes → Confined N W W.type (typeck_expr b k x)
unfolding typeck_expr typeck_rule
expr_confined b K R zero x h = done_confined _ (K.type 12 (omega arith))
expr_confined b K R (suc k) x h =
    then_confined _ (rule_confined K R (typeck_expr b k) (expr_confined b K R k) x (node_at b.rows b.cells x) h (R.children x h))
    (λ t u. then_confined _ (set_node_type_confined x t u) (λ z q. done_confined t u))

-- ── a body ──

module _ (n : Counts) (rows cells : List ℕ) (w : WellFormed n rows cells) {W : Numbers} (K : Known n (body_with n rows cells) W) where
  -- BODY and its result
  pub typeck_confined : Confined n W Any (typeck (body_with n rows cells) (fn_line rows cells).body.0)
  unfolding typeck result fn_line
  typeck_confined =
      let h = body_lower n rows cells w in
      then_confined _ (expr_confined (body_with n rows cells) K (refers n rows cells w) 64 _ h) (λ y u. then_confined _ output_confined (λ x v. equate_on_confined K _ x y (rule.mismatch error·K.TypeMismatch span.Signature x y 0) h v u refl refl))

  -- what a body runs behind its type lines
  pub behind_types_confined : Confined n W Any (behind_types n rows cells)
  behind_types_confined =
      then_confined _ (params_confined K (refers n rows cells w) _ (fn_params n rows cells w))
      (λ u q. then_confined _ typeck_confined (λ v z. resolve_nodes_confined K n.nodes))

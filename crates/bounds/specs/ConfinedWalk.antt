-- What a well-formed body runs behind its type lines is a program as Confined says: of types alone, making types of the six forms, refused with 10 to 13 at a node.
-- Assumes nothing.
use Rattle.std.specs.Prelude.{◌≡◌, List, Bool, true, false, cond, ℕ, suc, zero, ◌-◌, ◌<◌, eqb, length, None, Option as Option·R, Some}
use Rattle.std.proofs.Math.Path.{refl}
use Rattle.std.proofs.Math.Option.{Option, none, some}
use Rattle.std.proofs.Common.{arith}
use Rattle.std.proofs.lemmas.Bool.{eqb-false}
use Rattle.theory.specs.Rules.{Shape, Kind, regular, integer, floating, as_var, row, bound}
use Rattle.theory.specs.Program.{◌>>=◌}
use Rattle.refs.specs.declared.Counts.{Counts}
use Rattle.nodes.specs.declared.Items.{Items}
use Rattle.nodes.specs.declared.Callee.{Callee}
use Rattle.nodes.specs.declared.Callee.TheVariants as callee
use Rattle.nodes.specs.Nodes.{Body, item, declared_at, let_at, as_arr}
use Rattle.record.specs.declared.ErrorKind.TheVariants as error·K
use Rattle.record.specs.declared.Span.{Span}
use Rattle.rules.specs.Rules as rule
use Rattle.walk.specs.Walk.{Visit, two, element, elements, rest, typeck_expr_list, index_of, typeck_local, typeck_stmt, stmt, stmts, tail, typeck_block, block_of, typeck_else, arg, args, verify_arguments_for_call, call_of, verify_arguments_for_method_call, meth_call_of, typeck_return}
use Rattle.resolve.specs.Resolve.{bound_of, end_by, end_from, param_type_lem, param, params, end_of, drawn_as, open_type, variable_type, settled, resolve_variable, resolve_array, resolve_element, resolve_shape, resolve_type_variable, final_type, resolve_node, resolve_nodes}
use Rattle.bounds.specs.Refers.{TypeBy, MaybeLower, ItemsLower, LocalLower, BlockLower, Refers}
use Rattle.bounds.specs.Confined.{Maybe, Numbers, Parts, IsConfined, Confined, Any, Known, Callable, Called, as_arr_lem, declared_known, then_confined, done_confined, set_node_type_confined, set_final_confined, node_type_confined, shape_of_confined, array_of_confined, each_confined, equate_for_confined, equate_on_confined, error_then, empty_list_confined, returned_confined, let_without_init_confined, let_with_init_confined, amounts_confined, argument_confined}
use Rattle.type_table.specs.declared.NodeId.{NodeId}
use Rattle.type_table.specs.declared.TypeId.{TypeId}

-- ── the rules that type other nodes, where E types each node by such a program ──

module _ {N : Counts} {W : Numbers} {b : Body} (K : Known N b W) (R : Refers N b) (E : Visit) (visit : (y : ℕ) → y < N.nodes → Confined N W W.type (E y)) where
  -- two children
  pub two_confined : (l r : ℕ) → l < N.nodes → r < N.nodes → Confined N W (λ t. W.type t.0 × W.type t.1) (two b E l r)
  unfolding two
  two_confined l r hl hr = then_confined _ (visit l hl) (λ x u. then_confined _ (visit r hr) (λ y v. done_confined _ (u, v)))

  -- a list
  pub list_confined : (n : ℕ) (t : Items) → n < N.nodes → ItemsLower N b.cells t → Confined N W W.type (typeck_expr_list b E n t)
  unfolding typeck_expr_list rest elements element rule.element rule.list_of
  list_confined n t h I = by (eqb t.count 0) refl
    where
      full : 0 < t.count → Confined N W W.type (◌>>=◌ (E (item b.cells t 0)) (λ x. rest b E n t x))
      full l =
          then_confined _ (visit _ (I 0 l))
          (λ x u. then_confined _ (each_confined 1 (t.count - 1) _ (λ i k. then_confined _ (visit _ (I i (omega arith))) (λ y v. equate_on_confined K n x y (rule.mismatch error·K.TypeMismatch (rule.at (item b.cells t i)) x y 0) h u v refl refl))) (λ z q. array_of_confined x u))

      by : (q : Bool) → eqb t.count 0 ≡ q → Confined N W W.type (cond q (rule.empty_list n) (◌>>=◌ (E (item b.cells t 0)) (λ x. rest b E n t x)))
      by true p = empty_list_confined K n h
      by false p = full (omega (arith, eqb-false t.count 0 p))

  -- an index of an array
  pub index_of_confined : (n i : ℕ) (o : Option ℕ) → n < N.nodes → i < N.nodes → Maybe W.type o → Confined N W W.type (index_of b E n i o)
  unfolding rule.index index_of
  index_of_confined n i none h hi u = done_confined _ (K.type 12 (omega arith))
  index_of_confined n i (some e) h hi u = then_confined _ (visit i hi) (λ y v. equate_for_confined K n _ y (rule.mismatch error·K.TypeMismatch (rule.at n) rule.u64_type y 0) e h (K.type 5 (omega arith)) v u refl refl)

  -- a let
  local_confined : (n : ℕ) (t : Option·R TypeId) (e : Option·R NodeId) → n < N.nodes → TypeBy W.type t → MaybeLower N.nodes e → Confined N W Any (typeck_local b E n t e)
  unfolding typeck_local
  local_confined n t None h u m = let_without_init_confined K n t h u
  local_confined n t (Some e) h u m = then_confined _ (visit e.0 m) (λ y v. let_with_init_confined K n t y h u v)

  -- a statement
  stmt_confined : (n : ℕ) (l : Option·R (Option·R TypeId × Option·R NodeId)) → n < N.nodes → LocalLower N b.cells l → Confined N W Any (typeck_stmt b E n l)
  unfolding typeck_stmt
  stmt_confined n (Some (t, e)) h m = local_confined n t e h (declared_known K t m.0) m.1
  stmt_confined n None h m = then_confined _ (visit n h) (λ u q. done_confined tt tt)

  -- the tail of a block
  tail_confined : (e : Option·R NodeId) → MaybeLower N.nodes e → Confined N W W.type (tail b E e)
  unfolding tail
  tail_confined None m = done_confined _ (K.type 0 (omega arith))
  tail_confined (Some e) m = visit e.0 m

  -- a block
  pub block_confined : (e : Option·R NodeId) (t : Items) → MaybeLower N.nodes e → ItemsLower N b.cells t → Confined N W W.type (typeck_block b E e t)
  unfolding typeck_block stmts stmt
  block_confined e t m I =
      then_confined _
      (each_confined 0 t.count _
      (λ i l. let k : item b.cells t i < N.nodes = I i (omega arith) in stmt_confined _ (let_at b.rows b.cells (item b.cells t i)) k (R.lets _ k)))
      (λ u q. tail_confined e m)

  -- BLOCK
  pub block_of_confined : (k : Option·R (Option·R NodeId × Items)) → BlockLower N b.cells k → Confined N W W.type (block_of b E k)
  block_of_confined (Some (e, t)) m = block_confined e t m.0 m.1
  block_of_confined None m = done_confined _ (K.type 0 (omega arith))

  -- what stands after else
  pub else_confined : (n x : ℕ) (e : Option·R NodeId) → n < N.nodes → W.type x → MaybeLower N.nodes e → Confined N W W.type (typeck_else b E n x e)
  unfolding rule.branches typeck_else
  else_confined n x None h u m = done_confined _ (K.type 0 (omega arith))
  else_confined n x (Some e) h u m = then_confined _ (visit e.0 m) (λ y v. equate_for_confined K n x y (rule.mismatch error·K.TypeMismatch (rule.at e.0) x y 0) x h u v u refl refl)

  -- the arguments
  args_confined : (n : ℕ) (p : Span) (f : Callee) (t : Items) (from : ℕ) → n < N.nodes → Callable W f → ItemsLower N b.cells t → Confined N W Any (args b E n p f t from)
  unfolding args arg
  args_confined n p f t from h c I = each_confined 0 t.count _ (λ i l. then_confined _ (visit _ (I i (omega arith))) (λ y v. argument_confined K R n p f _ y h c v))

  -- a callee and its arguments
  pub call_of_confined : (n : ℕ) (t : Items) (o : Option (Callee × ℕ)) → n < N.nodes → ItemsLower N b.cells t → Called W o → Confined N W W.type (call_of b E n t o)
  unfolding verify_arguments_for_call
  call_of_confined n t none h I c = done_confined _ (K.type 12 (omega arith))
  call_of_confined n t (some f) h I c =
      then_confined _ (amounts_confined K R _ f.0 t.count) (λ x q. then_confined _ (args_confined n _ f.0 t 0 h c.0 I) (λ y z. done_confined _ c.1))

  -- a method and its arguments
  pub meth_call_of_confined : (n x : ℕ) (t : Items) (o : Option ℕ) → n < N.nodes → W.type x → ItemsLower N b.cells t → Maybe W.def o → Confined N W W.type (meth_call_of b E n x t o)
  unfolding verify_arguments_for_method_call
  meth_call_of_confined n x t none h u I c = done_confined _ (K.type 12 (omega arith))
  meth_call_of_confined n x t (some d) h u I c =
      then_confined _ (amounts_confined K R _ _ _)
      (λ y q. then_confined _ (argument_confined K R n _ (callee.Def (record { 0 = d })) 0 x h c u)
      (λ z r. then_confined _ (args_confined n _ (callee.Def (record { 0 = d })) t 1 h c I) (λ a s. done_confined _ (K.outputs d c))))

  -- a `return`
  pub return_confined : (n : ℕ) (e : Option·R NodeId) → n < N.nodes → MaybeLower N.nodes e → Confined N W W.type (typeck_return b E n e)
  unfolding typeck_return
  return_confined n None h m = returned_confined K n n _ h (K.type 0 (omega arith))
  return_confined n (Some e) h m = then_confined _ (visit e.0 m) (λ y v. returned_confined K n e.0 y h v)

-- ── around the walk ──

module _ {N : Counts} {W : Numbers} {b : Body} (K : Known N b W) where
  -- a declared type
  param_type_confined : (n : ℕ) (t : Option·R TypeId) → TypeBy W.type t → Confined N W Any (param_type_lem n t)
  param_type_confined n (Some t) u = set_node_type_confined n t.0 u
  param_type_confined n None u = done_confined tt tt

  -- each P of `fn`
  pub params_confined : Refers N b → (t : Items) → ItemsLower N b.cells t → Confined N W Any (params b.rows b.cells t)
  unfolding params param
  params_confined R t I =
      each_confined 0 t.count _
      (λ i l. let d : (Option·R TypeId) = declared_at b.rows b.cells (item b.cells t i) in param_type_confined _ d (declared_known K d (R.params (item b.cells t i) (I i (omega arith)))))

  -- the end of a row's bindings, of any number of steps
  end_known : (ts : List Shape) (c : List (Option ℕ)) → ((v : ℕ) → Maybe W.type (bound c v)) → (k x : ℕ) → W.type x → W.type (end_from ts c k x)
  end_known ts c h zero x u = K.type 12 (omega arith)
  end_known ts c h (suc k) x u = by (bound_of c (as_var (row ts x))) (at (as_var (row ts x))) (end_known ts c h k)
    where
      at : (o : Option ℕ) → Maybe W.type (bound_of c o)
      at none = tt
      at (some v) = h v

      by : {f : ℕ → ℕ} (o : Option ℕ) → Maybe W.type o → ((y : ℕ) → W.type y → W.type (f y)) → W.type (end_by f x o)
      by none q again = u
      by (some y) q again = again y q

  -- the end of a row's bindings
  end_of_confined : (x : ℕ) → W.type x → Confined N W W.type (end_of x)
  unfolding IsConfined end_of
  end_of_confined x u = record { by = λ s k. end_known s.rows s.mem.binds k.binds (suc (length s.rows)) x u }

  -- a variable's kind and origin
  drawn_as_confined : (v : ℕ) → Confined N W Any (drawn_as v)
  unfolding IsConfined drawn_as
  drawn_as_confined v = record { by = λ s k. tt }

  -- an open variable
  open_type_confined : (o : Option ℕ) (k : Kind) → Confined N W W.type (open_type o k)
  open_type_confined o integer = done_confined _ (K.type 9 (omega arith))
  open_type_confined o floating = done_confined _ (K.type 11 (omega arith))
  open_type_confined o regular = error_then _ _ _ _ _ (K.type 12 (omega arith))

  -- the end of bindings
  settled_confined : (y : ℕ) (o : Option ℕ) → W.type y → Confined N W W.type (settled y o)
  unfolding variable_type
  settled_confined y none u = done_confined y u
  settled_confined y (some v) u = then_confined _ (drawn_as_confined v) (λ k q. open_type_confined k.1 k.0)

  -- a variable
  pub resolve_variable_confined : (x : ℕ) → W.type x → Confined N W W.type (resolve_variable x)
  unfolding resolve_variable
  resolve_variable_confined x u = then_confined _ (end_of_confined x u) (λ y v. then_confined _ (shape_of_confined y) (λ s q. settled_confined y (as_var s) v))

  -- an array of a variable
  resolve_array_confined : (x e : ℕ) (o : Option ℕ) → W.type x → W.type e → Confined N W W.type (resolve_array x e o)
  resolve_array_confined x e none u v = done_confined x u
  resolve_array_confined x e (some a) u v = then_confined _ (resolve_variable_confined e v) (λ y q. array_of_confined y q)

  -- an array
  resolve_element_confined : (x : ℕ) (o : Option ℕ) → W.type x → Maybe W.type o → Confined N W W.type (resolve_element x o)
  resolve_element_confined x none u v = done_confined x u
  resolve_element_confined x (some e) u v = then_confined _ (shape_of_confined e) (λ s q. resolve_array_confined x e (as_var s) u v)

  -- a type
  resolve_shape_confined : (x : ℕ) (s : Shape) (o : Option ℕ) → W.type x → Parts W s → Confined N W W.type (resolve_shape x s o)
  resolve_shape_confined x s none u p = resolve_element_confined x (as_arr s) u (as_arr_lem W s p)
  resolve_shape_confined x s (some v) u p = resolve_variable_confined x u

  -- the final type of a node that has a type
  final_type_confined : (n : ℕ) (o : Option ℕ) → Maybe W.type o → Confined N W Any (final_type n o)
  unfolding resolve_type_variable
  final_type_confined n none u = done_confined tt tt
  final_type_confined n (some x) u = then_confined _ (then_confined _ (shape_of_confined x) (λ s p. resolve_shape_confined x s (as_var s) u p)) (λ y v. set_final_confined n y)

  -- the final types of k nodes
  pub resolve_nodes_confined : (k : ℕ) → Confined N W Any (resolve_nodes k)
  unfolding resolve_nodes resolve_node
  resolve_nodes_confined k = each_confined 0 k _ (λ i l. then_confined _ (node_type_confined i) (λ t u. final_type_confined i t u))

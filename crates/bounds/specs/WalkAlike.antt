-- The walk over a well-formed body meets no default: with any other answers in their place each expression is typed alike. Assumes nothing.
use Rattle.std.specs.Prelude.{◌≡◌, Bool, false, cond, not, eqb, length, get_or, set, None, Option as Option·R, Some}
use Rattle.std.proofs.Math.Path.{refl, ap}
use Rattle.std.proofs.Common.{sym, ◌∙◌, arith, add-zero, eqb-true, get_or-set_same}
use mathlib.Core.List.{List, [], ◌∷◌, map}
use Rattle.std.proofs.Math.Option.{Option, none, some}
use Rattle.std.proofs.Math.Bool.{true}
use Rattle.std.proofs.lemmas.Bool.{false≢true, eqb-false}
use Prim.Native.Nat.{ℕ, suc, zero, ◌+◌, ◌-◌, ◌<◌, ◌≤◌}
use Rattle.std.proofs.Math.Decide.{ℕ_discrete}
use Rattle.theory.specs.Rules.{lam, integer, floating}
use Rattle.theory.specs.Program.{clip, done, intern, read, drawn, written, run, ◌>>=◌, go_on, run_bind}
use Rattle.theory.specs.Basics.{All, clash}
use Rattle.type_table.specs.Memory.{pick}
use Rattle.forms.specs.Form.{forms, form_at, kind_at, key_node, Block as a_Block, Param as a-param, TypedParam as a-typed-param, Stmt as a-stmt, Body as a_Body}
use Rattle.refs.specs.declared.Counts.{Counts}
use Rattle.refs.specs.Refs.{nodes_at, form_block, form_param, form_in, first_in, levels_in, tag_in, value_in, refers_to, is_expr, stands}
use Rattle.nodes.specs.declared.Items.{Items}
use Rattle.nodes.specs.declared.Callee.{Callee}
use Rattle.nodes.specs.declared.Node.{Node}
use Rattle.nodes.specs.Nodes.{Body, field_in, item, items_of, maybe_node, node_of, node_at, field_of, declared_at, let_at, block_at, is_some}
use Rattle.record.specs.declared.Span.{Span}
use Rattle.record.specs.Own.{typed}
use Rattle.record.specs.Steps.{State, Walk, or_nil, change, set_node_type, new_infer_var, param_type, make_lambda, for_each}
use Rattle.rules.specs.Rules as rule
use Rattle.walk.specs.Walk.{Visit, two, typeck_expr_bin_op, typeck_assign, typeck_op_assign, typeck_expr_un_op, typeck_expr_field, element, elements, rest, typeck_expr_list, index_of, typeck_expr_index, typeck_local, typeck_stmt, stmt, stmts, tail, typeck_block, block_of, block_at_lem, typeck_else, typeck_branches, typeck_expr_if, typeck_loop, arg, args, verify_arguments_for_call, call_of, typeck_call, verify_arguments_for_method_call, meth_call_of, typeck_expr_meth_call, typeck_return, lambda_body, typeck_lambda, rule_of}
use Rattle.resolve.specs.Resolve.{body_with}
use Rattle.well_formed.specs.Good.{WellFormed, kind_in, behind}
use Rattle.well_formed.specs.UsedOnce.{child_in}
use Rattle.well_formed.specs.Weight.{node_good}
use Rattle.well_formed.proofs.Levels.{child_fewer}
use Rattle.bounds.specs.Adds.{Kept}
use Rattle.bounds.specs.Steps.{one_var, done_adds, refuse_adds, new_infer_var_adds, make_lambda_adds}
use Rattle.bounds.specs.Steps as steps
use Rattle.bounds.specs.Weights.{pick_by, is_node, is_optional, kind_by, first_child, items_at, first_field, Part, node_part, optional_part, item_part}
use Rattle.bounds.specs.Rules as rules
use Rattle.bounds.specs.Calls as calls
use Rattle.bounds.specs.Refers.{numbers_all}
use Rattle.bounds.specs.Alike.{Same, then_same, bind_same, Raws, raws_kept, Alike, leaf, leaf_by, both_same, bind_alike, each_alike}
use Rattle.bounds.specs.Defaults.{Defaults, or_other, other_block, other_if, other_loop, other_input, other_lambda, other_rule}
use Rattle.type_table.specs.declared.NodeId.{NodeId}
use Rattle.type_table.specs.declared.TypeId.{TypeId}

-- ── the params of a lambda have a RAW ──

-- a node that is typed has one
set_typed : (l : List (Option ℕ)) (n t : ℕ) → n < length l → is_some (get_or (set l n (some t)) n none) ≡ true
set_typed l n t h = rw (get_or-set_same l n (some t) none h)

-- a param is typed
param_typed : (n : ℕ) (t : Option·R TypeId) (s : State) → n < length s.own.raw → is_some (get_or (run (rule.lambda_param n t) s).1.own.raw n none) ≡ true
unfolding run ◌>>=◌ set_node_type change new_infer_var drawn written typed
param_typed n (Some t) s h = set_typed s.own.raw n t.0 h
param_typed n None s h = set_typed s.own.raw n (length s.rows) h

module _ (rows cells : List ℕ) (t : Items) where
  -- a param of a lambda
  abbrev turn : ℕ → Walk (Unit {0})
  turn = rule.lambda_param_at rows cells t

  -- k params from i on keep the RAW of any node
  turns_keep : (i k : ℕ) (s : State) → Kept s.own (run (for_each i k turn) s).1.own
  unfolding rule.lambda_param_at
  turns_keep i k s = ((steps.each_same one_var i k turn (λ j l. calls.lambda_param_adds (item cells t j) (declared_at rows cells (item cells t j)))).larger s).kept

  -- behind them each has one
  turns_typed : (i k : ℕ) (s : State) (x : Unit {0}) → (run (for_each i k turn) s).0 ≡ some x → ((j : ℕ) → j < i + k → item cells t j < length s.own.raw)
      → (j : ℕ) → i ≤ j → j < i + k → is_some (get_or (run (for_each i k turn) s).1.own.raw (item cells t j) none) ≡ true
  unfolding for_each rule.lambda_param_at
  turns_typed i zero s x e h j a b = absurd (omega arith)
  turns_typed i (suc k) s x e h j a b =
      rw (run_bind (turn i) (λ u. for_each (suc i) k turn) s)
      (by (run (turn i) s).0 refl (rw (run_bind (turn i) (λ u. for_each (suc i) k turn) s) at e)
      (λ z l. turns_typed (suc i) k (run (turn i) s).1 x z (λ c m. let p = first.places in omega (arith, h c (omega arith))) j l (omega arith)))
    where
      first : Kept s.own (run (turn i) s).1.own
      first = ((calls.lambda_param_adds (item cells t i) (declared_at rows cells (item cells t i))).larger s).kept

      later : Dec (i ≡ j) → (suc i ≤ j → is_some (get_or (run (for_each (suc i) k turn) (run (turn i) s).1).1.own.raw (item cells t j) none) ≡ true) → is_some (get_or (run (for_each (suc i) k turn) (run (turn i) s).1).1.own.raw (item cells t j) none) ≡ true
      later (yes q) again = (turns_keep (suc i) k (run (turn i) s).1).typed (item cells t j) (ap (λ (c : ℕ). is_some (get_or (run (turn i) s).1.own.raw (item cells t c) none)) (sym q) ∙ param_typed (item cells t i) (declared_at rows cells (item cells t i)) s (h i (omega arith)))
      later (no q) again = again (omega arith)

      by : (o : Option (Unit {0})) → (run (turn i) s).0 ≡ o → (go_on (run (turn i) s) (λ u s'. run (for_each (suc i) k turn) s')).0 ≡ some x
          → ((run (for_each (suc i) k turn) (run (turn i) s).1).0 ≡ some x → suc i ≤ j → is_some (get_or (run (for_each (suc i) k turn) (run (turn i) s).1).1.own.raw (item cells t j) none) ≡ true)
          → is_some (get_or (go_on (run (turn i) s) (λ u s'. run (for_each (suc i) k turn) s')).1.own.raw (item cells t j) none) ≡ true
      by none q z again = let y : none ≡ some x = rw q at z in clash (cc)
      by (some u) q z again = rw q (later (ℕ_discrete i j) (again (rw q at z)))

-- ── the rules, where E and F type each child of a node alike ──

-- by whether there is one
abbrev AlikeBy : ℕ → Visit → Visit → Option·R NodeId → Type 0
AlikeBy m E F None = Unit {0}
AlikeBy m E F (Some e) = Alike m (E e.0) (F e.0)

-- E and F type a node, if there is one, alike
record AlikeMaybe (m : ℕ) (E F : Visit) (e : Option·R NodeId) : Type 0 where
  by : AlikeBy m E F e

-- and so each item
abbrev AlikeItems : ℕ → Visit → Visit → List ℕ → Items → Type 0
AlikeItems m E F cells t = (i : ℕ) → i < t.count → Alike m (E (item cells t i)) (F (item cells t i))

module _ {m : ℕ} (b : Body) (E F : Visit) where
  -- two children
  two_alike : {l r : ℕ} → Alike m (E l) (F l) → Alike m (E r) (F r) → Alike m (two b E l r) (two b F l r)
  unfolding two
  two_alike L R = bind_alike L (λ x. bind_alike R (λ y. leaf (done_adds _)))

  -- a list
  list_alike : (n : ℕ) (t : Items) → AlikeItems m E F b.cells t → Alike m (typeck_expr_list b E n t) (typeck_expr_list b F n t)
  unfolding typeck_expr_list rest elements element
  list_alike n t T = by (eqb t.count 0) refl
    where
      full : 0 < t.count → Alike m (◌>>=◌ (E (item b.cells t 0)) (λ x. rest b E n t x)) (◌>>=◌ (F (item b.cells t 0)) (λ x. rest b F n t x))
      full l =
          bind_alike (T 0 l)
          (λ x. bind_alike (each_alike 1 (t.count - 1) _ _ (λ i k. bind_alike (T i (omega arith)) (λ y. leaf (rules.element_adds n _ x y)))) (λ u. leaf (rules.list_of_adds x)))

      by : (q : Bool) → eqb t.count 0 ≡ q
          → Alike m (cond q (rule.empty_list n) (◌>>=◌ (E (item b.cells t 0)) (λ x. rest b E n t x))) (cond q (rule.empty_list n) (◌>>=◌ (F (item b.cells t 0)) (λ x. rest b F n t x)))
      by true p = leaf (rules.empty_list_adds n)
      by false p = full (omega (arith, eqb-false t.count 0 p))

  -- an index of an array
  index_of_alike : {i : ℕ} (n : ℕ) → Alike m (E i) (F i) → (o : Option ℕ) → Alike m (index_of b E n i o) (index_of b F n i o)
  unfolding index_of
  index_of_alike n T none = leaf (done_adds _)
  index_of_alike n T (some e) = bind_alike T (λ y. leaf (rules.index_adds n e y))

  -- a let
  local_alike : (n : ℕ) (t : Option·R TypeId) (e : Option·R NodeId) → AlikeMaybe m E F e → Alike m (typeck_local b E n t e) (typeck_local b F n t e)
  unfolding typeck_local
  local_alike n t None T = leaf (rules.let_without_init_adds n t)
  local_alike n t (Some e) T = bind_alike T.by (λ y. leaf (rules.let_with_init_adds n t y))

  -- the tail of a block
  tail_alike : (e : Option·R NodeId) → AlikeMaybe m E F e → Alike m (tail b E e) (tail b F e)
  unfolding tail
  tail_alike None T = leaf (done_adds _)
  tail_alike (Some e) T = T.by

  -- a block
  block_alike : (e : Option·R NodeId) (t : Items) → AlikeMaybe m E F e → ((i : ℕ) → i < t.count → Alike m (stmt b E t i) (stmt b F t i)) → Alike m (typeck_block b E e t) (typeck_block b F e t)
  unfolding typeck_block stmts
  block_alike e t T S = bind_alike (each_alike 0 t.count _ _ (λ i l. S i (omega arith))) (λ x. tail_alike e T)

  -- what stands after else
  else_alike : (n x : ℕ) (e : Option·R NodeId) → AlikeMaybe m E F e → Alike m (typeck_else b E n x e) (typeck_else b F n x e)
  unfolding typeck_else
  else_alike n x None T = leaf (done_adds _)
  else_alike n x (Some e) T = bind_alike T.by (λ y. leaf (rules.branches_adds n e.0 x y))

  -- a `return`
  return_alike : (n : ℕ) (e : Option·R NodeId) → AlikeMaybe m E F e → Alike m (typeck_return b E n e) (typeck_return b F n e)
  unfolding typeck_return
  return_alike n None T = leaf (rules.returned_adds n n _)
  return_alike n (Some e) T = bind_alike T.by (λ y. leaf (rules.returned_adds n e.0 y))

  module _ (n : ℕ) (t : Items) (T : AlikeItems m E F b.cells t) where
    -- the arguments
    args_alike : (p : Span) (f : Callee) (from : ℕ) → Alike m (args b E n p f t from) (args b F n p f t from)
    unfolding args arg
    args_alike p f from = each_alike 0 t.count _ _ (λ i l. bind_alike (T i (omega arith)) (λ y. leaf (calls.argument_adds b.rows b.cells n p f (from + i) y)))

    -- a callee and its arguments
    call_of_alike : (o : Option (Callee × ℕ)) → Alike m (call_of b E n t o) (call_of b F n t o)
    unfolding verify_arguments_for_call
    call_of_alike none = leaf (done_adds _)
    call_of_alike (some f) = bind_alike (leaf (calls.amounts_adds b.rows b.cells _ f.0 t.count)) (λ x. bind_alike (args_alike (rule.at n) f.0 0) (λ y. leaf (done_adds _)))

    -- a method and its arguments
    meth_call_of_alike : (x : ℕ) (o : Option ℕ) → Alike m (meth_call_of b E n x t o) (meth_call_of b F n x t o)
    unfolding verify_arguments_for_method_call
    meth_call_of_alike x none = leaf (done_adds _)
    meth_call_of_alike x (some d) =
        bind_alike (leaf (calls.amounts_adds b.rows b.cells _ _ (t.count + 1)))
        (λ y. bind_alike (leaf (calls.argument_adds b.rows b.cells n _ _ 0 x)) (λ z. bind_alike (args_alike _ _ 1) (λ u. leaf (done_adds _))))

-- ── the rules that have a default ──

module _ (D : Defaults) (b : Body) (F : Visit) where
  -- params that have a RAW give the same inputs
  inputs_same : (s : State) (l : List ℕ) → All (λ p. is_some (get_or s.own.raw p none) ≡ true) l → map (param_type s) l ≡ map (other_input D b F s) l
  unfolding param_type
  inputs_same s [] h = refl
  inputs_same s (p ∷ l) h = let e = inputs_same s l h.1 in rw e (ap (λ (x : ℕ). x ∷ map (other_input D b F s) l) (by (get_or s.own.raw p none) h.0))
    where
      by : (o : Option ℕ) → is_some o ≡ true → clip (length s.rows) (or_nil o) ≡ clip (length s.rows) (or_other D.param o)
      by none q = absurd (false≢true q)
      by (some x) q = refl

module _ {m : ℕ} (D : Defaults) (b : Body) (F : Visit) where
  -- so the type of a lambda is made alike
  lambda_made : (ps qs : List ℕ) (n x : ℕ) → Same (λ s. Raws m ps s × Raws m qs s) (make_lambda n x qs) (read (λ s. intern (lam n x (map (other_input D b F s) qs)) done))
  unfolding run make_lambda
  lambda_made ps qs n x = record {
    by = λ s r. ap (λ (l : List ℕ). run {A = ℕ} (intern (lam n x l) done) s) (inputs_same D b F s qs r.1.typed);
    holds = λ s r. let k = ((make_lambda_adds n x qs).larger s).kept in (raws_kept k r.0, raws_kept k r.1);
  }

module _ {m : ℕ} (b : Body) where
  -- behind the params of a lambda each has a RAW
  params_typed : (t : Items) → ((i : ℕ) → i < t.count → item b.cells t i < m) → (s : State) → m ≤ length s.own.raw → (x : Unit {0}) → (run (rule.lambda_params b.rows b.cells t) s).0 ≡ some x
      → All (λ p. is_some (get_or (run (rule.lambda_params b.rows b.cells t) s).1.own.raw p none) ≡ true) (items_of b.cells t)
  unfolding rule.lambda_params item
  params_typed t below s l x q =
      numbers_all (λ p. is_some (get_or (run (for_each 0 t.count (turn b.rows b.cells t)) s).1.own.raw p none) ≡ true) b.cells (t.first + t.from) t.count
      (λ c k. turns_typed b.rows b.cells t 0 t.count s x q (λ j h. omega (arith, below j (omega arith))) c (omega arith) (omega arith))

module _ {m : ℕ} (D : Defaults) (b : Body) (E F : Visit) where
  -- an `if`
  if_alike : {a : ℕ} (n k : ℕ) (e : Option·R NodeId) → Alike m (E a) (F a) → Alike m (block_at_lem b E k) (other_block D b F k (block_at b.rows b.cells k)) → AlikeMaybe m E F e
      → Alike m (typeck_expr_if b E n a k e) (other_if D b F n a k e)
  unfolding typeck_expr_if typeck_branches other_if
  if_alike n k e C K T = bind_alike C (λ x. bind_alike (leaf (rules.condition_adds _ x)) (λ z. bind_alike K (λ y. else_alike b E F n y e T)))

  -- a loop
  loop_alike : (k : ℕ) → Alike m (block_at_lem b E k) (other_block D b F k (block_at b.rows b.cells k)) → Alike m (typeck_loop b E k) (other_loop D b F k)
  unfolding typeck_loop other_loop
  loop_alike k K = bind_alike K (λ x. leaf (done_adds _))

  -- a lambda
  lambda_alike : {e : ℕ} (n : ℕ) (o : Option·R TypeId) (t : Items) → Alike m (E e) (F e) → ((i : ℕ) → i < t.count → item b.cells t i < m) → Alike m (typeck_lambda b E n o e t) (other_lambda D b F n o e t)
  unfolding typeck_lambda lambda_body rule.lambda rule.lambda_params other_lambda
  lambda_alike {e} n o t T below = record {
    same = λ ps.
        then_same {J = λ s. Raws m ps s × Raws m (items_of b.cells t) s} ((leaf (calls.lambda_params_adds b.rows b.cells t)).same ps) (all_typed ps)
        (λ u. bind_same (both_same (leaf (calls.lambda_output_adds n o)) ps (items_of b.cells t))
        (λ x. bind_same (both_same T ps (items_of b.cells t))
        (λ y. bind_same (both_same (leaf (rules.equate_on_adds n x y _)) ps (items_of b.cells t)) (λ z. lambda_made D b F ps (items_of b.cells t) n x))))
        (λ s r. r.0);
  }
    where
      all_typed : (ps : List ℕ) (s : State) → Raws m ps s → (x : Unit {0}) → (run (rule.lambda_params b.rows b.cells t) s).0 ≡ some x
          → Raws m ps (run (rule.lambda_params b.rows b.cells t) s).1 × Raws m (items_of b.cells t) (run (rule.lambda_params b.rows b.cells t) s).1
      all_typed ps s r x q =
          let k : Raws m ps (run (rule.lambda_params b.rows b.cells t) s).1 = raws_kept ((calls.lambda_params_adds b.rows b.cells t).larger s).kept r in
          (k, record { places = k.places; typed = params_typed b t below s r.places x q })

-- ── what may stand in a field ──

-- a kind of field in which only an expression may stand
is_plain : ℕ → Bool
is_plain k = cond (eqb k a_Block) false (cond (eqb k a-param) false (cond (eqb k a-typed-param) false (cond (eqb k a-stmt) false (cond (eqb k a_Body) false true))))

-- so that is what stands there
plain_stands : (n : Counts) (k x : ℕ) (rows cells : List ℕ) → is_plain k ≡ true → stands n k x rows cells ≡ true → is_expr (form_in rows (nodes_at + x)) ≡ true
unfolding is_plain stands
plain_stands n k x rows cells = by (eqb k a_Block) (eqb k a-param) (eqb k a-typed-param) (eqb k a-stmt) (eqb k a_Body) _ _ _ _ _ _
  where
    by : (c d e f g p q r s t u : Bool) → cond c false (cond d false (cond e false (cond f false (cond g false true)))) ≡ true
        → cond c p (cond d q (cond e r (cond f s (cond g t u)))) ≡ true → u ≡ true
    by true d e f g p q r s t u h w = absurd (false≢true h)
    by false true e f g p q r s t u h w = absurd (false≢true h)
    by false false true f g p q r s t u h w = absurd (false≢true h)
    by false false false true g p q r s t u h w = absurd (false≢true h)
    by false false false false true p q r s t u h w = absurd (false≢true h)
    by false false false false false p q r s t u h w = w

-- in a field for a BLOCK a block
stands_block : (n : Counts) (k x : ℕ) (rows cells : List ℕ) → k ≡ a_Block → stands n k x rows cells ≡ true → form_in rows (nodes_at + x) ≡ 24
unfolding stands
stands_block n k x rows cells e h = eqb-true (form_in rows (nodes_at + x)) form_block (rw e at h)

-- in one for a statement no param
stands_stmt : (n : Counts) (k x : ℕ) (rows cells : List ℕ) → k ≡ a-stmt → stands n k x rows cells ≡ true → not (eqb (form_in rows (nodes_at + x)) form_param) ≡ true
unfolding stands
stands_stmt n k x rows cells e h = rw e at h

-- the statements of a block stand behind its first field
kind_stmt : (i : ℕ) → 1 ≤ i → kind_at (form_at 24) i ≡ a-stmt
unfolding form_at forms
kind_stmt i a = kind_by (λ t. t ≡ a-stmt) (form_at 24) i (λ z. absurd (omega arith)) (λ z. refl) refl refl

-- what is no param and no let is an expression
stmt_expr : (f : ℕ) → not (eqb f form_param) ≡ true → eqb f 25 ≡ false → is_expr f ≡ true
unfolding is_expr
stmt_expr f h z = rw z h

-- ── the nodes of a well-formed body ──

module _ (n : Counts) (rows cells : List ℕ) (w : WellFormed n rows cells) (D : Defaults) (k : ℕ) (E F : Visit)
    (visit : (y : ℕ) → y < n.nodes → levels_in rows (nodes_at + y) ≤ k → is_expr (form_in rows (nodes_at + y)) ≡ true → Alike n.nodes (E y) (F y)) where
  module _ (x : ℕ) (h : x < n.nodes) (l : levels_in rows (nodes_at + x) ≤ suc k) (f : ℕ) (e : form_in rows (nodes_at + x) ≡ f) where
    -- a child may stand where it does
    part_stands : {i y : ℕ} → Part n rows cells x i y → stands (behind n key_node x) (kind_at (form_at f) i) y rows cells ≡ true
    part_stands {i} {y} P =
        rw (← e)
        (ap (λ (z : ℕ). stands (behind n key_node x) (kind_in rows (nodes_at + x) i) z rows cells) (sym P.child.value) ∙ (((node_good n rows cells w x h).fields i P.child.there).child P.child.child).stands_there)

    -- a child that is an expression
    part_alike : {i y : ℕ} → Part n rows cells x i y → is_plain (kind_at (form_at f) i) ≡ true → Alike n.nodes (E y) (F y)
    part_alike {i} {y} P q = visit y P.lower (omega (arith, child_fewer n rows cells w x i y h P.child)) (plain_stands (behind n key_node x) (kind_at (form_at f) i) y rows cells q (part_stands P))

    -- one of the least number of fields
    node_alike : (i y : ℕ) → i < (form_at f).4 → is_node (kind_at (form_at f) i) ≡ true → is_plain (kind_at (form_at f) i) ≡ true → child_in rows cells (nodes_at + x) i ≡ y → Alike n.nodes (E y) (F y)
    node_alike i y b t q v = part_alike (node_part n rows cells w x h f e i y b t v) q

    -- one that may be missing
    maybe_alike : (i j : ℕ) → i < (form_at f).4 → is_optional (kind_at (form_at f) i) ≡ true → is_plain (kind_at (form_at f) i) ≡ true → first_in rows (nodes_at + x) + i ≡ j → AlikeMaybe n.nodes E F (maybe_node (field_in cells j))
    unfolding maybe_node
    maybe_alike i j b t p q =
        pick_by (λ (c : Option·R NodeId). AlikeMaybe n.nodes E F c) (eqb (tag_in cells j) 0) _ _
        (λ z. record { by = tt })
        (λ z. record { by = part_alike (optional_part n rows cells w x h f e i (value_in cells j) b t (rw q z) (ap (value_in cells) q)) p })

    -- the items behind the first a fields
    items_alike : (a : ℕ) → a ≤ (form_at f).4 → ((i : ℕ) → a ≤ i → is_node (kind_at (form_at f) i) ≡ true) → ((i : ℕ) → a ≤ i → is_plain (kind_at (form_at f) i) ≡ true) → AlikeItems n.nodes E F cells (items_at rows x a)
    items_alike a b t p j c = part_alike (item_part n rows cells w x h f e a b t j c) (p (a + j) (omega arith))

  -- a statement
  stmt_alike : (y : ℕ) → y < n.nodes → levels_in rows (nodes_at + y) ≤ k → not (eqb (form_in rows (nodes_at + y)) form_param) ≡ true
      → Alike n.nodes (typeck_stmt (body_with n rows cells) E y (let_at rows cells y)) (typeck_stmt (body_with n rows cells) F y (let_at rows cells y))
  unfolding let_at field_of form_at forms kind_at is_optional is_plain refers_to typeck_stmt
  stmt_alike y h l q =
      pick_by (λ (c : Option·R (Option·R TypeId × Option·R NodeId)). Alike n.nodes (typeck_stmt (body_with n rows cells) E y c) (typeck_stmt (body_with n rows cells) F y c)) (eqb (form_in rows (nodes_at + y)) 25) _ _
      (λ e. local_alike (body_with n rows cells) E F y _ _ (maybe_alike y h (omega arith) 25 (eqb-true _ 25 e) 1 _ (omega arith) refl refl refl))
      (λ z. bind_alike (visit y h l (stmt_expr _ q z)) (λ t. leaf (done_adds tt)))

  module _ (x : ℕ) (h : x < n.nodes) (l : levels_in rows (nodes_at + x) ≤ suc k) where
    -- a block
    node_block_alike : form_in rows (nodes_at + x) ≡ 24 → (j : ℕ) → first_in rows (nodes_at + x) + 0 ≡ j
        → Alike n.nodes (typeck_block (body_with n rows cells) E (maybe_node (field_in cells j)) (items_at rows x 1)) (typeck_block (body_with n rows cells) F (maybe_node (field_in cells j)) (items_at rows x 1))
    unfolding stmt form_at forms kind_at is_node is_optional is_plain refers_to
    node_block_alike e j q =
        block_alike (body_with n rows cells) E F _ (items_at rows x 1) (maybe_alike x h l 24 e 0 j (omega arith) refl refl q)
        (λ i b.
        let P = item_part n rows cells w x h 24 e 1 (omega arith) (λ c a. kind_by (λ t. is_node t ≡ true) (form_at 24) c (λ z. absurd (omega arith)) (λ z. refl) refl refl) i b in
        stmt_alike _ P.lower (omega (arith, child_fewer n rows cells w x _ _ h P.child)) (stands_stmt (behind n key_node x) (kind_at (form_at 24) (1 + i)) _ rows cells (kind_stmt (1 + i) (omega arith)) (part_stands x h l 24 e P)))

    -- BLOCK of an `if` or a loop
    block_at_alike : form_in rows (nodes_at + x) ≡ 24 → Alike n.nodes (block_at_lem (body_with n rows cells) E x) (other_block D (body_with n rows cells) F x (block_at rows cells x))
    unfolding block_at_lem block_at field_of
    block_at_alike e =
        pick_by (λ (c : Option·R (Option·R NodeId × Items)). Alike n.nodes (block_of (body_with n rows cells) E c) (other_block D (body_with n rows cells) F x c)) (eqb (form_in rows (nodes_at + x)) 24) _ _
        (λ q. node_block_alike e _ refl)
        (λ z. absurd (eqb-false _ 24 z e))

  module _ (x : ℕ) (h : x < n.nodes) (l : levels_in rows (nodes_at + x) ≤ suc k) where
    -- BLOCK in the field i of the node
    part_block_alike : (f : ℕ) → form_in rows (nodes_at + x) ≡ f → {i y : ℕ} → Part n rows cells x i y → kind_at (form_at f) i ≡ a_Block
        → Alike n.nodes (block_at_lem (body_with n rows cells) E y) (other_block D (body_with n rows cells) F y (block_at rows cells y))
    part_block_alike f e {i} {y} P q =
        block_at_alike y P.lower (omega (arith, child_fewer n rows cells w x i y h P.child)) (stands_block (behind n key_node x) (kind_at (form_at f) i) y rows cells q (part_stands x h l f e P))

    -- the body
    abbrev pub b : Body
    b = body_with n rows cells

    -- the rule of an expression of at most one level more
    pub rule_alike : is_expr (form_in rows (nodes_at + x)) ≡ true → Alike n.nodes (rule_of b E x (node_at rows cells x)) (other_rule D b F x (node_at rows cells x))
    unfolding node_at node_of form_at forms kind_at is_node is_optional is_plain refers_to is_expr typeck_expr_bin_op typeck_assign typeck_op_assign typeck_expr_un_op typeck_expr_field typeck_expr_index typeck_call typeck_expr_meth_call
    rule_alike expr =
        by 7 _ _ (λ e. leaf (done_adds _))
        (by 8 _ _ (λ e. leaf (new_infer_var_adds integer _))
        (by 9 _ _ (λ e. leaf (new_infer_var_adds floating _))
        (by 11 _ _ (λ e. bind_alike (two_alike b E F (child 11 e 1 (omega arith) refl refl) (child 11 e 2 (omega arith) refl refl)) (λ t. leaf (rules.bin_op_adds x _ _ _ t.0 t.1)))
        (by 12 _ _ (λ e. bind_alike (child 12 e 1 (omega arith) refl refl) (λ y. leaf (rules.un_op_adds _ _ y)))
        (by 13 _ _ (λ e. bind_alike (first 13 e (omega arith) refl refl) (λ y. leaf (calls.field_adds rows cells _ y _)))
        (by 14 _ _ (λ e. list_alike b E F x _ (items_alike x h l 14 e 0 (omega arith) (λ i a. kind_by (λ t. is_node t ≡ true) (form_at 14) i (λ z. refl) (λ z. refl) refl refl) (λ i a. kind_by (λ t. is_plain t ≡ true) (form_at 14) i (λ z. refl) (λ z. refl) refl refl)))
        (by 15 _ _
        (λ e. bind_alike (first 15 e (omega arith) refl refl)
        (λ y. bind_alike (leaf (rules.element_of_adds x y)) (λ o. index_of_alike b E F x (child 15 e 1 (omega arith) refl refl) o)))
        (by 16 _ _ (λ e. bind_alike (two_alike b E F (first 16 e (omega arith) refl refl) (child 16 e 1 (omega arith) refl refl)) (λ t. leaf (rules.assign_adds x _ _ t.0 t.1)))
        (by 17 _ _ (λ e. bind_alike (two_alike b E F (first 17 e (omega arith) refl refl) (child 17 e 1 (omega arith) refl refl)) (λ t. leaf (rules.op_assign_adds x t.0 t.1)))
        (by 18 _ _
        (λ e. if_alike D b E F x _ _ (first 18 e (omega arith) refl refl) (part_block_alike 18 e (node_part n rows cells w x h 18 e 1 _ (omega arith) refl refl) refl)
        (maybe_alike x h l 18 e 2 _ (omega arith) refl refl refl))
        (by 19 _ _ (λ e. loop_alike D b E F _ (part_block_alike 19 e (node_part n rows cells w x h 19 e 0 _ (omega arith) refl (first_field rows cells x)) refl))
        (by 20 _ _ (λ e. leaf (done_adds _))
        (by 21 _ _
        (λ e. bind_alike (first 21 e (omega arith) refl refl)
        (λ y. bind_alike (leaf (calls.callee_of_adds rows cells x y))
        (call_of_alike b E F x _ (items_alike x h l 21 e 1 (omega arith) (λ i a. kind_by (λ t. is_node t ≡ true) (form_at 21) i (λ z. refl) (λ z. refl) refl refl) (λ i a. kind_by (λ t. is_plain t ≡ true) (form_at 21) i (λ z. refl) (λ z. refl) refl refl)))))
        (by 22 _ _
        (λ e. bind_alike (first 22 e (omega arith) refl refl)
        (λ y. bind_alike (leaf_by (calls.method_of_adds b x _ y _))
        (meth_call_of_alike b E F x _
        (items_alike x h l 22 e 2 (omega arith) (λ i a. kind_by (λ t. is_node t ≡ true) (form_at 22) i (λ z. absurd (omega arith)) (λ z. absurd (omega arith)) refl refl) (λ i a. kind_by (λ t. is_plain t ≡ true) (form_at 22) i (λ z. absurd (omega arith)) (λ z. absurd (omega arith)) refl refl)) y)))
        (by 23 _ _ (λ e. return_alike b E F x _ (maybe_alike x h l 23 e 0 _ (omega arith) refl refl (add-zero _)))
        (by 24 _ _ (λ e. node_block_alike x h l e _ (add-zero _))
        (by 25 _ _ (λ e. absurd (false≢true (rw e at expr)))
        (by 26 _ _ (λ e. absurd (false≢true (rw e at expr)))
        (by 27 _ _
        (λ e. lambda_alike D b E F x _ (items_at rows x 2) (child 27 e 1 (omega arith) refl refl)
        (λ i c. (item_part n rows cells w x h 27 e 2 (omega arith) (λ j a. kind_by (λ t. is_node t ≡ true) (form_at 27) j (λ z. absurd (omega arith)) (λ z. absurd (omega arith)) refl refl) i c).lower))
        (by 28 _ _ (λ e. leaf (calls.path_adds b x _ _ _))
        (leaf (refuse_adds 10 x))))))))))))))))))))))
      where
        by : (f : ℕ) (p q : Node) → (form_in rows (nodes_at + x) ≡ f → Alike n.nodes (rule_of b E x p) (other_rule D b F x p)) → Alike n.nodes (rule_of b E x q) (other_rule D b F x q)
            → Alike n.nodes (rule_of b E x (pick (eqb (form_in rows (nodes_at + x)) f) p q)) (other_rule D b F x (pick (eqb (form_in rows (nodes_at + x)) f) p q))
        by f p q P Q = pick_by (λ (c : Node). Alike n.nodes (rule_of b E x c) (other_rule D b F x c)) (eqb (form_in rows (nodes_at + x)) f) p q (λ e. P (eqb-true _ f e)) (λ z. Q)

        child : (f : ℕ) → form_in rows (nodes_at + x) ≡ f → (i : ℕ) → i < (form_at f).4 → is_node (kind_at (form_at f) i) ≡ true → is_plain (kind_at (form_at f) i) ≡ true → Alike n.nodes (E (child_in rows cells (nodes_at + x) i)) (F (child_in rows cells (nodes_at + x) i))
        child f e i a t q = node_alike x h l f e i _ a t q refl

        first : (f : ℕ) → form_in rows (nodes_at + x) ≡ f → 0 < (form_at f).4 → is_node (kind_at (form_at f) 0) ≡ true → is_plain (kind_at (form_at f) 0) ≡ true → Alike n.nodes (E (first_child rows cells x)) (F (first_child rows cells x))
        first f e a t q = node_alike x h l f e 0 _ a t q (first_field rows cells x)

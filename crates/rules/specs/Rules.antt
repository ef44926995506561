-- The typing rules, as far as they type no other node: what a rule does once its children have their types. Definitions alone.
use Rattle.std.specs.Prelude.{List, cond, ℕ, ◌-◌, length, eqb, ltb, leb, None, Option as Option·R, Some}
use Rattle.std.proofs.Math.Option.{Option, none, some}
use Rattle.theory.specs.Rules.{Base, bool, nil, float, double, uint, int, inst, Shape, base, var, arr, ref, fn, fun, lam, err, div, regular, as_var, head, error_head}
use Rattle.theory.specs.Program.{done, refuse, ◌>>=◌}
use Rattle.type_table.specs.declared.DefId.{DefId}
use Rattle.type_table.specs.declared.TypeId.{TypeId}
use Rattle.nodes.specs.declared.Items.{Items}
use Rattle.nodes.specs.declared.Res.{Res}
use Rattle.nodes.specs.declared.Res.TheVariants as res
use Rattle.nodes.specs.declared.BinOp.{BinOp}
use Rattle.nodes.specs.declared.BinOp.TheVariants as bin
use Rattle.nodes.specs.declared.UnOp.{UnOp}
use Rattle.nodes.specs.declared.UnOp.TheVariants as un
use Rattle.nodes.specs.declared.Callee.{Callee}
use Rattle.nodes.specs.declared.Callee.TheVariants as callee
use Rattle.nodes.specs.Nodes.{Body, item, items_of, declared_at, output_of, inputs_of, nth, field_type, as_arr, method, is_partly_failed, segment_name, segment_res}
use Rattle.record.specs.declared.Extra.TheVariants as extra
use Rattle.record.specs.declared.ErrorKind.{ErrorKind}
use Rattle.record.specs.declared.ErrorKind.TheVariants as error·K
use Rattle.record.specs.declared.Span.{Span}
use Rattle.record.specs.declared.Span.TheVariants as span
use Rattle.record.specs.declared.TypingError.{TypingError}
use Rattle.record.specs.Steps.{Walk, Step, set_node_type, set_extra, node_type_lem, shape_of_lem, all_types, output, drawn_by, new_infer_var, array_of, ref_to_lem, fn_def_lem, instance, make_lambda, mark_var, error, equation, for_each}

-- ── the fields of `Types` that rules name ──

-- nil
abbrev pub nil_type : ℕ
nil_type = 0

-- bool
abbrev pub bool_type : ℕ
bool_type = 1

-- u64
abbrev pub u64_type : ℕ
u64_type = 5

-- err
abbrev pub err_type : ℕ
err_type = 12

-- diverges
abbrev pub diverges_type : ℕ
diverges_type = 13

-- ── errors ──

-- the span of a node
abbrev pub at : ℕ → Span
at n = span.Node (record { 0 = n })

-- an error that no equation raised
abbrev pub own_error : ErrorKind → Span → ℕ → ℕ → TypingError
own_error k p x y = record { kind = k; cause = 0; at = p; second = None; a = x; b = y; c = 0 }

-- the error of an equation of x and y; i is the position of an argument
abbrev pub mismatch : ErrorKind → Span → ℕ → ℕ → ℕ → TypingError
mismatch k p x y i = record { kind = k; cause = 0; at = p; second = None; a = x; b = y; c = i }

-- the same, between two nodes
abbrev pub between : ErrorKind → ℕ → ℕ → ℕ → ℕ → TypingError
between k p q x y = record { kind = k; cause = 0; at = at p; second = Some (record { 0 = q }); a = x; b = y; c = 0 }

-- an equation in the rule of the node n, after which the rule gives the type t
unfoldable pub equate_for : ℕ → ℕ → ℕ → TypingError → ℕ → Walk ℕ
equate_for n x y e t = do
  _ ← equation n x y e
  done t

-- an equation after which the rule goes on
unfoldable pub equate_on : ℕ → ℕ → ℕ → TypingError → Step
equate_on n x y e = do
  _ ← equation n x y e
  done tt

-- ── operators ──

-- the type of an operation: b gives Bool, c and a that of L
abbrev pub bin_type : BinOp → ℕ → ℕ
bin_type bin.Boolean x = bool_type
bin_type bin.Ordering x = x
bin_type bin.Other x = x

-- `typeck_expr_bin_op`, of operands l and r of the types x and y
unfoldable pub bin_op_lem : ℕ → BinOp → ℕ → ℕ → ℕ → ℕ → Walk ℕ
bin_op_lem n o l r x y = do
  met ← equation n x y (between error·K.NoBinaryOp l r x y)
  done (cond met (bin_type o x) err_type)

-- no operator for the operand e, of the type x
unfoldable pub no_unary_op : ℕ → ℕ → Walk ℕ
no_unary_op e x = do
  _ ← error (own_error error·K.NoUnaryOp (at e) x 0)
  done err_type

-- what a reference is made of
abbrev pub as_ref : Shape → Option ℕ
as_ref (base b) = none
as_ref (var v) = none
as_ref (arr e) = none
as_ref (ref e) = some e
as_ref (fn d) = none
as_ref (fun s o i) = none
as_ref (lam n o i) = none
as_ref err = none
as_ref div = none

-- d: the type behind a reference
abbrev pub deref : ℕ → ℕ → Option ℕ → Walk ℕ
deref e x none = no_unary_op e x
deref e x (some y) = done y

-- n: a variable is marked, bound or not
abbrev pub negate_var : ℕ → ℕ → Option ℕ → Walk ℕ
negate_var e x none = no_unary_op e x
negate_var e x (some v) = do
  _ ← mark_var v
  done x

-- n: Int, or a variable
unfoldable pub negation : ℕ → ℕ → Shape → Walk ℕ
negation e x s = cond (eqb (head s) 2) (done x) (negate_var e x (as_var s))

-- t: Bool, Uint and Int, the first three heads
unfoldable pub logical_not : ℕ → ℕ → Shape → Walk ℕ
logical_not e x s = cond (leb (head s) 2) (done x) (no_unary_op e x)

-- `typeck_expr_un_op`, of the operand e of the type x
unfoldable pub un_op_lem : UnOp → ℕ → ℕ → Walk ℕ
un_op_lem un.Deref e x = do
  s ← shape_of_lem x
  deref e x (as_ref s)
un_op_lem un.Address e x = ref_to_lem x
un_op_lem un.Negation e x = do
  s ← shape_of_lem x
  negation e x s
un_op_lem un.Not e x = do
  s ← shape_of_lem x
  logical_not e x s

-- `ExprKind::Assign`, of a variable v of the type x and a value e of the type y
unfoldable pub assign : ℕ → ℕ → ℕ → ℕ → ℕ → Walk ℕ
assign n v e x y = equate_for n x y (between error·K.TypeMismatch v e x y) nil_type

-- `ExprKind::AssignWithOp`: its error spans the node itself
unfoldable pub op_assign : ℕ → ℕ → ℕ → Walk ℕ
op_assign n x y = equate_for n x y (mismatch error·K.NoBinaryOp (at n) x y 0) nil_type

-- ── fields, lists, indices ──

-- the number of an instance
abbrev pub as_inst_base : Base → Option ℕ
as_inst_base bool = none
as_inst_base nil = none
as_inst_base float = none
as_inst_base double = none
as_inst_base (uint w) = none
as_inst_base (int w) = none
as_inst_base (inst k) = some k

-- the instance that a type is
abbrev pub as_inst : Shape → Option ℕ
as_inst (base b) = as_inst_base b
as_inst (var v) = none
as_inst (arr e) = none
as_inst (ref e) = none
as_inst (fn d) = none
as_inst (fun s o i) = none
as_inst (lam n o i) = none
as_inst err = none
as_inst div = none

-- the type of a field, or that there is none of the name
abbrev pub field_of : ℕ → ℕ → ℕ → Option·R TypeId → Walk ℕ
field_of e x name (Some t) = done t.0
field_of e x name None = do
  _ ← error (own_error error·K.NoField (at e) x name)
  done err_type

-- a source that is no instance: err, or an error
unfoldable pub no_instance : ℕ → ℕ → Shape → Walk ℕ
no_instance e x s = cond (eqb (head s) error_head) (done err_type) (do
  _ ← error (own_error error·K.NotInstance (at e) x 0)
  done err_type)

-- the array of e
unfoldable pub list_of : ℕ → Walk ℕ
list_of e = array_of e

-- an empty list: its element is a new variable
unfoldable pub empty_list : ℕ → Walk ℕ
empty_list n = do
  v ← new_infer_var regular (drawn_by n)
  array_of v

-- a later element of a list against the first
unfoldable pub element : ℕ → ℕ → ℕ → ℕ → Step
element n i x y = equate_on n x y (mismatch error·K.TypeMismatch (at i) x y 0)

-- the element of an array, or an error
abbrev pub element_or_error : ℕ → ℕ → Option ℕ → Walk (Option ℕ)
element_or_error n x (some e) = done (some e)
element_or_error n x none = do
  _ ← error (own_error error·K.NoIndexOp (at n) x 0)
  done none

-- `typeck_expr_index`: the element of what is indexed
unfoldable pub element_of : ℕ → ℕ → Walk (Option ℕ)
element_of n x = do
  s ← shape_of_lem x
  element_or_error n x (as_arr s)

-- the index, of the type y, has to be a u64; e is the element
unfoldable pub index : ℕ → ℕ → ℕ → Walk ℕ
index n e y = equate_for n u64_type y (mismatch error·K.TypeMismatch (at n) u64_type y 0) e

-- ── if, return, let ──

-- `if` wants Bool itself, not a variable
unfoldable pub condition : ℕ → ℕ → Step
condition e x = cond (eqb x bool_type) (done tt) (error (own_error error·K.TypeMismatch (at e) bool_type x))

-- the block of an `if`, of the type x, against what stands after else
unfoldable pub branches : ℕ → ℕ → ℕ → ℕ → Walk ℕ
branches n e x y = equate_for n x y (mismatch error·K.TypeMismatch (at e) x y 0) x

-- `ExprKind::Return`: it answers to the enclosing function; the error spans the node p
unfoldable pub returned : ℕ → ℕ → ℕ → Walk ℕ
returned n p y = do
  x ← output
  equate_for n x y (mismatch error·K.TypeMismatch (at p) x y 0) diverges_type

-- the let n has the type t, and x in `local_tys`
unfoldable pub local_type : ℕ → ℕ → ℕ → Step
local_type n x t = do
  _ ← set_extra n (extra.Local (record { 0 = x }))
  set_node_type n t

-- `typeck_local` without init: its declared type, or a new variable, which does not enter `local_tys`
abbrev pub let_without_init : ℕ → Option·R TypeId → Step
let_without_init n (Some t) = local_type n t.0 t.0
let_without_init n None = do
  v ← new_infer_var regular (drawn_by n)
  set_node_type n v

-- `typeck_local` with an init of the type y
abbrev pub let_with_init : ℕ → Option·R TypeId → ℕ → Step
let_with_init n (Some t) y = do
  _ ← equation n t.0 y (mismatch error·K.TypeMismatch (at n) t.0 y 0)
  local_type n y t.0
let_with_init n None y = local_type n y y

-- a callee that is none
unfoldable pub not_called : ℕ → ℕ → Walk (Option (Callee × ℕ))
not_called n x = do
  _ ← error (own_error error·K.CallingNotFn (at n) x 0)
  done none

-- ── lambdas ──

-- a declared type, or the one that was drawn
abbrev pub declared_or : Option·R TypeId → ℕ → ℕ
declared_or (Some t) v = t.0
declared_or None v = v

-- the output of a lambda: a variable is always drawn, even with a declared output
unfoldable pub lambda_output : ℕ → Option·R TypeId → Walk ℕ
lambda_output n t = do
  v ← new_infer_var regular (drawn_by n)
  done (declared_or t v)

-- a param of a lambda: its declared type, or a new variable
abbrev pub lambda_param : ℕ → Option·R TypeId → Step
lambda_param n (Some t) = set_node_type n t.0
lambda_param n None = do
  v ← new_infer_var regular (drawn_by n)
  set_node_type n v

-- ── paths ──

-- a local's type; 11 where it is not yet typed
abbrev pub local_or_refuse : ℕ → Option ℕ → Walk ℕ
local_or_refuse n none = refuse 11 n
local_or_refuse n (some t) = done t

-- `type_res`, in the rule of the node n: 10 for an `o`
unfoldable pub type_res : ℕ → Res → Walk ℕ
type_res n (res.Local l) = do
  t ← node_type_lem l.0
  local_or_refuse n t
type_res n (res.Fn d) = fn_def_lem d.0
type_res n (res.Ctor d) = fn_def_lem d.0
type_res n (res.Inst k) = instance k.0
type_res n res.Error = done err_type
type_res n res.Other = refuse 10 n

-- a path without a failed segment: what RES says
unfoldable pub whole_path : ℕ → Res → Walk ℕ
whole_path n r = do
  t ← type_res n r
  _ ← set_extra n (extra.Resolved r)
  done t

-- the method that a path of an instance leads to, or an error
abbrev pub path_method : ℕ → ℕ → ℕ → Option·R DefId → Walk ℕ
path_method n x name (Some d) = do
  _ ← set_extra n (extra.Resolved (res.Fn d))
  fn_def_lem d.0
path_method n x name None = do
  _ ← set_extra n (extra.Resolved res.Error)
  _ ← error (own_error error·K.MethodNotFound (at n) x name)
  done err_type

module _ (rows cells : List ℕ) where
  -- a field of an instance, or what is none
  abbrev pub field_shape : ℕ → ℕ → ℕ → Shape → Option ℕ → Walk ℕ
  field_shape e x name s (some k) = field_of e x name (field_type rows cells k name)
  field_shape e x name s none = no_instance e x s

  -- `typeck_expr_field`, of a source e of the type x
  unfoldable pub field : ℕ → ℕ → ℕ → Walk ℕ
  field e x name = do
    s ← shape_of_lem x
    field_shape e x name s (as_inst s)

  -- ── calls ──

  -- what can be called, and its output; err is no error
  abbrev pub called : ℕ → ℕ → Shape → Walk (Option (Callee × ℕ))
  called n x (base c) = not_called n x
  called n x (var v) = not_called n x
  called n x (arr e) = not_called n x
  called n x (ref e) = not_called n x
  called n x (fn d) = done (some (callee.Def (record { 0 = d }), output_of rows cells d))
  called n x (fun s o i) = done (some (callee.Type (record { 0 = x }), o))
  called n x (lam l o i) = done (some (callee.Type (record { 0 = x }), o))
  called n x err = done none
  called n x div = not_called n x

  -- `ExprKind::Call`: by the callee's raw type x
  unfoldable pub callee_of : ℕ → ℕ → Walk (Option (Callee × ℕ))
  callee_of n x = do
    s ← shape_of_lem x
    called n x s

  -- an amount of arguments that differs from that of the inputs
  unfoldable pub amounts_of : Span → ℕ → ℕ → Step
  amounts_of p given required = cond (eqb required given) (done tt) (error (own_error error·K.WrongArgumentAmnt p given required))

  -- `verify_arguments_for_call`: the amounts first, given and required
  unfoldable pub amounts : Span → Callee → ℕ → Step
  amounts p f given = do
    ts ← all_types
    amounts_of p given (length (inputs_of ts rows cells f))

  -- an argument of the type y at the position i against its input; an extra one has none
  abbrev pub argument_for : ℕ → Span → ℕ → ℕ → Option·R TypeId → Step
  argument_for n p i y (Some x) = equate_on n x.0 y (mismatch error·K.WrongArgumentTy p x.0 y i)
  argument_for n p i y None = done tt

  -- the argument at the position i
  unfoldable pub argument : ℕ → Span → Callee → ℕ → ℕ → Step
  argument n p f i y = do
    ts ← all_types
    argument_for n p i y (nth (inputs_of ts rows cells f) i)

  -- ── lambdas ──

  -- the param i
  unfoldable pub lambda_param_at : Items → ℕ → Step
  lambda_param_at t i = lambda_param (item cells t i) (declared_at rows cells (item cells t i))

  -- `typeck_lambda`: its params, in order
  unfoldable pub lambda_params : Items → Step
  lambda_params t = for_each 0 t.count (lambda_param_at t)

-- the output o of a lambda against the type y of its BODY e; then its type is made
unfoldable pub lambda : List ℕ → ℕ → ℕ → ℕ → ℕ → Items → Walk ℕ
lambda cells n e o y t = do
  _ ← equate_on n o y (mismatch error·K.TypeMismatch (at e) o y 0)
  make_lambda n o (items_of cells t)

-- the method that was found, or an error; e is the receiver, of the type x
abbrev pub method_or_error : ℕ → ℕ → ℕ → ℕ → Option·R DefId → Walk (Option ℕ)
method_or_error n e x name (Some d) = do
  _ ← set_extra n (extra.Method d)
  done (some d.0)
method_or_error n e x name None = do
  _ ← error (own_error error·K.MethodNotFound (at e) x name)
  done none

module _ (b : Body) where
  -- a method is sought by the raw type of its receiver
  unfoldable pub sought : ℕ → ℕ → ℕ → ℕ → Walk (Option ℕ)
  sought n e x name = do
    ts ← all_types
    method_or_error n e x name (method ts b x name)

  -- `typeck_expr_meth_call`: the method of a name; a receiver err has none, without an error
  unfoldable pub method_of : ℕ → ℕ → ℕ → ℕ → Walk (Option ℕ)
  method_of n e x name = cond (eqb x err_type) (done none) (sought n e x name)

  -- ── paths ──

  -- the method of a name for the type x that a path of an instance leads to
  unfoldable pub path_found : ℕ → ℕ → ℕ → Walk ℕ
  path_found n x name = do
    ts ← all_types
    path_method n x name (method ts b x name)

  -- the method of the segment RESOLVED for the last segment's type
  unfoldable pub path_of : ℕ → ℕ → Items → Walk ℕ
  path_of n k t = do
    x ← type_res n (segment_res b.cells t (t.count - 1))
    path_found n x (segment_name b.cells t k)

  -- a partly failed path of an instance: 10 where RESOLVED is not below its number of segments
  unfoldable pub inst_path : ℕ → ℕ → Items → Walk ℕ
  inst_path n k t = cond (ltb k t.count) (path_of n k t) (refuse 10 n)

  -- a partly failed path: 10 where RES is neither `i` nor `e`
  unfoldable pub failed_path : ℕ → Res → ℕ → Items → Walk ℕ
  failed_path n (res.Local l) k t = refuse 10 n
  failed_path n (res.Fn d) k t = refuse 10 n
  failed_path n (res.Ctor d) k t = refuse 10 n
  failed_path n (res.Inst i) k t = inst_path n k t
  failed_path n res.Error k t = do
    _ ← set_extra n (extra.Resolved res.Error)
    done err_type
  failed_path n res.Other k t = refuse 10 n

  -- `typeck_expr_path`
  unfoldable pub path : ℕ → Res → ℕ → Items → Walk ℕ
  path n r k t = cond (is_partly_failed b.cells t) (failed_path n r k t) (whole_path n r)

-- What each rule of a path, a field, a callee, an argument, a method and a lambda adds to the tables. Assumes nothing.
use Rattle.std.specs.Prelude.{◌≡◌, refl, List, Bool, true, false, cond, ℕ, suc, zero, ◌-◌, length, eqb, ltb, None, Option as Option·R, Some}
use Rattle.std.proofs.Common.{ap, rules}
use Rattle.std.proofs.Math.Option.{Option, none, some}
use Rattle.theory.specs.Rules.{Shape, base, var, arr, ref, fn, fun, lam, err, div, regular, head, error_head}
use Rattle.theory.specs.Program.{run, done, ◌>>=◌}
use Rattle.nodes.specs.declared.Items.{Items}
use Rattle.nodes.specs.declared.Res.{Res}
use Rattle.nodes.specs.declared.Res.TheVariants as res
use Rattle.nodes.specs.declared.Callee.{Callee}
use Rattle.nodes.specs.Nodes.{Body, item, items_of, numbers_from, declared_at, inputs_of, nth, field_type, method, is_partly_failed, segment_name, segment_res}
use Rattle.record.specs.declared.Extra.TheVariants as extra
use Rattle.record.specs.declared.Span.{Span}
use Rattle.record.specs.declared.ErrorKind.TheVariants as error·K
use Rattle.record.specs.Own.{marked}
use Rattle.record.specs.Steps.{change, set_extra, all_types, drawn_by, error}
use Rattle.rules.specs.Rules as rule
use Rattle.bounds.specs.Adds.{Cost, cost, nothing, Adds, AddsBy, larger_within, kept_same, same_larger, emitted_larger, written_larger, adds_within, adds_any, then, nothing_then, then_nothing}
use Rattle.bounds.specs.Steps.{one_var, one_row, one_error, one_equation_lem, times, done_adds, refuse_adds, cond_adds, set_node_type_adds, set_extra_adds, node_type_adds, shape_of_adds, all_types_adds, new_infer_var_adds, fn_def_adds, instance_adds, make_lambda_adds, error_adds, each_same}
use Rattle.bounds.specs.Rules.{equate_on_adds, error_then}
use Rattle.type_table.specs.declared.DefId.{DefId}
use Rattle.type_table.specs.declared.TypeId.{TypeId}

-- ── paths ──

-- a local
local_or_refuse_adds : (n : ℕ) (o : Option ℕ) → Adds nothing (rule.local_or_refuse n o)
local_or_refuse_adds n none = refuse_adds 11 n
local_or_refuse_adds n (some t) = done_adds t

-- RES
type_res_adds : (n : ℕ) (r : Res) → Adds one_row (rule.type_res n r)
unfolding rule.type_res
type_res_adds n (res.Local l) = adds_any (nothing_then _ (node_type_adds l.0) (λ t. local_or_refuse_adds n t))
type_res_adds n (res.Fn d) = fn_def_adds d.0
type_res_adds n (res.Ctor d) = fn_def_adds d.0
type_res_adds n (res.Inst k) = instance_adds k.0
type_res_adds n res.Error = adds_any (done_adds _)
type_res_adds n res.Other = adds_any (refuse_adds 10 n)

-- a path without a failed segment
whole_path_adds : (n : ℕ) (r : Res) → Adds one_row (rule.whole_path n r)
unfolding rule.whole_path
whole_path_adds n r = then_nothing _ (type_res_adds n r) (λ t. nothing_then _ (set_extra_adds n _) (λ u. done_adds t))

-- the method of a path
path_method_adds : (n x name : ℕ) (d : Option·R DefId) → Adds (cost 0 1 0 1 0) (rule.path_method n x name d)
path_method_adds n x name (Some d) = nothing_then _ (set_extra_adds n _) (λ u. adds_within (search rules) (fn_def_adds d.0))
path_method_adds n x name None = nothing_then _ (set_extra_adds n _) (λ u. adds_within (search rules) (error_then _ _))

module _ (b : Body) where
  -- the method that is found for a path
  path_found_adds : (n x name : ℕ) → Adds (cost 0 1 0 1 0) (rule.path_found b n x name)
  unfolding rule.path_found
  path_found_adds n x name = nothing_then _ all_types_adds (λ ts. path_method_adds n x name (method ts b x name))

  -- a path of an instance
  path_of_adds : (n k : ℕ) (t : Items) → Adds (cost 0 2 0 1 0) (rule.path_of b n k t)
  unfolding rule.path_of
  path_of_adds n k t = then _ (type_res_adds n (segment_res b.cells t (t.count - 1))) (λ x. path_found_adds n x (segment_name b.cells t k))

  -- a partly failed path of an instance
  inst_path_adds : (n k : ℕ) (t : Items) → Adds (cost 0 2 0 1 0) (rule.inst_path b n k t)
  unfolding rule.inst_path
  inst_path_adds n k t = cond_adds (ltb k t.count) (path_of_adds n k t) (adds_any (refuse_adds 10 n))

  -- a partly failed path
  failed_path_adds : (n : ℕ) (r : Res) (k : ℕ) (t : Items) → Adds (cost 0 2 0 1 0) (rule.failed_path b n r k t)
  unfolding rule.failed_path
  failed_path_adds n (res.Local l) k t = adds_any (refuse_adds 10 n)
  failed_path_adds n (res.Fn d) k t = adds_any (refuse_adds 10 n)
  failed_path_adds n (res.Ctor d) k t = adds_any (refuse_adds 10 n)
  failed_path_adds n (res.Inst i) k t = inst_path_adds n k t
  failed_path_adds n res.Error k t = adds_any (nothing_then _ (set_extra_adds n _) (λ u. done_adds _))
  failed_path_adds n res.Other k t = adds_any (refuse_adds 10 n)

  -- a path
  pub path_adds : (n : ℕ) (r : Res) (k : ℕ) (t : Items) → Adds (cost 0 2 0 1 0) (rule.path b n r k t)
  unfolding rule.path
  path_adds n r k t = cond_adds (is_partly_failed b.cells t) (failed_path_adds n r k t) (adds_within (search rules) (whole_path_adds n r))

-- ── fields and calls ──

-- a field that is sought
field_of_adds : (e x name : ℕ) (t : Option·R TypeId) → Adds one_error (rule.field_of e x name t)
field_of_adds e x name (Some t) = adds_any (done_adds t.0)
field_of_adds e x name None = error_then _ _

-- what is no instance
no_instance_adds : (e x : ℕ) (s : Shape) → Adds one_error (rule.no_instance e x s)
unfolding rule.no_instance
no_instance_adds e x s = cond_adds (eqb (head s) error_head) (adds_any (done_adds _)) (error_then _ _)

-- what is not called
not_called_adds : (n x : ℕ) → Adds one_error (rule.not_called n x)
unfolding rule.not_called
not_called_adds n x = error_then _ _

module _ (rows cells : List ℕ) where
  -- a field, by the instance
  field_shape_adds : (e x name : ℕ) (s : Shape) (o : Option ℕ) → Adds one_error (rule.field_shape rows cells e x name s o)
  field_shape_adds e x name s (some k) = field_of_adds e x name (field_type rows cells k name)
  field_shape_adds e x name s none = no_instance_adds e x s

  -- a field
  pub field_adds : (e x name : ℕ) → Adds one_error (rule.field rows cells e x name)
  unfolding rule.field
  field_adds e x name = nothing_then _ (shape_of_adds x) (λ s. field_shape_adds e x name s (rule.as_inst s))

  -- what can be called
  called_adds : (n x : ℕ) (s : Shape) → Adds one_error (rule.called rows cells n x s)
  called_adds n x (base c) = not_called_adds n x
  called_adds n x (var v) = not_called_adds n x
  called_adds n x (arr e) = not_called_adds n x
  called_adds n x (ref e) = not_called_adds n x
  called_adds n x (fn d) = adds_any (done_adds _)
  called_adds n x (fun s o i) = adds_any (done_adds _)
  called_adds n x (lam l o i) = adds_any (done_adds _)
  called_adds n x err = adds_any (done_adds none)
  called_adds n x div = not_called_adds n x

  -- a callee
  pub callee_of_adds : (n x : ℕ) → Adds one_error (rule.callee_of rows cells n x)
  unfolding rule.callee_of
  callee_of_adds n x = nothing_then _ (shape_of_adds x) (λ s. called_adds n x s)

  -- two amounts
  amounts_of_adds : (p : Span) (given required : ℕ) → Adds one_error (rule.amounts_of rows cells p given required)
  unfolding rule.amounts_of
  amounts_of_adds p given required = cond_adds (eqb required given) (adds_any (done_adds tt)) (error_adds _)

  -- the amounts of a call
  pub amounts_adds : (p : Span) (f : Callee) (given : ℕ) → Adds one_error (rule.amounts rows cells p f given)
  unfolding rule.amounts
  amounts_adds p f given = nothing_then _ all_types_adds (λ ts. amounts_of_adds p given (length (inputs_of ts rows cells f)))

  -- an argument and its input
  argument_for_adds : (n : ℕ) (p : Span) (i y : ℕ) (t : Option·R TypeId) → Adds one_equation_lem (rule.argument_for rows cells n p i y t)
  argument_for_adds n p i y (Some x) = equate_on_adds n x.0 y _
  argument_for_adds n p i y None = adds_any (done_adds tt)

  -- an argument
  pub argument_adds : (n : ℕ) (p : Span) (f : Callee) (i y : ℕ) → Adds one_equation_lem (rule.argument rows cells n p f i y)
  unfolding rule.argument
  argument_adds n p f i y = nothing_then _ all_types_adds (λ ts. argument_for_adds n p i y (nth (inputs_of ts rows cells f) i))

-- the cost of a method that is sought: an error where there is none
abbrev pub sought_cost : Option (Option ℕ) → Cost
sought_cost none = nothing
sought_cost (some none) = one_error
sought_cost (some (some d)) = nothing

-- a method that was found is no error
method_or_error_adds : (n e x name : ℕ) (d : Option·R DefId) → AddsBy sought_cost (rule.method_or_error n e x name d)
unfolding run ◌>>=◌ set_extra change error marked
method_or_error_adds n e x name (Some d) = record { larger = λ s. written_larger (marked n (extra.Method d) s.own) s (kept_same refl) }
method_or_error_adds n e x name None = record { larger = λ s. emitted_larger (rule.own_error error·K.MethodNotFound (rule.at e) x name) s }

-- a method that is sought
sought_adds : (b : Body) (n e x name : ℕ) → AddsBy sought_cost (rule.sought b n e x name)
unfolding run ◌>>=◌ all_types rule.sought
sought_adds b n e x name = record { larger = λ s. (method_or_error_adds n e x name (method s.rows b x name)).larger s }

-- the method of a call
pub method_of_adds : (b : Body) (n e x name : ℕ) → AddsBy sought_cost (rule.method_of b n e x name)
unfolding run rule.method_of
method_of_adds b n e x name = by (eqb x rule.err_type)
  where
    by : (c : Bool) → AddsBy sought_cost (cond c (done none) (rule.sought b n e x name))
    by true = record { larger = λ s. larger_within (search rules) (same_larger s) }
    by false = sought_adds b n e x name

-- ── lambdas ──

-- the output of a lambda
pub lambda_output_adds : (n : ℕ) (t : Option·R TypeId) → Adds one_var (rule.lambda_output n t)
unfolding rule.lambda_output
lambda_output_adds n t = then_nothing _ (new_infer_var_adds regular (drawn_by n)) (λ v. done_adds _)

-- a param
pub lambda_param_adds : (n : ℕ) (t : Option·R TypeId) → Adds one_var (rule.lambda_param n t)
lambda_param_adds n (Some t) = adds_any (set_node_type_adds n t.0)
lambda_param_adds n None = then_nothing _ (new_infer_var_adds regular (drawn_by n)) (λ v. set_node_type_adds n v)

-- the params of a lambda
pub lambda_params_adds : (rows cells : List ℕ) (t : Items) → Adds (times t.count one_var) (rule.lambda_params rows cells t)
unfolding rule.lambda_params rule.lambda_param_at
lambda_params_adds rows cells t = each_same one_var 0 t.count _ (λ i l. lambda_param_adds (item cells t i) (declared_at rows cells (item cells t i)))

-- so many numbers are read
pub numbers_length : (cells : List ℕ) (j k : ℕ) → length (numbers_from cells j k) ≡ k
unfolding numbers_from
numbers_length cells j zero = refl
numbers_length cells j (suc k) = ap suc (numbers_length cells (suc j) k)

-- a lambda's equation and its type
pub lambda_adds : (cells : List ℕ) (n e o y : ℕ) (t : Items) → Adds (cost 0 1 t.count 1 1) (rule.lambda cells n e o y t)
unfolding rule.lambda
lambda_adds cells n e o y t =
    let l : length (items_of cells t) ≡ t.count = numbers_length cells _ t.count in
    adds_within (search rules) (then _ (equate_on_adds n o y _) (λ u. make_lambda_adds n o (items_of cells t)))

-- What each rule adds to the tables that types no other node. Assumes nothing.
use Rattle.std.proofs.Math.Option.{Option, none, some}
use Rattle.std.specs.Prelude.{ℕ, eqb, leb, None, Option as Option·R, Some}
use Rattle.std.proofs.Common.{rules}
use Rattle.theory.specs.Rules.{Shape, regular, as_var, head}
use Rattle.theory.specs.Program.{done, ◌>>=◌}
use Rattle.nodes.specs.declared.BinOp.{BinOp}
use Rattle.nodes.specs.declared.UnOp.{UnOp}
use Rattle.nodes.specs.declared.UnOp.TheVariants as un
use Rattle.nodes.specs.Nodes.{as_arr}
use Rattle.record.specs.declared.TypingError.{TypingError}
use Rattle.record.specs.Steps.{drawn_by, error}
use Rattle.rules.specs.Rules as rule
use Rattle.bounds.specs.Adds.{cost, nothing, Adds, adds_within, adds_any, then, nothing_then, then_nothing}
use Rattle.bounds.specs.Steps.{one_var, one_row, one_error, one_equation_lem, done_adds, cond_adds, set_node_type_adds, set_extra_adds, shape_of_adds, output_adds, mark_var_adds, new_infer_var_adds, array_of_adds, ref_to_adds, error_adds, equation_adds}
use Rattle.type_table.specs.declared.TypeId.{TypeId}

-- ── equations and errors ──

-- an equation, and then a type
pub equate_for_adds : (n x y : ℕ) (e : TypingError) (t : ℕ) → Adds one_equation_lem (rule.equate_for n x y e t)
unfolding rule.equate_for
equate_for_adds n x y e t = then_nothing _ (equation_adds n x y e) (λ c. done_adds t)

-- an equation alone
pub equate_on_adds : (n x y : ℕ) (e : TypingError) → Adds one_equation_lem (rule.equate_on n x y e)
unfolding rule.equate_on
equate_on_adds n x y e = then_nothing _ (equation_adds n x y e) (λ c. done_adds tt)

-- an error, and then an answer
pub error_then : {A : Type 0} (e : TypingError) (a : A) → Adds one_error (◌>>=◌ (error e) (λ u. done a))
error_then e a = then_nothing _ (error_adds e) (λ u. done_adds a)

-- ── operators ──

-- a binary operation
pub bin_op_adds : (n : ℕ) (o : BinOp) (l r x y : ℕ) → Adds one_equation_lem (rule.bin_op_lem n o l r x y)
unfolding rule.bin_op_lem
bin_op_adds n o l r x y = then_nothing _ (equation_adds n x y _) (λ met. done_adds _)

-- no operator
no_unary_op_adds : (e x : ℕ) → Adds one_error (rule.no_unary_op e x)
unfolding rule.no_unary_op
no_unary_op_adds e x = error_then _ _

-- what stands behind a reference
deref_adds : (e x : ℕ) (o : Option ℕ) → Adds one_error (rule.deref e x o)
deref_adds e x none = no_unary_op_adds e x
deref_adds e x (some y) = adds_any (done_adds y)

-- the negation of a variable
negate_var_adds : (e x : ℕ) (o : Option ℕ) → Adds one_error (rule.negate_var e x o)
negate_var_adds e x none = no_unary_op_adds e x
negate_var_adds e x (some v) = adds_any (nothing_then _ (mark_var_adds v) (λ u. done_adds x))

-- a negation
negation_adds : (e x : ℕ) (s : Shape) → Adds one_error (rule.negation e x s)
unfolding rule.negation
negation_adds e x s = cond_adds (eqb (head s) 2) (adds_any (done_adds x)) (negate_var_adds e x (as_var s))

-- a `not`
logical_not_adds : (e x : ℕ) (s : Shape) → Adds one_error (rule.logical_not e x s)
unfolding rule.logical_not
logical_not_adds e x s = cond_adds (leb (head s) 2) (adds_any (done_adds x)) (no_unary_op_adds e x)

-- a unary operation
pub un_op_adds : (o : UnOp) (e x : ℕ) → Adds (cost 0 1 0 1 0) (rule.un_op_lem o e x)
unfolding rule.un_op_lem
un_op_adds un.Deref e x = nothing_then _ (shape_of_adds x) (λ s. adds_within (search rules) (deref_adds e x (rule.as_ref s)))
un_op_adds un.Address e x = adds_within (search rules) (ref_to_adds x)
un_op_adds un.Negation e x = nothing_then _ (shape_of_adds x) (λ s. adds_within (search rules) (negation_adds e x s))
un_op_adds un.Not e x = nothing_then _ (shape_of_adds x) (λ s. adds_within (search rules) (logical_not_adds e x s))

-- an assignment
pub assign_adds : (n v e x y : ℕ) → Adds one_equation_lem (rule.assign n v e x y)
unfolding rule.assign
assign_adds n v e x y = equate_for_adds n x y _ _

-- an assignment with an operator
pub op_assign_adds : (n x y : ℕ) → Adds one_equation_lem (rule.op_assign n x y)
unfolding rule.op_assign
op_assign_adds n x y = equate_for_adds n x y _ _

-- ── fields, lists, indices ──

-- a list of elements
pub list_of_adds : (e : ℕ) → Adds one_row (rule.list_of e)
unfolding rule.list_of
list_of_adds e = array_of_adds e

-- an empty list
pub empty_list_adds : (n : ℕ) → Adds (cost 1 2 0 0 0) (rule.empty_list n)
unfolding rule.empty_list
empty_list_adds n = then _ (new_infer_var_adds regular (drawn_by n)) (λ v. array_of_adds v)

-- a later element
pub element_adds : (n i x y : ℕ) → Adds one_equation_lem (rule.element n i x y)
unfolding rule.element
element_adds n i x y = equate_on_adds n x y _

-- an element, or an error
element_or_error_adds : (n x : ℕ) (o : Option ℕ) → Adds one_error (rule.element_or_error n x o)
element_or_error_adds n x (some e) = adds_any (done_adds (some e))
element_or_error_adds n x none = error_then _ _

-- the element of what is indexed
pub element_of_adds : (n x : ℕ) → Adds one_error (rule.element_of n x)
unfolding rule.element_of
element_of_adds n x = nothing_then _ (shape_of_adds x) (λ s. element_or_error_adds n x (as_arr s))

-- an index
pub index_adds : (n e y : ℕ) → Adds one_equation_lem (rule.index n e y)
unfolding rule.index
index_adds n e y = equate_for_adds n _ y _ e

-- ── if, return, let ──

-- a condition
pub condition_adds : (e x : ℕ) → Adds one_error (rule.condition e x)
unfolding rule.condition
condition_adds e x = cond_adds (eqb x rule.bool_type) (adds_any (done_adds tt)) (error_adds _)

-- the branches of an `if`
pub branches_adds : (n e x y : ℕ) → Adds one_equation_lem (rule.branches n e x y)
unfolding rule.branches
branches_adds n e x y = equate_for_adds n x y _ x

-- a `return`
pub returned_adds : (n p y : ℕ) → Adds one_equation_lem (rule.returned n p y)
unfolding rule.returned
returned_adds n p y = nothing_then _ output_adds (λ x. equate_for_adds n x y _ _)

-- the types of a let
local_type_adds : (n x t : ℕ) → Adds nothing (rule.local_type n x t)
unfolding rule.local_type
local_type_adds n x t = nothing_then _ (set_extra_adds n _) (λ u. set_node_type_adds n t)

-- a let without init
pub let_without_init_adds : (n : ℕ) (t : Option·R TypeId) → Adds one_var (rule.let_without_init n t)
let_without_init_adds n (Some t) = adds_any (local_type_adds n t.0 t.0)
let_without_init_adds n None = then_nothing _ (new_infer_var_adds regular (drawn_by n)) (λ v. set_node_type_adds n v)

-- a let with init
pub let_with_init_adds : (n : ℕ) (t : Option·R TypeId) (y : ℕ) → Adds one_equation_lem (rule.let_with_init n t y)
let_with_init_adds n (Some t) y = then_nothing _ (equation_adds n t.0 y _) (λ u. local_type_adds n y t.0)
let_with_init_adds n None y = adds_any (local_type_adds n y y)

-- What each return of a rule shows: the program of the rule, from those of its parts.
use Rattle.std.specs.Prelude.{None, Option, Result, Some}
use mathlib.Core.Path.{◌≡◌, refl, sym, ◌∙◌}
use mathlib.Core.List.{List}
use mathlib.Core.Option.{none, some}
use mathlib.Core.Bool.{Bool, true, false}
use mathlib.Core.Logic.{◌⊎◌, inl, inr}
use Prim.Native.Nat.{ℕ, ◌+◌, ◌-◌, ◌<◌, ◌≤◌}
use lib.ListN.{length, get_or}
use borrow.Author.Tests.{eq-eqb, ne_eqb, lt-ltb, le-ltb, le-leb, lt-leb}
use Rattle.theory.specs.Rules.{Base, bool, nil, float, double, uint, int, inst, Shape, base, var, arr, ref, fn, fun, lam, err, div, base_head, row, head, instance_head, param_head, fn_def_head, error_head, lambda_head, ref_head, regular}
use Rattle.type_table.specs.declared.TypeId.{TypeId}
use Rattle.type_table.specs.declared.NodeId.{NodeId}
use Rattle.type_table.specs.declared.DefId.{DefId}
use Rattle.type_table.specs.declared.InstId.{InstId}
use Rattle.type_table.specs.Memory.{head_at, number_at, output_at, rows_of}
use Rattle.nodes.specs.declared.Callee.{Callee}
use Rattle.nodes.specs.declared.Callee.TheVariants as callee
use Rattle.nodes.specs.declared.Items.{Items}
use Rattle.nodes.specs.declared.Res.{Res}
use Rattle.nodes.specs.declared.Res.TheVariants as res
use Rattle.nodes.specs.declared.BinOp.{BinOp}
use Rattle.nodes.specs.declared.UnOp.{UnOp}
use Rattle.nodes.specs.declared.UnOp.TheVariants as un
use Rattle.nodes.specs.Nodes.{Body, item, declared_at, items_of, output_of, nth, inputs_of, method, field_type, is_partly_failed, segment_name, segment_res}
use Rattle.nodes.specs.Shapes.{not_var, not_arr, head_not, row_head, row_inst, row_fun, row_fn, row_arr, row_err, row_var, row_lam, row_ref}
use Rattle.record.specs.declared.Record.{Record}
use Rattle.record.specs.declared.Extra.TheVariants as extra
use Rattle.record.specs.declared.Equated.{Equated}
use Rattle.record.specs.declared.Equated.TheVariants as equated
use Rattle.record.specs.declared.Span.{Span}
use Rattle.record.specs.declared.TypingError.{TypingError}
use Rattle.record.specs.declared.ErrorKind.TheVariants as error·K
use Rattle.record.specs.Own.{raws_of, node_type}
use Rattle.record.specs.Steps.{Walk, fn_def_lem, instance, ref_to_lem, make_lambda, mark_var, error, equation, set_extra, set_node_type, new_infer_var, array_of, drawn_by, for_each}
use Rattle.record.specs.Encodes.{Runs, Stops, Types, Rules, Equates}
use Rattle.record.specs.Runs.{runs_done, stops_refuse, then, then_stops, stops, runs_shape_of, runs_types, runs_output, runs_node_type, after, after_rules, equation_met, equation_failed, typed_some, untyped_none}
use Rattle.record.specs.Loops.{Onto, onto_start, onto_next, onto_end}
use Rattle.rules.specs.Rules.{lambda_param_at, lambda_params, nil_type, bool_type, u64_type, assign, op_assign, branches, index, element, err_type, diverges_type, at, own_error, mismatch, between, equate_for, equate_on, bin_type, bin_op_lem, no_unary_op, as_ref, negation, logical_not, un_op_lem, as_inst_base, as_inst, field_of, no_instance, list_of, empty_list, element_of, condition, returned, local_type, let_without_init, let_with_init, not_called, field, called, callee_of, amounts_of, amounts, argument, sought, method_of, lambda_param, lambda_output, lambda, type_res, whole_path, path_found, path_of, inst_path, failed_path, path}
use Rattle.record.specs.declared.Refusal.{Refusal}

-- ── equations ──

module _ {m m' : List ℕ} {c d : Record} (n x y : ℕ) (e : TypingError) where
  -- whether it is met or not, the rule gives its type
  pub equated_for : (t : ℕ) {q : Bool} → Runs m c m' d (equation n x y e) q → Runs m c m' d (equate_for n x y e t) t
  unfolding equate_for
  equated_for t R = then _ R runs_done

  -- a refused equation ends the rule
  pub equated_for_refused : (t k : ℕ) → Stops m c m' d (equation n x y e) k n → Stops m c m' d (equate_for n x y e t) k n
  unfolding equate_for
  equated_for_refused t k R = stops _ R

  -- whether it is met or not, the rule goes on
  pub equated_on : {q : Bool} → Runs m c m' d (equation n x y e) q → Runs m c m' d (equate_on n x y e) tt
  unfolding equate_on
  equated_on R = then _ R runs_done

  -- a refused equation ends the rule
  pub equated_on_refused : (k : ℕ) → Stops m c m' d (equation n x y e) k n → Stops m c m' d (equate_on n x y e) k n
  unfolding equate_on
  equated_on_refused k R = stops _ R

-- ── operators ──

module _ {m m' : List ℕ} {c d : Record} (n l r x y : ℕ) (o : BinOp) (e : TypingError) (is : e ≡ between error·K.NoBinaryOp l r x y) where
  -- a met equation of operands gives the type of the operation
  pub bin_met : (t : ℕ) → t ≡ bin_type o x → Runs m c m' d (equation n x y e) true → Runs m c m' d (bin_op_lem n o l r x y) t
  unfolding bin_op_lem
  bin_met t h R = rw (h, ← is) (then _ R runs_done)

  -- a failed one gives err
  pub bin_failed : Runs m c m' d (equation n x y e) false → Runs m c m' d (bin_op_lem n o l r x y) err_type
  unfolding bin_op_lem
  bin_failed R = rw (← is) (then _ R runs_done)

  -- a refused one ends the rule
  pub bin_refused : (k : ℕ) → Stops m c m' d (equation n x y e) k n → Stops m c m' d (bin_op_lem n o l r x y) k n
  unfolding bin_op_lem
  bin_refused k R = rw (← is) (stops _ R)

module _ {m m' : List ℕ} {c : Record} {z : Result (Record × TypeId) Refusal} (n x y : ℕ) (e : TypingError) where
  -- an assignment
  pub assign_is : (v w : ℕ) → e ≡ between error·K.TypeMismatch v w x y → Types m c m' z (equate_for n x y e nil_type) → Types m c m' z (assign n v w x y)
  unfolding assign
  assign_is v w h R = rw (← h) R

  -- an assignment with an operation
  pub op_assign_is : e ≡ mismatch error·K.NoBinaryOp (at n) x y 0 → Types m c m' z (equate_for n x y e nil_type) → Types m c m' z (op_assign n x y)
  unfolding op_assign
  op_assign_is h R = rw (← h) R

  -- the branches of an `if`
  pub branches_is : (w : ℕ) → e ≡ mismatch error·K.TypeMismatch (at w) x y 0 → Types m c m' z (equate_for n x y e x) → Types m c m' z (branches n w x y)
  unfolding branches
  branches_is w h R = rw (← h) R

-- an index
pub index_is : {m m' : List ℕ} {c : Record} {z : Result (Record × TypeId) Refusal} (n t y : ℕ) (e : TypingError) → e ≡ mismatch error·K.TypeMismatch (at n) u64_type y 0 → Types m c m' z (equate_for n u64_type y e t) → Types m c m' z (index n t y)
unfolding index
index_is n t y e h R = rw (← h) R

-- a later element of a list
pub element_is : {m m' : List ℕ} {c : Record} {z : Result Record Refusal} (n i x y : ℕ) (e : TypingError) → e ≡ mismatch error·K.TypeMismatch (at i) x y 0 → Rules m c m' z (equate_on n x y e) → Rules m c m' z (element n i x y)
unfolding element
element_is n i x y e h R = rw (← h) R

module _ {m m' : List ℕ} {c d : Record} where
  -- no operator
  pub no_op_err : (e x : ℕ) → Runs m c m' d (error (own_error error·K.NoUnaryOp (at e) x 0)) tt → Runs m c m' d (no_unary_op e x) err_type
  unfolding no_unary_op
  no_op_err e x R = then _ R runs_done

-- ── what a head excludes ──

-- no reference
pub not_ref : (s : Shape) → (head s ≡ ref_head → ⊥) → as_ref s ≡ none
not_ref (base b) h = refl
not_ref (var v) h = refl
not_ref (arr e) h = refl
not_ref (ref e) h = absurd (h refl)
not_ref (fn d) h = refl
not_ref (fun a o i) h = refl
not_ref (lam n o i) h = refl
not_ref err h = refl
not_ref div h = refl

-- no instance, of the types that step 1 compares
not_inst_base : (b : Base) → (base_head b ≡ instance_head → ⊥) → as_inst_base b ≡ none
not_inst_base bool h = refl
not_inst_base nil h = refl
not_inst_base float h = refl
not_inst_base double h = refl
not_inst_base (uint w) h = refl
not_inst_base (int w) h = refl
not_inst_base (inst k) h = absurd (h refl)

-- no instance
pub not_inst : (s : Shape) → (head s ≡ instance_head → ⊥) → as_inst s ≡ none
not_inst (base b) h = not_inst_base b h
not_inst (var v) h = refl
not_inst (arr e) h = refl
not_inst (ref e) h = refl
not_inst (fn d) h = refl
not_inst (fun a o i) h = refl
not_inst (lam n o i) h = refl
not_inst err h = refl
not_inst div h = refl

-- nothing that can be called, and not err
pub not_callee : (rows cells : List ℕ) (n x : ℕ) (s : Shape) → (head s ≡ fn_def_head → ⊥) → (head s ≡ lambda_head → ⊥) → (head s ≡ param_head → ⊥) → (head s ≡ error_head → ⊥) → called rows cells n x s ≡ not_called n x
not_callee rows cells n x (base b) f l p e = refl
not_callee rows cells n x (var v) f l p e = refl
not_callee rows cells n x (arr a) f l p e = refl
not_callee rows cells n x (ref a) f l p e = refl
not_callee rows cells n x (fn d) f l p e = absurd (f refl)
not_callee rows cells n x (fun a o i) f l p e = absurd (p refl)
not_callee rows cells n x (lam k o i) f l p e = absurd (l refl)
not_callee rows cells n x err f l p e = absurd (e refl)
not_callee rows cells n x div f l p e = refl

-- ── operators by the operand's type ──

module _ {m : List ℕ} {c : Record} (e x h : ℕ) (is : h ≡ head_at m c.counts.types x) where
  -- d of a reference
  pub deref_ref : (y : ℕ) → h ≡ 14 → y ≡ number_at m c.counts.types x → Runs m c m c (un_op_lem un.Deref e x) y
  unfolding un_op_lem
  deref_ref y t n = then _ (runs_shape_of x) (rw (row_ref m c.counts.types x (sym is ∙ t), ← n) runs_done)

  -- n of an Int
  pub negate_int : h ≡ 2 → Runs m c m c (un_op_lem un.Negation e x) x
  unfolding un_op_lem negation
  negate_int t = then _ (runs_shape_of x) (rw (row_head m c.counts.types x, ← is, t) runs_done)

  -- t of Bool, Uint or Int
  pub not_number : h ≤ 2 → Runs m c m c (un_op_lem un.Not e x) x
  unfolding un_op_lem logical_not
  not_number l = then _ (runs_shape_of x) (rw (row_head m c.counts.types x, ← is, le-leb h 2 l) runs_done)

  module _ {m' : List ℕ} where
    -- d of anything else
    pub deref_other : {r : Result (Record × TypeId) Refusal} → (h ≡ 14 → ⊥) → Types m c m' r (no_unary_op e x) → Types m c m' r (un_op_lem un.Deref e x)
    unfolding un_op_lem
    deref_other n R = after _ (runs_shape_of x) (rw (not_ref (row (rows_of m c.counts.types) x) (head_not m c.counts.types x h is 14 n)) R)

    -- n of a variable
    pub negate_variable : {d : Record} (v : ℕ) → h ≡ 12 → v ≡ number_at m c.counts.types x → Runs m c m' d (mark_var v) tt → Runs m c m' d (un_op_lem un.Negation e x) x
    unfolding un_op_lem negation
    negate_variable v t n R = then _ (runs_shape_of x) (rw (row_var m c.counts.types x (sym is ∙ t), ← n) (then _ R runs_done))

    -- n of anything else
    pub negate_other : {r : Result (Record × TypeId) Refusal} → (h ≡ 2 → ⊥) → (h ≡ 12 → ⊥) → Types m c m' r (no_unary_op e x) → Types m c m' r (un_op_lem un.Negation e x)
    unfolding un_op_lem negation
    negate_other n k R =
        let s = row (rows_of m c.counts.types) x in
        after _ (runs_shape_of x) (rw (ne_eqb (head s) 2 (head_not m c.counts.types x h is 2 n), not_var s (head_not m c.counts.types x h is 12 k)) R)

    -- t of anything else
    pub not_other : {r : Result (Record × TypeId) Refusal} → 2 < h → Types m c m' r (no_unary_op e x) → Types m c m' r (un_op_lem un.Not e x)
    unfolding un_op_lem logical_not
    not_other l R = after _ (runs_shape_of x) (rw (row_head m c.counts.types x, ← is, lt-leb h 2 l) R)

-- ── fields, lists, indices ──

-- a field that is there
pub field-there : {m : List ℕ} {c : Record} (e x name : ℕ) (f : Option TypeId) (t : TypeId) → f ≡ Some t → Runs m c m c (field_of e x name f) t.0
field-there e x name f t h = rw h runs_done

module _ {m m' : List ℕ} {c d : Record} where
  -- a field that is not
  pub field_absent : (e x name : ℕ) (f : Option TypeId) → f ≡ None → Runs m c m' d (error (own_error error·K.NoField (at e) x name)) tt → Runs m c m' d (field_of e x name f) err_type
  field_absent e x name f h R = rw h (then _ R runs_done)

-- an empty list
pub empty-is : {m m₁ m' : List ℕ} {c c₁ : Record} (n v : ℕ) {r : Result (Record × TypeId) Refusal} → Runs m c m₁ c₁ (new_infer_var regular (drawn_by n)) v → Types m₁ c₁ m' r (list_of v) → Types m c m' r (empty_list n)
unfolding empty_list list_of
empty-is n v D L = after _ D L

module _ (rows cells : List ℕ) {m : List ℕ} {c : Record} (e x name h : ℕ) (is : h ≡ head_at m c.counts.types x) where
  -- a field of err
  pub field_err : h ≡ 10 → Runs m c m c (field rows cells e x name) err_type
  unfolding field no_instance
  field_err t = then _ (runs_shape_of x) (rw (row_err m c.counts.types x (sym is ∙ t)) runs_done)

  module _ {m' : List ℕ} where
    -- a field of an instance
    pub field_inst : (k : ℕ) (f : Option TypeId) {r : Result (Record × TypeId) Refusal} → h ≡ 5 → k ≡ number_at m c.counts.types x → f ≡ field_type rows cells k name → Types m c m' r (field_of e x name f) → Types m c m' r (field rows cells e x name)
    unfolding field
    field_inst k f t n g R = after _ (runs_shape_of x) (rw (row_inst m c.counts.types x (sym is ∙ t), ← n, ← g) R)

    -- a field of anything else
    pub field_other : {d : Record} → (h ≡ 5 → ⊥) → (h ≡ 10 → ⊥) → Runs m c m' d (error (own_error error·K.NotInstance (at e) x 0)) tt → Runs m c m' d (field rows cells e x name) err_type
    unfolding field no_instance
    field_other n k R =
        let s = row (rows_of m c.counts.types) x in
        then _ (runs_shape_of x) (rw (not_inst s (head_not m c.counts.types x h is 5 n), ne_eqb (head s) 10 (head_not m c.counts.types x h is 10 k)) (then _ R runs_done))

module _ {m : List ℕ} {c : Record} (n x h : ℕ) (is : h ≡ head_at m c.counts.types x) where
  -- the element of an array
  pub element_there : (e : ℕ) → h ≡ 8 → e ≡ number_at m c.counts.types x → Runs m c m c (element_of n x) (some e)
  unfolding element_of
  element_there e t a = then _ (runs_shape_of x) (rw (row_arr m c.counts.types x (sym is ∙ t), ← a) runs_done)

  -- what is no array
  pub element_none : {m' : List ℕ} {d : Record} → (h ≡ 8 → ⊥) → Runs m c m' d (error (own_error error·K.NoIndexOp (at n) x 0)) tt → Runs m c m' d (element_of n x) none
  unfolding element_of
  element_none k R = then _ (runs_shape_of x) (rw (not_arr (row (rows_of m c.counts.types) x) (head_not m c.counts.types x h is 8 k)) (then _ R runs_done))

-- ── if, return, let ──

-- Bool itself
pub condition_bool : {m : List ℕ} {c : Record} (e x : ℕ) → x ≡ 1 → Runs m c m c (condition e x) tt
unfolding condition
condition_bool e x h = rw h runs_done

-- anything else
pub condition_other : {m m' : List ℕ} {c d : Record} (e x : ℕ) → (x ≡ 1 → ⊥) → Runs m c m' d (error (own_error error·K.TypeMismatch (at e) bool_type x)) tt → Runs m c m' d (condition e x) tt
unfolding condition
condition_other e x h R = rw (ne_eqb x 1 h) R

-- a return against the output of the function
pub returned_is : {m m' : List ℕ} {c : Record} (n p y : ℕ) (e : TypingError) {r : Result (Record × TypeId) Refusal} → e ≡ mismatch error·K.TypeMismatch (at p) c.output.0 y 0 → Types m c m' r (equate_for n c.output.0 y e diverges_type) → Types m c m' r (returned n p y)
unfolding returned
returned_is n p y e h R = after _ runs_output (rw (← h) R)

module _ {m m₁ m' : List ℕ} {c : Record} where
  -- a let's two entries
  pub local_is : (n : ℕ) (x t : TypeId) → Runs m c m₁ c (set_extra n (extra.Local x)) tt → Runs m₁ c m' c (set_node_type n t.0) tt → Runs m c m' c (local_type n x.0 t.0) tt
  unfolding local_type
  local_is n x t X T = then _ X T

  -- a let with a declared type and no init
  pub let_declared_type : (n : ℕ) (t : Option TypeId) (x : TypeId) → t ≡ Some x → Runs m c m₁ c (set_extra n (extra.Local x)) tt → Runs m₁ c m' c (set_node_type n x.0) tt → Runs m c m' c (let_without_init n t) tt
  let_declared_type n t x h X T = rw h (local_is n x x X T)

  -- a let without type and init
  pub let_drawn : {d : Record} (n v : ℕ) (t : Option TypeId) → t ≡ None → Runs m c m₁ d (new_infer_var regular (drawn_by n)) v → Runs m₁ d m' d (set_node_type n v) tt → Runs m c m' d (let_without_init n t) tt
  let_drawn n v t h D T = rw h (then _ D T)

  -- a let with an init and no type
  pub let_init : (n : ℕ) (t : Option TypeId) (y : TypeId) → t ≡ None → Runs m c m₁ c (set_extra n (extra.Local y)) tt → Runs m₁ c m' c (set_node_type n y.0) tt → Runs m c m' c (let_with_init n t y.0) tt
  let_init n t y h X T = rw h (local_is n y y X T)

module _ {m m₁ m' : List ℕ} {c d : Record} (n : ℕ) (x y : TypeId) (e : TypingError) (is : e ≡ mismatch error·K.TypeMismatch (at n) x.0 y.0 0) where
  -- a let with both: its equation was met, or it failed
  pub let_both : {m₂ : List ℕ} {q : Bool} → Runs m c m₁ d (equation n x.0 y.0 e) q → Runs m₁ d m₂ d (set_extra n (extra.Local y)) tt → Runs m₂ d m' d (set_node_type n x.0) tt → Runs m c m' d (let_with_init n (Some x) y.0) tt
  let_both E X T = rw (← is) (then _ E (local_is n y x X T))

-- a let with both whose equation is refused
pub let_refused : {m m' : List ℕ} {c d : Record} (n k : ℕ) (x y : TypeId) (e : TypingError) → e ≡ mismatch error·K.TypeMismatch (at n) x.0 y.0 0 → Stops m c m' d (equation n x.0 y.0 e) k n → Stops m c m' d (let_with_init n (Some x) y.0) k n
let_refused n k x y e is E = rw (← is) (stops _ E)

-- ── calls ──

module _ (rows cells : List ℕ) {m : List ℕ} {c : Record} (n x h : ℕ) (is : h ≡ head_at m c.counts.types x) where
  -- a definition
  pub callee_def : (d o : ℕ) → h ≡ 7 → d ≡ number_at m c.counts.types x → o ≡ output_of rows cells d → Runs m c m c (callee_of rows cells n x) (some (callee.Def (record { 0 = d }), o))
  unfolding callee_of
  callee_def d o t e f = then _ (runs_shape_of x) (rw (row_fn m c.counts.types x (sym is ∙ t), ← e, f) runs_done)

  -- a lambda
  pub callee_lambda : (o : ℕ) → h ≡ 13 → o ≡ output_at m c.counts.types x → Runs m c m c (callee_of rows cells n x) (some (callee.Type (record { 0 = x }), o))
  unfolding callee_of
  callee_lambda o t e = then _ (runs_shape_of x) (rw (row_lam m c.counts.types x (sym is ∙ t), e) runs_done)

  -- a function type
  pub callee_function : (o : ℕ) → h ≡ 6 → o ≡ output_at m c.counts.types x → Runs m c m c (callee_of rows cells n x) (some (callee.Type (record { 0 = x }), o))
  unfolding callee_of
  callee_function o t e = then _ (runs_shape_of x) (rw (row_fun m c.counts.types x (sym is ∙ t), e) runs_done)

  -- either of them
  pub callee_typed : (o : ℕ) → (h ≡ 6) ⊎ (h ≡ 13) → o ≡ output_at m c.counts.types x → Runs m c m c (callee_of rows cells n x) (some (callee.Type (record { 0 = x }), o))
  callee_typed o (inl t) e = callee_function o t e
  callee_typed o (inr t) e = callee_lambda o t e

  -- err
  pub callee_err : h ≡ 10 → Runs m c m c (callee_of rows cells n x) none
  unfolding callee_of
  callee_err t = then _ (runs_shape_of x) (rw (row_err m c.counts.types x (sym is ∙ t)) runs_done)

  -- nothing that can be called
  pub callee_none : {m' : List ℕ} {d : Record} → (h ≡ 7 → ⊥) → (h ≡ 13 → ⊥) → (h ≡ 6 → ⊥) → (h ≡ 10 → ⊥) → Runs m c m' d (error (own_error error·K.CallingNotFn (at n) x 0)) tt → Runs m c m' d (callee_of rows cells n x) none
  unfolding callee_of not_called
  callee_none f l p e R =
      let s = row (rows_of m c.counts.types) x in
      let no : (k : ℕ) → (h ≡ k → ⊥) → head s ≡ k → ⊥ = λ k q. head_not m c.counts.types x h is k q in
      then _ (runs_shape_of x) (rw (not_callee rows cells n x s (no 7 f) (no 13 l) (no 6 p) (no 10 e)) (then _ R runs_done))

module _ (rows cells : List ℕ) {m : List ℕ} {c : Record} where
  -- as many arguments as inputs
  pub amounts_right : (p : Span) (f : Callee) (given k : ℕ) → k ≡ length (inputs_of (rows_of m c.counts.types) rows cells f) → k ≡ given → Runs m c m c (amounts rows cells p f given) tt
  unfolding amounts amounts_of
  amounts_right p f given k e t = then _ runs_types (rw (← e, t, eq-eqb given given refl) runs_done)

  module _ {m' : List ℕ} where
    -- more or fewer
    pub amounts_wrong : {d : Record} (p : Span) (f : Callee) (given k : ℕ) → k ≡ length (inputs_of (rows_of m c.counts.types) rows cells f) → (k ≡ given → ⊥) → Runs m c m' d (error (own_error error·K.WrongArgumentAmnt p given k)) tt → Runs m c m' d (amounts rows cells p f given) tt
    unfolding amounts amounts_of
    amounts_wrong p f given k e t R = then _ runs_types (rw (← e, ne_eqb k given t) R)

    -- an argument that has an input
    pub argument_there : (n i : ℕ) (p : Span) (f : Callee) (y : ℕ) (v : Option TypeId) (x : TypeId) (w : TypingError) {r : Result Record Refusal} → v ≡ nth (inputs_of (rows_of m c.counts.types) rows cells f) i → v ≡ Some x → w ≡ mismatch error·K.WrongArgumentTy p x.0 y i → Rules m c m' r (equate_on n x.0 y w) → Rules m c m' r (argument rows cells n p f i y)
    unfolding argument
    argument_there n i p f y v x w e h is R = after_rules _ runs_types (rw (← e, h, ← is) R)

  -- an extra argument
  pub argument_extra : (n i : ℕ) (p : Span) (f : Callee) (y : ℕ) (v : Option TypeId) → v ≡ nth (inputs_of (rows_of m c.counts.types) rows cells f) i → v ≡ None → Runs m c m c (argument rows cells n p f i y) tt
  unfolding argument
  argument_extra n i p f y v e h = then _ runs_types (rw (← e, h) runs_done)

-- a receiver err
pub method_err : (b : Body) {m : List ℕ} {c : Record} (n e x name : ℕ) → x ≡ 12 → Runs m c m c (method_of b n e x name) none
unfolding method_of
method_err b n e x name h = rw h runs_done

module _ (b : Body) {m m' : List ℕ} {c d : Record} (n e x name : ℕ) (v : Option DefId) (is : v ≡ method (rows_of m c.counts.types) b x name) (no : x ≡ 12 → ⊥) where
  -- a method that is there
  pub method_there : (f : DefId) → v ≡ Some f → Runs m c m' d (set_extra n (extra.Method f)) tt → Runs m c m' d (method_of b n e x name) (some f.0)
  unfolding method_of sought
  method_there f h R = rw (ne_eqb x 12 no) (then _ runs_types (rw (← is, h) (then _ R runs_done)))

  -- none of the name
  pub method_none : v ≡ None → Runs m c m' d (error (own_error error·K.MethodNotFound (at e) x name)) tt → Runs m c m' d (method_of b n e x name) none
  unfolding method_of sought
  method_none h R = rw (ne_eqb x 12 no) (then _ runs_types (rw (← is, h) (then _ R runs_done)))

-- ── lambdas ──

-- a param with a declared type
pub param_declared : {m m' : List ℕ} {c : Record} (n : ℕ) (v w : Option TypeId) (t : TypeId) → v ≡ w → v ≡ Some t → Runs m c m' c (set_node_type n t.0) tt → Runs m c m' c (lambda_param n w) tt
param_declared n v w t e h R = rw (← e, h) R

-- a param without one
pub param_drawn : {m m₁ m' : List ℕ} {c d : Record} (n x : ℕ) (v w : Option TypeId) → v ≡ w → v ≡ None → Runs m c m₁ d (new_infer_var regular (drawn_by n)) x → Runs m₁ d m' d (set_node_type n x) tt → Runs m c m' d (lambda_param n w) tt
param_drawn n x v w e h D T = rw (← e, h) (then _ D T)

module _ {m m' : List ℕ} {c d : Record} where
  -- a declared output
  pub output_declared : (n v : ℕ) (t : Option TypeId) (x : TypeId) → t ≡ Some x → Runs m c m' d (new_infer_var regular (drawn_by n)) v → Runs m c m' d (lambda_output n t) x.0
  unfolding lambda_output
  output_declared n v t x h D = rw h (then _ D runs_done)

  -- none
  pub output_drawn : (n v : ℕ) (t : Option TypeId) → t ≡ None → Runs m c m' d (new_infer_var regular (drawn_by n)) v → Runs m c m' d (lambda_output n t) v
  unfolding lambda_output
  output_drawn n v t h D = rw h (then _ D runs_done)

  -- a body that was met or not, and then the type
  pub lambda_made : {m₁ : List ℕ} (cells : List ℕ) (n e o y : ℕ) (t : Items) (w : TypingError) {r : Result (Record × TypeId) Refusal} → w ≡ mismatch error·K.TypeMismatch (at e) o y 0 → Runs m c m₁ d (equate_on n o y w) tt → Types m₁ d m' r (make_lambda n o (items_of cells t)) → Types m c m' r (lambda cells n e o y t)
  unfolding lambda
  lambda_made cells n e o y t w is E L = rw (← is) (after _ E L)

  -- a refused one
  pub lambda_refused : (cells : List ℕ) (n e o y k p : ℕ) (t : Items) (w : TypingError) → w ≡ mismatch error·K.TypeMismatch (at e) o y 0 → Stops m c m' d (equate_on n o y w) k p → Stops m c m' d (lambda cells n e o y t) k p
  unfolding lambda
  lambda_refused cells n e o y k p t w is E = rw (← is) (stops _ E)

-- ── paths ──

module _ {m : List ℕ} {c : Record} (n : ℕ) (r : Res) (l : NodeId) (is : r ≡ res.Local l) (v : Option TypeId) (found : v ≡ node_type (get_or (raws_of m) l.0 none)) where
  -- a typed local
  pub local_typed : (t : TypeId) → v ≡ Some t → Runs m c m c (type_res n r) t.0
  unfolding type_res
  local_typed t h = rw is (then _ (runs_node_type l.0) (rw (typed_some (get_or (raws_of m) l.0 none) t (sym found ∙ h)) runs_done))

  -- one that is not yet typed
  pub local_untyped : v ≡ None → Stops m c m c (type_res n r) 11 n
  unfolding type_res
  local_untyped h = rw is (then_stops _ (runs_node_type l.0) (rw (untyped_none (get_or (raws_of m) l.0 none) (sym found ∙ h)) stops_refuse))

module _ {m m₁ m' : List ℕ} {c d : Record} (n : ℕ) where
  -- a whole path
  pub whole_is : (r : Res) (t : ℕ) → Runs m c m₁ d (type_res n r) t → Runs m₁ d m' d (set_extra n (extra.Resolved r)) tt → Runs m c m' d (whole_path n r) t
  unfolding whole_path
  whole_is r t T X = then _ T (then _ X runs_done)

-- a whole path that is refused
pub whole_refused : {m m' : List ℕ} {c d : Record} (n : ℕ) (r : Res) (k p : ℕ) → Stops m c m' d (type_res n r) k p → Stops m c m' d (whole_path n r) k p
unfolding whole_path
whole_refused n r k p T = stops _ T

module _ (b : Body) {m m₁ m' : List ℕ} {c : Record} (n x name : ℕ) (v : Option DefId) (is : v ≡ method (rows_of m c.counts.types) b x name) where
  -- a path to a method
  pub path_there : (f : DefId) {r : Result (Record × TypeId) Refusal} → v ≡ Some f → Runs m c m₁ c (set_extra n (extra.Resolved (res.Fn f))) tt → Types m₁ c m' r (fn_def_lem f.0) → Types m c m' r (path_found b n x name)
  unfolding path_found
  path_there f h X F = after _ runs_types (rw (← is, h) (after _ X F))

  -- a path to none
  pub path_none : {d : Record} → v ≡ None → Runs m c m₁ c (set_extra n (extra.Resolved res.Error)) tt → Runs m₁ c m' d (error (own_error error·K.MethodNotFound (at n) x name)) tt → Runs m c m' d (path_found b n x name) err_type
  unfolding path_found
  path_none h X R = then _ runs_types (rw (← is, h) (then _ X (then _ R runs_done)))

module _ (b : Body) {m m' : List ℕ} {c : Record} (n k : ℕ) (t : Items) (l : k < t.count) (name : ℕ) (s : Res) (named : name ≡ segment_name b.cells t k) (last : s ≡ segment_res b.cells t (t.count - 1)) where
  -- a path of an instance
  pub inst_found : {m₁ : List ℕ} {c₁ : Record} (x : ℕ) {r : Result (Record × TypeId) Refusal} → Runs m c m₁ c₁ (type_res n s) x → Types m₁ c₁ m' r (path_found b n x name) → Types m c m' r (inst_path b n k t)
  unfolding inst_path path_of
  inst_found x T P = rw (lt-ltb k t.count l, ← last, ← named) (after _ T P)

  -- one whose last segment is refused
  pub inst_refused : {d : Record} (a p : ℕ) → Stops m c m' d (type_res n s) a p → Stops m c m' d (inst_path b n k t) a p
  unfolding inst_path path_of
  inst_refused a p T = rw (lt-ltb k t.count l, ← last) (stops _ T)

-- RESOLVED is not below the number of segments
pub inst_short : (b : Body) {m : List ℕ} {c : Record} (n k : ℕ) (t : Items) → t.count ≤ k → Stops m c m c (inst_path b n k t) 10 n
unfolding inst_path
inst_short b n k t h = rw (le-ltb k t.count h) stops_refuse

module _ (b : Body) {m m' : List ℕ} {c : Record} (n k : ℕ) (r : Res) (t : Items) where
  -- a partly failed path
  pub path_failed : {x : Result (Record × TypeId) Refusal} → is_partly_failed b.cells t ≡ true → Types m c m' x (failed_path b n r k t) → Types m c m' x (path b n r k t)
  unfolding path
  path_failed h R = rw h R

  -- a whole path
  pub path_whole : {x : Result (Record × TypeId) Refusal} → is_partly_failed b.cells t ≡ false → Types m c m' x (whole_path n r) → Types m c m' x (path b n r k t)
  unfolding path
  path_whole h R = rw h R

-- a partly failed path of RES e
pub failed_error : (b : Body) {m m' : List ℕ} {c d : Record} (n k : ℕ) (t : Items) → Runs m c m' d (set_extra n (extra.Resolved res.Error)) tt → Runs m c m' d (failed_path b n res.Error k t) err_type
unfolding failed_path
failed_error b n k t X = then _ X runs_done

-- ── by the variant of a parameter ──

module _ {m m' : List ℕ} {c : Record} {z : Result (Record × TypeId) Refusal} where
  -- the address of an operand
  pub op_address : (o : UnOp) (e x : ℕ) → o ≡ un.Address → Types m c m' z (ref_to_lem x) → Types m c m' z (un_op_lem o e x)
  unfolding un_op_lem
  op_address o e x h R = rw h R

  -- RES f
  pub res_fn : (n : ℕ) (r : Res) (d : DefId) → r ≡ res.Fn d → Types m c m' z (fn_def_lem d.0) → Types m c m' z (type_res n r)
  unfolding type_res
  res_fn n r d h R = rw h R

  -- RES c
  pub res_ctor : (n : ℕ) (r : Res) (d : DefId) → r ≡ res.Ctor d → Types m c m' z (fn_def_lem d.0) → Types m c m' z (type_res n r)
  unfolding type_res
  res_ctor n r d h R = rw h R

  -- either of them
  pub res_def : (n : ℕ) (r : Res) (d : DefId) → (r ≡ res.Fn d) ⊎ (r ≡ res.Ctor d) → Types m c m' z (fn_def_lem d.0) → Types m c m' z (type_res n r)
  res_def n r d (inl h) R = res_fn n r d h R
  res_def n r d (inr h) R = res_ctor n r d h R

  -- a partly failed path of RES i
  pub failed_inst : (b : Body) (n k : ℕ) (r : Res) (t : Items) (i : InstId) → r ≡ res.Inst i → Types m c m' z (inst_path b n k t) → Types m c m' z (failed_path b n r k t)
  unfolding failed_path
  failed_inst b n k r t i h R = rw h R

module _ {m m' : List ℕ} {c d : Record} where
  -- the array of a list
  pub list_is : (e t : ℕ) → Runs m c m' d (array_of e) t → Runs m c m' d (list_of e) t
  unfolding list_of
  list_is e t R = R

  -- RES i
  pub res_inst : (n : ℕ) (r : Res) (k : InstId) {t : ℕ} → r ≡ res.Inst k → Runs m c m' d (instance k.0) t → Runs m c m' d (type_res n r) t
  unfolding type_res
  res_inst n r k h R = rw h R

  -- a partly failed path of RES e
  pub failed_e : (b : Body) (n k : ℕ) (r : Res) (t : Items) → r ≡ res.Error → Runs m c m' d (set_extra n (extra.Resolved res.Error)) tt → Runs m c m' d (failed_path b n r k t) err_type
  failed_e b n k r t h X = rw h (failed_error b n k t X)

module _ {m : List ℕ} {c : Record} where
  -- RES e
  pub res_error : (n : ℕ) (r : Res) → r ≡ res.Error → Runs m c m c (type_res n r) err_type
  unfolding type_res
  res_error n r h = rw h runs_done

  -- RES o
  pub res_other : (n : ℕ) (r : Res) → r ≡ res.Other → Stops m c m c (type_res n r) 10 n
  unfolding type_res
  res_other n r h = rw h stops_refuse

  module _ (b : Body) (n k : ℕ) (r : Res) (t : Items) where
    -- a partly failed path of RES l
    pub failed_local : (l : NodeId) → r ≡ res.Local l → Stops m c m c (failed_path b n r k t) 10 n
    unfolding failed_path
    failed_local l h = rw h stops_refuse

    -- of RES f
    pub failed_fn : (d : DefId) → r ≡ res.Fn d → Stops m c m c (failed_path b n r k t) 10 n
    unfolding failed_path
    failed_fn d h = rw h stops_refuse

    -- of RES c
    pub failed_ctor : (d : DefId) → r ≡ res.Ctor d → Stops m c m c (failed_path b n r k t) 10 n
    unfolding failed_path
    failed_ctor d h = rw h stops_refuse

    -- of RES o
    pub failed_o : r ≡ res.Other → Stops m c m c (failed_path b n r k t) 10 n
    unfolding failed_path
    failed_o h = rw h stops_refuse

    -- of any of them
    pub failed_none : ((l : NodeId) × (r ≡ res.Local l)) ⊎ (((d : DefId) × (r ≡ res.Fn d)) ⊎ (((d : DefId) × (r ≡ res.Ctor d)) ⊎ (r ≡ res.Other))) → Stops m c m c (failed_path b n r k t) 10 n
    failed_none (inl h) = failed_local h.0 h.1
    failed_none (inr (inl h)) = failed_fn h.0 h.1
    failed_none (inr (inr (inl h))) = failed_ctor h.0 h.1
    failed_none (inr (inr (inr h))) = failed_o h

-- a let with a declared type, and its init
pub let_of : {m m' : List ℕ} {c : Record} {z : Result Record Refusal} (n y : ℕ) (t : Option TypeId) (x : TypeId) → t ≡ Some x → Rules m c m' z (let_with_init n (Some x) y) → Rules m c m' z (let_with_init n t y)
let_of n y t x h R = rw h R

-- ── the loop over the params of a lambda ──

module _ (rows cells : List ℕ) (t : Items) where
  -- no param is done
  pub params_first : {m : List ℕ} {c : Record} → Onto m c m c (lambda_params rows cells t) (for_each 0 (t.count - 0) (lambda_param_at rows cells t))
  unfolding lambda_params
  params_first = onto_start (lambda_param_at rows cells t) t.count

  -- one more
  pub params_next : {m₀ m m₁ : List ℕ} {c₀ c c₁ : Record} (i k n : ℕ) → i < k → n ≡ item cells t i → Onto m₀ c₀ m c (lambda_params rows cells t) (for_each i (k - i) (lambda_param_at rows cells t)) → Runs m c m₁ c₁ (lambda_param n (declared_at rows cells n)) tt
      → Onto m₀ c₀ m₁ c₁ (lambda_params rows cells t) (for_each (i + 1) (k - (i + 1)) (lambda_param_at rows cells t))
  unfolding lambda_param_at
  params_next i k n l e O R = onto_next (lambda_param_at rows cells t) i k l O (rw e at R)

  -- all are done
  pub params_last : {m₀ m : List ℕ} {c₀ c : Record} (i k : ℕ) → k ≤ i → Onto m₀ c₀ m c (lambda_params rows cells t) (for_each i (k - i) (lambda_param_at rows cells t)) → Runs m₀ c₀ m c (lambda_params rows cells t) tt
  params_last i k h O = onto_end (lambda_param_at rows cells t) i k h O

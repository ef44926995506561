-- The programs of the rules, whatever numbers are types: they make types of such types, each of one of six forms, raise equations of such types, whose errors name
-- their sides, and refuse with 10 to 13 at a node of the file. The steps and the rules that type no other node are such programs. Assumes nothing.
use Rattle.std.specs.Prelude.{◌≡◌, List, [], ◌∷◌, map, Bool, true, false, cond, eqb, ltb, leb, length, get_or, set, None, Option as Option·R, Some}
use Rattle.std.proofs.Math.Path.{refl}
use Rattle.std.proofs.Math.Option.{Option, none, some}
use Prim.Native.Nat.{ℕ, suc, zero, ◌+◌, ◌<◌, ◌≤◌}
use Rattle.std.proofs.Common.{arith}
use Rattle.theory.specs.Rules.{Base, bool, nil, float, double, uint, int, inst, Shape, base, var, arr, ref, fn, fun, lam, err, div, Kind, mismatch, regular, integer, floating, as_var, head, error_head, row, bound}
use Rattle.theory.specs.Program.{done, refuse, draw, intern, equate, emit, mark, read, write, ◌>>=◌}
use Rattle.theory.specs.Basics.{All}
use Rattle.refs.specs.declared.Counts.{Counts}
use Rattle.nodes.specs.declared.Items.{Items}
use Rattle.nodes.specs.declared.BinOp.{BinOp}
use Rattle.nodes.specs.declared.BinOp.TheVariants as bin
use Rattle.nodes.specs.declared.UnOp.{UnOp}
use Rattle.nodes.specs.declared.UnOp.TheVariants as un
use Rattle.nodes.specs.declared.Callee.{Callee}
use Rattle.nodes.specs.declared.Callee.TheVariants as callee
use Rattle.nodes.specs.Nodes.{Body, item, declared_at, items_of, output_of, def_inputs, shape_inputs, inputs_of, nth, field_type, as_arr, method}
use Rattle.record.specs.declared.Extra.{Extra}
use Rattle.record.specs.declared.ErrorKind.{ErrorKind}
use Rattle.record.specs.declared.ErrorKind.TheVariants as error·K
use Rattle.record.specs.declared.TypingError.{TypingError}
use Rattle.record.specs.declared.Span.{Span}
use Rattle.record.specs.Own.{Own, typed, marked, resolved}
use Rattle.record.specs.Steps.{State, Walk, Step, or_nil, change, set_node_type, set_extra, set_final, node_type_lem, shape_of_lem, all_types, output, drawn_by, new_infer_var, array_of, ref_to_lem, fn_def_lem, instance, param_type, make_lambda, mark_var, error, equation, for_each}
use Rattle.rules.specs.Rules as rule
use Rattle.bounds.specs.Refers.{DefBy, TypeBy, type_more, Declared, ItemsLower, Refers}
use Rattle.type_table.specs.declared.DefId.{DefId}
use Rattle.type_table.specs.declared.TypeId.{TypeId}

-- ── types, definitions and instances ──

-- P holds of a number, if there is one
abbrev pub Maybe : (ℕ → Type 0) → Option ℕ → Type 0
Maybe P none = Unit {0}
Maybe P (some x) = P x

-- which numbers are types, definitions and instances
pub record Numbers : Type 1 where
  pub type : ℕ → Type 0
  pub def : ℕ → Type 0
  pub inst : ℕ → Type 0

-- what a base type is made of: an instance
abbrev pub BaseParts : Numbers → Base → Type 0
BaseParts W bool = Unit {0}
BaseParts W nil = Unit {0}
BaseParts W float = Unit {0}
BaseParts W double = Unit {0}
BaseParts W (uint w) = Unit {0}
BaseParts W (int w) = Unit {0}
BaseParts W (inst k) = W.inst k

-- what a type is made of: types, a definition or an instance
abbrev pub Parts : Numbers → Shape → Type 0
Parts W (base b) = BaseParts W b
Parts W (var v) = Unit {0}
Parts W (arr e) = W.type e
Parts W (ref e) = W.type e
Parts W (fn d) = W.def d
Parts W (fun s o i) = W.type o × All W.type i
Parts W (lam n o i) = W.type o × All W.type i
Parts W err = Unit {0}
Parts W div = Unit {0}

-- document 01's new types: `var,V`, `array,E`, `ref,E`, `fn,D`, `inst,K`, `lambda,NODE,OUT,IN..`
abbrev pub is_made : Shape → Bool
is_made (var v) = true
is_made (arr e) = true
is_made (ref e) = true
is_made (fn d) = true
is_made (base (inst k)) = true
is_made (lam n o i) = true
is_made (base bool) = false
is_made (base nil) = false
is_made (base float) = false
is_made (base double) = false
is_made (base (uint w)) = false
is_made (base (int w)) = false
is_made (fun s o i) = false
is_made err = false
is_made div = false

-- T holds of the type that `return` answers to and of RAW of each node
pub record OwnTypes (T : ℕ → Type 0) (o : Own) : Type 0 where
  pub output : T o.output
  pub raw : (i : ℕ) → Maybe T (get_or o.raw i none)

-- these are types, and so is what each row is made of and what each variable is bound to
pub record StateTypes (W : Numbers) (s : State) : Type 0 where
  pub rows : (x : ℕ) → Parts W (row s.rows x)
  pub binds : (v : ℕ) → Maybe W.type (bound s.mem.binds v)
  pub own : OwnTypes W.type s.own

-- ── programs ──

-- a refusal of the walk: its number k is 10 to 13, its place p one of the first m nodes
pub record Placed (m k p : ℕ) : Type 0 where
  pub least : 10 ≤ k
  pub most : k ≤ 13
  pub lower : p < m

-- the origin of a drawn variable: of a Regular one, that of one of the first m nodes; of a literal's, none
abbrev pub DrawnAt : ℕ → Kind → Option ℕ → Type 0
DrawnAt m regular o = (n : ℕ) × (n < m) × (o ≡ drawn_by n)
DrawnAt m integer o = o ≡ none
DrawnAt m floating o = o ≡ none

-- the error of an equation that failed: its CAUSE is 1, and it names the sides x, expected, and y, got
pub record Names (x y : ℕ) (e : TypingError) : Type 0 where
  pub cause : e.cause ≡ 1
  pub expected : e.a ≡ x
  pub got : e.b ≡ y

module _ (N : Counts) (W : Numbers) {A : Type 0} (Q : A → Type 0) where
  -- from states of such types a program makes types of such types, of the forms of `is_made` but no variables, raises equations of such types, refuses as above,
  -- by itself with 10 and 11 alone, emits errors as `Names` says and by itself with CAUSE 0 alone, and answers what Q holds of
  unfoldable pub IsConfined : Walk A → Type 0
  IsConfined (done a) = Q a
  IsConfined (refuse k n) = Placed N.nodes k n × (k ≤ 11)
  IsConfined (draw k o f) = DrawnAt N.nodes k o × ((r : ℕ) → W.type r → IsConfined (f r))
  IsConfined (intern t f) = (is_made t ≡ true) × (as_var t ≡ none) × Parts W t × ((r : ℕ) → W.type r → IsConfined (f r))
  IsConfined (equate n x y e f) = Placed N.nodes 12 n × Placed N.nodes 13 n × W.type x × W.type y × ((c : Bool) → IsConfined (f c)) × Names x y (e mismatch)
  IsConfined (emit e p) = IsConfined p × (e.cause ≡ 0)
  IsConfined (mark v p) = IsConfined p
  IsConfined (read f) = (s : State) → StateTypes W s → IsConfined (f s)
  IsConfined (write o p) = OwnTypes W.type o × IsConfined p

-- so a program
pub record Confined (N : Counts) (W : Numbers) {A : Type 0} (Q : A → Type 0) (p : Walk A) : Type 0 where
  pub by : IsConfined N W Q p

-- of any answer
abbrev pub Any : {A : Type 0} → A → Type 0
Any a = Unit {0}

module _ {A B : Type 0} where
  -- one program after another
  bind_confined : (N : Counts) (W : Numbers) (Q : A → Type 0) (R : B → Type 0) (p : Walk A) (g : A → Walk B) → IsConfined N W Q p → ((x : A) → Q x → IsConfined N W R (g x)) → IsConfined N W R (◌>>=◌ p g)
  unfolding IsConfined ◌>>=◌
  bind_confined N W Q R (done a) g P K = K a P
  bind_confined N W Q R (refuse k n) g P K = P
  bind_confined N W Q R (draw k o f) g P K = (P.0, λ r v. bind_confined N W Q R (f r) g (P.1 r v) K)
  bind_confined N W Q R (intern t f) g P K = (P.0, P.1, P.2, λ r v. bind_confined N W Q R (f r) g (P.3 r v) K)
  bind_confined N W Q R (equate n x y e f) g P K = (P.0, P.1, P.2, P.3, λ c. bind_confined N W Q R (f c) g (P.4 c) K, P.5)
  bind_confined N W Q R (emit e p) g P K = (bind_confined N W Q R p g P.0 K, P.1)
  bind_confined N W Q R (mark v p) g P K = bind_confined N W Q R p g P K
  bind_confined N W Q R (read f) g P K = λ s k. bind_confined N W Q R (f s) g (P s k) K
  bind_confined N W Q R (write o p) g P K = (P.0, bind_confined N W Q R p g P.1 K)

  -- one part and then another
  pub then_confined : {N : Counts} {W : Numbers} {Q : A → Type 0} {R : B → Type 0} {p : Walk A} (g : A → Walk B) → Confined N W Q p → ((x : A) → Q x → Confined N W R (g x)) → Confined N W R (◌>>=◌ p g)
  then_confined {N} {W} {Q} {R} {p} g P K = record { by = bind_confined N W Q R p g P.by (λ x q. (K x q).by) }

-- what holds of each number of a list and of one more holds of each after a change
set_each : (P : Option ℕ → Type 0) (l : List (Option ℕ)) (n : ℕ) (a : Option ℕ) → P a → ((i : ℕ) → P (get_or l i none)) → (i : ℕ) → P (get_or (set l n a) i none)
set_each P [] n a p h i = h i
set_each P (x ∷ l) zero a p h zero = p
set_each P (x ∷ l) zero a p h (suc i) = h (suc i)
set_each P (x ∷ l) (suc n) a p h zero = h zero
set_each P (x ∷ l) (suc n) a p h (suc i) = set_each P l n a p (λ j. h (suc j)) i

-- each declared type is a type, each definition and instance of the file is one, and OUT, IN and fields of these are types
pub record Known (N : Counts) (b : Body) (W : Numbers) : Type 0 where
  pub type : (x : ℕ) → Declared N x → W.type x
  pub def : (d : ℕ) → d < N.defs → W.def d
  pub inst : (k : ℕ) → k < N.insts → W.inst k
  pub outputs : (d : ℕ) → W.def d → W.type (output_of b.rows b.cells d)
  pub inputs : (d : ℕ) → W.def d → All W.type (items_of b.cells (def_inputs b.rows d))
  pub fields : (k name : ℕ) → W.inst k → TypeBy W.type (field_type b.rows b.cells k name)

-- a definition that is called is one
abbrev pub Callable : Numbers → Callee → Type 0
Callable W (callee.Def d) = W.def d.0
Callable W (callee.Type x) = Unit {0}

-- what is called, if anything, and its output
abbrev pub Called : Numbers → Option (Callee × ℕ) → Type 0
Called W none = Unit {0}
Called W (some f) = Callable W f.0 × W.type f.1

module _ (W : Numbers) where
  -- ── what a type is made of ──

  -- what a reference is made of
  as_ref_lem : (s : Shape) → Parts W s → Maybe W.type (rule.as_ref s)
  as_ref_lem (base b) p = tt
  as_ref_lem (var v) p = tt
  as_ref_lem (arr e) p = tt
  as_ref_lem (ref e) p = p
  as_ref_lem (fn d) p = tt
  as_ref_lem (fun s o i) p = tt
  as_ref_lem (lam n o i) p = tt
  as_ref_lem err p = tt
  as_ref_lem div p = tt

  -- the element of an array
  pub as_arr_lem : (s : Shape) → Parts W s → Maybe W.type (as_arr s)
  as_arr_lem (base b) p = tt
  as_arr_lem (var v) p = tt
  as_arr_lem (arr e) p = p
  as_arr_lem (ref e) p = tt
  as_arr_lem (fn d) p = tt
  as_arr_lem (fun s o i) p = tt
  as_arr_lem (lam n o i) p = tt
  as_arr_lem err p = tt
  as_arr_lem div p = tt

  -- the number of an instance
  as_inst_base_lem : (b : Base) → BaseParts W b → Maybe W.inst (rule.as_inst_base b)
  as_inst_base_lem bool p = tt
  as_inst_base_lem nil p = tt
  as_inst_base_lem float p = tt
  as_inst_base_lem double p = tt
  as_inst_base_lem (uint w) p = tt
  as_inst_base_lem (int w) p = tt
  as_inst_base_lem (inst k) p = p

  -- the instance that a type is
  as_inst_lem : (s : Shape) → Parts W s → Maybe W.inst (rule.as_inst s)
  as_inst_lem (base b) p = as_inst_base_lem b p
  as_inst_lem (var v) p = tt
  as_inst_lem (arr e) p = tt
  as_inst_lem (ref e) p = tt
  as_inst_lem (fn d) p = tt
  as_inst_lem (fun s o i) p = tt
  as_inst_lem (lam n o i) p = tt
  as_inst_lem err p = tt
  as_inst_lem div p = tt

  -- the inputs of a function type or a lambda
  shape_inputs_lem : (s : Shape) → Parts W s → All W.type (shape_inputs s)
  shape_inputs_lem (base b) p = tt
  shape_inputs_lem (var v) p = tt
  shape_inputs_lem (arr e) p = tt
  shape_inputs_lem (ref e) p = tt
  shape_inputs_lem (fn d) p = tt
  shape_inputs_lem (fun s o i) p = p.1
  shape_inputs_lem (lam n o i) p = p.1
  shape_inputs_lem err p = tt
  shape_inputs_lem div p = tt

module _ {N : Counts} {W : Numbers} where
  -- ── steps ──

  module _ {A : Type 0} {Q : A → Type 0} where
    -- an answer
    pub done_confined : (a : A) → Q a → Confined N W Q (done a)
    unfolding IsConfined
    done_confined a q = record { by = q }

    -- a refusal
    refuse_confined : {k n : ℕ} → Placed N.nodes k n → k ≤ 11 → Confined N W Q (refuse k n)
    unfolding IsConfined
    refuse_confined P h = record { by = (P, h) }

    -- a refusal with 10
    pub refuse_10_confined : (n : ℕ) → n < N.nodes → Confined N W Q (refuse 10 n)
    refuse_10_confined n h = refuse_confined (record { least = omega arith; most = omega arith; lower = h }) (omega arith)

    -- a refusal with 11
    refuse_11_confined : (n : ℕ) → n < N.nodes → Confined N W Q (refuse 11 n)
    refuse_11_confined n h = refuse_confined (record { least = omega arith; most = omega arith; lower = h }) (omega arith)

    -- the one that is chosen of two
    pub cond_confined : (b : Bool) {p q : Walk A} → Confined N W Q p → Confined N W Q q → Confined N W Q (cond b p q)
    cond_confined true P K = P
    cond_confined false P K = K

    -- the same, by the test
    pub test_confined : (b : Bool) {p q : Walk A} → (b ≡ true → Confined N W Q p) → Confined N W Q q → Confined N W Q (cond b p q)
    test_confined true P K = P refl
    test_confined false P K = K

    -- an error that no equation raised, and then an answer
    pub error_then : (k : ErrorKind) (p : Span) (x y : ℕ) (a : A) → Q a → Confined N W Q (◌>>=◌ (error (rule.own_error k p x y)) (λ u. done a))
    unfolding IsConfined error ◌>>=◌
    error_then k p x y a q = record { by = (q, refl) }

  -- a change of the walk's own
  change_confined : (f : Own → Own) → ((o : Own) → OwnTypes W.type o → OwnTypes W.type (f o)) → Confined N W Any (change f)
  unfolding IsConfined change
  change_confined f h = record { by = λ s k. (h s.own k.own, tt) }

  -- RAW of a node
  pub set_node_type_confined : (n t : ℕ) → W.type t → Confined N W Any (set_node_type n t)
  unfolding set_node_type typed
  set_node_type_confined n t v = change_confined _ (λ o k. record { output = k.output; raw = set_each (Maybe W.type) o.raw n (some t) v k.raw })

  -- EXTRA of a node
  pub set_extra_confined : (n : ℕ) (e : Extra) → Confined N W Any (set_extra n e)
  unfolding set_extra marked
  set_extra_confined n e = change_confined _ (λ o k. record { output = k.output; raw = k.raw })

  -- FINAL of a node
  pub set_final_confined : (n t : ℕ) → Confined N W Any (set_final n t)
  unfolding set_final resolved
  set_final_confined n t = change_confined _ (λ o k. record { output = k.output; raw = k.raw })

  -- RAW of a node, as it stands
  pub node_type_confined : (n : ℕ) → Confined N W (Maybe W.type) (node_type_lem n)
  unfolding IsConfined node_type_lem
  node_type_confined n = record { by = λ s k. k.own.raw n }

  -- a type, taken apart
  pub shape_of_confined : (x : ℕ) → Confined N W (Parts W) (shape_of_lem x)
  unfolding IsConfined shape_of_lem
  shape_of_confined x = record { by = λ s k. k.rows x }

  -- all types
  pub all_types_confined : Confined N W (λ ts. (x : ℕ) → Parts W (row ts x)) all_types
  unfolding IsConfined all_types
  all_types_confined = record { by = λ s k. k.rows }

  -- the type that `return` answers to
  pub output_confined : Confined N W W.type output
  unfolding IsConfined output
  output_confined = record { by = λ s k. k.own.output }

  -- a mark
  mark_var_confined : (v : ℕ) → Confined N W Any (mark_var v)
  unfolding IsConfined mark_var
  mark_var_confined v = record { by = tt }

  -- a variable
  pub new_infer_var_confined : (k : Kind) (o : Option ℕ) → DrawnAt N.nodes k o → Confined N W W.type (new_infer_var k o)
  unfolding IsConfined new_infer_var
  new_infer_var_confined k o h = record { by = (h, λ r v. v) }

  -- a made type
  intern_confined : (t : Shape) → is_made t ≡ true → as_var t ≡ none → Parts W t → Confined N W W.type (intern t done)
  unfolding IsConfined
  intern_confined t e f p = record { by = (e, f, p, λ r v. v) }

  -- an array
  pub array_of_confined : (e : ℕ) → W.type e → Confined N W W.type (array_of e)
  unfolding array_of
  array_of_confined e v = intern_confined (arr e) refl refl v

  -- a reference
  ref_to_confined : (e : ℕ) → W.type e → Confined N W W.type (ref_to_lem e)
  unfolding ref_to_lem
  ref_to_confined e v = intern_confined (ref e) refl refl v

  -- an error that no equation raised
  error_confined : (k : ErrorKind) (p : Span) (x y : ℕ) → Confined N W Any (error (rule.own_error k p x y))
  unfolding IsConfined error
  error_confined k p x y = record { by = (tt, refl) }

  -- an equation
  equation_confined : (n x y : ℕ) (e : TypingError) → n < N.nodes → W.type x → W.type y → e.a ≡ x → e.b ≡ y → Confined N W Any (equation n x y e)
  unfolding IsConfined equation
  equation_confined n x y e h v u p q = record { by = (record { least = omega arith; most = omega arith; lower = h }, record { least = omega arith; most = omega arith; lower = h }, v, u, λ c. tt, record { cause = refl; expected = p; got = q }) }

  -- a loop
  pub each_confined : (i k : ℕ) (f : ℕ → Step) → ((j : ℕ) → j < i + k → Confined N W Any (f j)) → Confined N W Any (for_each i k f)
  unfolding for_each
  each_confined i zero f h = done_confined tt tt
  each_confined i (suc k) f h = then_confined _ (h i (omega arith)) (λ x q. each_confined (suc i) k f (λ j l. h j (omega arith)))

  module _ {b : Body} (K : Known N b W) where
    -- a declared type is a type
    pub declared_known : (t : Option·R TypeId) → TypeBy (Declared N) t → TypeBy W.type t
    declared_known = type_more (Declared N) W.type (λ x h. K.type x h)

    -- the type of a definition
    pub fn_def_confined : (d : ℕ) → W.def d → Confined N W W.type (fn_def_lem d)
    unfolding fn_def_lem
    fn_def_confined d h = cond_confined (ltb d 256) (intern_confined (fn d) refl refl h) (done_confined 0 (K.type 0 (omega arith)))

    -- an instance
    pub instance_confined : (k : ℕ) → W.inst k → Confined N W W.type (instance k)
    unfolding instance
    instance_confined k h = cond_confined (ltb k 64) (intern_confined (base (inst k)) refl refl h) (done_confined 0 (K.type 0 (omega arith)))

    -- the type of a param, as an input of a lambda
    param_known : (s : State) → StateTypes W s → (p : ℕ) → W.type (param_type s p)
    unfolding param_type
    param_known s k p = by (ltb (or_nil (get_or s.own.raw p none)) (length s.rows)) (or_nil_lem (get_or s.own.raw p none) (k.own.raw p))
      where
        or_nil_lem : (o : Option ℕ) → Maybe W.type o → W.type (or_nil o)
        or_nil_lem none h = K.type 0 (omega arith)
        or_nil_lem (some t) h = h

        by : (c : Bool) {t : ℕ} → W.type t → W.type (cond c t 0)
        by true v = v
        by false v = K.type 0 (omega arith)

    -- and of each
    params_known : (s : State) → StateTypes W s → (ps : List ℕ) → All W.type (map (param_type s) ps)
    params_known s k [] = tt
    params_known s k (p ∷ ps) = (param_known s k p, params_known s k ps)

    -- a lambda
    make_lambda_confined : (n o : ℕ) (ps : List ℕ) → W.type o → Confined N W W.type (make_lambda n o ps)
    unfolding IsConfined make_lambda
    make_lambda_confined n o ps v = record { by = λ s k. (refl, refl, (v, params_known s k ps), λ r u. u) }

    -- ── the rules that type no other node ──

    -- an equation, and then a type
    pub equate_for_confined : (n x y : ℕ) (e : TypingError) (t : ℕ) → n < N.nodes → W.type x → W.type y → W.type t → e.a ≡ x → e.b ≡ y → Confined N W W.type (rule.equate_for n x y e t)
    unfolding rule.equate_for
    equate_for_confined n x y e t h v u q a b = then_confined _ (equation_confined n x y e h v u a b) (λ c k. done_confined t q)

    -- an equation alone
    pub equate_on_confined : (n x y : ℕ) (e : TypingError) → n < N.nodes → W.type x → W.type y → e.a ≡ x → e.b ≡ y → Confined N W Any (rule.equate_on n x y e)
    unfolding rule.equate_on
    equate_on_confined n x y e h v u a b = then_confined _ (equation_confined n x y e h v u a b) (λ c k. done_confined tt tt)

    -- the type of an operation
    bin_known : (met : Bool) (o : BinOp) (x : ℕ) → W.type x → W.type (cond met (rule.bin_type o x) rule.err_type)
    bin_known true bin.Boolean x v = K.type 1 (omega arith)
    bin_known true bin.Ordering x v = v
    bin_known true bin.Other x v = v
    bin_known false o x v = K.type 12 (omega arith)

    -- a binary operation
    pub bin_op_confined : (n : ℕ) (o : BinOp) (l r x y : ℕ) → n < N.nodes → W.type x → W.type y → Confined N W W.type (rule.bin_op_lem n o l r x y)
    unfolding rule.bin_op_lem
    bin_op_confined n o l r x y h v u = then_confined _ (equation_confined n x y (rule.between error·K.NoBinaryOp l r x y) h v u refl refl) (λ met k. done_confined _ (bin_known met o x v))

    -- no operator
    no_unary_op_confined : (e x : ℕ) → Confined N W W.type (rule.no_unary_op e x)
    unfolding rule.no_unary_op
    no_unary_op_confined e x = error_then _ _ _ _ _ (K.type 12 (omega arith))

    -- what stands behind a reference
    deref_confined : (e x : ℕ) (o : Option ℕ) → Maybe W.type o → Confined N W W.type (rule.deref e x o)
    deref_confined e x none h = no_unary_op_confined e x
    deref_confined e x (some y) h = done_confined y h

    -- the negation of a variable
    negate_var_confined : (e x : ℕ) (o : Option ℕ) → W.type x → Confined N W W.type (rule.negate_var e x o)
    negate_var_confined e x none v = no_unary_op_confined e x
    negate_var_confined e x (some u) v = then_confined _ (mark_var_confined u) (λ k q. done_confined x v)

    -- a negation
    negation_confined : (e x : ℕ) (s : Shape) → W.type x → Confined N W W.type (rule.negation e x s)
    unfolding rule.negation
    negation_confined e x s v = cond_confined (eqb (head s) 2) (done_confined x v) (negate_var_confined e x (as_var s) v)

    -- a `not`
    logical_not_confined : (e x : ℕ) (s : Shape) → W.type x → Confined N W W.type (rule.logical_not e x s)
    unfolding rule.logical_not
    logical_not_confined e x s v = cond_confined (leb (head s) 2) (done_confined x v) (no_unary_op_confined e x)

    -- a unary operation
    pub un_op_confined : (o : UnOp) (e x : ℕ) → W.type x → Confined N W W.type (rule.un_op_lem o e x)
    unfolding rule.un_op_lem
    un_op_confined un.Deref e x v = then_confined _ (shape_of_confined x) (λ s p. deref_confined e x (rule.as_ref s) (as_ref_lem W s p))
    un_op_confined un.Address e x v = ref_to_confined x v
    un_op_confined un.Negation e x v = then_confined _ (shape_of_confined x) (λ s p. negation_confined e x s v)
    un_op_confined un.Not e x v = then_confined _ (shape_of_confined x) (λ s p. logical_not_confined e x s v)

    -- an empty list
    pub empty_list_confined : (n : ℕ) → n < N.nodes → Confined N W W.type (rule.empty_list n)
    unfolding rule.empty_list
    empty_list_confined n h = then_confined _ (new_infer_var_confined regular (drawn_by n) (n, h, refl)) (λ v q. array_of_confined v q)

    -- an element, or an error
    element_or_error_confined : (n x : ℕ) (o : Option ℕ) → Maybe W.type o → Confined N W (Maybe W.type) (rule.element_or_error n x o)
    element_or_error_confined n x (some e) h = done_confined (some e) h
    element_or_error_confined n x none h = error_then _ _ _ _ _ tt

    -- the element of what is indexed
    pub element_of_confined : (n x : ℕ) → Confined N W (Maybe W.type) (rule.element_of n x)
    unfolding rule.element_of
    element_of_confined n x = then_confined _ (shape_of_confined x) (λ s p. element_or_error_confined n x (as_arr s) (as_arr_lem W s p))

    -- a condition
    pub condition_confined : (e x : ℕ) → Confined N W Any (rule.condition e x)
    unfolding rule.condition
    condition_confined e x = cond_confined (eqb x rule.bool_type) (done_confined tt tt) (error_confined _ _ _ _)

    -- a `return`
    pub returned_confined : (n p y : ℕ) → n < N.nodes → W.type y → Confined N W W.type (rule.returned n p y)
    unfolding rule.returned
    returned_confined n p y h v = then_confined _ output_confined (λ x u. equate_for_confined n x y (rule.mismatch error·K.TypeMismatch (rule.at p) x y 0) _ h u v (K.type 13 (omega arith)) refl refl)

    -- the types of a let
    local_type_confined : (n x t : ℕ) → W.type t → Confined N W Any (rule.local_type n x t)
    unfolding rule.local_type
    local_type_confined n x t v = then_confined _ (set_extra_confined n _) (λ u q. set_node_type_confined n t v)

    -- a let without init
    pub let_without_init_confined : (n : ℕ) (t : Option·R TypeId) → n < N.nodes → TypeBy W.type t → Confined N W Any (rule.let_without_init n t)
    let_without_init_confined n (Some t) l h = local_type_confined n t.0 t.0 h
    let_without_init_confined n None l h = then_confined _ (new_infer_var_confined regular (drawn_by n) (n, l, refl)) (λ v q. set_node_type_confined n v q)

    -- a let with init
    pub let_with_init_confined : (n : ℕ) (t : Option·R TypeId) (y : ℕ) → n < N.nodes → TypeBy W.type t → W.type y → Confined N W Any (rule.let_with_init n t y)
    let_with_init_confined n (Some t) y h v u = then_confined _ (equation_confined n t.0 y (rule.mismatch error·K.TypeMismatch (rule.at n) t.0 y 0) h v u refl refl) (λ c q. local_type_confined n y t.0 v)
    let_with_init_confined n None y h v u = local_type_confined n y y u

    -- a local
    pub local_or_refuse_confined : (n : ℕ) (o : Option ℕ) → n < N.nodes → Maybe W.type o → Confined N W W.type (rule.local_or_refuse n o)
    local_or_refuse_confined n none h v = refuse_11_confined n h
    local_or_refuse_confined n (some t) h v = done_confined t v

    -- the method of a path
    pub path_method_confined : (n x name : ℕ) (d : Option·R DefId) → DefBy (λ i. i < N.defs) d → Confined N W W.type (rule.path_method n x name d)
    path_method_confined n x name (Some d) h = then_confined _ (set_extra_confined n _) (λ u q. fn_def_confined d.0 (K.def d.0 h))
    path_method_confined n x name None h = then_confined _ (set_extra_confined n _) (λ u q. error_then _ _ _ _ _ (K.type 12 (omega arith)))

    -- a field that is sought
    field_of_confined : (e x name : ℕ) (t : Option·R TypeId) → TypeBy W.type t → Confined N W W.type (rule.field_of e x name t)
    field_of_confined e x name (Some t) h = done_confined t.0 h
    field_of_confined e x name None h = error_then _ _ _ _ _ (K.type 12 (omega arith))

    -- what is no instance
    no_instance_confined : (e x : ℕ) (s : Shape) → Confined N W W.type (rule.no_instance e x s)
    unfolding rule.no_instance
    no_instance_confined e x s = cond_confined (eqb (head s) error_head) (done_confined _ (K.type 12 (omega arith))) (error_then _ _ _ _ _ (K.type 12 (omega arith)))

    -- the output of a lambda
    pub lambda_output_confined : (n : ℕ) (t : Option·R TypeId) → n < N.nodes → TypeBy W.type t → Confined N W W.type (rule.lambda_output n t)
    unfolding rule.lambda_output
    lambda_output_confined n t l h = then_confined _ (new_infer_var_confined regular (drawn_by n) (n, l, refl)) (λ v q. done_confined _ (by t h q))
      where
        by : (t : Option·R TypeId) → TypeBy W.type t → {v : ℕ} → W.type v → W.type (rule.declared_or t v)
        by (Some t) h q = h
        by None h q = q

    -- a param
    lambda_param_confined : (n : ℕ) (t : Option·R TypeId) → n < N.nodes → TypeBy W.type t → Confined N W Any (rule.lambda_param n t)
    lambda_param_confined n (Some t) l h = set_node_type_confined n t.0 h
    lambda_param_confined n None l h = then_confined _ (new_infer_var_confined regular (drawn_by n) (n, l, refl)) (λ v q. set_node_type_confined n v q)

    -- a lambda's equation and its type
    pub lambda_rule_confined : (cells : List ℕ) (n e o y : ℕ) (t : Items) → n < N.nodes → W.type o → W.type y → Confined N W W.type (rule.lambda cells n e o y t)
    unfolding rule.lambda
    lambda_rule_confined cells n e o y t h v u = then_confined _ (equate_on_confined n o y (rule.mismatch error·K.TypeMismatch (rule.at e) o y 0) h v u refl refl) (λ c q. make_lambda_confined n o _ v)

    -- a method that was sought
    method_or_error_confined : (n e x name : ℕ) (d : Option·R DefId) → DefBy (λ i. i < N.defs) d → Confined N W (Maybe W.def) (rule.method_or_error n e x name d)
    method_or_error_confined n e x name (Some d) h = then_confined _ (set_extra_confined n _) (λ u q. done_confined _ (K.def d.0 h))
    method_or_error_confined n e x name None h = error_then _ _ _ _ _ tt

    module _ (R : Refers N b) where
      -- a field, by the instance
      field_shape_confined : (e x name : ℕ) (s : Shape) (o : Option ℕ) → Maybe W.inst o → Confined N W W.type (rule.field_shape b.rows b.cells e x name s o)
      field_shape_confined e x name s (some k) h = field_of_confined e x name (field_type b.rows b.cells k name) (K.fields k name h)
      field_shape_confined e x name s none h = no_instance_confined e x s

      -- a field
      pub field_confined : (e x name : ℕ) → Confined N W W.type (rule.field b.rows b.cells e x name)
      unfolding rule.field
      field_confined e x name = then_confined _ (shape_of_confined x) (λ s p. field_shape_confined e x name s (rule.as_inst s) (as_inst_lem W s p))

      -- what is not called
      not_called_confined : (n x : ℕ) → Confined N W (Called W) (rule.not_called n x)
      unfolding rule.not_called
      not_called_confined n x = error_then _ _ _ _ _ tt

      -- what can be called
      called_confined : (n x : ℕ) (s : Shape) → Parts W s → Confined N W (Called W) (rule.called b.rows b.cells n x s)
      called_confined n x (base c) p = not_called_confined n x
      called_confined n x (var v) p = not_called_confined n x
      called_confined n x (arr e) p = not_called_confined n x
      called_confined n x (ref e) p = not_called_confined n x
      called_confined n x (fn d) p = done_confined _ (p, K.outputs d p)
      called_confined n x (fun s o i) p = done_confined _ (tt, p.0)
      called_confined n x (lam l o i) p = done_confined _ (tt, p.0)
      called_confined n x err p = done_confined none tt
      called_confined n x div p = not_called_confined n x

      -- a callee
      pub callee_of_confined : (n x : ℕ) → Confined N W (Called W) (rule.callee_of b.rows b.cells n x)
      unfolding rule.callee_of
      callee_of_confined n x = then_confined _ (shape_of_confined x) (λ s p. called_confined n x s p)

      -- its inputs
      inputs_known : (ts : List Shape) → ((x : ℕ) → Parts W (row ts x)) → (f : Callee) → Callable W f → All W.type (inputs_of ts b.rows b.cells f)
      inputs_known ts k (callee.Def d) h = K.inputs d.0 h
      inputs_known ts k (callee.Type x) h = shape_inputs_lem W (row ts x.0) (k x.0)

      -- one of them
      nth_known : (l : List ℕ) → All W.type l → (i : ℕ) → TypeBy W.type (nth l i)
      nth_known [] h i = tt
      nth_known (x ∷ l) h zero = h.0
      nth_known (x ∷ l) h (suc i) = nth_known l h.1 i

      -- the amounts of a call
      pub amounts_confined : (p : Span) (f : Callee) (given : ℕ) → Confined N W Any (rule.amounts b.rows b.cells p f given)
      unfolding rule.amounts rule.amounts_of
      amounts_confined p f given = then_confined _ all_types_confined (λ ts k. cond_confined (eqb (length (inputs_of ts b.rows b.cells f)) given) (done_confined tt tt) (error_confined _ _ _ _))

      -- an argument and its input
      argument_for_confined : (n : ℕ) (p : Span) (i y : ℕ) (t : Option·R TypeId) → n < N.nodes → W.type y → TypeBy W.type t → Confined N W Any (rule.argument_for b.rows b.cells n p i y t)
      argument_for_confined n p i y (Some x) h u v = equate_on_confined n x.0 y (rule.mismatch error·K.WrongArgumentTy p x.0 y i) h v u refl refl
      argument_for_confined n p i y None h u v = done_confined tt tt

      -- an argument
      pub argument_confined : (n : ℕ) (p : Span) (f : Callee) (i y : ℕ) → n < N.nodes → Callable W f → W.type y → Confined N W Any (rule.argument b.rows b.cells n p f i y)
      unfolding rule.argument
      argument_confined n p f i y h c u =
          then_confined _ all_types_confined
          (λ ts k. argument_for_confined n p i y (nth (inputs_of ts b.rows b.cells f) i) h u (nth_known (inputs_of ts b.rows b.cells f) (inputs_known ts k f c) i))

      -- the params of a lambda
      pub lambda_params_confined : (t : Items) → ItemsLower N b.cells t → Confined N W Any (rule.lambda_params b.rows b.cells t)
      unfolding rule.lambda_params rule.lambda_param_at
      lambda_params_confined t I =
          each_confined 0 t.count _
          (λ i l. lambda_param_confined (item b.cells t i) (declared_at b.rows b.cells (item b.cells t i)) (I i (omega arith)) (declared_known (declared_at b.rows b.cells (item b.cells t i)) (R.params (item b.cells t i) (I i (omega arith)))))

      -- the method of a call
      pub method_of_confined : (n e x name : ℕ) → Confined N W (Maybe W.def) (rule.method_of b n e x name)
      unfolding rule.method_of rule.sought
      method_of_confined n e x name =
          cond_confined (eqb x rule.err_type) (done_confined none tt) (then_confined _ all_types_confined (λ ts k. method_or_error_confined n e x name (method ts b x name) (R.methods ts x name)))

-- ── where every number is a type, a definition and an instance ──

-- every number is one
abbrev pub any_numbers : Numbers
any_numbers = record { type = Any; def = Any; inst = Any }

-- so each of a list is
any_all : (l : List ℕ) → All {A = ℕ} Any l
any_all [] = tt
any_all (x ∷ l) = (tt, any_all l)

-- a type, if there is one
any_type : (t : Option·R TypeId) → TypeBy Any t
any_type None = tt
any_type (Some t) = tt

-- a number, if there is one
any_maybe : (o : Option ℕ) → Maybe Any o
any_maybe none = tt
any_maybe (some x) = tt

-- what a base type is made of
any_base : (b : Base) → BaseParts any_numbers b
any_base bool = tt
any_base nil = tt
any_base float = tt
any_base double = tt
any_base (uint w) = tt
any_base (int w) = tt
any_base (inst k) = tt

-- what a type is made of
any_parts : (s : Shape) → Parts any_numbers s
any_parts (base b) = any_base b
any_parts (var v) = tt
any_parts (arr e) = tt
any_parts (ref e) = tt
any_parts (fn d) = tt
any_parts (fun s o i) = (tt, any_all i)
any_parts (lam n o i) = (tt, any_all i)
any_parts err = tt
any_parts div = tt

-- any state is of types
pub any_state : (s : State) → StateTypes any_numbers s
any_state s = record { rows = λ x. any_parts (row s.rows x); binds = λ v. any_maybe (bound s.mem.binds v); own = record { output = tt; raw = λ i. any_maybe (get_or s.own.raw i none) } }

-- and any tables
pub any_known : (N : Counts) (b : Body) → Known N b any_numbers
any_known N b = record { type = λ x h. tt; def = λ d h. tt; inst = λ k h. tt; outputs = λ d h. tt; inputs = λ d h. any_all (items_of b.cells (def_inputs b.rows d)); fields = λ k name h. any_type (field_type b.rows b.cells k name) }

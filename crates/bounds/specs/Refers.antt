-- What the numbers refer to that the rules read of a well-formed body: nodes, definitions, instances and declared types of the file. Assumes nothing.
use Rattle.std.specs.Prelude.{◌≡◌, List, Bool, true, false, cond, eqb, get_or, None, Option, Some}
use Rattle.std.proofs.Math.Path.{refl}
use Rattle.std.proofs.Common.{ap, add-zero}
use Rattle.std.proofs.lemmas.Bool.{false≢true}
use Prim.Native.Nat.{ℕ, suc, zero, ◌+◌, ◌-◌, ◌<◌, ◌≤◌}
use native.Mathlib.Omega.{arith}
use borrow.Author.Tests.{eqb-true, eqb-false, eq-eqb}
use Rattle.theory.specs.Rules.{Shape}
use Rattle.theory.specs.Basics.{All}
use Rattle.type_table.specs.Memory.{pick}
use Rattle.forms.specs.Form.{forms, no_form, form_at, kind_at, key_def, key_inst, key_bind, key_node, key_fn, TypeRef, NamedType, NamedDef, OptType, Segment}
use Rattle.refs.specs.declared.Counts.{Counts}
use Rattle.refs.specs.Refs.{defs_at, insts_at, binds_at, nodes_at, fn_at, a_res, form_in, first_in, count_in, name_in, tag_in, value_in, refers_to}
use Rattle.nodes.specs.declared.Items.{Items}
use Rattle.nodes.specs.declared.Res.{Res}
use Rattle.nodes.specs.declared.Res.TheVariants as res
use Rattle.nodes.specs.declared.Node.{Node}
use Rattle.nodes.specs.declared.Node.TheVariants as form
use Rattle.nodes.specs.Nodes.{Body, field_in, count_behind, maybe_type, maybe_node, res_of, item, numbers_from, items_of, node_of, node_at, field_of, declared_at, let_at, block_at, fn_line, output_of, def_inputs, named_from, as_type, as_def, field_type, binds_for, method_in, or_else, method_from, method, segment_res}
use Rattle.body.specs.Body.{count_of, base_of}
use Rattle.resolve.specs.Resolve.{body_with}
use Rattle.well_formed.specs.Good.{WellFormed, RowGood, FieldGood, behind, written_as}
use Rattle.well_formed.specs.Counting.{each, each_at}
use Rattle.well_formed.specs.UsedOnce.{child_in}
use Rattle.well_formed.specs.Weight.{node_good, fn_count, fn_child_lower}
use Rattle.bounds.specs.Weights.{pick_by, is_node, is_optional, kind_by, first_child, items_at, first_field, items_inside, node_part, optional_part, item_part}
use Rattle.type_table.specs.declared.DefId.{DefId}
use Rattle.type_table.specs.declared.NodeId.{NodeId}
use Rattle.type_table.specs.declared.TypeId.{TypeId}

-- ── what the rules read ──

-- a node, if there is one, is one of the first k
abbrev pub MaybeLower : ℕ → Option NodeId → Type 0
MaybeLower k None = Unit {0}
MaybeLower k (Some e) = e.0 < k

-- P holds of the number of a definition, if there is one
abbrev pub DefBy : (ℕ → Type 0) → Option DefId → Type 0
DefBy P None = Unit {0}
DefBy P (Some d) = P d.0

-- P holds of the number of a type, if there is one
abbrev pub TypeBy : (ℕ → Type 0) → Option TypeId → Type 0
TypeBy P None = Unit {0}
TypeBy P (Some t) = P t.0

-- what follows of a type, if there is one
pub type_more : (P Q : ℕ → Type 0) → ((x : ℕ) → P x → Q x) → (t : Option TypeId) → TypeBy P t → TypeBy Q t
type_more P Q h None m = tt
type_more P Q h (Some t) m = h t.0 m

module _ (N : Counts) where
  -- a fixed type, or that of a `type` line
  abbrev pub Declared : ℕ → Type 0
  Declared x = x < 14 + N.types

  -- D and K of RES
  abbrev pub ResLower : Res → Type 0
  ResLower (res.Local l) = Unit {0}
  ResLower (res.Fn d) = d.0 < N.defs
  ResLower (res.Ctor d) = d.0 < N.defs
  ResLower (res.Inst k) = k.0 < N.insts
  ResLower res.Error = Unit {0}
  ResLower res.Other = Unit {0}

  module _ (cells : List ℕ) where
    -- each item is a node
    abbrev pub ItemsLower : Items → Type 0
    ItemsLower t = (i : ℕ) → i < t.count → item cells t i < N.nodes

    -- RES of each segment
    abbrev pub SegmentsLower : Items → Type 0
    SegmentsLower t = (i : ℕ) → i < t.count → ResLower (segment_res cells t i)

    -- the type and the init of a let
    abbrev pub LocalLower : Option (Option TypeId × Option NodeId) → Type 0
    LocalLower (Some (t, e)) = TypeBy Declared t × MaybeLower N.nodes e
    LocalLower None = Unit {0}

    -- the tail and the statements of a block
    abbrev pub BlockLower : Option (Option NodeId × Items) → Type 0
    BlockLower (Some (e, t)) = MaybeLower N.nodes e × ItemsLower t
    BlockLower None = Unit {0}

    -- what the rule of a node reads of its line
    abbrev pub NodeLower : Node → Type 0
    NodeLower form.Bool = Unit {0}
    NodeLower form.Int = Unit {0}
    NodeLower form.Float = Unit {0}
    NodeLower form.Str = Unit {0}
    NodeLower (form.Bin o l r) = (l.0 < N.nodes) × (r.0 < N.nodes)
    NodeLower (form.Un o e) = e.0 < N.nodes
    NodeLower (form.Field e name) = e.0 < N.nodes
    NodeLower (form.List t) = ItemsLower t
    NodeLower (form.Index t i) = (t.0 < N.nodes) × (i.0 < N.nodes)
    NodeLower (form.Assign v e) = (v.0 < N.nodes) × (e.0 < N.nodes)
    NodeLower (form.OpAssign v e) = (v.0 < N.nodes) × (e.0 < N.nodes)
    NodeLower (form.If a k e) = (a.0 < N.nodes) × (k.0 < N.nodes) × MaybeLower N.nodes e
    NodeLower (form.Loop k) = k.0 < N.nodes
    NodeLower form.Break = Unit {0}
    NodeLower (form.Call f t) = (f.0 < N.nodes) × ItemsLower t
    NodeLower (form.MethodCall e name t) = (e.0 < N.nodes) × ItemsLower t
    NodeLower (form.Return e) = MaybeLower N.nodes e
    NodeLower (form.Block e t) = MaybeLower N.nodes e × ItemsLower t
    NodeLower (form.Let t e) = Unit {0}
    NodeLower (form.Param t) = Unit {0}
    NodeLower (form.Lambda o e t) = TypeBy Declared o × (e.0 < N.nodes) × ItemsLower t
    NodeLower (form.Path r k t) = ResLower r × SegmentsLower t

-- what the rules read of a body refers to what is there: OUT and each IN of a definition, the fields of an instance, the methods that are found, the types of
-- params, and what a let, a block and the rule of a node read
pub record Refers (N : Counts) (b : Body) : Type 0 where
  pub outputs : (d : ℕ) → d < N.defs → Declared N (output_of b.rows b.cells d)
  pub inputs : (d : ℕ) → d < N.defs → All (Declared N) (items_of b.cells (def_inputs b.rows d))
  pub fields : (k name : ℕ) → k < N.insts → TypeBy (Declared N) (field_type b.rows b.cells k name)
  pub methods : (ts : List Shape) (x name : ℕ) → DefBy (λ d. d < N.defs) (method ts b x name)
  pub params : (x : ℕ) → x < N.nodes → TypeBy (Declared N) (declared_at b.rows b.cells x)
  pub lets : (x : ℕ) → x < N.nodes → LocalLower N b.cells (let_at b.rows b.cells x)
  pub blocks : (x : ℕ) → x < N.nodes → BlockLower N b.cells (block_at b.rows b.cells x)
  pub children : (x : ℕ) → x < N.nodes → NodeLower N b.cells (node_at b.rows b.cells x)

-- ── fields ──

module _ (N : Counts) (k j : ℕ) (rows cells : List ℕ) (g : FieldGood N k j rows cells) where
  -- a type
  type_field : k ≡ TypeRef → Declared N (value_in cells j)
  unfolding refers_to written_as
  type_field e =
      let tag : tag_in cells j ≡ 1 = eqb-true (tag_in cells j) 1 (rw e at g.written) in
      omega (arith, g.type (ap refers_to e) (λ z. omega (arith, tag, z)))

  -- NAME:TYPE
  named_type_field : k ≡ NamedType → Declared N (value_in cells j)
  unfolding refers_to written_as
  named_type_field e =
      let tag : tag_in cells j ≡ 1 = eqb-true (tag_in cells j) 1 (rw e at g.written) in
      omega (arith, g.type (ap refers_to e) (λ z. omega (arith, tag, z)))

  -- TYPE|-
  optional_type_field : k ≡ OptType → TypeBy (Declared N) (maybe_type (field_in cells j))
  unfolding refers_to maybe_type
  optional_type_field e =
      pick_by (TypeBy (Declared N)) (eqb (tag_in cells j) 0) _ _
      (λ z. tt)
      (λ z. omega (arith, g.type (ap refers_to e) (λ q. eqb-false (tag_in cells j) 0 z q)))

  -- RES
  res_field : refers_to k ≡ a_res → ResLower N (res_of (tag_in cells j) (value_in cells j))
  unfolding res_of
  res_field e =
      by 1 _ _ (λ z. tt)
      (by 2 _ _ (λ z. g.res_fn e z)
      (by 3 _ _ (λ z. g.res_constructor e z)
      (by 4 _ _ (λ z. g.res_inst e z)
      (by 5 _ _ (λ z. tt) tt))))
    where
      by : (t : ℕ) (p q : Res) → (tag_in cells j ≡ t → ResLower N p) → ResLower N q → ResLower N (pick (eqb (tag_in cells j) t) p q)
      by t p q P Q = pick_by (ResLower N) (eqb (tag_in cells j) t) p q (λ z. P (eqb-true _ t z)) (λ z. Q)

-- ── items ──

-- what holds of each of k fields holds of the numbers of them all
pub numbers_all : (P : ℕ → Type 0) (cells : List ℕ) (j k : ℕ) → ((c : ℕ) → c < k → P (value_in cells (j + c))) → All P (numbers_from cells j k)
unfolding numbers_from
numbers_all P cells j zero h = tt
numbers_all P cells j (suc k) h = (
  rw (add-zero j) at (h 0 (omega arith)),
  numbers_all P cells (suc j) k (λ c l. let e : suc j + c ≡ j + suc c = omega arith in rw e (h (suc c) (omega arith))),
)

-- and of that of the first one of a name, as a type and as a definition
named_by : (P : ℕ → Type 0) (cells : List ℕ) (j k name : ℕ) → ((c : ℕ) → c < k → P (value_in cells (j + c))) → TypeBy P (as_type (named_from cells j k name)) × DefBy P (as_def (named_from cells j k name))
unfolding named_from
named_by P cells j zero name h = (tt, tt)
named_by P cells j (suc k) name h =
    pick_by (λ i. TypeBy P (as_type i) × DefBy P (as_def i)) (eqb (name_in cells j) name) _ (named_from cells (suc j) k name)
    (λ z. let p : P (value_in cells j) = rw (add-zero j) at (h 0 (omega arith)) in (p, p))
    (λ z. named_by P cells (suc j) k name (λ c l. let e : suc j + c ≡ j + suc c = omega arith in rw e (h (suc c) (omega arith))))

-- the first one of two
or_else_lem : (P : ℕ → Type 0) (d e : Option DefId) → DefBy P d → DefBy P e → DefBy P (or_else d e)
or_else_lem P None e h k = k
or_else_lem P (Some d) e h k = h

-- ── forms ──

-- only the form f has the key k
only_form : ℕ → ℕ → ℕ → Bool
only_form k f g = cond (eqb (get_or forms g no_form).key k) (eqb g f) true

-- so a form of the key is f
only_form_lem : (k f g : ℕ) → each 30 (only_form k f) ≡ true → g < 30 → (get_or forms g no_form).key ≡ k → g ≡ f
unfolding only_form
only_form_lem k f g e h q = eqb-true g f (by (eqb (get_or forms g no_form).key k) (eq-eqb _ _ q) (each_at 30 (only_form k f) g e h))
  where
    by : (c : Bool) → c ≡ true → cond c (eqb g f) true ≡ true → eqb g f ≡ true
    by true z e = e
    by false z e = absurd (false≢true z)

-- the item c behind the first a fields of a good row, each of which is of the kind k
item_field : (N : Counts) (m key r f : ℕ) (rows cells : List ℕ) → RowGood N m key r rows cells → form_in rows r ≡ f → (a k : ℕ) → a ≤ (form_at f).4 → ((i : ℕ) → a ≤ i → kind_at (form_at f) i ≡ k)
    → (c : ℕ) → c < count_behind (count_in rows r) a → FieldGood N k (first_in rows r + a + c) rows cells
item_field N m key r f rows cells g e a k l h c b =
    let least : (form_at f).4 ≤ count_in rows r = rw e at g.least in
    let p : first_in rows r + a + c ≡ first_in rows r + (a + c) = omega arith in
    let q : kind_at (form_at (form_in rows r)) (a + c) ≡ k = rw e (h (a + c) (omega arith)) in
    rw (p, ← q) (g.fields (a + c) (omega (arith, items_inside (count_in rows r) a (omega arith))))

-- ── a well-formed body ──

module _ (n : Counts) (rows cells : List ℕ) (w : WellFormed n rows cells) where
  module _ (d : ℕ) (h : d < n.defs) where
    -- the row of a definition is good,
    def_good : RowGood (behind n key_def d) n.fields key_def (defs_at + d) rows cells
    unfolding base_of count_of
    def_good = w.defs d h

    -- of the one form of its key
    def_form : form_in rows (defs_at + d) ≡ 4
    unfolding each only_form forms
    def_form = only_form_lem key_def 4 _ refl def_good.form def_good.key

    -- OUT is a declared type,
    def_output : Declared n (output_of rows cells d)
    unfolding output_of behind form_at forms kind_at
    def_output =
        let l : 1 ≤ count_in rows (defs_at + d) = rw def_form at def_good.least in
        rw (add-zero (first_in rows (defs_at + d))) at (type_field (behind n key_def d) _ (first_in rows (defs_at + d) + 0) rows cells (def_good.fields 0 l) (rw def_form))

    -- and so is each IN
    def_inputs_lem : All (Declared n) (items_of cells (def_inputs rows d))
    unfolding behind form_at forms
    def_inputs_lem =
        numbers_all (Declared n) cells _ _
        (λ c l. type_field (behind n key_def d) TypeRef _ rows cells
        (item_field (behind n key_def d) n.fields key_def (defs_at + d) 4 rows cells def_good def_form 1 TypeRef (omega arith) (λ i a. kind_by (λ k. k ≡ TypeRef) (form_at 4) i (λ z. refl) (λ z. refl) refl refl) c l) refl)

  -- the fields of an instance
  inst_fields : (k name : ℕ) → k < n.insts → TypeBy (Declared n) (field_type rows cells k name)
  unfolding field_type behind base_of count_of each only_form form_at forms
  inst_fields k name h =
      let g : RowGood (behind n key_inst k) n.fields key_inst (insts_at + k) rows cells = w.insts k h in
      let f : form_in rows (insts_at + k) ≡ 5 = only_form_lem key_inst 5 _ refl g.form g.key in
      (named_by (Declared n) cells _ _ name
      (λ c l. named_type_field (behind n key_inst k) NamedType _ rows cells
      (item_field (behind n key_inst k) n.fields key_inst (insts_at + k) 5 rows cells g f 0 NamedType (omega arith) (λ i a. kind_by (λ t. t ≡ NamedType) (form_at 5) i (λ z. refl) (λ z. refl) refl refl) c l) refl)
      ).0

  -- a method of a bind
  bind_method : (ts : List Shape) (j x name : ℕ) → j < n.binds → DefBy (λ d. d < n.defs) (method_in ts rows cells j x name)
  unfolding method_in behind base_of count_of each only_form form_at forms refers_to
  bind_method ts j x name h =
      let g : RowGood (behind n key_bind j) n.fields key_bind (binds_at + j) rows cells = w.binds j h in
      let f : form_in rows (binds_at + j) ≡ 6 = only_form_lem key_bind 6 _ refl g.form g.key in
      pick_by (DefBy (λ d. d < n.defs)) (binds_for ts x (value_in cells (first_in rows (binds_at + j)))) _ None
      (λ z. (named_by (λ d. d < n.defs) cells _ _ name
      (λ c l. (item_field (behind n key_bind j) n.fields key_bind (binds_at + j) 6 rows cells g f 1 NamedDef (omega arith) (λ i a. kind_by (λ t. t ≡ NamedDef) (form_at 6) i (λ z. absurd (omega arith)) (λ z. refl) refl refl) c l).def refl)).1)
      (λ z. tt)

  -- the first method of k binds from j on
  methods_from : (ts : List Shape) (j k x name : ℕ) → j + k ≤ n.binds → DefBy (λ d. d < n.defs) (method_from ts rows cells j k x name)
  unfolding method_from
  methods_from ts j zero x name h = tt
  methods_from ts j (suc k) x name h = or_else_lem (λ d. d < n.defs) (method_in ts rows cells j x name) (method_from ts rows cells (suc j) k x name) (bind_method ts j x name (omega arith)) (methods_from ts (suc j) k x name (omega arith))

  -- `fn` is of its form
  pub fn_form : form_in rows fn_at ≡ 29
  unfolding each only_form forms
  fn_form = only_form_lem key_fn 29 _ refl w.fn.form w.fn.key

  -- OUT of `fn`
  pub fn_output : Declared n (fn_line rows cells).output.0
  unfolding fn_line form_at forms kind_at
  fn_output =
      rw (add-zero (first_in rows fn_at)) at (type_field n _ (first_in rows fn_at + 0) rows cells (w.fn.fields 0 (omega (arith, fn_count n rows cells w))) (rw fn_form))

  -- each P of `fn`
  pub fn_params : ItemsLower n cells (fn_line rows cells).params
  unfolding fn_line item
  fn_params i l =
      let e : first_in rows fn_at + 2 + i ≡ first_in rows fn_at + suc (suc i) = omega arith in
      rw e (fn_child_lower n rows cells w (suc i) (omega (arith, fn_count n rows cells w, items_inside (count_in rows fn_at) 2 (omega (arith, fn_count n rows cells w)))))

  module _ (x : ℕ) (h : x < n.nodes) where
    module _ (f : ℕ) (e : form_in rows (nodes_at + x) ≡ f) where
      -- a line has at least the fields of its form
      fields_there : (form_at f).4 ≤ count_in rows (nodes_at + x)
      fields_there = rw e at (node_good n rows cells w x h).least

      -- a field of the line
      field : (i : ℕ) → i < (form_at f).4 → FieldGood (behind n key_node x) (kind_at (form_at f) i) (first_in rows (nodes_at + x) + i) rows cells
      field i l = rw (← e) ((node_good n rows cells w x h).fields i (omega (arith, fields_there)))

      -- a child of the least number of fields
      child : (i : ℕ) → i < (form_at f).4 → is_node (kind_at (form_at f) i) ≡ true → child_in rows cells (nodes_at + x) i < n.nodes
      child i l k = (node_part n rows cells w x h f e i _ l k refl).lower

      -- the first one
      first : 0 < (form_at f).4 → is_node (kind_at (form_at f) 0) ≡ true → first_child rows cells x < n.nodes
      first l k = (node_part n rows cells w x h f e 0 _ l k (first_field rows cells x)).lower

      -- a child that may be missing
      maybe : (i j : ℕ) → i < (form_at f).4 → is_optional (kind_at (form_at f) i) ≡ true → first_in rows (nodes_at + x) + i ≡ j → MaybeLower n.nodes (maybe_node (field_in cells j))
      unfolding maybe_node
      maybe i j l k q =
          pick_by (MaybeLower n.nodes) (eqb (tag_in cells j) 0) _ _
          (λ z. tt)
          (λ z. (optional_part n rows cells w x h f e i (value_in cells j) l k (rw q z) (ap (value_in cells) q)).lower)

      -- the items behind the first a fields
      items : (a : ℕ) → a ≤ (form_at f).4 → ((i : ℕ) → a ≤ i → is_node (kind_at (form_at f) i) ≡ true) → ItemsLower n cells (items_at rows x a)
      items a l k j b = (item_part n rows cells w x h f e a l k j b).lower

      -- a type that may be missing, in the first field
      declared_type : (j : ℕ) → 0 < (form_at f).4 → kind_at (form_at f) 0 ≡ OptType → first_in rows (nodes_at + x) + 0 ≡ j → TypeBy (Declared n) (maybe_type (field_in cells j))
      unfolding behind
      declared_type j l k q = rw q at (optional_type_field (behind n key_node x) _ (first_in rows (nodes_at + x) + 0) rows cells (field 0 l) k)

    -- the type of a param
    param_lower : TypeBy (Declared n) (declared_at rows cells x)
    unfolding declared_at field_of form_at forms kind_at
    param_lower =
        pick_by (TypeBy (Declared n)) (eqb (form_in rows (nodes_at + x)) 26) _ _
        (λ e. declared_type 26 (eqb-true _ 26 e) _ (omega arith) refl refl)
        (λ z. tt)

    -- the type and the init of a let
    let_lower : LocalLower n cells (let_at rows cells x)
    unfolding let_at field_of form_at forms kind_at is_optional refers_to
    let_lower =
        pick_by (LocalLower n cells) (eqb (form_in rows (nodes_at + x)) 25) _ _
        (λ e. (declared_type 25 (eqb-true _ 25 e) _ (omega arith) refl refl, maybe 25 (eqb-true _ 25 e) 1 _ (omega arith) refl refl))
        (λ z. tt)

    -- the statements of a block
    statements : form_in rows (nodes_at + x) ≡ 24 → ItemsLower n cells (items_at rows x 1)
    unfolding form_at forms kind_at is_node refers_to
    statements e = items 24 e 1 (omega arith) (λ i l. kind_by (λ k. is_node k ≡ true) (form_at 24) i (λ z. absurd (omega arith)) (λ z. refl) refl refl)

    -- the tail and the statements of a block
    block_lower : BlockLower n cells (block_at rows cells x)
    unfolding block_at field_of form_at forms kind_at is_optional refers_to
    block_lower =
        pick_by (BlockLower n cells) (eqb (form_in rows (nodes_at + x)) 24) _ _
        (λ e. (maybe 24 (eqb-true _ 24 e) 0 _ (omega arith) refl refl, statements (eqb-true _ 24 e)))
        (λ z. tt)

    -- RES of a path
    path_res : form_in rows (nodes_at + x) ≡ 28 → (j : ℕ) → first_in rows (nodes_at + x) + 0 ≡ j → ResLower n (res_of (tag_in cells j) (value_in cells j))
    unfolding behind form_at forms kind_at refers_to
    path_res e j q = rw q at (res_field (behind n key_node x) _ (first_in rows (nodes_at + x) + 0) rows cells (field 28 e 0 (omega arith)) refl)

    -- and of each segment
    path_segments : form_in rows (nodes_at + x) ≡ 28 → SegmentsLower n cells (items_at rows x 2)
    unfolding segment_res behind form_at forms kind_at refers_to
    path_segments e i l =
        res_field (behind n key_node x) Segment (first_in rows (nodes_at + x) + 2 + i) rows cells
        (item_field (behind n key_node x) n.fields key_node (nodes_at + x) 28 rows cells (node_good n rows cells w x h) e 2 Segment (omega arith)
        (λ j a. kind_by (λ k. k ≡ Segment) (form_at 28) j (λ z. absurd (omega arith)) (λ z. absurd (omega arith)) refl refl) i l) refl

    -- what the rule of a node reads of its line
    node_lower : NodeLower n cells (node_at rows cells x)
    unfolding node_at node_of form_at forms kind_at is_node is_optional refers_to
    node_lower =
        by 7 _ _ (λ e. tt)
        (by 8 _ _ (λ e. tt)
        (by 9 _ _ (λ e. tt)
        (by 11 _ _ (λ e. (child 11 e 1 (omega arith) refl, child 11 e 2 (omega arith) refl))
        (by 12 _ _ (λ e. child 12 e 1 (omega arith) refl)
        (by 13 _ _ (λ e. first 13 e (omega arith) refl)
        (by 14 _ _ (λ e. items 14 e 0 (omega arith) (λ i l. kind_by (λ k. is_node k ≡ true) (form_at 14) i (λ z. refl) (λ z. refl) refl refl))
        (by 15 _ _ (λ e. (first 15 e (omega arith) refl, child 15 e 1 (omega arith) refl))
        (by 16 _ _ (λ e. (first 16 e (omega arith) refl, child 16 e 1 (omega arith) refl))
        (by 17 _ _ (λ e. (first 17 e (omega arith) refl, child 17 e 1 (omega arith) refl))
        (by 18 _ _ (λ e. (first 18 e (omega arith) refl, child 18 e 1 (omega arith) refl, maybe 18 e 2 _ (omega arith) refl refl))
        (by 19 _ _ (λ e. first 19 e (omega arith) refl)
        (by 20 _ _ (λ e. tt)
        (by 21 _ _ (λ e. (first 21 e (omega arith) refl, items 21 e 1 (omega arith) (λ i l. kind_by (λ k. is_node k ≡ true) (form_at 21) i (λ z. refl) (λ z. refl) refl refl)))
        (by 22 _ _
        (λ e. (first 22 e (omega arith) refl, items 22 e 2 (omega arith) (λ i l. kind_by (λ k. is_node k ≡ true) (form_at 22) i (λ z. absurd (omega arith)) (λ z. absurd (omega arith)) refl refl)))
        (by 23 _ _ (λ e. maybe 23 e 0 _ (omega arith) refl (add-zero _))
        (by 24 _ _ (λ e. (maybe 24 e 0 _ (omega arith) refl (add-zero _), statements e))
        (by 25 _ _ (λ e. tt)
        (by 26 _ _ (λ e. tt)
        (by 27 _ _
        (λ e. (declared_type 27 e _ (omega arith) refl (add-zero _), child 27 e 1 (omega arith) refl, items 27 e 2 (omega arith) (λ i l. kind_by (λ k. is_node k ≡ true) (form_at 27) i (λ z. absurd (omega arith)) (λ z. absurd (omega arith)) refl refl)))
        (by 28 _ _ (λ e. (path_res e _ (add-zero _), path_segments e))
        tt))))))))))))))))))))
      where
        by : (f : ℕ) (p q : Node) → (form_in rows (nodes_at + x) ≡ f → NodeLower n cells p) → NodeLower n cells q → NodeLower n cells (pick (eqb (form_in rows (nodes_at + x)) f) p q)
        by f p q P Q = pick_by (NodeLower n cells) (eqb (form_in rows (nodes_at + x)) f) p q (λ e. P (eqb-true _ f e)) (λ z. Q)

  -- what the rules read of it refers to what is there
  pub refers : Refers n (body_with n rows cells)
  refers = record {
    outputs = def_output;
    inputs = def_inputs_lem;
    fields = inst_fields;
    methods = λ ts x name. methods_from ts 0 n.binds x name (omega arith);
    params = param_lower;
    lets = let_lower;
    blocks = block_lower;
    children = node_lower;
  }

-- When the references of a row are right, by the rows that stand.
-- Assumes nothing.
use Rattle.std.specs.Prelude.{ℕ, zero, suc, ◌+◌, ◌*◌, ◌-◌, ◌/◌, ◌<◌, ◌≤◌, ◌≡◌, ◌⊎◌, List, Bool, not, leb, ltb, get_or, set}
use Rattle.std.proofs.Common.{add-zero, arith, ◌∙◌, inl, inr, get_or-set_other}
use Rattle.std.proofs.Math.Path.{refl, sym, ap}
use Rattle.std.proofs.Math.Bool.{true, false, cond}
use Rattle.std.proofs.Math.Dec.{eqb}
use Rattle.std.proofs.Math.ListN.{length}
use borrow.Author.Tests.{leb-true, eqb-true, eqb-false, ne_eqb, lt-ltb}
use Rattle.forms.specs.declared.Form.{Form}
use Rattle.forms.specs.declared.Cell.{Cell}
use Rattle.forms.specs.Form.{key_bind, key_node, forms, form_at, kind_at}
use Rattle.refs.specs.declared.Counts.{Counts}
use Rattle.refs.specs.Refs.{nodes_at, fixed_types, diverges, form_param, form_in, first_in, count_in, user_in, tag_in, value_in, a_type, a_def, a_node, a_res, refers_to, is_child, is_type, is_expr, is_typed, is_last, stands, is_free, is_local, is_res, right, levels_of, larger, taken, linked, refs_from, same_values, is_same, is_repeated}
use Rattle.forms.specs.Words.{both}
use Rattle.well_formed.specs.Counting.{each, each_at}
use Rattle.well_formed.specs.Columns.{RowStays, form_same, first-same}
use Rattle.well_formed.specs.Kept.{stands_same}
use Rattle.well_formed.specs.Linked.{first_field, later_fields, step}
use Rattle.well_formed.specs.Parsed.{blank}
use Rattle.body_rows.specs.Text.{Row, key_at, Lookup, cells_at, row_at, WritableRow}
use Rattle.body_rows.specs.Steps.{cells_length_at, cells_at_lem}
use Rattle.body_rows.specs.Rows.{cell_of, is_typed_row, stands_row, WellFormedField, values_of}

-- ── the kinds of fields ──

-- a def is named only by a `bind` or later, a node and RES only by a node or `fn`; a node is written as a number or as one that may be absent
unfoldable kind_test : ℕ → ℕ → Bool
kind_test k κ =
    cond (eqb (refers_to κ) a_def) (leb key_bind k)
    (cond (eqb (refers_to κ) a_node) (cond (leb key_node k) (cond (eqb (κ / 16) 1) true (eqb (κ / 16) 2)) false)
    (cond (eqb (refers_to κ) a_res) (leb key_node k) true))

-- what is so known of the kind κ of a field of the key k
pub record Kinds (k κ : ℕ) : Type 0 where
  pub def_late : refers_to κ ≡ a_def → key_bind ≤ k
  pub node_late : refers_to κ ≡ a_node → key_node ≤ k
  pub node_way : refers_to κ ≡ a_node → (κ / 16 ≡ 1) ⊎ (κ / 16 ≡ 2)
  pub res_late : refers_to κ ≡ a_res → key_node ≤ k

-- one of two tests
one_of : (a b : ℕ) (c d : Bool) → eqb a b ≡ c → cond c true d ≡ true → (a ≡ b) ⊎ (d ≡ true)
one_of a b true d e h = inl (eqb-true a b e)
one_of a b false d e h = inr h

-- the test shows it
kinds_by : (k κ : ℕ) → kind_test k κ ≡ true → Kinds k κ
unfolding kind_test
kinds_by k κ h = record {
  def_late = λ e. leb-true key_bind k (rw e at h);
  node_late = λ e. leb-true key_node k (both (leb key_node k) (cond (eqb (κ / 16) 1) true (eqb (κ / 16) 2)) (rw e at h)).0;
  node_way = λ e. way (one_of (κ / 16) 1 (eqb (κ / 16) 1) (eqb (κ / 16) 2) refl (both (leb key_node k) (cond (eqb (κ / 16) 1) true (eqb (κ / 16) 2)) (rw e at h)).1);
  res_late = λ e. leb-true key_node k (rw e at h);
}
  where
    way : (κ / 16 ≡ 1) ⊎ (eqb (κ / 16) 2 ≡ true) → (κ / 16 ≡ 1) ⊎ (κ / 16 ≡ 2)
    way (inl e) = inl e
    way (inr e) = inr (eqb-true (κ / 16) 2 e)

-- a form has four kinds
kind_four : (g : Form) (a : ℕ) → (b : ℕ) × (b < 4) × (kind_at g a ≡ kind_at g b)
unfolding kind_at
kind_four g zero = (0, omega arith, refl)
kind_four g (suc zero) = (1, omega arith, refl)
kind_four g (suc (suc zero)) = (2, omega arith, refl)
kind_four g (suc (suc (suc a))) =
    (3, omega arith, rw (ne_eqb (suc (suc (suc a))) 0 (λ e. omega (arith, e)), ne_eqb (suc (suc (suc a))) 1 (λ e. omega (arith, e)), ne_eqb (suc (suc (suc a))) 2 (λ e. omega (arith, e))))

-- every kind of every form passes
pub form_kinds : (f a : ℕ) → f < 30 → Kinds (key_at f) (kind_at (form_at f) a)
unfolding each forms form_at key_at kind_at refers_to kind_test
form_kinds f a h =
    let b = kind_four (form_at f) a in
    rw b.2
    (kinds_by (key_at f) (kind_at (form_at f) b.0)
    (each_at 4 (λ (y : ℕ). kind_test (key_at f) (kind_at (form_at f) y)) b.0 (each_at 30 (λ (x : ℕ). each 4 (λ (y : ℕ). kind_test (key_at x) (kind_at (form_at x) y))) f refl h) b.1))

-- ── a row that stands at a place ──

module _ (rows cells : List ℕ) (p : ℕ) (r : Row) (q : row_at rows cells p ≡ r) where
  pub form_seen : form_in rows p ≡ r.form
  unfolding row_at
  form_seen = ap (λ (x : Row). x.form) q

  -- how many fields a row in the tables has
  pub count_seen : count_in rows p ≡ length r.cells
  unfolding row_at
  count_seen = sym (cells_length_at cells (first_in rows p) (count_in rows p)) ∙ ap (λ (x : Row). length x.cells) q

  -- their cells
  pub cells_seen : cells_at cells (first_in rows p) (count_in rows p) ≡ r.cells
  unfolding row_at
  cells_seen = ap (λ (x : Row). x.cells) q

  -- a tag
  pub tag_seen : (a : ℕ) → a < length r.cells → tag_in cells (first_in rows p + a) ≡ (cell_of r a).tag
  unfolding row_at
  tag_seen a h =
      sym (ap (λ (c : Cell). c.tag) (cells_at_lem cells (first_in rows p) (count_in rows p) a blank (omega (arith, h, count_seen)))) ∙ ap (λ (x : Row). (get_or x.cells a blank).tag) q

  -- and a value
  pub value_seen : (a : ℕ) → a < length r.cells → value_in cells (first_in rows p + a) ≡ (cell_of r a).value
  unfolding row_at
  value_seen a h =
      sym (ap (λ (c : Cell). c.value) (cells_at_lem cells (first_in rows p) (count_in rows p) a blank (omega (arith, h, count_seen)))) ∙ ap (λ (x : Row). (get_or x.cells a blank).value) q

-- a `param` has a field
param_filled : (r : Row) → WritableRow r → r.form ≡ form_param → 0 < length r.cells
unfolding forms form_at
param_filled r w e = let l : 1 ≤ length r.cells = rw e at w.least in l

-- whether a row is a `param` with a type
typed_seen : (p : ℕ) (rows cells : List ℕ) (r : Row) → row_at rows cells p ≡ r → WritableRow r → is_typed p rows cells ≡ is_typed_row r
unfolding is_typed is_typed_row
typed_seen p rows cells r q w = rw (form_seen rows cells p r q) (by (eqb r.form form_param) refl)
  where
    by : (b : Bool) → eqb r.form form_param ≡ b → cond b (eqb (tag_in cells (first_in rows p)) 1) false ≡ cond b (eqb (cell_of r 0).tag 1) false
    by true e =
        let t : tag_in cells (first_in rows p) ≡ (cell_of r 0).tag =
        ap (tag_in cells) {x = first_in rows p} {y = first_in rows p + 0} (omega arith) ∙ tag_seen rows cells p r q 0 (param_filled r w (eqb-true r.form form_param e)) in
        rw t
    by false e = refl

-- whether a row's node may stand as a child
pub stands_seen : (n : Counts) (k x : ℕ) (rows cells : List ℕ) (r : Row) → row_at rows cells (nodes_at + x) ≡ r → WritableRow r → stands n k x rows cells ≡ stands_row n k x r
unfolding stands stands_row
stands_seen n k x rows cells r q w = rw (typed_seen (nodes_at + x) rows cells r q w, form_seen rows cells (nodes_at + x) r q)

-- ── a field whose number refers to what is there ──

-- the counts that the field of a row of the key k may look at are the same
pub record Agree (k : ℕ) (n n' : Counts) : Type 0 where
  pub types : n.types ≡ n'.types
  pub defs : key_bind ≤ k → n.defs ≡ n'.defs
  pub insts : key_node ≤ k → n.insts ≡ n'.insts
  pub nodes : key_node ≤ k → n.nodes ≡ n'.nodes

-- a type
type_ok : (n : Counts) (x : ℕ) → (x ≡ diverges → ⊥) → x < n.types + fixed_types → is_type n x ≡ true
unfolding is_type
type_ok n x d h = rw (ne_eqb x diverges d, lt-ltb x (n.types + fixed_types) h)

-- a child
free_ok : (n : Counts) (k x : ℕ) (rows cells : List ℕ) → x < n.nodes → user_in rows (nodes_at + x) ≡ 0 → stands n k x rows cells ≡ true → is_free n k x rows cells ≡ true
unfolding is_free
free_ok n k x rows cells l u s = rw (lt-ltb x n.nodes l, u, s)

-- RES
res_ok : (n : Counts) (tag x : ℕ) (rows : List ℕ) → (tag ≡ 1 → x < n.nodes) → (tag ≡ 1 → is_expr (form_in rows (nodes_at + x)) ≡ false)
    → (tag ≡ 2 → x < n.defs) → (tag ≡ 3 → x < n.defs) → (tag ≡ 4 → x < n.insts) → is_res n tag x rows ≡ true
unfolding is_res is_local
res_ok n tag x rows l e f c i = by (eqb tag 1) refl (eqb tag 2) refl (eqb tag 3) refl (eqb tag 4) refl
  where
    by : (a : Bool) → eqb tag 1 ≡ a → (b : Bool) → eqb tag 2 ≡ b → (c : Bool) → eqb tag 3 ≡ c → (d : Bool) → eqb tag 4 ≡ d
        → cond a (cond (ltb x n.nodes) (not (is_expr (form_in rows (nodes_at + x)))) false) (cond b (ltb x n.defs) (cond c (ltb x n.defs) (cond d (ltb x n.insts) true))) ≡ true
    by true p b q c' r d s = rw (lt-ltb x n.nodes (l (eqb-true tag 1 p)), e (eqb-true tag 1 p))
    by false p true q c' r d s = lt-ltb x n.defs (f (eqb-true tag 2 q))
    by false p false q true r d s = lt-ltb x n.defs (c (eqb-true tag 3 r))
    by false p false q false r true s = lt-ltb x n.insts (i (eqb-true tag 4 s))
    by false p false q false r false s = refl

-- a field is a child where it refers to a node and is there
pub record Tagged (κ tag : ℕ) : Type 0 where
  pub child : refers_to κ ≡ a_node → (tag ≡ 0 → ⊥) → is_child κ tag ≡ true

module _ (k : ℕ) (n n' : Counts) (look : Lookup) (κ : ℕ) (c : Cell) (rows cells : List ℕ) (agree : Agree k n n') (kinds : Kinds k κ) (tagged : Tagged κ c.tag) (ok : WellFormedField n' look κ c)
    (seen : (x : ℕ) → x < n.nodes → row_at rows cells (nodes_at + x) ≡ look key_node x) (written : (x : ℕ) → x < n.nodes → WritableRow (look key_node x))
    (free : is_child κ c.tag ≡ true → user_in rows (nodes_at + c.value) ≡ 0) where
  last : key_node ≤ k → stands_row n κ c.value (look key_node c.value) ≡ stands_row n' κ c.value (look key_node c.value)
  unfolding stands_row is_last
  last h = rw (agree.nodes h)

  -- a child that is right is free
  child_free : refers_to κ ≡ a_node → (c.tag ≡ 0 → ⊥) → is_free n κ c.value rows cells ≡ true
  child_free e t =
      let h : is_child κ c.tag ≡ true = tagged.child e t in
      let l : c.value < n.nodes = omega (arith, ok.child_lower h, agree.nodes (kinds.node_late e)) in
      free_ok n κ c.value rows cells l (free h)
      (stands_seen n κ c.value rows cells (look key_node c.value) (seen c.value l) (written c.value l) ∙ last (kinds.node_late e) ∙ ok.child_stands h)

  -- a local that is right is a let or a parameter
  local_right : refers_to κ ≡ a_res → c.tag ≡ 1 → c.value < n.nodes
  local_right e t = omega (arith, ok.local_lower e t, agree.nodes (kinds.res_late e))

  -- it is right
  pub field_right : right n κ c.tag c.value rows cells ≡ true
  unfolding right
  field_right = by (eqb c.tag 0) refl (eqb (refers_to κ) a_type) refl (eqb (refers_to κ) a_def) refl (eqb (refers_to κ) a_node) refl (eqb (refers_to κ) a_res) refl
    where
      by : (z : Bool) → eqb c.tag 0 ≡ z → (p : Bool) → eqb (refers_to κ) a_type ≡ p → (q : Bool) → eqb (refers_to κ) a_def ≡ q
          → (s : Bool) → eqb (refers_to κ) a_node ≡ s → (t : Bool) → eqb (refers_to κ) a_res ≡ t
          → cond z true (cond p (is_type n c.value) (cond q (ltb c.value n.defs) (cond s (is_free n κ c.value rows cells) (cond t (is_res n c.tag c.value rows) true)))) ≡ true
      by true z p e q f s g t h = refl
      by false z true e q f s g t h =
          type_ok n c.value (ok.undiverging (eqb-true (refers_to κ) a_type e) (eqb-false c.tag 0 z))
          (omega (arith, ok.type (eqb-true (refers_to κ) a_type e) (eqb-false c.tag 0 z), agree.types))
      by false z false e true f s g t h =
          let d : refers_to κ ≡ a_def = eqb-true (refers_to κ) a_def f in
          lt-ltb c.value n.defs (omega (arith, ok.def d, agree.defs (kinds.def_late d)))
      by false z false e false f true g t h = child_free (eqb-true (refers_to κ) a_node g) (eqb-false c.tag 0 z)
      by false z false e false f false g true h =
          let d : refers_to κ ≡ a_res = eqb-true (refers_to κ) a_res h in
          let late : key_node ≤ k = kinds.res_late d in
          res_ok n c.tag c.value rows (local_right d) (λ t. ap is_expr (form_seen rows cells (nodes_at + c.value) (look key_node c.value) (seen c.value (local_right d t))) ∙ ok.local d t)
          (λ t. omega (arith, ok.res_fn d t, agree.defs (omega (arith, late)))) (λ t. omega (arith, ok.res_constructor d t, agree.defs (omega (arith, late))))
          (λ t. omega (arith, ok.res_inst d t, agree.insts late))
      by false z false e false f false g false h = refl

-- ── the fields of a row ──

-- to take the child x changes nothing for a field that is not that child
right_taken : (n : Counts) (k tag x j : ℕ) (rows cells : List ℕ) (k' tag' x' : ℕ) → (is_child k tag ≡ true → refers_to k' ≡ a_node → (tag' ≡ 0 → ⊥) → x ≡ x' → ⊥)
    → right n k' tag' x' (taken k tag x j rows) cells ≡ right n k' tag' x' rows cells
unfolding taken right
right_taken n k tag x j rows cells k' tag' x' h = by (is_child k tag) refl
  where
    rows' : List ℕ
    rows' = set rows ((nodes_at + x) * 5 + 4) (j + 1)

    stays : (r : ℕ) → RowStays rows rows' r
    stays r c l = get_or-set_other rows ((nodes_at + x) * 5 + 4) (r * 5 + c) (j + 1) 0 (λ q. omega (arith, q))

    form : form_in rows' (nodes_at + x') ≡ form_in rows (nodes_at + x')
    form = form_same rows rows' (nodes_at + x') (stays (nodes_at + x'))

    stand : stands n k' x' rows' cells ≡ stands n k' x' rows cells
    stand = stands_same n n k' x' rows rows' cells cells (λ e. refl) form (first-same rows rows' (nodes_at + x') (stays (nodes_at + x'))) (λ e. refl)

    user : (x ≡ x' → ⊥) → user_in rows' (nodes_at + x') ≡ user_in rows (nodes_at + x')
    user d = unfold user_in in (get_or-set_other rows ((nodes_at + x) * 5 + 4) ((nodes_at + x') * 5 + 4) (j + 1) 0 (λ q. d (omega (arith, q))))

    free : (x ≡ x' → ⊥) → is_free n k' x' rows' cells ≡ is_free n k' x' rows cells
    free d = unfold is_free in rw (user d, stand)

    res : is_res n tag' x' rows' ≡ is_res n tag' x' rows
    res = unfold is_res is_local in rw form

    at : is_child k tag ≡ true → (z : Bool) → eqb tag' 0 ≡ z → (s : Bool) → eqb (refers_to k') a_node ≡ s
        → cond z true (cond (eqb (refers_to k') a_type) (is_type n x') (cond (eqb (refers_to k') a_def) (ltb x' n.defs) (cond s (is_free n k' x' rows' cells) (cond (eqb (refers_to k') a_res) (is_res n tag' x' rows') true))))
        ≡ cond z true (cond (eqb (refers_to k') a_type) (is_type n x') (cond (eqb (refers_to k') a_def) (ltb x' n.defs) (cond s (is_free n k' x' rows cells) (cond (eqb (refers_to k') a_res) (is_res n tag' x' rows) true))))
    at c true z s e = refl
    at c false z true e = rw (free (h c (eqb-true (refers_to k') a_node e) (eqb-false tag' 0 z)))
    at c false z false e = rw res

    by : (b : Bool) → is_child k tag ≡ b → right n k' tag' x' (cond b rows' rows) cells ≡ right n k' tag' x' rows cells
    by true c = at c (eqb tag' 0) refl (eqb (refers_to k') a_node) refl
    by false c = refl

-- the fields at j and j' of the kinds k and k' are not both children with one value
abbrev pub Apart : Form → List ℕ → ℕ → ℕ → ℕ → ℕ → Type 0
Apart f cells i j i' j' = is_child (kind_at f i) (tag_in cells j) ≡ true → refers_to (kind_at f i') ≡ a_node → (tag_in cells j' ≡ 0 → ⊥) → value_in cells j ≡ value_in cells j' → ⊥

-- rows that are linked
pub record Links (m : ℕ) (n : Counts) (f : Form) (i j : ℕ) (cells : List ℕ) (d : ℕ) (rows : List ℕ) : Type 0 where
  pub levels : ℕ
  pub after : List ℕ
  pub links : refs_from m n f i j cells d rows ≡ linked levels after

-- fields that are right in the rows before the line, and not the same child, are linked
pub refs_link : (m : ℕ) (n : Counts) (f : Form) (i j : ℕ) (cells : List ℕ) (d : ℕ) (rows : List ℕ)
    → ((a : ℕ) → a < m → right n (kind_at f (i + a)) (tag_in cells (j + a)) (value_in cells (j + a)) rows cells ≡ true)
    → ((a b : ℕ) → a < b → b < m → Apart f cells (i + a) (j + a) (i + b) (j + b)) → Links m n f i j cells d rows
unfolding refs_from
refs_link zero n f i j cells d rows h g = record { levels = d; after = rows; links = refl }
refs_link (suc m) n f i j cells d rows h g =
    let k : ℕ = kind_at f i in
    let t : ℕ = tag_in cells j in
    let x : ℕ = value_in cells j in
    let one : right n k t x rows cells ≡ true = first_field (λ p q. right n (kind_at f p) (tag_in cells q) (value_in cells q) rows cells ≡ true) m i j h in
    let more : Links m n f (i + 1) (j + 1) cells (larger d (levels_of k t x rows)) (taken k t x j rows) =
    refs_link m n f (i + 1) (j + 1) cells (larger d (levels_of k t x rows)) (taken k t x j rows)
    (λ a b. right_taken n k t x j rows cells (kind_at f (i + 1 + a)) (tag_in cells (j + 1 + a)) (value_in cells (j + 1 + a)) (first_apart a b)
    ∙ later_fields (λ p q. right n (kind_at f p) (tag_in cells q) (value_in cells q) rows cells ≡ true) m i j h a b)
    (λ a b l u. later_apart a b l u) in
    record { levels = more.levels; after = more.after; links = rw one more.links }
  where
    first_apart : (a : ℕ) → a < m → Apart f cells i j (i + 1 + a) (j + 1 + a)
    first_apart a b =
        let p : i + 1 + a ≡ i + suc a = omega arith in
        let q : j + 1 + a ≡ j + suc a = omega arith in
        rw (p, q) (rw (add-zero i, add-zero j) at (g 0 (suc a) (omega arith) (omega arith)))

    later_apart : (a b : ℕ) → a < b → b < m → Apart f cells (i + 1 + a) (j + 1 + a) (i + 1 + b) (j + 1 + b)
    later_apart a b l u =
        let p : i + 1 + a ≡ i + suc a = omega arith in
        let q : j + 1 + a ≡ j + suc a = omega arith in
        let p' : i + 1 + b ≡ i + suc b = omega arith in
        let q' : j + 1 + b ≡ j + suc b = omega arith in
        rw (p, q, p', q') (g (suc a) (suc b) (omega arith) (omega arith))

-- to take a child changes the user of that child alone
taken_users : (k tag x j : ℕ) (rows : List ℕ) (y : ℕ) → (user_in (taken k tag x j rows) (nodes_at + y) ≡ user_in rows (nodes_at + y)) ⊎ ((is_child k tag ≡ true) × (x ≡ y))
unfolding taken user_in
taken_users k tag x j rows y = by (is_child k tag) refl (eqb x y) refl
  where
    by : (b : Bool) → is_child k tag ≡ b → (c : Bool) → eqb x y ≡ c
        → (get_or (cond b (set rows ((nodes_at + x) * 5 + 4) (j + 1)) rows) ((nodes_at + y) * 5 + 4) 0 ≡ get_or rows ((nodes_at + y) * 5 + 4) 0) ⊎ ((is_child k tag ≡ true) × (x ≡ y))
    by true p true q = inr (p, eqb-true x y q)
    by true p false q = inl (get_or-set_other rows ((nodes_at + x) * 5 + 4) ((nodes_at + y) * 5 + 4) (j + 1) 0 (λ e. eqb-false x y q (omega (arith, e))))
    by false p c q = inl refl

-- the user of a node stays, or a field of the line uses it
pub linked_users : (m : ℕ) (n : Counts) (f : Form) (i j : ℕ) (cells : List ℕ) (d : ℕ) (rows : List ℕ) (e : ℕ) (rows' : List ℕ) → refs_from m n f i j cells d rows ≡ linked e rows'
    → (y : ℕ) → (user_in rows' (nodes_at + y) ≡ user_in rows (nodes_at + y))
    ⊎ ((a : ℕ) × (a < m) × (is_child (kind_at f (i + a)) (tag_in cells (j + a)) ≡ true) × (value_in cells (j + a) ≡ y))
unfolding refs_from
linked_users zero n f i j cells d rows e rows' h y = let q : rows ≡ rows' = cc in inl (rw (← q))
linked_users (suc m) n f i j cells d rows e rows' h y =
    either (linked_users m n f (i + 1) (j + 1) cells (larger d (levels_of k t x rows)) (taken k t x j rows) e rows' (step (right n k t x rows cells) _ rows e rows' h).1 y) (taken_users k t x j rows y)
  where
    k : ℕ
    k = kind_at f i

    t : ℕ
    t = tag_in cells j

    x : ℕ
    x = value_in cells j

    Uses : ℕ → ℕ → ℕ → Type 0
    Uses m i j = (a : ℕ) × (a < m) × (is_child (kind_at f (i + a)) (tag_in cells (j + a)) ≡ true) × (value_in cells (j + a) ≡ y)

    first : (is_child k t ≡ true) × (x ≡ y) → Uses (suc m) i j
    first p = (0, omega arith, rw (add-zero i, add-zero j) p.0, rw (add-zero j) p.1)

    later : Uses m (i + 1) (j + 1) → Uses (suc m) i j
    later (a, l, c, v) =
        let p : i + suc a ≡ i + 1 + a = omega arith in
        let q : j + suc a ≡ j + 1 + a = omega arith in
        (suc a, omega arith, rw (p, q) c, rw q v)

    either : (user_in rows' (nodes_at + y) ≡ user_in (taken k t x j rows) (nodes_at + y)) ⊎ Uses m (i + 1) (j + 1)
        → (user_in (taken k t x j rows) (nodes_at + y) ≡ user_in rows (nodes_at + y)) ⊎ ((is_child k t ≡ true) × (x ≡ y))
        → (user_in rows' (nodes_at + y) ≡ user_in rows (nodes_at + y)) ⊎ Uses (suc m) i j
    either (inl p) (inl q) = inl (p ∙ q)
    either (inl p) (inr q) = inr (first q)
    either (inr p) q = inr (later p)

-- ── types that stand already ──

-- equal values are those of equal cells
values_same : (m a b : ℕ) (cells : List ℕ) → same_values m a b cells ≡ true → values_of (cells_at cells a m) ≡ values_of (cells_at cells b m)
unfolding same_values values_of cells_at
values_same zero a b cells h = refl
values_same (suc m) a b cells h =
    let p = both (eqb (value_in cells a) (value_in cells b)) (same_values m (a + 1) (b + 1) cells) h in
    rw (eqb-true (value_in cells a) (value_in cells b) p.0, values_same m (a + 1) (b + 1) cells p.1)

-- a row that is the same has the form and the values
pub same_only : (rows cells : List ℕ) (r f b m : ℕ) → is_same rows cells r f b m ≡ true
    → (form_in rows r ≡ f) × (count_in rows r ≡ m) × (values_of (cells_at cells (first_in rows r) m) ≡ values_of (cells_at cells b m))
unfolding is_same
same_only rows cells r f b m h =
    let p = both (eqb (form_in rows r) f) (cond (eqb (count_in rows r) m) (same_values m (first_in rows r) b cells) false) h in
    let q = both (eqb (count_in rows r) m) (same_values m (first_in rows r) b cells) p.1 in
    (eqb-true (form_in rows r) f p.0, eqb-true (count_in rows r) m q.0, values_same m (first_in rows r) b cells q.1)

-- no row is the same
pub none_repeated : (n r : ℕ) (rows cells : List ℕ) (f b m : ℕ) → ((x : ℕ) → x < n → is_same rows cells (r + x) f b m ≡ true → ⊥) → is_repeated n r rows cells f b m ≡ false
unfolding is_repeated
none_repeated zero r rows cells f b m h = refl
none_repeated (suc n) r rows cells f b m h = by (is_same rows cells r f b m) refl (none_repeated n (r + 1) rows cells f b m (λ x l s. h (suc x) (omega arith) (rw (later x) s)))
  where
    later : (x : ℕ) → r + suc x ≡ r + 1 + x
    later x = omega arith

    by : (c : Bool) → is_same rows cells r f b m ≡ c → is_repeated n (r + 1) rows cells f b m ≡ false → cond c true (is_repeated n (r + 1) rows cells f b m) ≡ false
    by true p ih = absurd (h 0 (omega arith) (rw (add-zero r) p))
    by false p ih = ih

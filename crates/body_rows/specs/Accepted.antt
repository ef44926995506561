-- The rows in the tables of a file that is accepted are well-formed.
-- Assumes nothing.
use Prim.Native.Nat.{ℕ, zero, suc, ◌+◌, ◌-◌, ◌<◌, ◌≤◌}
use Rattle.std.proofs.Common.{add-zero, zero-add, arith, subst, ◌∙◌, true≢false}
use Rattle.std.specs.Prelude.{◌≡◌, ◌⊎◌, List, [], ◌∷◌, ◌++◌, Bool}
use Rattle.std.proofs.Math.Path.{refl, sym, ap}
use Rattle.std.proofs.Math.Logic.{inl, inr}
use Rattle.std.proofs.Math.Bool.{true, false, cond}
use Rattle.std.proofs.lemmas.Bool.{false≢true}
use Rattle.std.proofs.Math.Dec.{eqb}
use Rattle.std.proofs.Math.ListN.{length}
use borrow.Author.Tests.{eqb-true, eqb-false, eq-eqb}
use Rattle.forms.specs.declared.Cell.{Cell}
use Rattle.forms.specs.Form.{key_type, key_node, key_fn, forms, form_at, cell}
use Rattle.refs.specs.declared.Counts.{Counts}
use Rattle.refs.specs.Refs.{nodes_at, fixed_types, form_inst, form_fn, form_in, first_in, count_in, levels_in, name_in, tag_in, value_in, a_node, refers_to, is_child, is_expr, levels_of, same_values, is_same}
use Rattle.body.specs.Body.{limit_of, count_of, base_of}
use Rattle.well_formed.specs.Good.{behind, FieldGood, RowGood, kind_in, WellFormed}
use Rattle.well_formed.specs.Parsed.{blank}
use Rattle.well_formed.specs.Counting.{Within, behind_less}
use Rattle.well_formed.specs.Reading.{counted_key}
use Rattle.well_formed.specs.UsedOnce.{ChildAt, node_child_once, fn_child_once, node_child_not_fn}
use Rattle.body_rows.specs.Text.{Row, key_at, Lookup, listed, keys_from, body_rows, cells_at, row_at, lookup_in, WritableRow, WritableRows}
use Rattle.body_rows.specs.Steps.{cells_length_at, cells_at_lem}
use Rattle.body_rows.specs.Rows.{cell_of, kind_of, Has, WellFormedField, part_bound, WellFormedRow, ChildOf, values_of, WellFormedRows}
use Rattle.body_rows.specs.Linking.{form_kinds, stands_seen}

-- ── rows of a list ──

-- of two lists that have texts each has
writable_first : (rs ss : List Row) → WritableRows (rs ++ ss) → WritableRows rs
unfolding WritableRows
writable_first [] ss p = tt
writable_first (r ∷ rs) ss p = (p.0, writable_first rs ss p.1)

-- and the second
writable_second : (rs ss : List Row) → WritableRows (rs ++ ss) → WritableRows ss
unfolding WritableRows
writable_second [] ss p = p
writable_second (r ∷ rs) ss p = writable_second rs ss p.1

-- so has each of m rows
listed_at : (f : ℕ → Row) (i m x : ℕ) → WritableRows (listed f i m) → i ≤ x → x < i + m → WritableRow (f x)
unfolding listed WritableRows
listed_at f i zero x w p q = absurd (omega arith)
listed_at f i (suc m) x w p q = by (eqb i x) refl (listed_at f (i + 1) m x w.1)
  where
    by : (c : Bool) → eqb i x ≡ c → (i + 1 ≤ x → x < i + 1 + m → WritableRow (f x)) → WritableRow (f x)
    by true e ih = subst (λ (y : ℕ). WritableRow (f y)) (eqb-true i x e) w.0
    by false e ih = ih (omega (arith, p, eqb-false i x e)) (omega arith)

-- and each of some keys
keys_at : (n : Counts) (look : Lookup) (m k j x : ℕ) → WritableRows (keys_from n look k m) → k ≤ j → j < k + m → x < count_of n j → WritableRow (look j x)
unfolding keys_from
keys_at n look zero k j x w p q h = absurd (omega arith)
keys_at n look (suc m) k j x w p q h =
    by (eqb k j) refl (writable_first (listed (look k) 0 (count_of n k)) (keys_from n look (k + 1) m) w)
    (keys_at n look m (k + 1) j x (writable_second (listed (look k) 0 (count_of n k)) (keys_from n look (k + 1) m) w))
  where
    by : (c : Bool) → eqb k j ≡ c → WritableRows (listed (look k) 0 (count_of n k)) → (k + 1 ≤ j → j < k + 1 + m → x < count_of n j → WritableRow (look j x)) → WritableRow (look j x)
    by true e l ih =
        let s : k ≡ j = eqb-true k j e in
        subst (λ (y : ℕ). WritableRow (look y x)) s (listed_at (look k) 0 (count_of n k) x l (omega arith) (omega (arith, h, ap (count_of n) s)))
    by false e l ih = ih (omega (arith, p, eqb-false k j e)) (omega arith) h

-- and each of a body
pub body_at : (n : Counts) (look : Lookup) → WritableRows (body_rows n look) → (k i : ℕ) → Has n k i → WritableRow (look k i)
unfolding body_rows WritableRows
body_at n look w k i (inl h) = keys_at n look 5 0 k i (writable_first (keys_from n look 0 5) (look key_fn 0 ∷ []) w) (omega arith) (omega (arith, counted_key n k i h)) h
body_at n look w k i (inr h) = rw (h.0, h.1) (writable_second (keys_from n look 0 5) (look key_fn 0 ∷ []) w).0

-- ── equal types ──

-- as many values as cells
values_length : (l : List Cell) → length (values_of l) ≡ length l
unfolding values_of
values_length [] = refl
values_length (c ∷ l) = ap suc (values_length l)

-- equal values of cells are what the reader compares
values_back : (m a b : ℕ) (cells : List ℕ) → values_of (cells_at cells a m) ≡ values_of (cells_at cells b m) → same_values m a b cells ≡ true
unfolding same_values values_of cells_at
values_back zero a b cells h = refl
values_back (suc m) a b cells h =
    let p : value_in cells a ≡ value_in cells b = cc in
    let q : values_of (cells_at cells (a + 1) m) ≡ values_of (cells_at cells (b + 1) m) = cc in
    rw (eq-eqb (value_in cells a) (value_in cells b) p) (values_back m (a + 1) (b + 1) cells q)

-- rows of one form and equal values are the same
same_back : (rows cells : List ℕ) (i j : ℕ) → form_in rows i ≡ form_in rows j
    → values_of (cells_at cells (first_in rows i) (count_in rows i)) ≡ values_of (cells_at cells (first_in rows j) (count_in rows j))
    → is_same rows cells i (form_in rows j) (first_in rows j) (count_in rows j) ≡ true
unfolding is_same
same_back rows cells i j e v =
    let c : count_in rows i ≡ count_in rows j =
    sym (cells_length_at cells (first_in rows i) (count_in rows i)) ∙ sym (values_length (cells_at cells (first_in rows i) (count_in rows i))) ∙ ap length v
    ∙ values_length (cells_at cells (first_in rows j) (count_in rows j)) ∙ cells_length_at cells (first_in rows j) (count_in rows j) in
    let u : values_of (cells_at cells (first_in rows i) (count_in rows j)) ≡ values_of (cells_at cells (first_in rows j) (count_in rows j)) =
    ap (λ (m : ℕ). values_of (cells_at cells (first_in rows i) m)) (sym c) ∙ v in
    rw (eq-eqb (form_in rows i) (form_in rows j) e, eq-eqb (count_in rows i) (count_in rows j) c) (values_back (count_in rows j) (first_in rows i) (first_in rows j) cells u)

module _ (n : Counts) (rows cells : List ℕ) (w : WellFormed n rows cells) (writable : (k i : ℕ) → Has n k i → WritableRow (lookup_in rows cells k i)) where
  abbrev look : Lookup
  look = lookup_in rows cells

  -- the levels that the table has
  abbrev bound : ℕ → ℕ → ℕ
  bound k i = levels_in rows (base_of k + i)

  -- each row is good
  row_good : (k i : ℕ) → i < count_of n k → RowGood (behind n k i) n.fields k (base_of k + i) rows cells
  row_good zero i h = w.types i h
  row_good (suc zero) i h = w.defs i h
  row_good (suc (suc zero)) i h = w.insts i h
  row_good (suc (suc (suc zero))) i h = w.binds i h
  row_good (suc (suc (suc (suc zero)))) i h = w.nodes i h
  row_good (suc (suc (suc (suc (suc k))))) i h = absurd (omega (arith, counted_key n (suc (suc (suc (suc (suc k))))) i h))

  -- the row of `fn` is good
  fn_good : RowGood (behind n key_fn 0) n.fields key_fn (base_of key_fn + 0) rows cells
  unfolding behind base_of
  fn_good = w.fn

  -- and so is each row
  good_row : (k i : ℕ) → Has n k i → RowGood (behind n k i) n.fields k (base_of k + i) rows cells
  good_row k i (inl h) = row_good k i h
  good_row k i (inr h) = rw (h.0, h.1) fn_good

  -- what stood before it is within the whole
  within : (k i : ℕ) → Has n k i → Within (behind n k i) n
  within k i (inl h) = behind_less n k i (omega arith)
  within k i (inr h) = behind_less n k i (omega (arith, h.1))

  -- the body has each of its nodes
  has_node : (x : ℕ) → x < n.nodes → Has n key_node x
  unfolding count_of
  has_node x h = inl h

  -- a good field
  field_ok : (m : Counts) (k j : ℕ) → m.nodes ≤ n.nodes → FieldGood m k j rows cells → WellFormedField m look k (cell (name_in cells j) (tag_in cells j) (value_in cells j))
  unfolding base_of
  field_ok m k j h g = record {
    type = g.type;
    undiverging = g.undiverging;
    def = g.def;
    child_lower = λ c. (g.child c).lower;
    child_stands = λ c.
        sym (stands_seen m k (value_in cells j) rows cells (look key_node (value_in cells j)) refl (writable key_node (value_in cells j) (has_node (value_in cells j) (omega (arith, (g.child c).lower, h)))))
        ∙ (g.child c).stands_there;
    local_lower = g.local_lower;
    local = λ e t. local_form (value_in cells j) (g.local e t);
    res_fn = g.res_fn;
    res_constructor = g.res_constructor;
    res_inst = g.res_inst;
  }
    where
      local_form : (x : ℕ) → is_expr (form_in rows (nodes_at + x)) ≡ false → is_expr (look key_node x).form ≡ false
      local_form x e = unfold row_at in e

  -- a field of a row
  cell-is : (k i a : ℕ) → a < count_in rows (base_of k + i)
      → cell_of (look k i) a ≡ cell (name_in cells (first_in rows (base_of k + i) + a)) (tag_in cells (first_in rows (base_of k + i) + a)) (value_in cells (first_in rows (base_of k + i) + a))
  unfolding row_at
  cell-is k i a h = cells_at_lem cells (first_in rows (base_of k + i)) (count_in rows (base_of k + i)) a blank h

  -- a cell of a row is a field of its place
  inside : (k i a : ℕ) → a < length (look k i).cells → a < count_in rows (base_of k + i)
  unfolding row_at
  inside k i a h = omega (arith, h, cells_length_at cells (first_in rows (base_of k + i)) (count_in rows (base_of k + i)))

  -- the levels of a part are those that the reader sees
  part_is : (k : ℕ) (c : Cell) → part_bound bound k c ≡ levels_of k c.tag c.value rows
  unfolding part_bound levels_of base_of
  part_is k c = rw (zero-add (c.value - fixed_types))

  -- each row is well-formed
  row_well_formed : (k i : ℕ) → Has n k i → WellFormedRow n look bound k i
  unfolding row_at key_at
  row_well_formed k i h = record {
    writable = writable k i h;
    key = (good_row k i h).key;
    fields = λ a l.
        rw (cell-is k i a (inside k i a l))
        (field_ok (behind n k i) (kind_in rows (base_of k + i) a) (first_in rows (base_of k + i) + a) (within k i h).nodes ((good_row k i h).fields a (inside k i a l)));
    level = (good_row k i h).level;
    levels = λ a l.
        rw (part_is (kind_in rows (base_of k + i) a) (cell_of (look k i) a), cell-is k i a (inside k i a l)) ((good_row k i h).levels a (inside k i a l));
  }

  -- a child, by the tables
  child_at : (k i a x : ℕ) → ChildOf look k i a x → ChildAt rows cells (base_of k + i) a x
  unfolding row_at
  child_at k i a x c =
      let l : a < count_in rows (base_of k + i) = inside k i a c.there in
      record {
        there = l;
        child = rw (ap (λ (y : Cell). y.tag) (cell-is k i a l)) at c.child;
        value = sym (ap (λ (y : Cell). y.value) (cell-is k i a l)) ∙ c.value;
      }

  -- only nodes and `fn` have children
  child_key : (k i a x : ℕ) → Has n k i → ChildOf look k i a x → key_node ≤ k
  unfolding is_child
  child_key k i a x h c = rw (row_well_formed k i h).key at ((form_kinds (look k i).form a (writable k i h).form).node_late (by (eqb (refers_to (kind_of (look k i) a)) a_node) refl c.child))
    where
      by : (b : Bool) → eqb (refers_to (kind_of (look k i) a)) a_node ≡ b → cond b (eqb (cell_of (look k i) a).tag 1) false ≡ true → refers_to (kind_of (look k i) a) ≡ a_node
      by true e h = eqb-true (refers_to (kind_of (look k i) a)) a_node e
      by false e h = absurd (false≢true h)

  -- a row with children is a node or `fn`
  parent : (k i : ℕ) → Has n k i → key_node ≤ k → ((k ≡ key_node) × (i < n.nodes)) ⊎ ((k ≡ key_fn) × (i ≡ 0))
  unfolding count_of
  parent k i (inl h) l = let q : k ≡ key_node = omega (arith, counted_key n k i h) in inl (q, omega (arith, h, ap (count_of n) q))
  parent k i (inr h) l = inr h

  -- a child has one field
  once : (k i a k' i' a' x : ℕ) → Has n k i → Has n k' i' → ChildOf look k i a x → ChildOf look k' i' a' x → (k ≡ k') × (i ≡ i') × (a ≡ a')
  unfolding base_of
  once k i a k' i' a' x h h' c c' = by (parent k i h (child_key k i a x h c)) (parent k' i' h' (child_key k' i' a' x h' c'))
    where
      at : ChildAt rows cells (base_of k + i) a x
      at = child_at k i a x c

      at' : ChildAt rows cells (base_of k' + i') a' x
      at' = child_at k' i' a' x c'

      by : ((k ≡ key_node) × (i < n.nodes)) ⊎ ((k ≡ key_fn) × (i ≡ 0)) → ((k' ≡ key_node) × (i' < n.nodes)) ⊎ ((k' ≡ key_fn) × (i' ≡ 0)) → (k ≡ k') × (i ≡ i') × (a ≡ a')
      by (inl p) (inl q) =
          let o = node_child_once n rows cells w i i' a a' x p.1 q.1 (rw p.0 at at) (rw q.0 at at') in
          (p.0 ∙ sym q.0, o.0, o.1)
      by (inl p) (inr q) = absurd (node_child_not_fn n rows cells w i a a' x p.1 (rw p.0 at at) (rw (q.0, q.1) at at'))
      by (inr p) (inl q) = absurd (node_child_not_fn n rows cells w i' a' a x q.1 (rw q.0 at at') (rw (p.0, p.1) at at))
      by (inr p) (inr q) = (p.0 ∙ sym q.0, p.1 ∙ sym q.1, fn_child_once n rows cells w a a' x (rw (p.0, p.1) at at) (rw (q.0, q.1) at at'))

  -- a type's row
  type_row_lem : (i : ℕ) → look key_type i ≡ row_at rows cells i
  unfolding base_of
  type_row_lem i = ap (row_at rows cells) (zero-add i)

  -- no two type rows are equal
  distinct : (i j : ℕ) → i < j → j < n.types → (look key_type i).form ≡ (look key_type j).form → values_of (look key_type i).cells ≡ values_of (look key_type j).cells → ⊥
  distinct i j h l e v = true≢false (sym (same_back rows cells i j (form_is (rw (type_row_lem i, type_row_lem j) at e)) (values_are (rw (type_row_lem i, type_row_lem j) at v))) ∙ w.distinct i j h l)
    where
      form_is : (row_at rows cells i).form ≡ (row_at rows cells j).form → form_in rows i ≡ form_in rows j
      form_is e = unfold row_at in e

      values_are : values_of (row_at rows cells i).cells ≡ values_of (row_at rows cells j).cells
          → values_of (cells_at cells (first_in rows i) (count_in rows i)) ≡ values_of (cells_at cells (first_in rows j) (count_in rows j))
      values_are v = unfold row_at in v

  -- a row of a form with a field has one
  filled : (i f : ℕ) → i < n.types → (look key_type i).form ≡ f → 0 < (form_at f).4 → 0 < length (look key_type i).cells
  unfolding count_of
  filled i f h e l = let g : (form_at (look key_type i).form).4 ≤ length (look key_type i).cells = (writable key_type i (inl h)).least in omega (arith, l, ap (λ (y : ℕ). (form_at y).4) e, g)

  -- the first value of a type's row is that of its place
  first_value : (i : ℕ) → 0 < length (look key_type i).cells → (cell_of (look key_type i) 0).value ≡ value_in cells (first_in rows i)
  unfolding base_of
  first_value i l =
      ap (λ (c : Cell). c.value) (cell-is key_type i 0 (inside key_type i 0 l))
      ∙ ap (λ (y : ℕ). value_in cells (first_in rows y + 0)) (zero-add i) ∙ ap (value_in cells) (add-zero (first_in rows i))

  -- what a type's first field names is there
  there : (i f m : ℕ) → i < n.types → (look key_type i).form ≡ f → 0 < (form_at f).4 → (form_in rows i ≡ f → value_in cells (first_in rows i) < m) → (cell_of (look key_type i) 0).value < m
  unfolding row_at base_of
  there i f m h e l g = omega (arith, first_value i (filled i f h e l), g (ap (form_in rows) (sym (zero-add i)) ∙ e))

  -- so the rows of the tables are well-formed
  pub tables_well_formed : WellFormedRows n look
  unfolding count_of limit_of levels_in base_of form_at forms
  tables_well_formed = record {
    bound = bound;
    limited = limits;
    rows = row_well_formed;
    once = once;
    distinct = distinct;
    insts_there = λ i h e. there i form_inst n.insts h e (omega arith) (w.insts_there i h);
    defs_there = λ i h e. there i form_fn n.defs h e (omega arith) (w.defs_there i h);
    nesting = λ i h. rw (zero-add i) (w.nesting i h);
    depth = w.depth;
  }
    where
      limits : (k : ℕ) → k < 5 → count_of n k ≤ limit_of k
      limits zero h = w.limited.types
      limits (suc zero) h = w.limited.defs
      limits (suc (suc zero)) h = w.limited.insts
      limits (suc (suc (suc zero))) h = w.limited.binds
      limits (suc (suc (suc (suc zero)))) h = w.limited.nodes
      limits (suc (suc (suc (suc (suc k))))) h = absurd (omega arith)

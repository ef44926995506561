-- Well-formed rows are accepted: their text is read, and the tables have them.
-- Assumes nothing.
use Prim.Native.Nat.{ℕ, zero, suc, ◌+◌, ◌*◌, ◌/◌, ◌<◌, ◌≤◌}
use Rattle.std.proofs.Common.{add-zero, zero-add, ◌∙◌}
use native.Mathlib.Omega.{arith}
use Rattle.std.specs.Prelude.{◌≡◌, ◌⊎◌, Bool, leb, ltb}
use Rattle.std.proofs.Math.Path.{refl, sym, ap}
use Rattle.std.proofs.Math.Logic.{inl, inr}
use mathlib.Core.List.{List, [], ◌∷◌, ◌++◌, map}
use Rattle.std.proofs.Math.Bool.{true, false, cond}
use Rattle.std.proofs.Math.Dec.{eqb}
use Rattle.std.proofs.Math.ListN.{length}
use borrow.Author.Tests.{ltb-true, ltb-false, eqb-true, eqb-false, eq-eqb, ne_eqb, le-ltb, lt-leb, le-leb}
use Rattle.forms.specs.Form.{key_type, key_def, key_inst, key_node, key_fn, forms, form_at, LowType}
use Rattle.refs.specs.declared.Counts.{Counts}
use Rattle.refs.specs.Refs.{nodes_at, form_inst, form_fn, first_in, count_in, levels_in, user_in, value_in, a_type, a_node, refers_to, is_child}
use Rattle.body.specs.declared.State.{State}
use Rattle.body.specs.declared.Answer.TheVariants as answer
use Rattle.body.specs.Body.{most_bytes, rows_length, cells_length, first, in_order, limit_of, count_of, base_of, next, is_ahead, first_ahead, Ended, refused, read, finish_of, zeros, settle}
use Rattle.well_formed.specs.Good.{written_as, behind}
use Rattle.well_formed.specs.Bytes.{Enough}
use Rattle.well_formed.specs.Linked.{child_kind}
use Rattle.well_formed.specs.Reading.{Reading, counted_key}
use Rattle.well_formed.specs.WellFormed.{none_counted, start_reading}
use Rattle.body_rows.specs.Text.{Row, key_at, line_text, file_text, Lookup, listed, keys_from, body_rows, row_at, WritableRow, WritableRows}
use Rattle.body_rows.specs.ParsedLines.{body_of_parsed}
use Rattle.body_rows.specs.File.{row_parsed, rows_from}
use Rattle.body_rows.specs.Steps.{cells_kept, cells_behind, place_of}
use Rattle.body_rows.specs.Rows.{cell_of, kind_of, Has, WellFormedRow, ChildOf, WellFormedRows, HasRows}
use Rattle.body_rows.specs.Linking.{Kinds, form_kinds, form_seen, value_seen, Agree, Tagged}

-- ── small laws ──

-- a field that refers to a node and is there is a child
pub tagged_by : (k κ tag x : ℕ) → Kinds k κ → written_as (κ / 16) tag x ≡ true → Tagged κ tag
unfolding written_as is_child
tagged_by k κ tag x kinds w = record { child = λ e t. rw (e, one e t (kinds.node_way e)) }
  where
    one : refers_to κ ≡ a_node → (tag ≡ 0 → ⊥) → (κ / 16 ≡ 1) ⊎ (κ / 16 ≡ 2) → tag ≡ 1
    one e t (inl q) = eqb-true tag 1 (rw q at w)
    one e t (inr q) = let l : tag < 2 = ltb-true tag 2 (rw q at w) in omega (arith, l, t)

-- a type in a type refers to a type
pub low_type : refers_to LowType ≡ a_type
unfolding refers_to
low_type = refl

-- where no row is ahead, none is found
none_ahead : (m r : ℕ) (n : Counts) (cells rows : List ℕ) → ((x : ℕ) → x < m → is_ahead (r + x) n cells rows ≡ false) → first_ahead m r n cells rows ≡ r + m
unfolding first_ahead
none_ahead zero r n cells rows h = omega arith
none_ahead (suc m) r n cells rows h =
    rw (rw (add-zero r) at (h 0 (omega arith)))
    (none_ahead m (r + 1) n cells rows (λ x l. ap (λ (y : ℕ). is_ahead y n cells rows) {x = r + 1 + x} {y = r + suc x} (omega arith) ∙ h (suc x) (omega arith)) ∙ omega arith)

-- rows, one behind the other
writable_append : (rs ss : List Row) → WritableRows rs → WritableRows ss → WritableRows (rs ++ ss)
unfolding WritableRows
writable_append [] ss p q = q
writable_append (r ∷ rs) ss p q = (p.0, writable_append rs ss p.1 q)

-- rows whose text is short enough, over tables that are long enough
pub body_rows_lem : (rs : List Row) (rows cells : List ℕ) → rows_length ≤ length rows → cells_length ≤ length cells → length (file_text rs) ≤ most_bytes
    → body_of_parsed (length (file_text rs)) (map row_parsed rs) rows cells ≡ settle (rows_from rs 1 first (zeros cells) (zeros rows)) rows cells
unfolding body_of_parsed
body_rows_lem rs rows cells hr hc h = rw (le-ltb most_bytes (length (file_text rs)) h, le-ltb (length rows) rows_length hr, le-ltb (length cells) cells_length hc)

-- neither of two
pub neither : (a b : Bool) → a ≡ false → b ≡ false → cond a true b ≡ false
neither true b p q = p
neither false b p q = q

-- only a key before `fn` has a count
pub has_key : (n : Counts) (k i : ℕ) → Has n k i → k < 6
has_key n k i (inl h) = omega (arith, counted_key n k i h)
has_key n k i (inr h) = omega (arith, h.0)

module _ (n : Counts) (look : Lookup) (good : WellFormedRows n look) where
  -- a node that was read uses x
  abbrev pub Used : State → ℕ → Type 0
  Used st x = (b : ℕ) × (a : ℕ) × (b < st.counts.nodes) × ChildOf look key_node b a x

  -- before the row of the number i of the key k, behind b bytes
  pub record At (k i b : ℕ) (st : State) (cells rows : List ℕ) : Type 0 where
    pub reading : Reading st cells rows
    pub enough : Enough b st.counts.fields
    pub below : (j : ℕ) → j < k → count_of st.counts j ≡ count_of n j
    pub own : count_of st.counts k ≡ i
    pub key : st.key ≤ k
    pub unended : st.key ≡ key_fn → ⊥
    pub shallow : st.deep ≡ false
    pub seen : (j x : ℕ) → x < count_of st.counts j → row_at rows cells (base_of j + x) ≡ look j x
    pub ranked : (j x : ℕ) → x < count_of st.counts j → levels_in rows (base_of j + x) ≤ good.bound j x
    pub users : (x : ℕ) → x < st.counts.nodes → (user_in rows (nodes_at + x) ≡ 0) ⊎ Used st x

  -- behind `fn`
  pub record Done (st : State) (cells rows : List ℕ) : Type 0 where
    pub key : st.key ≡ key_fn
    pub counts : (j : ℕ) → j < 5 → count_of st.counts j ≡ count_of n j
    pub shallow : st.deep ≡ false
    pub seen : (j x : ℕ) → x < count_of st.counts j → row_at rows cells (base_of j + x) ≡ look j x
    pub fn : row_at rows cells (base_of key_fn + 0) ≡ look key_fn 0

  module _ (k i b : ℕ) (st : State) (cells rows : List ℕ) (at : At k i b st cells rows) (has : Has n k i)
      (short : b + length (line_text (look k i)) + 1 ≤ most_bytes) where
    abbrev pub r : Row
    r = look k i

    pub ok : WellFormedRow n look good.bound k i
    ok = good.rows k i has

    -- the cells behind the row
    abbrev pub stored : List ℕ
    stored = cells_behind r st cells

    abbrev pub m : ℕ
    m = length r.cells

    -- what stood stands over the new cells too
    pub seen_stored : (j x : ℕ) → x < count_of st.counts j → row_at rows stored (base_of j + x) ≡ look j x
    unfolding row_at
    seen_stored j x h =
        rw (cells_kept cells st.counts.fields r.cells (first_in rows (base_of j + x)) (count_in rows (base_of j + x)) (at.reading.good j x h).inside) (at.seen j x h)

    pub node_seen : (x : ℕ) → x < st.counts.nodes → row_at rows stored (nodes_at + x) ≡ look key_node x
    unfolding count_of base_of
    node_seen x h = seen_stored key_node x h

    -- the counts that the row's fields may look at
    pub agree : Agree k st.counts (behind n k i)
    unfolding behind count_of
    agree = record {
      types = by_type (eqb k key_type) refl;
      defs = λ h. at.below key_def (omega arith) ∙ rw (ne_eqb k key_def (λ e. omega (arith, e)));
      insts = λ h. at.below key_inst (omega arith) ∙ rw (ne_eqb k key_inst (λ e. omega (arith, e)));
      nodes = λ h. by_node (eqb k key_node) refl h;
    }
      where
        by_type : (c : Bool) → eqb k key_type ≡ c → st.counts.types ≡ cond c i n.types
        by_type true e = ap (count_of st.counts) (sym (eqb-true k key_type e)) ∙ at.own
        by_type false e = at.below key_type (omega (arith, eqb-false k key_type e))

        by_node : (c : Bool) → eqb k key_node ≡ c → key_node ≤ k → st.counts.nodes ≡ cond c i n.nodes
        by_node true e h = ap (count_of st.counts) (sym (eqb-true k key_node e)) ∙ at.own
        by_node false e h = at.below key_node (omega (arith, eqb-false k key_node e))

    -- the nodes that were read are nodes of the body
    nodes_within : key_node ≤ k → (x : ℕ) → x < st.counts.nodes → Has n key_node x
    unfolding count_of
    nodes_within h x l = inl (by (eqb k key_node) refl has)
      where
        by : (c : Bool) → eqb k key_node ≡ c → Has n k i → x < n.nodes
        by true e (inl p) = omega (arith, l, at.own, ap (count_of st.counts) (eqb-true k key_node e), ap (count_of n) (eqb-true k key_node e))
        by true e (inr p) = absurd (omega (arith, p.0, eqb-true k key_node e))
        by false e p = omega (arith, l, at.below key_node (omega (arith, h, eqb-false k key_node e)))

    pub node_written : (x : ℕ) → x < st.counts.nodes → WritableRow (look key_node x)
    unfolding count_of
    node_written x l = (good.rows key_node x (nodes_within (omega (arith, at.reading.keys key_node x l, at.key)) x l)).writable

    -- what the table of forms says of a field
    pub kinds : (a : ℕ) → Kinds k (kind_of r a)
    kinds a = rw ok.key at (form_kinds r.form a ok.writable.form)

    -- a child of the row is a node that was read,
    pub child_read : (a : ℕ) → a < m → is_child (kind_of r a) (cell_of r a).tag ≡ true → (cell_of r a).value < st.counts.nodes
    child_read a h c = omega (arith, (ok.fields a h).child_lower c, agree.nodes ((kinds a).node_late (child_kind (kind_of r a) (cell_of r a).tag c).0))

    -- which nothing uses yet
    pub free : (a : ℕ) → a < m → is_child (kind_of r a) (cell_of r a).tag ≡ true → user_in rows (nodes_at + (cell_of r a).value) ≡ 0
    unfolding count_of
    free a h c = by (at.users (cell_of r a).value (child_read a h c))
      where
        by : (user_in rows (nodes_at + (cell_of r a).value) ≡ 0) ⊎ Used st (cell_of r a).value → user_in rows (nodes_at + (cell_of r a).value) ≡ 0
        by (inl e) = e
        by (inr (b', a', l, u)) =
            let late : key_node ≤ k = (kinds a).node_late (child_kind (kind_of r a) (cell_of r a).tag c).0 in
            let q = good.once key_node b' a' k i a (cell_of r a).value (nodes_within late b' l) has u (record { there = h; child = c; value = refl }) in
            absurd (omega (arith, l, q.1, at.own, ap (count_of st.counts) q.0))

    pub order : in_order st.key (key_at r.form) ≡ true
    unfolding in_order
    order = rw (ok.key, le-ltb k st.key at.key, ne_eqb st.key key_fn at.unended, le-leb k key_fn (omega (arith, has_key n k i has)))

    -- there is room for the row
    room_own : count_of st.counts k < limit_of k
    unfolding limit_of
    room_own = by has
      where
        by : Has n k i → count_of st.counts k < limit_of k
        by (inl p) = omega (arith, at.own, p, good.limited k (counted_key n k i p))
        by (inr p) = rw p.0 (omega (arith, ap (count_of st.counts) p.0, at.own, p.1))

    pub room : count_of st.counts (key_at r.form) < limit_of (key_at r.form)
    room = rw ok.key room_own

    pub nodes_inside : (nodes_at + st.counts.nodes) * 5 ≤ length rows
    unfolding count_of limit_of
    nodes_inside = let most : st.counts.nodes ≤ 1024 = at.reading.limited key_node in omega (arith, most, at.reading.rows_long)

    -- ── behind the row ──

    abbrev pub b' : ℕ
    b' = b + length (line_text r) + 1

    -- the row's own place, by key and number
    pub same_place : (j x : ℕ) → j ≡ key_at r.form → x ≡ count_of st.counts j → base_of j + x ≡ place_of r st
    same_place j x p q = omega (arith, ap base_of p, q, ap (count_of st.counts) p)

    pub same_row : (j x : ℕ) → j ≡ key_at r.form → x ≡ count_of st.counts j → r ≡ look j x
    same_row j x p q =
        let e : k ≡ j = sym ok.key ∙ sym p in
        let f : i ≡ x = sym at.own ∙ ap (count_of st.counts) e ∙ sym q in
        ap (λ (y : ℕ). look y i) e ∙ ap (look j) f

    -- the user of a node that was not read is none
    pub unread_user : k ≡ key_node → user_in rows (nodes_at + st.counts.nodes) ≡ 0
    unfolding user_in count_of base_of limit_of
    unread_user e =
        at.reading.zero.rows_zero key_node st.counts.nodes 4 (omega arith) (omega arith)
        (omega (arith, room_own, ap (count_of st.counts) e, ap limit_of e)) (omega arith)

  -- ── behind the last row ──

  -- it ends in such a body
  abbrev pub Finished : Ended → Type 0
  Finished (refused x l) = ⊥
  Finished (read n' cells rows) = HasRows n look n' rows cells

  module _ (st : State) (cells rows : List ℕ) (done : Done st cells rows) where
    type_seen : (x : ℕ) → x < st.counts.types → row_at rows cells x ≡ look key_type x
    unfolding count_of base_of
    type_seen x h = ap (row_at rows cells) (sym (zero-add x)) ∙ done.seen key_type x h

    -- K and D of types are there
    not_ahead : (x : ℕ) → x < st.counts.types → is_ahead x st.counts cells rows ≡ false
    unfolding is_ahead count_of forms form_at
    not_ahead x h = rw (form_seen rows cells x (look key_type x) (type_seen x h)) (by (eqb (look key_type x).form form_inst) refl (eqb (look key_type x).form form_fn) refl)
      where
        within : x < n.types
        within = omega (arith, h, done.counts key_type (omega arith))

        ok : WellFormedRow n look good.bound key_type x
        ok = good.rows key_type x (inl within)

        first_value : 0 < length (look key_type x).cells → value_in cells (first_in rows x) ≡ (cell_of (look key_type x) 0).value
        first_value l = ap (value_in cells) (sym (add-zero (first_in rows x))) ∙ value_seen rows cells x (look key_type x) (type_seen x h) 0 l

        inst_filled : (look key_type x).form ≡ form_inst → 0 < length (look key_type x).cells
        inst_filled e = let l : 1 ≤ length (look key_type x).cells = rw e at ok.writable.least in l

        fn_filled : (look key_type x).form ≡ form_fn → 0 < length (look key_type x).cells
        fn_filled e = let l : 1 ≤ length (look key_type x).cells = rw e at ok.writable.least in l

        by : (a : Bool) → eqb (look key_type x).form form_inst ≡ a → (c : Bool) → eqb (look key_type x).form form_fn ≡ c
            → cond a (leb st.counts.insts (value_in cells (first_in rows x))) (cond c (leb st.counts.defs (value_in cells (first_in rows x))) false) ≡ false
        by true p c q =
            let e : (look key_type x).form ≡ form_inst = eqb-true (look key_type x).form form_inst p in
            lt-leb st.counts.insts (value_in cells (first_in rows x)) (omega (arith, first_value (inst_filled e), good.insts_there x within e, done.counts key_inst (omega arith)))
        by false p true q =
            let e : (look key_type x).form ≡ form_fn = eqb-true (look key_type x).form form_fn q in
            lt-leb st.counts.defs (value_in cells (first_in rows x)) (omega (arith, first_value (fn_filled e), good.defs_there x within e, done.counts key_def (omega arith)))
        by false p false q = refl

    -- so the file is read
    pub finished : (l : ℕ) → finish_of st l cells rows ≡ read st.counts cells rows
    unfolding finish_of
    finished l =
        rw (eq-eqb st.key key_fn done.key, le-ltb (first_ahead st.counts.types 0 st.counts cells rows) st.counts.types ahead, done.shallow)
      where
        ahead : st.counts.types ≤ first_ahead st.counts.types 0 st.counts cells rows
        ahead = omega (arith, none_ahead st.counts.types 0 st.counts cells rows (λ x h. rw (zero-add x) (not_ahead x h)))

    -- with the rows of the body
    pub accepted : HasRows n look st.counts rows cells
    accepted = record { counts = done.counts; seen = rows_there }
      where
        rows_there : (k i : ℕ) → Has n k i → row_at rows cells (base_of k + i) ≡ look k i
        rows_there k i (inl h) = done.seen k i (omega (arith, h, done.counts k (counted_key n k i h)))
        rows_there k i (inr h) = rw (h.0, h.1) done.fn

  -- ── the rows of a key, and of all ──

  -- before the first row of the next key
  pub key_next : (k b : ℕ) (st : State) (cells rows : List ℕ) → k < 5 → At k (count_of n k) b st cells rows → At (k + 1) 0 b st cells rows
  key_next k b st cells rows h at = record {
    reading = at.reading;
    enough = at.enough;
    below = λ j l. by j (eqb j k) refl l;
    own = none (ltb 0 (count_of st.counts (k + 1))) refl;
    key = omega (arith, at.key);
    unended = at.unended;
    shallow = at.shallow;
    seen = at.seen;
    ranked = at.ranked;
    users = at.users;
  }
    where
      by : (j : ℕ) (c : Bool) → eqb j k ≡ c → j < k + 1 → count_of st.counts j ≡ count_of n j
      by j true e l = let q : j ≡ k = eqb-true j k e in ap (count_of st.counts) q ∙ at.own ∙ ap (count_of n) (sym q)
      by j false e l = at.below j (omega (arith, eqb-false j k e))

      none : (c : Bool) → ltb 0 (count_of st.counts (k + 1)) ≡ c → count_of st.counts (k + 1) ≡ 0
      none true e = absurd (omega (arith, at.reading.keys (k + 1) 0 (ltb-true 0 (count_of st.counts (k + 1)) e), at.key))
      none false e = omega (arith, ltb-false 0 (count_of st.counts (k + 1)) e)

  -- before the first row
  pub start_at : (rows cells : List ℕ) → rows_length ≤ length rows → cells_length ≤ length cells → At 0 0 0 first (zeros cells) (zeros rows)
  unfolding count_of
  start_at rows cells hr hc = record {
    reading = start_reading rows cells hr hc;
    enough = omega arith;
    below = λ j h. absurd (omega arith);
    own = refl;
    key = omega arith;
    unended = λ e. omega (arith, e);
    shallow = refl;
    seen = λ j x h. absurd (omega (arith, h, none_counted j));
    ranked = λ j x h. absurd (omega (arith, h, none_counted j));
    users = λ x h. absurd (omega arith);
  }

  -- ── its text ──

  -- each row has a text
  listed_writes : (k m i : ℕ) → i + m ≤ count_of n k → WritableRows (listed (look k) i m)
  unfolding listed WritableRows
  listed_writes k zero i h = tt
  listed_writes k (suc m) i h = ((good.rows k i (inl (omega arith))).writable, listed_writes k m (i + 1) (omega arith))

  -- the rows of some keys have texts
  keys_writable : (m k : ℕ) → WritableRows (keys_from n look k m)
  unfolding keys_from WritableRows
  keys_writable zero k = tt
  keys_writable (suc m) k = writable_append (listed (look k) 0 (count_of n k)) (keys_from n look (k + 1) m) (listed_writes k (count_of n k) 0 (omega arith)) (keys_writable m (k + 1))

  -- so have those of the body
  pub rows_writable : WritableRows (body_rows n look)
  unfolding body_rows WritableRows
  rows_writable = writable_append (keys_from n look 0 5) (look key_fn 0 ∷ []) (keys_writable 5 0) ((good.rows key_fn 0 (inr (refl, refl))).writable, tt)

  -- an end with the rows, as an answer
  pub settled : (x : Ended) (rows cells : List ℕ) → Finished x
      → (n' : Counts) × ((settle x rows cells).answer ≡ answer.Body n') × HasRows n look n' (settle x rows cells).rows (settle x rows cells).cells
  settled (refused x l) rows cells f = absurd f
  settled (read n' cells' rows') rows cells f = (n', refl, f)

-- Of Accepts: the theorems that rest on a declaration which an edit of a definition in specs/ refuses. The definitions and the other theorems stand in
-- specs/Accepts.antt. Assumes nothing.
use Prim.Native.Nat.{ℕ, zero, suc, ◌+◌, ◌*◌, ◌-◌, ◌/◌, ◌<◌, ◌≤◌}
use Rattle.std.proofs.Common.{zero-add, ◌∙◌}
use native.Mathlib.Omega.{arith}
use Rattle.std.specs.Prelude.{◌≡◌, ◌⊎◌, Bool, leb, ltb}
use Rattle.std.proofs.Math.Path.{refl, sym, ap, subst}
use Rattle.std.proofs.Math.Logic.{inl, inr}
use mathlib.Core.List.{List, [], ◌∷◌, ◌++◌, append_assoc}
use Rattle.std.proofs.Math.Bool.{true, false, cond}
use Rattle.std.proofs.Math.Dec.{eqb}
use Rattle.std.proofs.Math.ListN.{length, length-append}
use borrow.Author.Tests.{leb-true, eqb-true, le-ltb}
use Rattle.forms.specs.Form.{key_type, key_node, key_fn, form_at, kind_at, key_of, LowType}
use Rattle.refs.specs.declared.Counts.{Counts}
use Rattle.refs.specs.Refs.{nodes_at, fixed_types, first_in, levels_in, user_in, tag_in, value_in, refers_to, is_child, levels_of, right, is_same, is_repeated}
use Rattle.body.specs.declared.State.{State}
use Rattle.body.specs.declared.Answer.TheVariants as answer
use Rattle.body.specs.Body.{most_bytes, rows_length, cells_length, first, count_of, base_of, counted, levels_over, is_deep, advance, repeats, next, Ended, read, zeros, settle, body_of}
use Rattle.well_formed.specs.Good.{written_as, behind}
use Rattle.well_formed.specs.Parsed.{ParsedGood, parsed_good}
use Rattle.well_formed.specs.Counting.{grown, counted_more, counted_own}
use Rattle.well_formed.specs.Bytes.{Enough, letters, key_letters, line_enough}
use Rattle.well_formed.specs.Frame.{low_type_tag}
use Rattle.well_formed.specs.Linked.{LinkedGood, child_kind, linked_good}
use Rattle.well_formed.specs.Stored.{stored_tag, stored_value, put_user}
use Rattle.well_formed.specs.Reading.{counted_key}
use Rattle.well_formed.specs.Step.{levels_over_le}
use Rattle.body_rows.specs.Text.{Row, key_at, value_text, key_text, line_text, file_text, Lookup, listed, keys_from, body_rows, cells_at, row_at, WritableRow}
use Rattle.body_rows.specs.ParsedLines.{parsed_from}
use Rattle.body_rows.specs.Lines.{key_low, key_read}
use Rattle.body_rows.proofs.Lines.{value_read}
use Rattle.body_rows.specs.File.{step_row, rows_from}
use Rattle.body_rows.proofs.File.{file_read}
use Rattle.body_rows.specs.Steps.{cells_stored, place_of, rows_behind, state_behind, Made, made_step, levels_old, levels_new, row_old, row_new}
use Rattle.body_rows.specs.Tables.{counted_other, fn_none, Behind}
use Rattle.body_rows.proofs.Tables.{step_behind}
use Rattle.body_rows.specs.Rows.{cell_of, kind_of, Has, part_bound, ChildOf, values_of, WellFormedRows, HasRows}
use Rattle.body_rows.specs.Linking.{form_seen, cells_seen, Tagged, field_right, Apart, Links, refs_link, linked_users, same_only, none_repeated}
use Rattle.body_rows.specs.Accepts.{accepted, agree, body_rows_lem, child_read, finished, free, has_key, key_next, kinds, low_type, neither, node_seen, node_written, nodes_inside, ok, order, room, rows_writable, same_place, same_row, seen_stored, settled, start_at, tagged_by, unread_user}
use Rattle.body_rows.specs.Accepts as held

-- ── small laws ──

-- the fields of a row within its bytes
pub row_enough : (r : Row) (b m : ℕ) → WritableRow r → Enough b m → Enough (b + length (line_text r) + 1) (m + length r.cells)
unfolding line_text
row_enough r b m w h =
    let k : ℕ = key_at r.form in
    let six : k < 6 = key_low r.form w.form in
    let good : ParsedGood k (value_text r) r.form r.cells = parsed_good k (value_text r) r.form r.cells (value_read r w) in
    let word : letters (key_of (key_text k)) ≤ length (key_text k) = key_letters (key_text k) (omega (arith, key_read k six)) in
    omega (arith, h, line_enough k r.form (value_text r) r.cells good, word, ap letters (key_read k six), length-append (key_text k) (61 ∷ value_text r))

module _ (n : Counts) (look : Lookup) (good : WellFormedRows n look) where
  -- a node that was read uses x
  abbrev Used : State → ℕ → Type 0
  Used = held.Used n look good

  -- before the row of the number i of the key k, behind b bytes
  abbrev At : (k i b : ℕ) (st : State) (cells rows : List ℕ) → Type 0
  At = held.At n look good

  -- behind `fn`
  abbrev Done : (st : State) (cells rows : List ℕ) → Type 0
  Done = held.Done n look good

  -- it ends in such a body
  abbrev Finished : Ended → Type 0
  Finished = held.Finished n look good

  module _ (k i b : ℕ) (st : State) (cells rows : List ℕ) (at : At k i b st cells rows) (has : Has n k i)
      (short : b + length (line_text (look k i)) + 1 ≤ most_bytes) where
    abbrev r : Row
    r = held.r n look good k i b st cells rows at has short

    -- the cells behind the row
    abbrev stored : List ℕ
    stored = held.stored n look good k i b st cells rows at has short

    abbrev m : ℕ
    m = held.m n look good k i b st cells rows at has short

    abbrev b' : ℕ
    b' = held.b' n look good k i b st cells rows at has short

    wide : (st.counts.fields + m) * 3 ≤ length cells
    wide = omega (arith, row_enough r b st.counts.fields (ok n look good k i b st cells rows at has short).writable at.enough, at.reading.cells_long)

    -- a field of the row has a tag and a value of its way
    written : (a : ℕ) → a < m → written_as (kind_of r a / 16) (cell_of r a).tag (cell_of r a).value ≡ true
    written a h = (parsed_good (key_at r.form) (value_text r) r.form r.cells (value_read r (ok n look good k i b st cells rows at has short).writable)).written a h

    tagged : (a : ℕ) → a < m → Tagged (kind_of r a) (cell_of r a).tag
    tagged a h = tagged_by k (kind_of r a) (cell_of r a).tag (cell_of r a).value (kinds n look good k i b st cells rows at has short a) (written a h)

    -- the tags and values of the stored cells
    tag_stored : (a : ℕ) → a < m → tag_in stored (st.counts.fields + a) ≡ (cell_of r a).tag
    tag_stored a h = stored_tag cells st.counts.fields r.cells a h wide

    value_stored : (a : ℕ) → a < m → value_in stored (st.counts.fields + a) ≡ (cell_of r a).value
    value_stored a h = stored_value cells st.counts.fields r.cells a h wide

    -- the fields are right
    fields_right : (a : ℕ) → a < m → right st.counts (kind_at (form_at r.form) (0 + a)) (tag_in stored (st.counts.fields + a)) (value_in stored (st.counts.fields + a)) rows stored ≡ true
    fields_right a h =
        rw (zero-add a, tag_stored a h, value_stored a h)
        (field_right k st.counts (behind n k i) look (kind_of r a) (cell_of r a) rows stored (agree n look good k i b st cells rows at has short) (kinds n look good k i b st cells rows at has short a) (tagged a h) ((ok n look good k i b st cells rows at has short).fields a h) (node_seen n look good k i b st cells rows at has short) (node_written n look good k i b st cells rows at has short) (free n look good k i b st cells rows at has short a h))

    -- no two are one child
    fields_apart : (a b : ℕ) → a < b → b < m → Apart (form_at r.form) stored (0 + a) (st.counts.fields + a) (0 + b) (st.counts.fields + b)
    fields_apart a b l h =
        rw (zero-add a, zero-add b, tag_stored a (omega arith), tag_stored b h, value_stored a (omega arith), value_stored b h)
        (λ c e t v.
        let q = good.once k i a k i b (cell_of r b).value has has (record { there = omega arith; child = c; value = v }) (record { there = h; child = (tagged b h).child e t; value = refl }) in
        omega (arith, q.2, l))

    linking : Links m st.counts (form_at r.form) 0 st.counts.fields stored 0 rows
    linking = refs_link m st.counts (form_at r.form) 0 st.counts.fields stored 0 rows fields_right fields_apart

    -- no type that stands is the same
    fresh : repeats (key_at r.form) r.form m st.counts stored rows ≡ false
    unfolding repeats count_of base_of
    fresh = by (eqb (key_at r.form) key_type) refl
      where
        low : k ≡ key_type → Has n k i → i < n.types
        low q (inl p) = omega (arith, p, ap (count_of n) q)
        low q (inr p) = absurd (omega (arith, p.0, q))

        same : k ≡ key_type → (x : ℕ) → x < st.counts.types → is_same rows stored (0 + x) r.form st.counts.fields m ≡ true → ⊥
        same q x l e =
            let s = same_only rows stored (0 + x) r.form st.counts.fields m e in
            let t : row_at rows stored (0 + x) ≡ look key_type x = seen_stored n look good k i b st cells rows at has short key_type x l in
            let i_types : st.counts.types ≡ i = ap (count_of st.counts) (sym q) ∙ at.own in
            let cells_x : cells_at stored (first_in rows (0 + x)) m ≡ (look key_type x).cells =
            ap (cells_at stored (first_in rows (0 + x))) (sym s.1) ∙ cells_seen rows stored (0 + x) (look key_type x) t in
            good.distinct x i (omega (arith, l, i_types)) (low q has)
            (sym (form_seen rows stored (0 + x) (look key_type x) t) ∙ s.0 ∙ ap (λ (j : ℕ). (look j i).form) q)
            (ap values_of (sym cells_x) ∙ s.2 ∙ ap values_of (cells_stored cells st.counts.fields r.cells wide) ∙ ap (λ (j : ℕ). values_of (look j i).cells) q)

        by : (c : Bool) → eqb (key_at r.form) key_type ≡ c → cond c (is_repeated st.counts.types 0 rows stored r.form st.counts.fields m) false ≡ false
        by true e = none_repeated st.counts.types 0 rows stored r.form st.counts.fields m (same (sym (ok n look good k i b st cells rows at has short).key ∙ eqb-true (key_at r.form) key_type e))
        by false e = refl

    made : Made r st cells rows linking.levels linking.after
    made = record { order = order n look good k i b st cells rows at has short; room = room n look good k i b st cells rows at has short; fresh = fresh; links = linking.links }

    links_good : LinkedGood m st.counts (form_at r.form) 0 st.counts.fields stored 0 rows linking.levels linking.after
    links_good =
        linked_good m st.counts (form_at r.form) 0 st.counts.fields stored 0 rows linking.levels linking.after (nodes_inside n look good k i b st cells rows at has short)
        (λ a h. rw (zero-add a, tag_stored a h, value_stored a h) (written a h)) linking.links

    -- the levels of a part
    part_low : (a : ℕ) → a < m → levels_of (kind_of r a) (cell_of r a).tag (cell_of r a).value rows ≤ part_bound good.bound (kind_of r a) (cell_of r a)
    unfolding levels_of part_bound count_of base_of
    part_low a h = by (is_child (kind_of r a) (cell_of r a).tag) refl (eqb (kind_of r a) LowType) refl (leb fixed_types (cell_of r a).value) refl
      where
        x : ℕ
        x = (cell_of r a).value

        by : (c : Bool) → is_child (kind_of r a) (cell_of r a).tag ≡ c → (d : Bool) → eqb (kind_of r a) LowType ≡ d → (e : Bool) → leb fixed_types x ≡ e
            → cond c (levels_in rows (nodes_at + x)) (cond d (cond e (levels_in rows (x - fixed_types)) 0) 0) ≤ cond c (good.bound key_node x) (cond d (cond e (good.bound key_type (x - fixed_types)) 0) 0)
        by true p d q e s = at.ranked key_node x (child_read n look good k i b st cells rows at has short a h p)
        by false p true q true s =
            let low : kind_of r a ≡ LowType = eqb-true (kind_of r a) LowType q in
            let tag : (cell_of r a).tag ≡ 1 = low_type_tag (kind_of r a) (cell_of r a).tag x low (written a h) in
            let under : x < (behind n k i).types + fixed_types = ((ok n look good k i b st cells rows at has short).fields a h).type (ap refers_to low ∙ low_type) (λ z. omega (arith, z, tag)) in
            rw (zero-add (x - fixed_types)) at (at.ranked key_type (x - fixed_types) (omega (arith, under, (agree n look good k i b st cells rows at has short).types, leb-true fixed_types x s)))
        by false p true q false s = omega arith
        by false p false q e s = omega arith

    -- the levels of the row
    level_low : levels_over r.form linking.levels ≤ good.bound k i
    level_low = by links_good.attained
      where
        by : (linking.levels ≡ 0) ⊎ ((a : ℕ) × (a < m) × (linking.levels ≡ levels_of (kind_at (form_at r.form) (0 + a)) (tag_in stored (st.counts.fields + a)) (value_in stored (st.counts.fields + a)) rows))
            → levels_over r.form linking.levels ≤ good.bound k i
        by (inl e) = rw e (ok n look good k i b st cells rows at has short).level
        by (inr (a, h, e)) =
            let f : linking.levels ≡ levels_of (kind_of r a) (cell_of r a).tag (cell_of r a).value rows = e ∙ rw (zero-add a, tag_stored a h, value_stored a h) in
            let g : levels_over r.form linking.levels ≤ levels_over r.form (part_bound good.bound (kind_of r a) (cell_of r a)) =
            levels_over_le r.form linking.levels (part_bound good.bound (kind_of r a) (cell_of r a)) (omega (arith, f, part_low a h)) in
            omega (arith, g, (ok n look good k i b st cells rows at has short).levels a h)

    -- the row is not too deep
    not_deep : is_deep (key_at r.form) (levels_over r.form linking.levels) ≡ false
    unfolding is_deep count_of
    not_deep = rw (ok n look good k i b st cells rows at has short).key (by (eqb k key_type) refl (eqb k key_node) refl has)
      where
        d : ℕ
        d = levels_over r.form linking.levels

        by : (a : Bool) → eqb k key_type ≡ a → (c : Bool) → eqb k key_node ≡ c → Has n k i → cond a (ltb 4 d) (cond c (ltb 64 d) false) ≡ false
        by true p c q (inl h) =
            let e : k ≡ key_type = eqb-true k key_type p in
            le-ltb 4 d (omega (arith, level_low, ap (λ (j : ℕ). good.bound j i) e, good.nesting i (omega (arith, h, ap (count_of n) e))))
        by true p c q (inr h) = absurd (omega (arith, h.0, eqb-true k key_type p))
        by false p true q (inl h) =
            let e : k ≡ key_node = eqb-true k key_node q in
            le-ltb 64 d (omega (arith, level_low, ap (λ (j : ℕ). good.bound j i) e, good.depth i (omega (arith, h, ap (count_of n) e))))
        by false p true q (inr h) = absurd (omega (arith, h.0, eqb-true k key_node q))
        by false p false q h = refl

    -- ── behind the row ──

    abbrev st' : State
    st' = state_behind r st linking.levels

    abbrev put : List ℕ
    put = rows_behind r st linking.levels linking.after

    stepped : step_row r st cells rows ≡ next st' stored put
    stepped = made_step r st cells rows linking.levels linking.after made

    behind_row : Behind r st cells rows b' st' stored put
    behind_row = step_behind r b st cells rows st' stored put (ok n look good k i b st cells rows at has short).writable at.reading at.enough short stepped

    seen_next : (j x : ℕ) → x < count_of st'.counts j → row_at put stored (base_of j + x) ≡ look j x
    unfolding advance
    seen_next j x h = by (grown st.counts (key_at r.form) m j x h)
      where
        by : (x < count_of st.counts j) ⊎ ((j ≡ key_at r.form) × (x ≡ count_of st.counts j)) → row_at put stored (base_of j + x) ≡ look j x
        by (inl l) = row_old r st cells rows linking.levels linking.after made at.reading wide j x l ∙ at.seen j x l
        by (inr q) = ap (row_at put stored) (same_place n look good k i b st cells rows at has short j x q.0 q.1) ∙ row_new r st cells rows linking.levels linking.after made at.reading wide ∙ same_row n look good k i b st cells rows at has short j x q.0 q.1

    ranked_next : (j x : ℕ) → x < count_of st'.counts j → levels_in put (base_of j + x) ≤ good.bound j x
    unfolding advance
    ranked_next j x h = by (grown st.counts (key_at r.form) m j x h)
      where
        by : (x < count_of st.counts j) ⊎ ((j ≡ key_at r.form) × (x ≡ count_of st.counts j)) → levels_in put (base_of j + x) ≤ good.bound j x
        by (inl l) = rw (levels_old r st cells rows linking.levels linking.after made at.reading wide j x l) (at.ranked j x l)
        by (inr q) =
            let e : k ≡ j = sym (ok n look good k i b st cells rows at has short).key ∙ sym q.0 in
            let f : i ≡ x = sym at.own ∙ ap (count_of st.counts) e ∙ sym q.1 in
            omega (
              arith,
              ap (levels_in put) (same_place n look good k i b st cells rows at has short j x q.0 q.1),
              levels_new r st cells rows linking.levels linking.after made at.reading wide,
              level_low,
              ap (λ (y : ℕ). good.bound y i) e,
              ap (good.bound j) f,
            )

    shallow_next : st'.deep ≡ false
    unfolding advance
    shallow_next = neither st.deep (is_deep (key_at r.form) (levels_over r.form linking.levels)) at.shallow not_deep

    below_next : (j : ℕ) → j < k → count_of st'.counts j ≡ count_of n j
    unfolding advance
    below_next j h = counted_other st.counts (key_at r.form) m j (omega (arith, has_key n k i has)) (λ e. omega (arith, e, (ok n look good k i b st cells rows at has short).key)) ∙ at.below j h

    -- the counts of the next row
    own_next : k < 5 → count_of st'.counts k ≡ i + 1
    unfolding advance
    own_next h = ap (λ (y : ℕ). count_of (counted st.counts y m) k) (ok n look good k i b st cells rows at has short).key ∙ counted_own st.counts k m (omega arith) ∙ ap (λ (y : ℕ). y + 1) at.own

    users_next : k < 5 → (x : ℕ) → x < st'.counts.nodes → (user_in put (nodes_at + x) ≡ 0) ⊎ Used st' x
    unfolding advance count_of
    users_next five x h = by (linked_users m st.counts (form_at r.form) 0 st.counts.fields stored 0 rows linking.levels linking.after linking.links x) (grown st.counts (key_at r.form) m key_node x h)
      where
        user : user_in put (nodes_at + x) ≡ user_in linking.after (nodes_at + x)
        user = put_user linking.after (place_of r st) r.form st.counts.fields m (levels_over r.form linking.levels) (nodes_at + x)

        more : (y : ℕ) → y < st.counts.nodes → y < st'.counts.nodes
        more y l = omega (arith, l, counted_more st.counts (key_at r.form) m key_node (omega arith))

        old : (user_in linking.after (nodes_at + x) ≡ user_in rows (nodes_at + x)) → (user_in rows (nodes_at + x) ≡ 0) ⊎ Used st x → (user_in put (nodes_at + x) ≡ 0) ⊎ Used st' x
        old e (inl z) = inl (user ∙ e ∙ z)
        old e (inr (c, a, l, u)) = inr (c, a, more c l, u)

        by : (user_in linking.after (nodes_at + x) ≡ user_in rows (nodes_at + x))
            ⊎ ((a : ℕ) × (a < m) × (is_child (kind_at (form_at r.form) (0 + a)) (tag_in stored (st.counts.fields + a)) ≡ true) × (value_in stored (st.counts.fields + a) ≡ x))
            → (x < count_of st.counts key_node) ⊎ ((key_node ≡ key_at r.form) × (x ≡ count_of st.counts key_node)) → (user_in put (nodes_at + x) ≡ 0) ⊎ Used st' x
        by (inl e) (inl l) = old e (at.users x l)
        by (inl e) (inr q) = inl (user ∙ e ∙ ap (λ (y : ℕ). user_in rows (nodes_at + y)) q.1 ∙ unread_user n look good k i b st cells rows at has short (sym (ok n look good k i b st cells rows at has short).key ∙ sym q.0))
        by (inr (a, l, c, v)) g =
            let c' : is_child (kind_of r a) (cell_of r a).tag ≡ true = rw (zero-add a, tag_stored a l) at c in
            let v' : (cell_of r a).value ≡ x = sym (value_stored a l) ∙ v in
            let node : k ≡ key_node = omega (arith, five, (kinds n look good k i b st cells rows at has short a).node_late (child_kind (kind_of r a) (cell_of r a).tag c').0) in
            inr (i, a, omega (arith, own_next five, ap (count_of st'.counts) node), subst (λ (y : ℕ). ChildOf look y i a x) node (record { there = l; child = c'; value = v' }))

    -- before the next row of the key
    next_at : k < 5 → At k (i + 1) b' st' stored put
    unfolding advance
    next_at h = record {
      reading = behind_row.reading;
      enough = behind_row.enough;
      below = below_next;
      own = own_next h;
      key = omega (arith, (ok n look good k i b st cells rows at has short).key);
      unended = λ e. omega (arith, (ok n look good k i b st cells rows at has short).key, e);
      shallow = shallow_next;
      seen = seen_next;
      ranked = ranked_next;
      users = users_next h;
    }

    -- ── behind `fn` ──

    fn_next : k ≡ key_fn → Done st' stored put
    unfolding advance count_of
    fn_next e = record {
      key = (ok n look good k i b st cells rows at has short).key ∙ e;
      counts = λ j h. below_next j (omega (arith, e));
      shallow = shallow_next;
      seen = seen_next;
      fn = ap (row_at put stored) {x = base_of key_fn + 0} {y = place_of r st} (same_place n look good k i b st cells rows at has short key_fn 0 (sym e ∙ sym (ok n look good k i b st cells rows at has short).key) (sym (fn_none st.counts)))
          ∙ row_new r st cells rows linking.levels linking.after made at.reading wide ∙ first_row has;
    }
      where
        first_row : Has n k i → r ≡ look key_fn 0
        first_row (inl h) = absurd (omega (arith, counted_key n k i h, e))
        first_row (inr h) = ap (λ (y : ℕ). look y i) e ∙ ap (look key_fn) h.1

  -- ── the rows of a key, and of all ──

  -- a row and those behind it
  row_finished : (k i b l : ℕ) (st : State) (cells rows : List ℕ) (at : At k i b st cells rows) (has : Has n k i) (short : b + length (line_text (look k i)) + 1 ≤ most_bytes) (rest : List Row)
      → Finished (rows_from rest (l + 1) (st' k i b st cells rows at has short) (stored k i b st cells rows at has short) (put k i b st cells rows at has short))
      → Finished (rows_from (look k i ∷ rest) l st cells rows)
  unfolding parsed_from
  row_finished k i b l st cells rows at has short rest h = rw (stepped k i b st cells rows at has short) h

  -- the rows of a key from the number i on
  key_finished : (k m i b l : ℕ) (st : State) (cells rows : List ℕ) (rest : List Row) → k < 5 → i + m ≡ count_of n k → At k i b st cells rows
      → b + length (file_text (listed (look k) i m ++ rest)) ≤ most_bytes
      → ((b l : ℕ) (st : State) (cells rows : List ℕ) → At k (count_of n k) b st cells rows → b + length (file_text rest) ≤ most_bytes → Finished (rows_from rest l st cells rows))
      → Finished (rows_from (listed (look k) i m ++ rest) l st cells rows)
  unfolding listed file_text
  key_finished k zero i b l st cells rows rest five e at short go =
      let q : i ≡ count_of n k = omega (arith, e) in
      go b l st cells rows (subst (λ (y : ℕ). At k y b st cells rows) q at) short
  key_finished k (suc m) i b l st cells rows rest five e at short go =
      let has : Has n k i = inl (omega (arith, e)) in
      let text : length (line_text (look k i) ++ 10 ∷ file_text (listed (look k) (i + 1) m ++ rest)) ≡ length (line_text (look k i)) + suc (length (file_text (listed (look k) (i + 1) m ++ rest))) =
      length-append (line_text (look k i)) (10 ∷ file_text (listed (look k) (i + 1) m ++ rest)) in
      let here : b + length (line_text (look k i)) + 1 ≤ most_bytes = omega (arith, short, text) in
      row_finished k i b l st cells rows at has here (listed (look k) (i + 1) m ++ rest)
      (key_finished k m (i + 1) (b + length (line_text (look k i)) + 1) (l + 1) (st' k i b st cells rows at has here) (stored k i b st cells rows at has here) (put k i b st cells rows at has here) rest five
      (omega (arith, e)) (next_at k i b st cells rows at has here five) (omega (arith, short, text)) go)

  -- `fn`
  fn_finished : (b l : ℕ) (st : State) (cells rows : List ℕ) → At key_fn 0 b st cells rows → b + length (file_text (look key_fn 0 ∷ [])) ≤ most_bytes
      → Finished (rows_from (look key_fn 0 ∷ []) l st cells rows)
  unfolding file_text parsed_from
  fn_finished b l st cells rows at short =
      let has : Has n key_fn 0 = inr (refl, refl) in
      let here : b + length (line_text (look key_fn 0)) + 1 ≤ most_bytes = omega (arith, short, length-append (line_text (look key_fn 0)) (10 ∷ [])) in
      let done : Done (st' key_fn 0 b st cells rows at has here) (stored key_fn 0 b st cells rows at has here) (put key_fn 0 b st cells rows at has here) = fn_next key_fn 0 b st cells rows at has here refl in
      rw (stepped key_fn 0 b st cells rows at has here, finished n look good (st' key_fn 0 b st cells rows at has here) (stored key_fn 0 b st cells rows at has here) (put key_fn 0 b st cells rows at has here) done (l + 1))
      (accepted n look good (st' key_fn 0 b st cells rows at has here) (stored key_fn 0 b st cells rows at has here) (put key_fn 0 b st cells rows at has here) done)

  -- the rows of m keys from k on, and `fn`
  keys_finished : (m k b l : ℕ) (st : State) (cells rows : List ℕ) → k + m ≡ 5 → At k 0 b st cells rows
      → b + length (file_text (keys_from n look k m ++ (look key_fn 0 ∷ []))) ≤ most_bytes
      → Finished (rows_from (keys_from n look k m ++ (look key_fn 0 ∷ [])) l st cells rows)
  unfolding keys_from
  keys_finished zero k b l st cells rows e at short =
      let q : k ≡ key_fn = omega (arith, e) in
      fn_finished b l st cells rows (subst (λ (y : ℕ). At y 0 b st cells rows) q at) short
  keys_finished (suc m) k b l st cells rows e at short =
      let five : k < 5 = omega (arith, e) in
      let rest : List Row = keys_from n look (k + 1) m ++ (look key_fn 0 ∷ []) in
      let q : listed (look k) 0 (count_of n k) ++ keys_from n look (k + 1) m ++ (look key_fn 0 ∷ []) ≡ listed (look k) 0 (count_of n k) ++ rest =
      append_assoc (listed (look k) 0 (count_of n k)) (keys_from n look (k + 1) m) (look key_fn 0 ∷ []) in
      subst (λ (t : List Row). Finished (rows_from t l st cells rows)) (sym q)
      (key_finished k (count_of n k) 0 b l st cells rows rest five (omega arith) at (omega (arith, short, ap (λ (t : List Row). length (file_text t)) q))
      (λ b l st cells rows at short. keys_finished m (k + 1) b l st cells rows (omega (arith, e)) (key_next n look good k b st cells rows five at) short))

  -- WELL-FORMED ROWS ARE ACCEPTED: they are read to their end, and the tables have them
  pub rows_accepted : (rows cells : List ℕ) → rows_length ≤ length rows → cells_length ≤ length cells → length (file_text (body_rows n look)) ≤ most_bytes
      → Finished (rows_from (body_rows n look) 1 first (zeros cells) (zeros rows))
  unfolding body_rows
  rows_accepted rows cells hr hc short = keys_finished 5 0 0 1 first (zeros cells) (zeros rows) (omega arith) (start_at n look good rows cells hr hc) (omega (arith, short))

  -- ── its text ──

  -- READ-BACK: the text of well-formed rows is accepted, where it has at most 65,536 bytes and the tables are long enough, and the tables have the rows
  pub well_formed_read : (rows cells : List ℕ) → rows_length ≤ length rows → cells_length ≤ length cells → length (file_text (body_rows n look)) ≤ most_bytes
      → (n' : Counts) × ((body_of (file_text (body_rows n look)) rows cells).answer ≡ answer.Body n')
      × HasRows n look n' (body_of (file_text (body_rows n look)) rows cells).rows (body_of (file_text (body_rows n look)) rows cells).cells
  well_formed_read rows cells hr hc short =
      let s = settled n look good (rows_from (body_rows n look) 1 first (zeros cells) (zeros rows)) rows cells (rows_accepted rows cells hr hc short) in
      let q : body_of (file_text (body_rows n look)) rows cells ≡ settle (rows_from (body_rows n look) 1 first (zeros cells) (zeros rows)) rows cells =
      file_read (body_rows n look) (rows_writable n look good) rows cells ∙ body_rows_lem (body_rows n look) rows cells hr hc short in
      rw q s

-- A line that is read keeps what is known of the tables.
-- Assumes nothing.
use Rattle.std.specs.Prelude.{ℕ, ◌+◌, ◌*◌, ◌<◌, ◌≤◌, ◌≡◌, refl, ◌⊎◌, List, Bool, true, false, cond, leb, ltb, eqb, length}
use Rattle.std.proofs.Common.{zero-add, arith, sym, ap, ◌∙◌, inl, inr, true≢false, ltb-true, ltb-false, leb-true, eqb-true}
use Rattle.std.proofs.lemmas.Bool.{false≢true, eqb-false}
use Rattle.forms.specs.declared.Cell.{Cell}
use Rattle.forms.specs.Form.{key_type, key_node, key_fn, form_at, kind_at, store_from}
use Rattle.lex.specs.Text.{before}
use Rattle.refs.specs.declared.Counts.{Counts}
use Rattle.refs.specs.Refs.{nodes_at, fn_at, form_in, first_in, count_in, levels_in, tag_in, value_in, levels_of, is_same}
use Rattle.body.specs.declared.State.{State}
use Rattle.body.specs.Body.{in_order, limit_of, count_of, base_of, counted, deeper, levels_over, is_deep, advance, put_row, repeats, Stepped, bad, next, fault_number}
use Rattle.well_formed.specs.Good.{behind, Attained, RowGood, Before, FnLast}
use Rattle.well_formed.specs.Parsed.{ParsedGood}
use Rattle.well_formed.specs.Linked.{LinkedGood}
use Rattle.well_formed.specs.Stored.{stored_before, put_other, put_user, put_form, put_first, put_count, put_levels}
use Rattle.well_formed.specs.Counting.{counted_fields, behind_new, behind_new_nodes, grown, counted_more, counted_own, rows_inside}
use Rattle.well_formed.specs.Bytes.{Enough}
use Rattle.well_formed.specs.Repeats.{none_same, same_kept}
use Rattle.well_formed.specs.Frame.{Frame, LineGood, levels_framed, line_framed, row_of_lem}
use Rattle.well_formed.specs.Reading.{DeepRow, Reading, RowsKept, counted_key, next_apart, type_apart, kept_form, kept_first, kept_count, kept_levels, next_frame, rows_stay}

-- a level more of no fewer levels is no less
deeper_le : (a b : ℕ) → a ≤ b → deeper a ≤ deeper b
unfolding deeper
deeper_le a b h = by (ltb a 65) refl (ltb b 65) refl
  where
    by : (c : Bool) → ltb a 65 ≡ c → (d : Bool) → ltb b 65 ≡ d → cond c (a + 1) 65 ≤ cond d (b + 1) 65
    by true p true q = omega arith
    by true p false q = omega (arith, ltb-true a 65 p)
    by false p true q = omega (arith, ltb-false a 65 p, ltb-true b 65 q)
    by false p false q = omega arith

-- nor are the levels of a line over them
pub levels_over_le : (f a b : ℕ) → a ≤ b → levels_over f a ≤ levels_over f b
unfolding levels_over
levels_over_le f a b h = by (eqb f 1) (ltb f 7) (ltb 28 f)
  where
    by : (x y z : Bool) → cond x (deeper a) (cond y a (cond z a (deeper a))) ≤ cond x (deeper b) (cond y b (cond z b (deeper b)))
    by true y z = deeper_le a b h
    by false true z = h
    by false false true = h
    by false false false = deeper_le a b h

-- the row of `fn` stands behind all others
pub fn_row : (n : Counts) (k m : ℕ) (rows cells : List ℕ) → k ≡ key_fn
    → RowGood (behind (counted n k m) k (count_of n k)) (counted n k m).fields k (base_of k + count_of n k) rows cells
    → RowGood (counted n k m) (counted n k m).fields key_fn fn_at rows cells
unfolding behind counted count_of base_of
fn_row n k m rows cells q g = rw q (rw q at g)

-- rows whose users were set
linked_kept : (m : ℕ) (n : Counts) (f j : ℕ) (cells rows : List ℕ) (e : ℕ) (rows' : List ℕ) (r : ℕ) → LinkedGood m n (form_at f) 0 j cells 0 rows e rows'
    → RowsKept r rows rows'
linked_kept m n f j cells rows e rows' r g = record { columns = λ x c h o. g.columns x c h; users = g.user_kept }

-- rows of which one was written
put_kept : (rows : List ℕ) (r f a c d : ℕ) → RowsKept r rows (put_row rows r f a c d)
put_kept rows r f a c d = record { columns = put_other rows r f a c d; users = λ x h. put_user rows r f a c d x }

-- one after the other
kept_both : (r : ℕ) (rows rows' rows'' : List ℕ) → RowsKept r rows rows' → RowsKept r rows' rows'' → RowsKept r rows rows''
kept_both r rows rows' rows'' a b = record {
  columns = λ x c h o. b.columns x c h o ∙ a.columns x c h o;
  users = λ x h. b.users x (λ z. h (sym (a.users x h) ∙ z)) ∙ a.users x h;
}

-- the levels of a line are those of its form, or those over one of its parts
attained_new : (n : Counts) (f m : ℕ) (cells rows : List ℕ) (e : ℕ) (rows' : List ℕ) → LinkedGood m n (form_at f) 0 n.fields cells 0 rows e rows'
    → Attained f n.fields m (levels_over f e) rows' cells
unfolding levels_in
attained_new n f m cells rows e rows' g = by g.attained
  where
    by : (e ≡ 0) ⊎ ((i : ℕ) × (i < m) × (e ≡ levels_of (kind_at (form_at f) (0 + i)) (tag_in cells (n.fields + i)) (value_in cells (n.fields + i)) rows))
        → Attained f n.fields m (levels_over f e) rows' cells
    by (inl q) = inl (ap (levels_over f) q)
    by (inr (i, h, q)) = inr (
      i,
      h,
      ap (levels_over f)
          (rw (zero-add i) at q
          ∙ sym (levels_framed n (kind_at (form_at f) i) (n.fields + i) rows' rows rows' cells (rw (zero-add i) at (g.fields i h))
          (λ x b. g.columns x 3 (omega arith)) (λ x b. g.columns (nodes_at + x) 3 (omega arith)))),
    )

-- a line whose references are right is good
line_new : (n : Counts) (k f : ℕ) (v : List ℕ) (l : List Cell) (cells rows : List ℕ) (e : ℕ) (rows' : List ℕ) → ParsedGood k v f l
    → LinkedGood (length l) n (form_at f) 0 n.fields cells 0 rows e rows'
    → LineGood n (n.fields + length l) k f n.fields (length l) (levels_over f e) rows' cells
unfolding levels_in
line_new n k f v l cells rows e rows' p g = record {
  form = p.form;
  key = p.key;
  least = p.least;
  most = p.most;
  inside = omega arith;
  fields = λ i h. rw (zero-add i) at (g.fields i h);
  level = levels_over_le f 0 e g.levels_before;
  levels = λ i h.
      levels_over_le f _ e
      (rw (levels_framed n (kind_at (form_at f) i) (n.fields + i) rows' rows rows' cells (rw (zero-add i) at (g.fields i h))
      (λ x b. g.columns x 3 (omega arith)) (λ x b. g.columns (nodes_at + x) 3 (omega arith)))
      (rw (zero-add i) at (g.levels i h)));
  attained = attained_new n f (length l) cells rows e rows' g;
}

-- a state that is not deep was not, and the line is not
pub not_deep : (a b : Bool) → cond a true b ≡ false → (a ≡ false) × (b ≡ false)
not_deep true b e = absurd (true≢false e)
not_deep false b e = (refl, e)

-- a state that is deep was, or the line is
pub was_deep : (a b : Bool) → cond a true b ≡ true → (a ≡ true) ⊎ (b ≡ true)
was_deep true b e = inl refl
was_deep false b e = inr e

-- only a type or a node can be too deep
deep_key : (k d : ℕ) → is_deep k d ≡ true → k ≤ key_node
unfolding is_deep
deep_key k d = by (eqb k key_type) refl (eqb k key_node) refl
  where
    by : (a : Bool) → eqb k key_type ≡ a → (b : Bool) → eqb k key_node ≡ b → cond a (ltb 4 d) (cond b (ltb 64 d) false) ≡ true → k ≤ key_node
    by true p b q e = omega (arith, eqb-true k key_type p)
    by false p true q e = omega (arith, eqb-true k key_node q)
    by false p false q e = absurd (false≢true e)

-- a tag before the stored cells stays
tag_before : (t : List ℕ) (j : ℕ) (l : List Cell) (x : ℕ) → x < j → tag_in (store_from t j l) x ≡ tag_in t x
unfolding tag_in
tag_before t j l x h = stored_before t j l (x * 3 + 1) (omega arith)

-- and a value
value_before : (t : List ℕ) (j : ℕ) (l : List Cell) (x : ℕ) → x < j → value_in (store_from t j l) x ≡ value_in t x
unfolding value_in
value_before t j l x h = stored_before t j l (x * 3 + 2) (omega arith)

module _ (st : State) (k f : ℕ) (v : List ℕ) (l : List Cell) (cells rows : List ℕ) (e : ℕ) (rows' : List ℕ) (reading : Reading st cells rows) (hk : k < 6) (later : st.key ≤ k)
    (room : count_of st.counts k < limit_of k) (good : ParsedGood k v f l)
    (fresh : repeats k f (length l) st.counts (store_from cells st.counts.fields l) rows ≡ false)
    (links : LinkedGood (length l) st.counts (form_at f) 0 st.counts.fields (store_from cells st.counts.fields l) 0 rows e rows') where
  -- the counts before the line
  abbrev pub n : Counts
  n = st.counts

  -- the counts behind it
  abbrev n' : Counts
  n' = counted n k (length l)

  -- its row
  abbrev pub place : ℕ
  place = base_of k + count_of n k

  -- its levels
  abbrev pub depth : ℕ
  depth = levels_over f e

  -- the cells behind the line
  abbrev pub stored : List ℕ
  stored = store_from cells n.fields l

  -- the rows behind it
  abbrev pub put : List ℕ
  put = put_row rows' place f n.fields (length l) depth

  -- the row is within the table
  put_inside : place * 5 + 4 ≤ length rows'
  put_inside = omega (arith, links.same_length, reading.rows_long, rows_inside k hk)

  -- its place is the only one that is written
  place_kept : RowsKept place rows' put
  place_kept = put_kept rows' place f n.fields (length l) depth

  -- the rows before the line stay
  rows-kept : RowsKept place rows put
  rows-kept = kept_both place rows rows' put (linked_kept (length l) n f n.fields stored rows e rows' place links) place_kept

  -- what the line refers to stays
  line_frame : Frame n (n.fields + length l) rows' stored put stored
  line_frame = next_frame n k reading.limited hk room rows' put place_kept stored stored (n.fields + length l) (λ x h q. refl) (λ j h. refl) (λ j h. refl)

  -- the line is good
  line_good : LineGood (behind n' k (count_of n k)) n'.fields k f n.fields (length l) depth put stored
  line_good =
      line_framed n (behind n' k (count_of n k)) (n.fields + length l) n'.fields k f n.fields (length l) depth rows' stored put stored line_frame
      (behind_new n k (length l)) (λ q. sym (behind_new_nodes n k (length l))) (omega (arith, counted_fields n k (length l))) (line_new n k f v l stored rows e rows' good links)

  -- its row is good
  pub row_new : RowGood (behind n' k (count_of n k)) n'.fields k place put stored
  row_new =
      row_of_lem (behind n' k (count_of n k)) n'.fields k place f n.fields (length l) depth put stored line_good
      (put_form rows' place f n.fields (length l) depth put_inside) (put_first rows' place f n.fields (length l) depth put_inside)
      (put_count rows' place f n.fields (length l) depth put_inside) (put_levels rows' place f n.fields (length l) depth put_inside)

  -- the rows behind the line are good
  pub rows_new : (j i : ℕ) → (i < count_of n j) ⊎ ((j ≡ k) × (i ≡ count_of n j)) → RowGood (behind n' j i) n'.fields j (base_of j + i) put stored
  rows_new j i (inl h) =
      rows_stay n k reading.limited hk room rows put rows-kept cells stored (length l) reading.good (tag_before cells n.fields l) (value_before cells n.fields l) j i h
  rows_new j i (inr q) = rw (q.1, q.0) row_new

  -- a row that stood is not where the line's is
  place_apart : (j i : ℕ) → i < count_of n j → base_of j + i ≡ place → ⊥
  place_apart j i = next_apart n j k i reading.limited hk room

  -- no row behind the line is deep unless the state says so
  pub levels_new : (j i : ℕ) → (i < count_of n j) ⊎ ((j ≡ k) × (i ≡ count_of n j)) → (st.deep ≡ false) × (is_deep k depth ≡ false)
      → is_deep j (levels_in put (base_of j + i)) ≡ false
  levels_new j i (inl h) d =
      rw (kept_levels place rows put rows-kept (base_of j + i) (place_apart j i h)) (reading.levels d.0 j i h)
  levels_new j i (inr q) d = rw (q.1, q.0, put_levels rows' place f n.fields (length l) depth put_inside) d.1

  -- where the state says so, a row behind the line is too deep
  pub deep_new : (st.deep ≡ true) ⊎ (is_deep k depth ≡ true) → DeepRow n' put
  deep_new (inl d) = by (reading.deep_there d)
    where
      by : DeepRow n rows → DeepRow n' put
      by (j, i, h, q) = (
        j,
        i,
        omega (arith, counted_more n k (length l) j (omega (arith, counted_key n j i h))),
        rw (kept_levels place rows put rows-kept (base_of j + i) (place_apart j i h)) q,
      )
  deep_new (inr d) = (
    k,
    count_of n k,
    omega (arith, counted_own n k (length l) (deep_key k depth d)),
    rw (put_levels rows' place f n.fields (length l) depth put_inside) d,
  )

  -- no row behind the line is of a key behind the line's
  pub keys_new : (j i : ℕ) → (i < count_of n j) ⊎ ((j ≡ k) × (i ≡ count_of n j)) → j ≤ k
  keys_new j i (inl h) = omega (arith, reading.keys j i h)
  keys_new j i (inr q) = omega (arith, q.0)

  -- the fields of a row that stood end where they did
  end_kept : (j i : ℕ) → i < count_of n j → first_in put (base_of j + i) + count_in put (base_of j + i) ≡ first_in rows (base_of j + i) + count_in rows (base_of j + i)
  end_kept j i h = rw (kept_first place rows put rows-kept (base_of j + i) (place_apart j i h), kept_count place rows put rows-kept (base_of j + i) (place_apart j i h))

  -- so they stand before those of the line
  end_before : (j i : ℕ) → i < count_of n j → first_in put (base_of j + i) + count_in put (base_of j + i) ≤ first_in put place
  end_before j i h = omega (arith, end_kept j i h, (reading.good j i h).inside, put_first rows' place f n.fields (length l) depth put_inside)

  -- no row is read behind the line
  none_later : (j i : ℕ) → (i < count_of n j) ⊎ ((j ≡ k) × (i ≡ count_of n j)) → Before k (count_of n k) j i → ⊥
  none_later j i (inl h) (inl b) = omega (arith, reading.keys j i h)
  none_later j i (inl h) (inr b) = omega (arith, ap (count_of n) b.0, b.1)
  none_later j i (inr q) (inl b) = omega (arith, q.0)
  none_later j i (inr q) (inr b) = omega (arith, ap (count_of n) b.0, b.1, q.1)

  -- the fields behind the line are in the order of the rows
  pub ordered_new : (j i j' i' : ℕ) → (i < count_of n j) ⊎ ((j ≡ k) × (i ≡ count_of n j)) → (i' < count_of n j') ⊎ ((j' ≡ k) × (i' ≡ count_of n j')) → Before j i j' i'
      → first_in put (base_of j + i) + count_in put (base_of j + i) ≤ first_in put (base_of j' + i')
  ordered_new j i j' i' (inl h) (inl h') b =
      omega (arith, end_kept j i h, kept_first place rows put rows-kept (base_of j' + i') (place_apart j' i' h'), reading.ordered j i j' i' h h' b)
  ordered_new j i j' i' (inl h) (inr q) b = rw (q.1, q.0) (end_before j i h)
  ordered_new j i j' i' (inr q) g b = absurd (none_later j' i' g (rw (q.1, q.0) at b))

  -- a line of `fn` has the row of `fn`
  fn_place : k ≡ key_fn → place ≡ fn_at
  unfolding base_of count_of
  fn_place q = rw q

  -- the fields of `fn` stand behind all others
  pub fn_last_new : k ≡ key_fn → FnLast n' put
  fn_last_new q j i h = by (grown n k (length l) j i h)
    where
      by : (i < count_of n j) ⊎ ((j ≡ k) × (i ≡ count_of n j)) → first_in put (base_of j + i) + count_in put (base_of j + i) ≤ first_in put fn_at
      by (inl p) = omega (arith, end_before j i p, ap (first_in put) (fn_place q))
      by (inr p) = absurd (omega (arith, counted_key n' j i h, p.0))

  -- the form of a type that stood stays,
  type_form : (i : ℕ) → i < n.types → form_in put i ≡ form_in rows i
  type_form i h = kept_form place rows put rows-kept i (type_apart n k reading.limited hk room i h)

  -- its first field,
  type_first : (i : ℕ) → i < n.types → first_in put i ≡ first_in rows i
  type_first i h = kept_first place rows put rows-kept i (type_apart n k reading.limited hk room i h)

  -- and the number of its fields,
  type_count : (i : ℕ) → i < n.types → count_in put i ≡ count_in rows i
  type_count i h = kept_count place rows put rows-kept i (type_apart n k reading.limited hk room i h)

  -- which end before the line's
  type_inside : (i : ℕ) → i < n.types → first_in rows i + count_in rows i ≤ n.fields
  unfolding base_of count_of
  type_inside i h = rw (zero-add i) at (reading.good key_type i h).inside

  -- two types that stood stay apart
  pub distinct_old : (i j : ℕ) → i < j → j < n.types → is_same put stored i (form_in put j) (first_in put j) (count_in put j) ≡ false
  distinct_old i j h b =
      rw (type_form j b, type_first j b, type_count j b)
      (same_kept n.fields cells stored (value_before cells n.fields l) rows put i (form_in rows j) (first_in rows j) (count_in rows j)
      (type_form i (omega arith)) (type_first i (omega arith)) (type_count i (omega arith)) (type_inside i (omega arith)) (type_inside j b)
      ∙ reading.distinct i j h b)

  -- no type that stood is the same as the line
  fresh_same : (i : ℕ) → k ≡ key_type → i < n.types → is_same rows stored i f n.fields (length l) ≡ false
  unfolding repeats
  fresh_same i q h = rw (zero-add i) at (none_same n.types 0 rows stored f n.fields (length l) i (rw q at fresh) h)

  -- the row of a line of a type
  pub type_place : k ≡ key_type → n.types ≡ place
  unfolding base_of count_of
  type_place q = rw q (sym (zero-add n.types))

  -- a type that stood is not equal to the line's row
  pub distinct_line : (i : ℕ) → k ≡ key_type → i < n.types → is_same put stored i (form_in put place) (first_in put place) (count_in put place) ≡ false
  distinct_line i q h =
      rw (
        put_form rows' place f n.fields (length l) depth put_inside,
        put_first rows' place f n.fields (length l) depth put_inside,
        put_count rows' place f n.fields (length l) depth put_inside,
      )
      (same_kept (n.fields + length l) stored stored (λ j b. refl) rows put i f n.fields (length l)
      (type_form i h) (type_first i h) (type_count i h) (omega (arith, type_inside i h)) (omega arith) ∙ fresh_same i q h)

  -- a type behind the line stood before it or is the line's
  pub type_grown : (j : ℕ) → j < n'.types → (j < n.types) ⊎ ((key_type ≡ k) × (j ≡ n.types))
  unfolding count_of
  type_grown = grown n k (length l) key_type

-- a step behind which the tables are as they should be, and b bytes are enough for the fields, or a fault that is not of levels
abbrev pub GoodStep : ℕ → Stepped → Type 0
GoodStep b (bad x) = fault_number x < 6
GoodStep b (next st cells rows) = Reading st cells rows × Enough b st.counts.fields

-- a key in order is a key, no earlier one, and behind no `fn`
pub in_order_lem : (was k : ℕ) → in_order was k ≡ true → (k < 6) × (was ≤ k) × (was ≡ key_fn → ⊥)
unfolding in_order
in_order_lem was k e = by (ltb k was) refl (eqb was key_fn) refl (leb k key_fn) refl e
  where
    by : (a : Bool) → ltb k was ≡ a → (b : Bool) → eqb was key_fn ≡ b → (c : Bool) → leb k key_fn ≡ c → cond a false (cond b false c) ≡ true
        → (k < 6) × (was ≤ k) × (was ≡ key_fn → ⊥)
    by true o b u c p e = absurd (false≢true e)
    by false o true u c p e = absurd (false≢true e)
    by false o false u true p e = (omega (arith, leb-true k key_fn p), ltb-false k was o, eqb-false was key_fn u)
    by false o false u false p e = absurd (false≢true e)

-- the nodes are within the table
pub nodes_inside : (st : State) (cells rows : List ℕ) → Reading st cells rows → (nodes_at + st.counts.nodes) * 5 ≤ length rows
unfolding count_of limit_of
nodes_inside st cells rows r = let most : st.counts.nodes ≤ 1024 = r.limited 4 in omega (arith, most, r.rows_long)

-- the fields behind a line
pub fields_advance : (st : State) (k m d b : ℕ) → Enough b (st.counts.fields + m) → Enough b (advance st k m d).counts.fields
unfolding advance counted
fields_advance st k m d b h = h

-- Of Step: the theorems that rest on a declaration which an edit of a definition in specs/ refuses. The definitions and the other theorems stand in
-- specs/Step.antt. Assumes nothing.
use Rattle.std.specs.Prelude.{ℕ, ◌+◌, ◌*◌, ◌/◌, ◌<◌, ◌≤◌, ◌≡◌, refl, ◌⊎◌, List, Bool, true, false, cond, ltb, length, take, drop}
use Rattle.std.proofs.Common.{zero-add, arith, sym, ◌∙◌, inl, inr, length-drop, length-take-le, ltb-true}
use Rattle.forms.specs.declared.Cell.{Cell}
use Rattle.forms.specs.declared.Fault.TheVariants as fault
use Rattle.forms.specs.Form.{key_type, key_of, form_at, kind_at, Parsed, wrong, parsed, parse_line, lay, store_from}
use Rattle.lex.specs.Text.{before}
use Rattle.refs.specs.declared.Counts.{Counts}
use Rattle.refs.specs.Refs.{form_in, first_in, count_in, tag_in, value_in, Linked, unlinked, linked, refs_from, is_same}
use Rattle.body.specs.declared.State.{State}
use Rattle.body.specs.Body.{most_bytes, in_order, limit_of, count_of, levels_over, is_deep, advance, repeats, bad, placed, judged, valued, step_of}
use Rattle.well_formed.specs.Good.{written_as, behind}
use Rattle.well_formed.specs.Parsed.{ParsedGood, parsed_good, parsed_fault}
use Rattle.well_formed.specs.Linked.{LinkedGood, linked_good}
use Rattle.well_formed.specs.Stored.{stored_length, stored_tag, stored_value, put_length}
use Rattle.well_formed.specs.Counting.{grown, counted_limited}
use Rattle.well_formed.specs.Bytes.{Enough, letters, key_letters, line_enough}
use Rattle.well_formed.specs.Zeros.{zero_line}
use Rattle.well_formed.specs.Reading.{Reading}
use Rattle.well_formed.specs.Step.{GoodStep, deep_new, distinct_line, distinct_old, fields_advance, fn_last_new, fn_row, in_order_lem, keys_new, levels_new, nodes_inside, not_deep, ordered_new, row_new, rows_new, type_grown, type_place, was_deep}
use Rattle.well_formed.specs.Step as held

module _ (st : State) (k f : ℕ) (v : List ℕ) (l : List Cell) (cells rows : List ℕ) (e : ℕ) (rows' : List ℕ) (reading : Reading st cells rows) (hk : k < 6) (later : st.key ≤ k)
    (room : count_of st.counts k < limit_of k) (good : ParsedGood k v f l)
    (fresh : repeats k f (length l) st.counts (store_from cells st.counts.fields l) rows ≡ false)
    (links : LinkedGood (length l) st.counts (form_at f) 0 st.counts.fields (store_from cells st.counts.fields l) 0 rows e rows') where
  -- the counts before the line
  abbrev n : Counts
  n = held.n st k f v l cells rows e rows' reading hk later room good fresh links

  -- its row
  abbrev place : ℕ
  place = held.place st k f v l cells rows e rows' reading hk later room good fresh links

  -- its levels
  abbrev depth : ℕ
  depth = held.depth st k f v l cells rows e rows' reading hk later room good fresh links

  -- the cells behind the line
  abbrev stored : List ℕ
  stored = held.stored st k f v l cells rows e rows' reading hk later room good fresh links

  -- the rows behind it
  abbrev put : List ℕ
  put = held.put st k f v l cells rows e rows' reading hk later room good fresh links

  -- no two type rows behind the line are equal
  distinct_new : (i j : ℕ) → i < j → (j < n.types) ⊎ ((key_type ≡ k) × (j ≡ n.types))
      → is_same put stored i (form_in put j) (first_in put j) (count_in put j) ≡ false
  distinct_new i j h (inl b) = distinct_old st k f v l cells rows e rows' reading hk later room good fresh links i j h b
  distinct_new i j h (inr q) = rw (q.1 ∙ type_place st k f v l cells rows e rows' reading hk later room good fresh links (sym q.0)) (distinct_line st k f v l cells rows e rows' reading hk later room good fresh links i (sym q.0) (omega (arith, q.1)))

  -- what is known of the tables holds behind the line
  placed_reading : Reading (advance st k (length l) depth) stored put
  unfolding advance
  placed_reading = record {
    rows_long = omega (arith, put_length rows' place f n.fields (length l) depth, links.same_length, reading.rows_long);
    cells_long = omega (arith, stored_length cells n.fields l, reading.cells_long);
    limited = counted_limited n k (length l) reading.limited room;
    keys = λ j i h. (keys_new st k f v l cells rows e rows' reading hk later room good fresh links) j i (grown n k (length l) j i h);
    good = λ j i h. (rows_new st k f v l cells rows e rows' reading hk later room good fresh links) j i (grown n k (length l) j i h);
    fn = λ q. fn_row n k (length l) put stored q (row_new st k f v l cells rows e rows' reading hk later room good fresh links);
    ordered = λ j i j' i' h h'. (ordered_new st k f v l cells rows e rows' reading hk later room good fresh links) j i j' i' (grown n k (length l) j i h) (grown n k (length l) j' i' h');
    fn_last = fn_last_new st k f v l cells rows e rows' reading hk later room good fresh links;
    distinct = λ i j h b. distinct_new i j h (type_grown st k f v l cells rows e rows' reading hk later room good fresh links j b);
    levels = λ d j i h. (levels_new st k f v l cells rows e rows' reading hk later room good fresh links) j i (grown n k (length l) j i h) (not_deep st.deep (is_deep k depth) d);
    deep_there = λ d. (deep_new st k f v l cells rows e rows' reading hk later room good fresh links) (was_deep st.deep (is_deep k depth) d);
    zero = zero_line n k reading.limited hk room f l depth rows rows' cells links.outside reading.zero;
  }

-- a line whose value was parsed
judged_good : (st : State) (k f : ℕ) (v : List ℕ) (l : List Cell) (cells rows : List ℕ) (b : ℕ) → Reading st cells rows → k < 6 → st.key ≤ k → ParsedGood k v f l
    → (st.counts.fields + length l) * 3 ≤ length cells → Enough b (st.counts.fields + length l)
    → GoodStep b (judged st k f (length l) (store_from cells st.counts.fields l) rows)
unfolding judged placed
judged_good st k f v l cells rows b reading hk later good wide fits =
    by (ltb (count_of st.counts k) (limit_of k)) refl (repeats k f (length l) st.counts stored rows) refl
    (refs_from (length l) st.counts (form_at f) 0 st.counts.fields stored 0 rows) refl
  where
    stored : List ℕ
    stored = store_from cells st.counts.fields l

    written : (a : ℕ) → a < length l → written_as (kind_at (form_at f) (0 + a) / 16) (tag_in stored (st.counts.fields + a)) (value_in stored (st.counts.fields + a)) ≡ true
    written a h = rw (zero-add a, stored_tag cells st.counts.fields l a h wide, stored_value cells st.counts.fields l a h wide) (good.written a h)

    by : (c : Bool) → ltb (count_of st.counts k) (limit_of k) ≡ c → (d : Bool) → repeats k f (length l) st.counts stored rows ≡ d
        → (r : Linked) → refs_from (length l) st.counts (form_at f) 0 st.counts.fields stored 0 rows ≡ r
        → GoodStep b (cond c (cond d (bad fault.Reference) (placed st k f (length l) stored r)) (bad fault.Limit))
    by false p d u r q = omega arith
    by true p true u r q = omega arith
    by true p false u (unlinked r) q = omega arith
    by true p false u (linked e rows') q = (
      placed_reading st k f v l cells rows e rows' reading hk later (ltb-true (count_of st.counts k) (limit_of k) p) good u
          (linked_good (length l) st.counts (form_at f) 0 st.counts.fields stored 0 rows e rows' (nodes_inside st cells rows reading) written q),
      fields_advance st k (length l) (levels_over f e) b fits,
    )

-- a line whose key and value are known
valued_good : (st : State) (k : ℕ) (v : List ℕ) (cells rows : List ℕ) (a b : ℕ) (p : Parsed) → parse_line k v ≡ p → Reading st cells rows → k < 6 → st.key ≤ k
    → Enough a st.counts.fields → a + (letters k + length v + 2) ≤ b → b ≤ most_bytes → GoodStep b (valued st k (lay p cells st.counts.fields) rows)
valued_good st k v cells rows a b (wrong x l) q reading hk later had fits most = parsed_fault k v x l q
valued_good st k v cells rows a b (parsed f l) q reading hk later had fits most =
    let good : ParsedGood k v f l = parsed_good k v f l q in
    let all : Enough b (st.counts.fields + length l) = omega (arith, line_enough k f v l good) in
    judged_good st k f v l cells rows b reading hk later good (omega (arith, all, reading.cells_long)) all

-- a line behind b bytes keeps what is known of the tables, and its own bytes are enough for its fields
pub step_good : (l : List ℕ) (b : ℕ) (st : State) (cells rows : List ℕ) → Reading st cells rows → Enough b st.counts.fields → b + length l + 1 ≤ most_bytes
    → GoodStep (b + length l + 1) (step_of l st cells rows)
unfolding step_of
step_good l b st cells rows reading enough most = by (ltb (before 61 l) (length l)) refl (in_order st.key (key_of (take (before 61 l) l))) refl
  where
    k : ℕ
    k = key_of (take (before 61 l) l)

    v : List ℕ
    v = drop (before 61 l + 1) l

    by : (a : Bool) → ltb (before 61 l) (length l) ≡ a → (c : Bool) → in_order st.key k ≡ c
        → GoodStep (b + length l + 1) (cond a (cond c (valued st k (lay (parse_line k v) cells st.counts.fields) rows) (bad fault.Form)) (bad fault.Form))
    by true p true q =
        let sign : before 61 l < length l = ltb-true (before 61 l) (length l) p in
        let word : letters k ≤ length (take (before 61 l) l) = key_letters (take (before 61 l) l) (in_order_lem st.key k q).0 in
        valued_good st k v cells rows b (b + length l + 1) (parse_line k v) refl reading (in_order_lem st.key k q).0 (in_order_lem st.key k q).1 enough
        (omega (arith, word, length-take-le (before 61 l) l (omega (arith, sign)), length-drop (before 61 l + 1) l, sign)) most
    by true p false q = omega arith
    by false p c q = omega arith

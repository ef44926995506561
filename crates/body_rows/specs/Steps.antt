-- What a step of the reader does to the tables, as rows: those that stood stay, and the new one is there.
-- Assumes nothing.
use Rattle.std.specs.Prelude.{ℕ, zero, suc, ◌+◌, ◌*◌, ◌-◌, ◌<◌, ◌≤◌, ◌≡◌, refl, List, [], ◌∷◌, Bool, true, false, cond, ltb, length, get_or}
use Rattle.std.proofs.Common.{add-zero, arith, ap, ◌∙◌, ltb-true, lt-ltb}
use Rattle.forms.specs.declared.Form.{Form}
use Rattle.forms.specs.declared.Cell.{Cell}
use Rattle.forms.specs.declared.Fault.TheVariants as fault
use Rattle.forms.specs.Form.{cell, form_at, kind_at, store, store_from}
use Rattle.refs.specs.declared.Counts.{Counts}
use Rattle.refs.specs.Refs.{first_in, count_in, levels_in, name_in, tag_in, value_in, right, levels_of, larger, taken, Linked, unlinked, linked, refs_from}
use Rattle.body.specs.declared.State.{State}
use Rattle.body.specs.Body.{in_order, limit_of, count_of, base_of, levels_over, advance, put_row, repeats, bad, next, placed, judged}
use Rattle.well_formed.specs.Counting.{rows_inside}
use Rattle.well_formed.specs.Stored.{numbers, store_length, stored_before, stored_at, put_other, put_form, put_first, put_count, put_levels}
use Rattle.well_formed.specs.Columns.{RowStays, form_same, first-same, count_same, levels_same}
use Rattle.well_formed.specs.Linked.{Columns, taken_columns, taken_length, step}
use Rattle.well_formed.specs.Reading.{Reading, next_apart}
use Rattle.well_formed.specs.Step.{in_order_lem}
use Rattle.body_rows.specs.Text.{Row, key_at, cells_at, row_at}
use Rattle.body_rows.specs.ParsedLines.{step_parsed}
use Rattle.body_rows.specs.File.{row_parsed, step_row}

-- as many cells as asked for
pub cells_length_at : (cells : List ℕ) (j m : ℕ) → length (cells_at cells j m) ≡ m
unfolding cells_at
cells_length_at cells j zero = refl
cells_length_at cells j (suc m) = ap suc (cells_length_at cells (j + 1) m)

-- each with what the table has
pub cells_at_lem : (cells : List ℕ) (j m a : ℕ) (d : Cell) → a < m
    → get_or (cells_at cells j m) a d ≡ cell (name_in cells (j + a)) (tag_in cells (j + a)) (value_in cells (j + a))
unfolding cells_at
cells_at_lem cells j zero a d h = absurd (omega arith)
cells_at_lem cells j (suc m) zero d h = rw (add-zero j)
cells_at_lem cells j (suc m) (suc a) d h =
    cells_at_lem cells (j + 1) m a d (omega arith) ∙ ap (λ (x : ℕ). cell (name_in cells x) (tag_in cells x) (value_in cells x)) {x = j + 1 + a} {y = j + suc a} (omega arith)

-- ── stores ──

-- the cells that were stored are there
pub cells_stored : (t : List ℕ) (j : ℕ) (l : List Cell) → (j + length l) * 3 ≤ length t → cells_at (store_from t j l) j (length l) ≡ l
unfolding cells_at store_from name_in tag_in value_in
cells_stored t j [] h = refl
cells_stored t j (c ∷ l) h =
    rw (here (j * 3) 0 (omega arith) (omega arith), here (j * 3 + 1) 1 (omega arith) (omega arith), here (j * 3 + 2) 2 (omega arith) (omega arith), cells_stored (store t j c) (j + 1) l (omega (arith, store_length t j c)))
  where
    here : (x i : ℕ) → i < 3 → x ≡ (j + 0) * 3 + i → get_or (store_from (store t j c) (j + 1) l) x 0 ≡ get_or (numbers c) i 0
    here x i b e = ap (λ (y : ℕ). get_or (store_from (store t j c) (j + 1) l) y 0) e ∙ stored_at t j (c ∷ l) 0 i (omega arith) b h

-- cells before those that are stored stay
pub cells_kept : (t : List ℕ) (j : ℕ) (l : List Cell) (a m : ℕ) → a + m ≤ j → cells_at (store_from t j l) a m ≡ cells_at t a m
unfolding cells_at name_in tag_in value_in
cells_kept t j l a zero h = refl
cells_kept t j l a (suc m) h =
    rw (
      stored_before t j l (a * 3) (omega arith),
      stored_before t j l (a * 3 + 1) (omega arith),
      stored_before t j l (a * 3 + 2) (omega arith),
      cells_kept t j l (a + 1) m (omega arith),
    )

-- ── links ──

-- the first four columns of each row stay, and the length
abbrev Kept : List ℕ → List ℕ → Type 0
Kept rows rows' = (length rows' ≡ length rows) × Columns rows rows'

-- links keep them
linked_kept : (m : ℕ) (n : Counts) (f : Form) (i j : ℕ) (cells : List ℕ) (d : ℕ) (rows : List ℕ) (e : ℕ) (rows' : List ℕ)
    → refs_from m n f i j cells d rows ≡ linked e rows' → Kept rows rows'
unfolding refs_from
linked_kept zero n f i j cells d rows e rows' h = let q : rows ≡ rows' = cc in rw (← q) (refl, λ r c h. refl)
linked_kept (suc m) n f i j cells d rows e rows' h =
    let k : ℕ = kind_at f i in
    let t : ℕ = tag_in cells j in
    let x : ℕ = value_in cells j in
    let p = step (right n k t x rows cells) _ rows e rows' h in
    let rest : Kept (taken k t x j rows) rows' = linked_kept m n f (i + 1) (j + 1) cells (larger d (levels_of k t x rows)) (taken k t x j rows) e rows' p.1 in
    (rest.0 ∙ taken_length k t x j rows, λ r c l. rest.1 r c l ∙ taken_columns k t x j rows r c l)

-- ── a step ──

-- the cells behind the row r
abbrev pub cells_behind : Row → State → List ℕ → List ℕ
cells_behind r st cells = store_from cells st.counts.fields r.cells

-- its place
abbrev pub place_of : Row → State → ℕ
place_of r st = base_of (key_at r.form) + count_of st.counts (key_at r.form)

-- the rows behind it, over links that give e levels and the rows rows'
abbrev pub rows_behind : Row → State → ℕ → List ℕ → List ℕ
rows_behind r st e rows' = put_row rows' (place_of r st) r.form st.counts.fields (length r.cells) (levels_over r.form e)

-- the state behind it
abbrev pub state_behind : Row → State → ℕ → State
state_behind r st e = advance st (key_at r.form) (length r.cells) (levels_over r.form e)

-- what a step asks of the row r, whose links give e levels and the rows rows'
pub record Made (r : Row) (st : State) (cells rows : List ℕ) (e : ℕ) (rows' : List ℕ) : Type 0 where
  pub order : in_order st.key (key_at r.form) ≡ true
  pub room : count_of st.counts (key_at r.form) < limit_of (key_at r.form)
  pub fresh : repeats (key_at r.form) r.form (length r.cells) st.counts (cells_behind r st cells) rows ≡ false
  pub links : refs_from (length r.cells) st.counts (form_at r.form) 0 st.counts.fields (cells_behind r st cells) 0 rows ≡ linked e rows'

-- it is then the step's
pub made_step : (r : Row) (st : State) (cells rows : List ℕ) (e : ℕ) (rows' : List ℕ) → Made r st cells rows e rows'
    → step_row r st cells rows ≡ next (state_behind r st e) (cells_behind r st cells) (rows_behind r st e rows')
unfolding step_parsed row_parsed judged placed
made_step r st cells rows e rows' m =
    rw (m.order, lt-ltb (count_of st.counts (key_at r.form)) (limit_of (key_at r.form)) m.room, m.fresh, m.links)

-- a step that went well was made so
pub record WasMade (r : Row) (st : State) (cells rows : List ℕ) (st' : State) (cells' rows' : List ℕ) : Type 0 where
  pub levels : ℕ
  pub links : List ℕ
  pub made : Made r st cells rows levels links
  pub state : state_behind r st levels ≡ st'
  pub stored : cells_behind r st cells ≡ cells'
  pub put : rows_behind r st levels links ≡ rows'

-- and every step that went well
pub step_made : (r : Row) (st : State) (cells rows : List ℕ) (st' : State) (cells' rows' : List ℕ) → step_row r st cells rows ≡ next st' cells' rows'
    → WasMade r st cells rows st' cells' rows'
unfolding step_parsed row_parsed judged placed
step_made r st cells rows st' cells' rows' h =
    by (in_order st.key k) refl (ltb (count_of st.counts k) (limit_of k)) refl (repeats k r.form (length r.cells) st.counts (cells_behind r st cells) rows) refl
    (refs_from (length r.cells) st.counts (form_at r.form) 0 st.counts.fields (cells_behind r st cells) 0 rows) refl h
  where
    k : ℕ
    k = key_at r.form

    by : (a : Bool) → in_order st.key k ≡ a → (b : Bool) → ltb (count_of st.counts k) (limit_of k) ≡ b
        → (c : Bool) → repeats k r.form (length r.cells) st.counts (cells_behind r st cells) rows ≡ c
        → (x : Linked) → refs_from (length r.cells) st.counts (form_at r.form) 0 st.counts.fields (cells_behind r st cells) 0 rows ≡ x
        → cond a (cond b (cond c (bad fault.Reference) (placed st k r.form (length r.cells) (cells_behind r st cells) x)) (bad fault.Limit)) (bad fault.Form) ≡ next st' cells' rows'
        → WasMade r st cells rows st' cells' rows'
    by false p b q c s x t h = let z : ◌≡◌ {A = ℕ} 0 1 = cc in absurd (omega arith)
    by true p false q c s x t h = let z : ◌≡◌ {A = ℕ} 0 1 = cc in absurd (omega arith)
    by true p true q true s x t h = let z : ◌≡◌ {A = ℕ} 0 1 = cc in absurd (omega arith)
    by true p true q false s (unlinked rows'') t h = let z : ◌≡◌ {A = ℕ} 0 1 = cc in absurd (omega arith)
    by true p true q false s (linked e rows'') t h = record {
      levels = e;
      links = rows'';
      made = record { order = p; room = ltb-true (count_of st.counts k) (limit_of k) q; fresh = s; links = t };
      state = cc;
      stored = cc;
      put = cc;
    }

module _ (r : Row) (st : State) (cells rows : List ℕ) (e : ℕ) (rows' : List ℕ) (m : Made r st cells rows e rows') (reading : Reading st cells rows)
    (wide : (st.counts.fields + length r.cells) * 3 ≤ length cells) where
  -- a key in order is one of six
  key_six : key_at r.form < 6
  key_six = (in_order_lem st.key (key_at r.form) m.order).0

  -- links keep the columns of the rows
  kept : Kept rows rows'
  kept = linked_kept (length r.cells) st.counts (form_at r.form) 0 st.counts.fields (cells_behind r st cells) 0 rows e rows' m.links

  -- the place is within the table
  inside : place_of r st * 5 + 4 ≤ length rows'
  inside = omega (arith, kept.0, reading.rows_long, rows_inside (key_at r.form) key_six, m.room)

  -- a row that stood is elsewhere
  apart : (j i : ℕ) → i < count_of st.counts j → base_of j + i ≡ place_of r st → ⊥
  apart j i h = next_apart st.counts j (key_at r.form) i reading.limited key_six m.room h

  -- its columns stay,
  stays : (j i : ℕ) → i < count_of st.counts j → RowStays rows (rows_behind r st e rows') (base_of j + i)
  stays j i h c b =
      put_other rows' (place_of r st) r.form st.counts.fields (length r.cells) (levels_over r.form e) (base_of j + i) c b (apart j i h) ∙ kept.1 (base_of j + i) c b

  -- and so its levels,
  pub levels_old : (j i : ℕ) → i < count_of st.counts j → levels_in (rows_behind r st e rows') (base_of j + i) ≡ levels_in rows (base_of j + i)
  levels_old j i h = levels_same rows (rows_behind r st e rows') (base_of j + i) (stays j i h)

  -- and the row itself
  pub row_old : (j i : ℕ) → i < count_of st.counts j → row_at (rows_behind r st e rows') (cells_behind r st cells) (base_of j + i) ≡ row_at rows cells (base_of j + i)
  unfolding row_at
  row_old j i h =
      rw (
        form_same rows (rows_behind r st e rows') (base_of j + i) (stays j i h),
        first-same rows (rows_behind r st e rows') (base_of j + i) (stays j i h),
        count_same rows (rows_behind r st e rows') (base_of j + i) (stays j i h),
        cells_kept cells st.counts.fields r.cells (first_in rows (base_of j + i)) (count_in rows (base_of j + i)) (reading.good j i h).inside,
      )

  -- the new row is there,
  pub row_new : row_at (rows_behind r st e rows') (cells_behind r st cells) (place_of r st) ≡ r
  unfolding row_at
  row_new =
      rw (
        put_form rows' (place_of r st) r.form st.counts.fields (length r.cells) (levels_over r.form e) inside,
        put_first rows' (place_of r st) r.form st.counts.fields (length r.cells) (levels_over r.form e) inside,
        put_count rows' (place_of r st) r.form st.counts.fields (length r.cells) (levels_over r.form e) inside,
        cells_stored cells st.counts.fields r.cells wide,
      )

  -- with its levels
  pub levels_new : levels_in (rows_behind r st e rows') (place_of r st) ≡ levels_over r.form e
  levels_new = put_levels rows' (place_of r st) r.form st.counts.fields (length r.cells) (levels_over r.form e) inside

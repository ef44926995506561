-- What is known of the tables while a body is read, and of the rows that stand when a line is added.
-- Assumes nothing.
use Rattle.std.specs.Prelude.{ℕ, ◌+◌, ◌*◌, ◌<◌, ◌≤◌, ◌≡◌, refl, List, Bool, true, false, ltb, eqb, length, get_or}
use Rattle.std.proofs.Common.{zero-add, arith, ap, ◌∙◌, ltb-true, ltb-false, ne_eqb}
use Rattle.forms.specs.Form.{forms, form_at, key_type, key_node, key_fn}
use Rattle.refs.specs.declared.Counts.{Counts}
use Rattle.refs.specs.Refs.{nodes_at, fn_at, form_param, form_in, first_in, count_in, levels_in, user_in, tag_in, value_in}
use Rattle.body.specs.declared.State.{State}
use Rattle.body.specs.Body.{limit_of, count_of, base_of, counted, is_deep, rows_length, cells_length}
use Rattle.well_formed.specs.Columns.{form_same, first-same, count_same, levels_same}
use Rattle.well_formed.specs.Good.{behind, RowGood, RowsGood, Ordered, FnLast, Distinct}
use Rattle.well_formed.specs.Counting.{counted_within, counted_fields, behind_within, behind_less, rows_apart}
use Rattle.well_formed.specs.Zeros.{ZeroBehind}
use Rattle.well_formed.specs.Frame.{Frame, frame_less, row_framed}

-- a row has more levels than its key may have
abbrev pub DeepRow : Counts → List ℕ → Type 0
DeepRow n rows = (k : ℕ) × (i : ℕ) × (i < count_of n k) × (is_deep k (levels_in rows (base_of k + i)) ≡ true)

-- the tables behind some lines: long enough, the counts within the limits, no row of a key behind the state's, each row good, the fields in
-- the order of the rows, no two type rows equal, a row too deep where the state says so and only there, and zero past the used rows
pub record Reading (st : State) (cells rows : List ℕ) : Type 0 where
  pub rows_long : rows_length ≤ length rows
  pub cells_long : cells_length ≤ length cells
  pub limited : (k : ℕ) → count_of st.counts k ≤ limit_of k
  pub keys : (k i : ℕ) → i < count_of st.counts k → k ≤ st.key
  pub good : (k : ℕ) → RowsGood st.counts k rows cells
  pub fn : st.key ≡ key_fn → RowGood st.counts st.counts.fields key_fn fn_at rows cells
  pub ordered : Ordered st.counts rows
  pub fn_last : st.key ≡ key_fn → FnLast st.counts rows
  pub distinct : Distinct st.counts rows cells
  pub levels : st.deep ≡ false → (k i : ℕ) → i < count_of st.counts k → is_deep k (levels_in rows (base_of k + i)) ≡ false
  pub deep_there : st.deep ≡ true → DeepRow st.counts rows
  pub zero : ZeroBehind st.counts rows cells

-- the four numbers of every row but r stay, and so does the user of each node that has one
pub record RowsKept (r : ℕ) (rows rows' : List ℕ) : Type 0 where
  pub columns : (x c : ℕ) → c < 4 → (x ≡ r → ⊥) → get_or rows' (x * 5 + c) 0 ≡ get_or rows (x * 5 + c) 0
  pub users : (x : ℕ) → (user_in rows x ≡ 0 → ⊥) → user_in rows' x ≡ user_in rows x

module _ (r : ℕ) (rows rows' : List ℕ) (kept : RowsKept r rows rows') (x : ℕ) (other : x ≡ r → ⊥) where
  -- the form of another row stays,
  pub kept_form : form_in rows' x ≡ form_in rows x
  kept_form = form_same rows rows' x (λ c h. kept.columns x c h other)

  -- its first field,
  pub kept_first : first_in rows' x ≡ first_in rows x
  kept_first = first-same rows rows' x (λ c h. kept.columns x c h other)

  -- the number of its fields,
  pub kept_count : count_in rows' x ≡ count_in rows x
  kept_count = count_same rows rows' x (λ c h. kept.columns x c h other)

  -- and its levels
  pub kept_levels : levels_in rows' x ≡ levels_in rows x
  kept_levels = levels_same rows rows' x (λ c h. kept.columns x c h other)

-- only a key before `fn` has a count
pub counted_key : (n : Counts) (k i : ℕ) → i < count_of n k → k < key_fn
unfolding count_of
counted_key n k i h = by (ltb k key_fn) refl
  where
    by : (b : Bool) → ltb k key_fn ≡ b → k < key_fn
    by true p = ltb-true k key_fn p
    by false p =
        let above : key_fn ≤ k = ltb-false k key_fn p in
        let other : (c : ℕ) → c < key_fn → eqb k c ≡ false = λ c b. ne_eqb k c (λ e. omega (arith, e)) in
        let none : count_of n k ≡ 0 = rw (other 0 (omega arith), other 1 (omega arith), other 2 (omega arith), other 3 (omega arith), other 4 (omega arith)) in
        absurd (omega arith)

-- a row of the key j that stands is not where the next row of the key k will
pub next_apart : (n : Counts) (j k i : ℕ) → ((k : ℕ) → count_of n k ≤ limit_of k) → k < 6 → count_of n k < limit_of k → i < count_of n j
    → base_of j + i ≡ base_of k + count_of n k → ⊥
next_apart n j k i l hk lim h e =
    let lower : j < 6 = omega (arith, counted_key n j i h) in
    let same : j ≡ k = rows_apart j k i (count_of n k) lower hk (omega (arith, l j)) lim e in
    omega (arith, ap base_of same, ap (count_of n) same)

-- the first field of a `param` that stands
param_first : (n : Counts) (m k r : ℕ) (rows cells : List ℕ) → RowGood n m k r rows cells → form_in rows r ≡ form_param → first_in rows r < m
unfolding form_at forms
param_first n m k r rows cells g e =
    let one : 1 ≤ count_in rows r = rw e at g.least in
    omega (arith, one, g.inside)

-- the first field of a `param` among the nodes that stand
node_param : (n : Counts) (rows cells : List ℕ) → RowsGood n key_node rows cells → (x : ℕ) → x < n.nodes → form_in rows (nodes_at + x) ≡ form_param
    → first_in rows (nodes_at + x) < n.fields
unfolding base_of count_of
node_param n rows cells g x h e = param_first (behind n key_node x) n.fields key_node (nodes_at + x) rows cells (g x h) e

module _ (n : Counts) (k : ℕ) (limited : (j : ℕ) → count_of n j ≤ limit_of j) (hk : k < 6) (room : count_of n k < limit_of k) where
  -- a type that stands is not there,
  pub type_apart : (x : ℕ) → x < n.types → x ≡ base_of k + count_of n k → ⊥
  unfolding base_of count_of
  type_apart x h e = next_apart n key_type k x limited hk room h (zero-add x ∙ e)

  -- nor a node
  node_apart : (x : ℕ) → x < n.nodes → nodes_at + x ≡ base_of k + count_of n k → ⊥
  unfolding base_of count_of
  node_apart x h e = next_apart n key_node k x limited hk room h e

  module _ (rows rows' : List ℕ) (kept : RowsKept (base_of k + count_of n k) rows rows') (cells cells' : List ℕ) where
    -- what a line refers to stays when the next row is written
    pub next_frame : (m : ℕ)
        → ((x : ℕ) → x < n.nodes → form_in rows (nodes_at + x) ≡ form_param → tag_in cells' (first_in rows (nodes_at + x)) ≡ tag_in cells (first_in rows (nodes_at + x)))
        → ((j : ℕ) → j < m → tag_in cells' j ≡ tag_in cells j) → ((j : ℕ) → j < m → value_in cells' j ≡ value_in cells j)
        → Frame n m rows cells rows' cells'
    next_frame m p t v = record {
      type_levels = λ x h. kept_levels (base_of k + count_of n k) rows rows' kept x (type_apart x h);
      forms = λ x h. kept_form (base_of k + count_of n k) rows rows' kept (nodes_at + x) (node_apart x h);
      firsts = λ x h. kept_first (base_of k + count_of n k) rows rows' kept (nodes_at + x) (node_apart x h);
      levels = λ x h. kept_levels (base_of k + count_of n k) rows rows' kept (nodes_at + x) (node_apart x h);
      users = λ x h. kept.users (nodes_at + x);
      params = p;
      tags = t;
      values = v;
    }

    -- the rows that stand stay good
    pub rows_stay : (m : ℕ) → ((j : ℕ) → RowsGood n j rows cells)
        → ((j : ℕ) → j < n.fields → tag_in cells' j ≡ tag_in cells j) → ((j : ℕ) → j < n.fields → value_in cells' j ≡ value_in cells j)
        → (j i : ℕ) → i < count_of n j → RowGood (behind (counted n k m) j i) (counted n k m).fields j (base_of j + i) rows' cells'
    rows_stay m g t v j i h =
        row_framed (behind n j i) (behind (counted n k m) j i) n.fields (counted n k m).fields j (base_of j + i) rows cells rows' cells'
        (frame_less (behind n j i) n n.fields rows cells rows' cells' (behind_less n j i (omega arith)) frame)
        (behind_within n (counted n k m) j i (counted_within n k m))
        (λ e. absurd (omega (arith, counted_key n j i h, e)))
        (omega (arith, counted_fields n k m))
        (kept_form (base_of k + count_of n k) rows rows' kept (base_of j + i) other)
        (kept_first (base_of k + count_of n k) rows rows' kept (base_of j + i) other)
        (kept_count (base_of k + count_of n k) rows rows' kept (base_of j + i) other)
        (kept_levels (base_of k + count_of n k) rows rows' kept (base_of j + i) other)
        (g j i h)
      where
        other : base_of j + i ≡ base_of k + count_of n k → ⊥
        other = next_apart n j k i limited hk room h

        frame : Frame n n.fields rows cells rows' cells'
        frame = next_frame n.fields (λ x b e. t (first_in rows (nodes_at + x)) (node_param n rows cells (g key_node) x b e)) t v

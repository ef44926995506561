-- A body that was read has well-formed tables.
-- Assumes nothing.
use Rattle.std.specs.Prelude.{ℕ, zero, suc, ◌+◌, ◌<◌, ◌≤◌, ◌≡◌, refl, List, Bool, true, false, cond, eqb, length}
use Rattle.std.proofs.Common.{zero-add, add-zero, arith, ap, ◌∙◌, ltb-false, leb-false}
use Rattle.std.proofs.lemmas.Bool.{false≢true}
use Rattle.std.proofs.lemmas.List.{length-replicate}
use Rattle.forms.specs.Form.{key_type, key_def, key_inst, key_bind, key_node, key_fn}
use Rattle.refs.specs.declared.Counts.{Counts}
use Rattle.refs.specs.Refs.{nodes_at, form_in, first_in, levels_in, value_in}
use Rattle.body.specs.declared.State.{State}
use Rattle.body.specs.declared.Answer.TheVariants as answer
use Rattle.body.specs.Body.{most_bytes, rows_length, cells_length, no_rows, first, limit_of, count_of, base_of, is_deep, Stepped, bad, next, is_ahead, first_ahead, Ended, refused, read, proceed, Held, zeros, settle}
use Rattle.well_formed.specs.Good.{WellFormed}
use Rattle.well_formed.specs.Bytes.{Enough}
use Rattle.well_formed.specs.Zeros.{ZeroBehind, zeros_behind}
use Rattle.well_formed.specs.Reading.{Reading}
use Rattle.well_formed.specs.Step.{GoodStep}

-- where no row of m is ahead, the row i is not
none_ahead : (m r : ℕ) (n : Counts) (cells rows : List ℕ) (i : ℕ) → r + m ≤ first_ahead m r n cells rows → i < m → is_ahead (r + i) n cells rows ≡ false
unfolding first_ahead
none_ahead zero r n cells rows i h b = absurd (omega arith)
none_ahead (suc m) r n cells rows i h b = by i (is_ahead r n cells rows) refl h b (none_ahead m (r + 1) n cells rows)
  where
    by : (i : ℕ) (c : Bool) → is_ahead r n cells rows ≡ c → r + suc m ≤ cond c r (first_ahead m (r + 1) n cells rows) → i < suc m
        → ((i : ℕ) → r + 1 + m ≤ first_ahead m (r + 1) n cells rows → i < m → is_ahead (r + 1 + i) n cells rows ≡ false)
        → is_ahead (r + i) n cells rows ≡ false
    by i true p h b again = absurd (omega arith)
    by zero false p h b again = rw (add-zero r) p
    by (suc i) false p h b again = ap (λ (x : ℕ). is_ahead x n cells rows) (omega arith) ∙ again i (omega arith) (omega arith)

-- a K that is not ahead is there
inst_there : (r : ℕ) (n : Counts) (cells rows : List ℕ) → is_ahead r n cells rows ≡ false → form_in rows r ≡ 2 → value_in cells (first_in rows r) < n.insts
unfolding is_ahead
inst_there r n cells rows h e = leb-false n.insts (value_in cells (first_in rows r)) (rw e at h)

-- and so is a D
def_there : (r : ℕ) (n : Counts) (cells rows : List ℕ) → is_ahead r n cells rows ≡ false → form_in rows r ≡ 3 → value_in cells (first_in rows r) < n.defs
unfolding is_ahead
def_there r n cells rows h e = leb-false n.defs (value_in cells (first_in rows r)) (rw e at h)

-- an end at which the tables are well-formed and zero past the used rows, or a fault
abbrev pub Fine : Ended → Type 0
Fine (refused x l) = Unit {0}
Fine (read n cells rows) = WellFormed n rows cells × ZeroBehind n rows cells

-- what is known behind the last line
pub ending : (st : State) (cells rows : List ℕ) → Reading st cells rows → Enough most_bytes st.counts.fields → st.key ≡ key_fn
    → st.counts.types ≤ first_ahead st.counts.types 0 st.counts cells rows → st.deep ≡ false → WellFormed st.counts rows cells
unfolding count_of limit_of base_of is_deep
ending st cells rows r b k a d = record {
  rows_long = r.rows_long;
  cells_long = r.cells_long;
  limited = record {
    types = r.limited key_type;
    defs = r.limited key_def;
    insts = r.limited key_inst;
    binds = r.limited key_bind;
    nodes = r.limited key_node;
    fields = omega arith;
  };
  types = r.good key_type;
  defs = r.good key_def;
  insts = r.good key_inst;
  binds = r.good key_bind;
  nodes = r.good key_node;
  fn = r.fn k;
  ordered = r.ordered;
  fn_last = r.fn_last k;
  distinct = r.distinct;
  insts_there = λ i h. inst_there i st.counts cells rows (rw (zero-add i) at (none_ahead st.counts.types 0 st.counts cells rows i (omega arith) h));
  defs_there = λ i h. def_there i st.counts cells rows (rw (zero-add i) at (none_ahead st.counts.types 0 st.counts cells rows i (omega arith) h));
  nesting = λ i h. ltb-false 4 (levels_in rows i) (rw (zero-add i) at (r.levels d key_type i h));
  depth = λ i h. ltb-false 64 (levels_in rows (nodes_at + i)) (r.levels d key_node i h);
}

-- a line and those that follow
pub proceed_good : (b l : ℕ) (x : Stepped) (k : State → List ℕ → List ℕ → Ended) → GoodStep b x
    → ((st : State) (cells rows : List ℕ) → Reading st cells rows → Enough b st.counts.fields → Fine (k st cells rows)) → Fine (proceed x l k)
proceed_good b l (bad x) k g h = tt
proceed_good b l (next st cells rows) k g h = h st cells rows g.0 g.1

-- a file starts with no row of any key
pub none_counted : (k : ℕ) → count_of no_rows k ≡ 0
unfolding count_of
none_counted k = by (eqb k key_type) (eqb k key_def) (eqb k key_inst) (eqb k key_bind) (eqb k key_node)
  where
    by : (a b c d e : Bool) → ◌≡◌ {A = ℕ} (cond a 0 (cond b 0 (cond c 0 (cond d 0 (cond e 0 0))))) 0
    by true b c d e = refl
    by false true c d e = refl
    by false false true d e = refl
    by false false false true e = refl
    by false false false false true = refl
    by false false false false false = refl

-- so what is known of the tables holds at the start
pub start_reading : (rows cells : List ℕ) → rows_length ≤ length rows → cells_length ≤ length cells → Reading first (zeros cells) (zeros rows)
start_reading rows cells hr hc = record {
  rows_long = omega (arith, length-replicate {A = ℕ} (length rows) 0);
  cells_long = omega (arith, length-replicate {A = ℕ} (length cells) 0);
  limited = λ k. omega (arith, none_counted k);
  keys = λ k i h. absurd (omega (arith, none_counted k));
  good = λ k i h. absurd (omega (arith, none_counted k));
  fn = λ e. absurd (omega (arith, e));
  ordered = λ k i k' i' h. absurd (omega (arith, none_counted k));
  fn_last = λ e. absurd (omega (arith, e));
  distinct = λ i j h l. absurd (omega arith);
  levels = λ d k i h. absurd (omega (arith, none_counted k));
  deep_there = λ e. absurd (false≢true e);
  zero = zeros_behind no_rows rows cells;
}

-- where the answer is a body, the tables are well-formed and zero past the used rows
abbrev pub HeldGood : Counts → Held → Type 0
HeldGood n h = h.answer ≡ answer.Body n → WellFormed n h.rows h.cells × ZeroBehind n h.rows h.cells

-- the tables of an end
pub settle_good : (x : Ended) (rows cells : List ℕ) (n : Counts) → Fine x → HeldGood n (settle x rows cells)
settle_good (refused x l) rows cells n f e = let z : ◌≡◌ {A = ℕ} 0 1 = cc in absurd (omega arith)
settle_good (read n' cells' rows') rows cells n f e = let same : n' ≡ n = cc in rw same at f

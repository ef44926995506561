-- What each return and turn of a function over the table of variables shows, over plain variables.
use Rattle.std.specs.Prelude.{Option}
use mathlib.Core.Path.{◌≡◌, refl, sym, ap, ◌∙◌}
use mathlib.Core.List.{List, [], ◌∷◌}
use mathlib.Core.Bool.{Bool}
use Prim.Native.Nat.{ℕ, ◌+◌, ◌-◌, ◌*◌, ◌≤◌}
use native.Mathlib.Omega.{arith}
use native.Mathlib.Numerals.{towards_suc}
use lib.ListN.{length, replicate}
use lib.Seq.{sets}
use Rattle.type_table.specs.declared.Counts.{Counts}
use Rattle.type_table.specs.declared.Kind.{Kind}
use Rattle.type_table.specs.declared.Kind.TheVariants.{Regular, Integer, Float}
use Rattle.type_table.specs.Memory.{kind_of, mem_of, mark_at}
use Rattle.type_table.specs.Made.{kind_number}
use Rattle.type_table.specs.View.{variable, kind_in, bound_in, origin_in}
use Rattle.type_table.specs.Reads.{origin_meant, bound_meant}
use Rattle.type_table.specs.Tables.{length_kinds}
use Rattle.type_table.specs.Sound.{state_of}
use Rattle.type_table.specs.Promises.{kind_promise, bound_promise, origin_promise, is_marked_promise}
use Rattle.record.specs.declared.Record.{Record}
use Rattle.record.specs.Steps.{State}
use Rattle.tables.specs.Rows.{padded, cells_to, flag, given, or_zero, Fills}
use Rattle.tables.specs.RowLaws.{cells_ext}
use Rattle.tables.specs.Vars.{kind_cell, var_row, var_table, var_room, var_in}
use Rattle.tables.proofs.CellLaws.{rows_more, rows_filled}
use Rattle.type_table.specs.declared.NodeId.{NodeId}
use Rattle.type_table.specs.declared.TypeId.{TypeId}

-- three pairs of cells are a row
three_pairs : (t t₁ t₂ u : List ℕ) (j a b d e f g : ℕ) → t₁ ≡ sets t j (a ∷ b ∷ []) → t₂ ≡ sets t₁ (j + 2) (d ∷ e ∷ []) → u ≡ sets t₂ (j + 4) (f ∷ g ∷ []) → u ≡ sets t j (a ∷ b ∷ d ∷ e ∷ f ∷ g ∷ [])
three_pairs t t₁ t₂ u j a b d e f g p q r = rw (r, q, p) (simp towards_suc)

-- the stores of a variable
pub var_stores : (m : List ℕ) (c : Counts) (v : ℕ) (kind : Kind) (b : Option TypeId) (o : Option NodeId) (mark : Bool) → kind ≡ kind_in m c (variable v) → b ≡ bound_in m c (variable v) → o ≡ origin_in m c (variable v) → mark ≡ mark_at m c.vars v
    → (a₀ a₁ a₂ a₃ a₄ a₅ : ℕ) → a₀ ≡ kind_number kind → a₁ ≡ given (bound_meant b) → a₂ ≡ or_zero (bound_meant b) → a₃ ≡ given (origin_meant o) → a₄ ≡ or_zero (origin_meant o) → a₅ ≡ flag mark
    → (t t₁ t₂ u : List ℕ) → let j = v * 6 in
    t₁ ≡ sets t j (a₀ ∷ a₁ ∷ []) → t₂ ≡ sets t₁ (j + 2) (a₂ ∷ a₃ ∷ []) → u ≡ sets t₂ (j + 4) (a₄ ∷ a₅ ∷ [])
    → u ≡ sets t j (var_in m c v)
unfolding var_in
var_stores m c v kind b o mark ek eb eo em a₀ a₁ a₂ a₃ a₄ a₅ p₀ p₁ p₂ p₃ p₄ p₅ t t₁ t₂ u q₀ q₁ q₂ =
    rw (← ek, ← eb, ← eo, ← em, ← p₀, ← p₁, ← p₂, ← p₃, ← p₄, ← p₅) (three_pairs t t₁ t₂ u (v * 6) a₀ a₁ a₂ a₃ a₄ a₅ q₀ q₁ q₂)

-- the row has six cells
length_var : (m : List ℕ) (c : Counts) (v : ℕ) → length (var_in m c v) ≡ 6
unfolding var_in
length_var m c v = refl

-- KIND as the code has it
kind_cell_lem : (k : Kind) → kind_cell (kind_of (kind_number k)) ≡ kind_number k
kind_cell_lem Regular = refl
kind_cell_lem Integer = refl
kind_cell_lem Float = refl

module _ (m : List ℕ) (c : Counts) (s : State) where
  -- what the accessors answer is the row of the state
  var_row_lem : (v : ℕ) → var_in m c v ≡ var_row (state_of m c s) v
  unfolding var_in var_row state_of mem_of
  var_row_lem v = rw (← kind_cell_lem (kind_in m c (variable v)), kind_promise m c (variable v), bound_promise m c (variable v), origin_promise m c (variable v), is_marked_promise m c (variable v))

  -- and all of them are the table of the state
  table_in : cells_to (var_in m c) c.vars ≡ var_table (state_of m c s)
  unfolding state_of
  table_in = rw (length_kinds m c.vars) (cells_ext (var_in m c) (var_row (state_of m c s)) c.vars (λ i h. var_row_lem i))

  -- a state whose tables are those of the memory has as many variables
  kinds_in_lem : state_of m c s ≡ s → length s.kinds ≡ c.vars
  unfolding state_of
  kinds_in_lem e = ap (λ (x : State). length x.kinds) (sym e) ∙ length_kinds m c.vars

-- a turn stores one variable more
pub vars_more : (m : List ℕ) (c : Counts) (t w u : List ℕ) (i : ℕ) → w ≡ sets t 0 (cells_to (var_in m c) i) → u ≡ sets w (i * 6) (var_in m c i) → u ≡ sets t 0 (cells_to (var_in m c) (i + 1))
vars_more m c t w u i p q = rows_more (var_in m c) 6 (length_var m c) t w u i p q

-- the variables, and zeros behind them
pub vars_filled : (m : List ℕ) (c : Record) (t w u : List ℕ) (i : ℕ) → i ≤ c.counts.vars → c.counts.vars ≤ i → w ≡ sets t 0 (cells_to (var_in m c.counts) i) → u ≡ sets w (c.counts.vars * 6) (replicate (length w - c.counts.vars * 6) 0) → Fills m c (var_room (length t)) (λ s. padded (length t) (var_table s)) u
vars_filled m c t w u i l r p q = record {
  fills = λ s e h.
      let d = c.counts in
      let n : i ≡ d.vars = omega arith in
      let k : length s.kinds ≡ d.vars = kinds_in_lem m d s e.tables in
      rows_filled (var_in m d) 6 (length_var m d) t w u d.vars (rw k at h) (rw n at p) q ∙ ap (padded (length t)) (table_in m d s ∙ ap var_table e.tables);
}

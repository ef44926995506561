-- The types, kinds, bindings and errors that are read of the tables on 0 are those of the state in which the rules end, and each made type is of one of six forms. Assumes nothing.
use Rattle.std.specs.Prelude.{◌≡◌, List, [], ◌∷◌, ◌++◌, true, length, get_or, replicate}
use Rattle.std.proofs.Math.Path.{refl}
use Rattle.std.proofs.Common.{sym, arith, length-drop}
use Prim.Native.Nat.{ℕ, suc, zero, ◌+◌, ◌-◌, ◌<◌}
use Rattle.std.proofs.Math.Seq.{take_at}
use Rattle.theory.specs.Rules.{Shape}
use Rattle.theory.specs.Basics.{All}
use Rattle.type_table.specs.Memory.{tab}
use Rattle.type_table.specs.Tables.{tab_ext}
use Rattle.refs.specs.declared.Counts.{Counts}
use Rattle.refs.specs.Refs.{form_in, first_in, count_in, value_in}
use Rattle.nodes.specs.Nodes.{fn_line, numbers_from}
use Rattle.record.specs.Steps.{State}
use Rattle.resolve.specs.Body.{last_state}
use Rattle.well_formed.specs.Good.{WellFormed}
use Rattle.well_formed.specs.Zeros.{zero_at}
use Rattle.bounds.specs.Declared.{line_shape}
use Rattle.bounds.specs.Confined.{is_made}
use Rattle.bounds.proofs.Claims.{all_types, made_count, made_forms, variables}
use Rattle.tables.specs.Rows.{padded}
use Rattle.tables.specs.Types.{type_table}
use Rattle.tables.specs.Read.{made_at}
use Rattle.tables.specs.Back.{kinds_back, binds_back, made_back}
use Rattle.errors.specs.Rows.{error_rows}
use Rattle.errors.specs.Filling.{length_error_rows}
use Rattle.answers.specs.Lent.{Lent, first_made, made_types, totals, filled}
use Rattle.checker.specs.Handed.{types_held, kinds_held, binds_held, errors_held}

-- ── zeros behind a table are read as before ──

-- a cell
pub cell_padded : (k : ℕ) (t : List ℕ) (i : ℕ) → get_or (padded k t) i 0 ≡ get_or t i 0
cell_padded k t i = by t i (k - length t)
  where
    by : (t : List ℕ) (i n : ℕ) → get_or (t ++ replicate n 0) i 0 ≡ get_or t i 0
    by [] i n = zero_at n i
    by (x ∷ t) zero n = refl
    by (x ∷ t) (suc i) n = by t i n

module _ (k j : ℕ) (rows cells : List ℕ) where
  -- the numbers of fields
  numbers_padded : (f n : ℕ) → numbers_from (padded j cells) f n ≡ numbers_from cells f n
  unfolding numbers_from value_in
  numbers_padded f zero = refl
  numbers_padded f (suc n) = rw (cell_padded j cells, numbers_padded (suc f) n)

  -- the type of a line
  line_padded : (i : ℕ) → line_shape (padded k rows) (padded j cells) i ≡ line_shape rows cells i
  unfolding line_shape form_in first_in count_in value_in
  line_padded i = simp (cell_padded, numbers_padded)

-- ── a body answered 0 ──

-- what holds of each value of a list holds of each one by its number
all_tab : (P : Shape → Type 0) (f : ℕ → Shape) (n : ℕ) → All P (tab f n) → (i : ℕ) → i < n → P (f i)
all_tab P f zero h i l = absurd (omega arith)
all_tab P f (suc n) h zero l = h.0
all_tab P f (suc n) h (suc i) l = all_tab P (λ j. f (suc j)) n h.1 i (omega arith)

module _ (n : Counts) (rows cells : List ℕ) (w : WellFormed n rows cells) (l : Lent) where
  -- the state in which it ends
  abbrev last : State
  last = last_state n rows cells

  -- the made types
  pub made_held : tab (made_at (type_table (length l.types) (made_types n last))) (totals n last).types ≡ made_types n last
  made_held =
      let e : (totals n last).types ≡ length (made_types n last) = sym (length-drop (first_made n) last.rows) in
      rw e (made_back (length l.types) (made_types n last) (omega (arith, made_count n rows cells w (fn_line rows cells).output.0)))

  -- all types
  pub types_held_lem : types_held (totals n last) (filled n rows cells last l) ≡ last.rows
  unfolding filled
  types_held_lem =
      rw (
        tab_ext (line_shape rows cells) (line_shape (padded (length l.rows) rows) (padded (length l.cells) cells)) n.types (λ i h. line_padded (length l.rows) (length l.cells) rows cells i),
        made_held,
      )
      (sym (all_types n rows cells w (fn_line rows cells).output.0))

  -- each made type is of one of the six forms
  pub forms_held : (i : ℕ) → i < (totals n last).types → is_made (made_at (filled n rows cells last l).types i) ≡ true
  unfolding filled
  forms_held = all_tab (λ s. is_made s ≡ true) (made_at (type_table (length l.types) (made_types n last))) (totals n last).types (rw made_held (made_forms n rows cells w (fn_line rows cells).output.0))

  -- the kinds of the variables
  pub kinds_held_lem : kinds_held (totals n last) (filled n rows cells last l) ≡ last.kinds
  unfolding filled
  kinds_held_lem = kinds_back last (length l.vars)

  -- their bindings
  pub binds_held_lem : binds_held (totals n last) (filled n rows cells last l) ≡ last.mem.binds
  unfolding filled
  binds_held_lem = binds_back last (length l.vars) (variables n rows cells (fn_line rows cells).output.0).0

  -- the rows of the errors
  pub errors_held_lem : errors_held (totals n last) (filled n rows cells last l) ≡ error_rows last.errs
  unfolding filled
  errors_held_lem = take_at (error_rows last.errs) _ (length last.errs) (length_error_rows last.errs)

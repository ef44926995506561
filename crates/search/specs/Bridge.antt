-- The memory's cells and the rules' tables, as far as the search reads them: what a row is made of, and the binding of a variable.
use Rattle.std.specs.Prelude.{◌≡◌, refl, ◌≢◌, List, [], ◌∷◌, ◌||◌, ℕ, ◌<◌, eqb, None, Option, Some}
use Rattle.std.proofs.Common.{sym, ap, ◌∙◌}
use Rattle.std.proofs.Math.Option.{none, some}
use Rattle.theory.specs.Rules.{kids, as_var, row, bound}
use Rattle.type_table.specs.declared.Counts.{Counts}
use Rattle.type_table.specs.declared.TypeId.{TypeId}
use Rattle.type_table.specs.declared.VarId.{VarId}
use Rattle.type_table.specs.Memory.{pick, head_at, number_at, output_at, first_at, count_at, inputs_from, shape_of, rows_of, binds_of}
use Rattle.type_table.specs.Heads.{head_low, shape_cases, row_by}
use Rattle.type_table.specs.View.{bound_in}
use Rattle.type_table.specs.Reads.{bound_meant, bound_read}
use Rattle.search.specs.Search.{parts}

module _ (h a o : ℕ) (i : List ℕ) (l : h < 15) where
  pub var_none : h ≢ 12 → as_var (shape_of h a o i) ≡ none
  var_none n = shape_cases h a o i l (λ s. as_var s ≡ none) (λ e. refl) (λ e. refl) (λ e. refl) (λ e. refl) (λ e. refl) (λ e. refl) (λ e. refl) (λ e. refl) (λ e. refl) (λ e. refl) (λ e. refl) (λ e. refl) (λ e. absurd (n e)) (λ e. refl) (λ e. refl)

  abbrev parts_by : List ℕ
  parts_by = pick (eqb h 6 || eqb h 13) (o ∷ i) (pick (eqb h 8 || eqb h 14) (a ∷ []) [])

  pub kids_by : kids (shape_of h a o i) ≡ parts_by
  kids_by = shape_cases h a o i l (λ s. kids s ≡ parts_by) (λ e. rw e) (λ e. rw e) (λ e. rw e) (λ e. rw e) (λ e. rw e) (λ e. rw e) (λ e. rw e) (λ e. rw e) (λ e. rw e) (λ e. rw e) (λ e. rw e) (λ e. rw e) (λ e. rw e) (λ e. rw e) (λ e. rw e)

-- ── the rows of a memory ──

module _ (m : List ℕ) (n x : ℕ) where
  pub no_var_row : head_at m n x ≢ 12 → as_var (row (rows_of m n) x) ≡ none
  no_var_row d = ap as_var (row_by m n x) ∙ var_none (head_at m n x) (number_at m n x) (output_at m n x) (inputs_from m (first_at m n x) (count_at m n x)) (head_low m n x) d

pub kids_row : (m : List ℕ) (c : Counts) (x : TypeId) → kids (row (rows_of m c.types) x.0) ≡ parts m c x
unfolding parts
kids_row m c x =
    ap kids (row_by m c.types x.0)
    ∙ kids_by (head_at m c.types x.0) (number_at m c.types x.0) (output_at m c.types x.0) (inputs_from m (first_at m c.types x.0) (count_at m c.types x.0)) (head_low m c.types x.0)

-- ── the bindings of a memory ──

module _ (m : List ℕ) (c : Counts) (v : VarId) (b : Option TypeId) (p : b ≡ bound_in m c v) where
  -- open as the code reads it: no binding in the table
  pub bound_open : b ≡ None → bound (binds_of m c.vars) v.0 ≡ none
  bound_open e = sym (bound_read m c v) ∙ ap bound_meant (sym p ∙ e)

  -- bound as the code reads it: that binding in the table
  pub bound_some : (x : TypeId) → b ≡ Some x → bound (binds_of m c.vars) v.0 ≡ some x.0
  bound_some x e = sym (bound_read m c v) ∙ ap bound_meant (sym p ∙ e)

-- Of Made: the theorems that rest on a declaration which an edit of a definition in specs/ refuses. The definitions and the other theorems stand in
-- specs/Made.antt. Assumes nothing.
use Rattle.std.specs.Prelude.{◌≡◌, List, ◌++◌, true, ℕ, ◌+◌, ◌≤◌, length, drop}
use Rattle.std.proofs.Common.{sym, ◌∙◌, append_assoc, arith, length-append}
use Rattle.std.proofs.Math.Path.{ap}
use Rattle.std.proofs.Math.Seq.{drop-append_seam}
use Rattle.theory.specs.Rules.{Shape}
use Rattle.theory.specs.Basics.{All}
use Rattle.theory.specs.Start.{start}
use Rattle.type_table.specs.Memory.{tab}
use Rattle.type_table.specs.Sound.{fixed_types}
use Rattle.refs.specs.declared.Counts.{Counts}
use Rattle.record.specs.Own.{Own}
use Rattle.record.specs.Steps.{State}
use Rattle.record.specs.Encodes.{input_total}
use Rattle.record.specs.Grows.{total-append}
use Rattle.well_formed.specs.Good.{WellFormed}
use Rattle.bounds.specs.Declared.{line_shape, declared, declared_length}
use Rattle.bounds.specs.Confined.{is_made}
use Rattle.bounds.proofs.Nesting.{body_rows_lem}
use Rattle.bounds.specs.Made.{behind_larger, declared_tab}
use Rattle.bounds.specs.Made as held

module _ (n : Counts) (rows cells : List ℕ) (own : Own) where
  -- the state behind the body
  abbrev last : State
  last = held.last n rows cells own

  -- the made types
  abbrev made : List Shape
  made = held.made n rows cells own

  -- ── types ──

  module _ (w : WellFormed n rows cells) where
    -- the made types are the rows behind the declared ones
    made_rest : made ≡ (body_rows_lem n rows cells w own).rest
    made_rest =
        let m = body_rows_lem n rows cells w own in
        ap (λ (k : ℕ). drop k last.rows) (sym (declared_length rows cells n.types))
        ∙ ap (λ (l : List Shape). drop (length (declared rows cells n.types)) l) m.rows
        ∙ drop-append_seam (declared rows cells n.types) m.rest

    -- all types are the declared ones and the made ones
    declared_made : last.rows ≡ declared rows cells n.types ++ made
    declared_made = (body_rows_lem n rows cells w own).rows ∙ ap (λ (l : List Shape). declared rows cells n.types ++ l) (sym made_rest)

    -- each made type is of one of the six forms
    pub made_forms : All (λ s. is_made s ≡ true) made
    made_forms = rw made_rest (body_rows_lem n rows cells w own).made

    -- all types are the fixed ones, those of the lines and the made ones
    pub all_types : last.rows ≡ fixed_types ++ (tab (line_shape rows cells) n.types ++ made)
    all_types =
        declared_made
        ∙ ap (λ (l : List Shape). l ++ made) (declared_tab rows cells n.types)
        ∙ append_assoc fixed_types (tab (line_shape rows cells) n.types) made

    -- none of the first two is missing
    pub declared_count : 14 + n.types ≤ length last.rows
    declared_count = omega (arith, ap length declared_made, length-append (declared rows cells n.types) made, declared_length rows cells n.types)

    -- the made types have at most one input for each node
    pub made_inputs : input_total made ≤ n.nodes
    unfolding start
    made_inputs = omega (arith, (behind_larger n rows cells own w).inputs, ap input_total declared_made, total-append (declared rows cells n.types) made)

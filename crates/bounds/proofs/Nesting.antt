-- Of Nesting: the theorems that rest on a declaration which an edit of a definition in specs/ refuses. The definitions and the other theorems stand in
-- specs/Nesting.antt. Assumes nothing.
use Rattle.std.specs.Prelude.{List, ℕ}
use Rattle.theory.specs.Program.{run}
use Rattle.theory.specs.Depth.{Functions}
use Rattle.theory.specs.Start.{start}
use Rattle.type_table.specs.Sound.{fixed_types}
use Rattle.forms.specs.Form.{forms}
use Rattle.refs.specs.declared.Counts.{Counts}
use Rattle.record.specs.Own.{Own}
use Rattle.record.specs.Steps.{State}
use Rattle.resolve.specs.Resolve.{declare_types, body_with, type_body}
use Rattle.well_formed.specs.Good.{WellFormed}
use Rattle.bounds.specs.Declared.{declared, behind_types, types_declared, body_behind}
use Rattle.bounds.specs.Confined.{any_known}
use Rattle.bounds.proofs.ConfinedWalk.{behind_types_confined}
use Rattle.bounds.specs.Nesting.{AtEquations, More, at_confined, at_then, four_deep, more_same, run_more, types_silent}

-- ── a body ──

module _ (n : Counts) (rows cells : List ℕ) (w : WellFormed n rows cells) (own : Own) where
  -- the types of a whole body are the declared ones, and then types of the made forms
  pub body_rows_lem : More (declared rows cells n.types) (run (type_body n rows cells) (start fixed_types own)).1.rows
  unfolding start
  body_rows_lem =
      rw (body_behind n rows cells w own)
      (run_more (declared rows cells n.types) n (behind_types n rows cells) (behind_types_confined n rows cells w (any_known n (body_with n rows cells))).by (start (declared rows cells n.types) own) (more_same (declared rows cells n.types)))

  -- at each equation of a body functions stand at most 4 deep in one another
  pub body_equations : (P : State → Type 0) → ((s : State) → Functions s.rows 4 → P s) → AtEquations P (type_body n rows cells) (start fixed_types own)
  unfolding type_body start
  body_equations P h =
      at_then P (declare_types rows cells n.types) (λ u. behind_types n rows cells) (types_silent rows cells n.types) (start fixed_types own) tt (start (declared rows cells n.types) own)
      (types_declared n rows cells w own)
      (at_confined P (declared rows cells n.types) (λ s m. h s (four_deep n rows cells w s.rows m)) n (behind_types n rows cells) (behind_types_confined n rows cells w (any_known n (body_with n rows cells))).by (start (declared rows cells n.types) own)
      (more_same (declared rows cells n.types)))

-- Of NeverMet: the theorems that rest on a declaration which an edit of a definition in specs/ refuses. The definitions and the other theorems stand in
-- specs/NeverMet.antt. Assumes nothing.
use Rattle.std.specs.Prelude.{◌≡◌, List, ℕ}
use Rattle.std.proofs.Math.Path.{sym}
use Rattle.std.proofs.Common.{◌∙◌}
use Rattle.theory.specs.Program.{run, run_bind}
use Rattle.theory.specs.Start.{start}
use Rattle.type_table.specs.Sound.{fixed_types}
use Rattle.refs.specs.declared.Counts.{Counts}
use Rattle.nodes.specs.Nodes.{fn_line}
use Rattle.record.specs.Own.{Own, blank}
use Rattle.record.specs.Steps.{State}
use Rattle.resolve.specs.Resolve.{declare_types, result, typeck, body_with, type_body}
use Rattle.resolve.specs.Body.{first_state}
use Rattle.well_formed.specs.Good.{WellFormed}
use Rattle.well_formed.specs.Weight.{body_in}
use Rattle.bounds.specs.Weights.{body_lower}
use Rattle.bounds.specs.Body.{params_adds, result_adds, resolve_nodes_adds}
use Rattle.bounds.specs.Declared.{behind_types, types_declared, body_behind}
use Rattle.bounds.specs.Refers.{refers, fn_params}
use Rattle.bounds.specs.Confined.{Any, any_known}
use Rattle.bounds.specs.ConfinedWalk.{params_confined}
use Rattle.bounds.proofs.ConfinedWalk.{behind_types_confined, typeck_confined}
use Rattle.bounds.specs.InRows.{declared_state}
use Rattle.bounds.specs.Origins.{OriginsOf, run_origins}
use Rattle.bounds.specs.Alike.{Same, bind_same, raws_kept, Alike, leaf, bind_alike}
use Rattle.bounds.proofs.WalkAlike.{expr_alike}
use Rattle.bounds.specs.Defaults.{Defaults, other_typeck, other_behind, other_body}
use Rattle.bounds.specs.NeverMet.{body_expr, nodes_same, part_same, start_whole}
use Rattle.bounds.specs.NeverMet as held

-- ── a body ──

module _ (n : Counts) (rows cells : List ℕ) (w : WellFormed n rows cells) (D : Defaults) where
  -- what holds of each state between the parts of a body
  abbrev Whole : State → Type 0
  Whole = held.Whole n rows cells w D

  -- BODY and its result
  typeck_alike : Alike n.nodes (typeck (body_with n rows cells) (fn_line rows cells).body.0) (other_typeck D (body_with n rows cells) (fn_line rows cells).body.0)
  unfolding typeck other_typeck fn_line
  typeck_alike =
      let h = body_lower n rows cells w in
      bind_alike (expr_alike n rows cells w D 64 (body_in rows cells) h (w.depth (body_in rows cells) h) (body_expr n rows cells w D)) (λ y. leaf (result_adds n rows cells w (body_in rows cells) y))

  -- what a body runs behind its type lines
  behind_same : Same Whole (behind_types n rows cells) (other_behind D n rows cells)
  unfolding other_behind
  behind_same =
      let K = any_known n (body_with n rows cells) in
      bind_same (part_same n rows cells w D (leaf (params_adds n rows cells w _)) (params_confined K (refers n rows cells w) _ (fn_params n rows cells w)))
      (λ u. bind_same (part_same n rows cells w D typeck_alike (typeck_confined n rows cells w K))
      (λ v. record {
        by = λ s r. (nodes_same n w.limited.nodes (body_with n rows cells) D n.nodes).by s r.1;
        holds = λ s r. (raws_kept ((resolve_nodes_adds n.nodes).larger s).kept r.0, (nodes_same n w.limited.nodes (body_with n rows cells) D n.nodes).holds s r.1);
      }))

  -- a body runs as with any other answers in the place of the defaults
  pub never_met : run (other_body D n rows cells) (first_state rows cells) ≡ run (type_body n rows cells) (first_state rows cells)
  unfolding other_body
  never_met =
      let o : Own = blank (fn_line rows cells).output.0 in
      let e : run (other_body D n rows cells) (first_state rows cells) ≡ run (other_behind D n rows cells) (declared_state n rows cells) =
      rw (run_bind (declare_types rows cells n.types) (λ u. other_behind D n rows cells) (start fixed_types o), types_declared n rows cells w o) in
      e ∙ sym (behind_same.by (declared_state n rows cells) (start_whole n rows cells w D)) ∙ sym (body_behind n rows cells w o)

-- the variables in the state in which a body ends have their origins
pub body_origins : (n : Counts) (rows cells : List ℕ) → WellFormed n rows cells → OriginsOf n.nodes (run (type_body n rows cells) (first_state rows cells)).1
unfolding start blank
body_origins n rows cells w =
    rw (body_behind n rows cells w (blank (fn_line rows cells).output.0))
    (run_origins Any n (behind_types n rows cells) (behind_types_confined n rows cells w (any_known n (body_with n rows cells))).by (declared_state n rows cells) tt)

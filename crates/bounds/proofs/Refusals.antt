-- Of Refusals: the theorems that rest on a declaration which an edit of a definition in specs/ refuses. The definitions and the other theorems stand in
-- specs/Refusals.antt. Assumes nothing.
use Rattle.std.specs.Prelude.{◌≡◌, List, ℕ}
use Rattle.std.proofs.Math.Option.{some}
use Rattle.theory.specs.Program.{run}
use Rattle.theory.specs.Start.{start}
use Rattle.type_table.specs.Sound.{fixed_types}
use Rattle.refs.specs.declared.Counts.{Counts}
use Rattle.record.specs.Own.{Own}
use Rattle.resolve.specs.Resolve.{body_with, type_body}
use Rattle.well_formed.specs.Good.{WellFormed}
use Rattle.bounds.specs.Declared.{declared, behind_types, body_behind}
use Rattle.bounds.specs.Confined.{Placed, any_known}
use Rattle.bounds.proofs.ConfinedWalk.{behind_types_confined}
use Rattle.bounds.specs.Refusals.{PlacedBy, run_placed}

module _ (n : Counts) (rows cells : List ℕ) (w : WellFormed n rows cells) (own : Own) where
  -- a body leaves no other refusal
  body_stop : PlacedBy n.nodes (run (type_body n rows cells) (start fixed_types own)).1.stop
  unfolding start
  body_stop =
      rw (body_behind n rows cells w own)
      (run_placed n (behind_types n rows cells) (behind_types_confined n rows cells w (any_known n (body_with n rows cells))).by (start (declared rows cells n.types) own) tt)

  -- so its number is 10 to 13 and its place is a node
  pub body_placed : (k p : ℕ) → (run (type_body n rows cells) (start fixed_types own)).1.stop ≡ some (k, p) → Placed n.nodes k p
  body_placed k p e = rw e at body_stop

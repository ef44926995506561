-- Of Instances: the theorems that rest on a declaration which an edit of a definition in specs/ refuses. The definitions and the other theorems stand in
-- specs/Instances.antt. Assumes nothing.
use Rattle.std.specs.Prelude.{List, ℕ}
use Rattle.std.proofs.Common.{sym, arith}
use Rattle.std.proofs.Math.Path.{subst}
use Rattle.std.proofs.Math.Option.{Option}
use Rattle.theory.specs.Rules.{Shape, Kind, row, kind}
use Rattle.theory.specs.Program.{Equation}
use Rattle.theory.specs.Basics.{All, all_map}
use Rattle.theory.specs.Ways.{Ty, basic, array_of, Way, Kinded, Meets}
use Rattle.theory.specs.Start.{start}
use Rattle.refs.specs.declared.Counts.{Counts}
use Rattle.nodes.specs.Nodes.{fn_line}
use Rattle.record.specs.Own.{blank}
use Rattle.record.specs.Steps.{State}
use Rattle.resolve.specs.Body.{last_state}
use Rattle.well_formed.specs.Good.{WellFormed}
use Rattle.bounds.specs.Declared.{declared, behind_types, body_behind}
use Rattle.bounds.specs.Refers.{Declared}
use Rattle.bounds.specs.Confined.{Any}
use Rattle.bounds.proofs.ConfinedWalk.{behind_types_confined}
use Rattle.bounds.specs.InRows.{parts_more, declared_state, declared_parts, known}
use Rattle.bounds.specs.Instances.{RowsOf, TypeOf, WayOf, meets_trimmed, run_of, trim, trim_base_of, trim_fits}
use Rattle.bounds.specs.Instances as held

-- ── a way without other instances ──

-- in a type
trim_of : (k : ℕ) (t : Ty) → TypeOf k (trim k t)
trim_of k (basic b) = trim_base_of k b
trim_of k (array_of t) = trim_of k t

module _ (N : Counts) (rows : List Shape) (h : RowsOf N rows) (w : Way) where
  -- the way without other instances
  abbrev trimmed : Way
  trimmed = held.trimmed N rows h w

  -- so where a way meets equations, one of the file's own instances does
  way_trimmed : (kinds : List Kind) (l : List Equation) → Kinded kinds w → All (Meets rows w) l → (v : Way) × WayOf N.insts v × Kinded kinds v × All (Meets rows v) l
  way_trimmed kinds l k m = (trimmed, λ v. trim_of N.insts (w v), λ v. trim_fits N.insts (kind kinds v) (w v) (k v), all_map (Meets rows w) (Meets rows trimmed) l (meets_trimmed N rows h w) m)

-- ── a body ──

module _ (n : Counts) (rows cells : List ℕ) (w : WellFormed n rows cells) where
  -- the rows in which a body ends
  body_of : RowsOf n (last_state n rows cells).rows
  unfolding start
  body_of =
      subst (λ (r : Option (Unit {0}) × State). RowsOf n r.1.rows) (sym (body_behind n rows cells w (blank (fn_line rows cells).output.0)))
      (run_of n (behind_types n rows cells) (behind_types_confined n rows cells w (known n rows cells w Any (λ x l. tt))).by (declared_state n rows cells)
      (λ x. parts_more n (Declared n) Any (λ y l. tt) (row (declared rows cells n.types) x) (declared_parts n rows cells w n.types (omega arith) x)))

  -- where a way meets its equations, one of the instances of the file does
  pub body_way : let s = last_state n rows cells in (v : Way) → Kinded s.kinds v → All (Meets s.rows v) s.log → (u : Way) × WayOf n.insts u × Kinded s.kinds u × All (Meets s.rows u) s.log
  body_way v = let s = last_state n rows cells in way_trimmed n s.rows body_of v s.kinds s.log

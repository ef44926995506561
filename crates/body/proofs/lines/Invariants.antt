use mathlib.Core.Path.{◌≡◌}
use Prim.Native.Nat.{◌+◌, ◌-◌, ◌<◌, ◌≤◌}
use lib.ListN.{length}
use Rattle.lex.specs.Text.{parts_from}
use Rattle.body.specs.Body.{lines_from, first}
use Rattle.body.proofs.lines.Given as goal

abbrev pub invariant-loop-p : goal.invariant-loop-p
invariant-loop-p l = (l.p ≤ length l.s) × ((0 < l.line) × (l.line ≤ l.p + 1)) × (l.st.counts.fields ≤ l.p) × (lines_from (parts_from 10 0 l.s) 1 first l.initial.cells l.initial.rows ≡ lines_from (parts_from 10 l.p l.s) l.line l.st l.cells l.rows)

abbrev pub decreases-loop-p : goal.decreases-loop-p
decreases-loop-p l = length l.s - l.p

use Prim.Native.Nat.{◌+◌, ◌-◌, ◌≤◌}
use mathlib.Core.Path.{◌≡◌}
use lib.ListN.{length}
use Rattle.lex.specs.Text.{fields_from}
use Rattle.forms.specs.Form.{fill, cells_from}
use Rattle.forms.proofs.fields.Given as goal

abbrev pub invariant-loop-p : goal.invariant-loop-p
invariant-loop-p l = (l.p ≤ length l.v + 1) × (l.i ≤ l.p) × (length l.t ≡ length l.initial.t) × (fill 0 l.initial.t l.at (cells_from l.f 0 (fields_from l.start l.v)) ≡ fill l.i l.t (l.at + l.i) (cells_from l.f l.i (fields_from l.p l.v)))

abbrev pub decreases-loop-p : goal.decreases-loop-p
decreases-loop-p l = length l.v + 1 - l.p

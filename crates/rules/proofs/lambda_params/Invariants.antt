use mathlib.Core.Path.{◌≡◌}
use Prim.Native.Nat.{◌-◌}
use lib.ListN.{length}
use Rattle.record.specs.Steps.{for_each}
use Rattle.record.specs.Loops.{Onto}
use Rattle.rules.specs.Rules.{lambda_params, lambda_param_at}
use Rattle.rules.proofs.lambda_params.Given as goal

abbrev pub invariant-loop-i : goal.invariant-loop-i
invariant-loop-i l =
    Onto l.initial.m l.initial.d l.m l.d (lambda_params l.body.rows.now l.body.cells.now l.t) (for_each l.i (l.t.count - l.i) (lambda_param_at l.body.rows.now l.body.cells.now l.t))
    × (length l.m ≡ length l.initial.m)

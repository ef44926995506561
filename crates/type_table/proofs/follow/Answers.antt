use mathlib.Core.Path.{◌∙◌}
use native.Mathlib.Omega.{arith}
use Rattle.type_table.proofs.Laws.{end_start, end_on}
use Rattle.type_table.proofs.follow.Goals as goal

pub loop-step-init : goal.loop-step-init
loop-step-init c = end_start _ _ _ _ (omega arith)

pub loop-step-preserved : goal.loop-step-preserved
loop-step-preserved c = end_on _ _ _ _ _ c.in-Some.z (omega arith) (c.in-Some.ensures) ∙ c.loop-step.invariant

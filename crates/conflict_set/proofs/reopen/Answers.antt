use native.Mathlib.Omega.{arith}
use mathlib.Core.Path.{refl}
use Rattle.conflict_set.specs.Laws.{reopened_turn, reopened_end}
use Rattle.conflict_set.specs.In.{reopened}
use Rattle.conflict_set.proofs.reopen.Goals as goal

pub loop-v-init : goal.loop-v-init
unfolding reopened
loop-v-init c = refl

pub loop-v-preserved : goal.loop-v-preserved
loop-v-preserved c = reopened_turn _ _ _ _ _ (c.loop-v.invariant) (c.write.ensures) (c.write-in-loop-v.ensures)

pub returns : goal.returns
returns c = reopened_end _ _ _ _ (c.loop-v.invariant) (omega arith) (c.loop-v-test.false)

use mathlib.Core.Path.{refl, ◌∙◌}
use native.Mathlib.Omega.{arith}
use Rattle.conflict_set.specs.TextLaws.{set_none, set_next, set_all}
use Rattle.conflict_set.proofs.put_set.Goals as goal

pub loop-place-init : goal.loop-place-init
loop-place-init c = (set_none _ _ _ _, refl)

pub loop-place-preserved : goal.loop-place-preserved
loop-place-preserved c = (set_next _ _ _ _ _ _ _ _ _ _ (c.read-q.ensures) (c.loop-place.invariant.0) (c.put_equation-d.ensures), (c.put_equation-d.auto.out) ∙ (c.loop-place.invariant.1))

pub returns : goal.returns
returns c = set_all _ _ _ _ _ _ _ _ (omega arith) (c.loop-place-test.false) (c.loop-place.invariant.0)

use mathlib.Core.Path.{refl, ◌∙◌}
use Rattle.tables.proofs.TypeLaws.{inputs_none, inputs_more, inputs_all}
use Rattle.tables.proofs.put_inputs.Goals as goal

pub loop-i-init : goal.loop-i-init
loop-i-init c = (inputs_none _ _ _ _, refl)

pub loop-i-preserved : goal.loop-i-preserved
loop-i-preserved c = (inputs_more _ _ _ _ _ _ _ _ c.input-x.ensures c.loop-i.invariant.0 c.write.ensures, c.write.auto.t ∙ c.loop-i.invariant.1)

pub shape_of-t : goal.shape_of-t
shape_of-t c = c.loop-i.invariant.1

pub returns : goal.returns
returns c = inputs_all _ _ _ _ _ _ _ c.loop-i.auto.i-end c.loop-i-test.false c.loop-i.invariant.0

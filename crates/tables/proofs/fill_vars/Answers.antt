use mathlib.Core.Path.{refl, ◌∙◌}
use Rattle.tables.proofs.CellLaws.{cells_none}
use Rattle.tables.proofs.VarLaws.{vars_more, vars_filled}
use Rattle.tables.proofs.fill_vars.Goals as goal

pub loop-v-init : goal.loop-v-init
loop-v-init c = (cells_none _ _ _, refl)

pub loop-v-preserved : goal.loop-v-preserved
loop-v-preserved c = (vars_more _ _ _ _ _ _ c.loop-v.invariant.0 c.put_var.ensures, c.put_var.auto.t ∙ c.loop-v.invariant.1)

pub shape_of-t : goal.shape_of-t
shape_of-t c = c.zero_from.auto.t ∙ c.loop-v.invariant.1

pub returns : goal.returns
returns c = vars_filled _ _ _ _ _ _ c.loop-v.auto.v-end c.loop-v-test.false c.loop-v.invariant.0 c.zero_from.ensures

use borrow.Author.Rules.{rules}
use native.Mathlib.Omega.{arith}
use mathlib.Core.Path.{refl, ◌∙◌}
use Rattle.tables.proofs.CellLaws.{cells_none}
use Rattle.tables.proofs.TypeLaws.{count_none, count_more, types_more, types_all}
use Rattle.tables.proofs.put_types.Goals as goal

pub loop-i-init : goal.loop-i-init
loop-i-init c = (cells_none _ _ _, count_none _ _ c.args.first, search rules, refl)

pub overflow_add-first : goal.overflow_add-first
overflow_add-first c = omega (arith, c.made_count-n.ensures.1, c.loop-i-test.true)

pub overflow_add-k : goal.overflow_add-k
overflow_add-k c = omega (arith, c.loop-i.invariant.2)

pub loop-i-preserved : goal.loop-i-preserved
loop-i-preserved c = (types_more _ _ _ _ _ c.fields_in-r.ensures _ _ _ _ c.loop-i.invariant.1 c.loop-i.invariant.0 c.put_type.ensures, count_more _ _ _ _ _ c.fields_in-r.ensures _ c.loop-i.invariant.1, omega (arith, c.loop-i.invariant.2), c.put_type.auto.t ∙ c.loop-i.invariant.3)

pub shape_of-t : goal.shape_of-t
shape_of-t c = c.zero_cells.auto.t ∙ c.loop-i.invariant.3

pub returns : goal.returns
returns c = types_all _ _ _ _ _ _ _ _ c.made_count-n.ensures.0 c.loop-i.auto.i-end c.loop-i-test.false c.loop-i.invariant.0 c.zero_cells.ensures

use mathlib.Core.Path.{◌∙◌}
use Rattle.record.specs.InTables.{tables_same}
use Rattle.record.proofs.InputLaws.{rest_same, rest_more, rest_last, push_in_tables}
use Rattle.record.proofs.push_types.Goals as goal

pub loop-i-init : goal.loop-i-init
loop-i-init c = (rest_same _ _ _ _, tables_same _)

pub loop-i-preserved : goal.loop-i-preserved
loop-i-preserved c = (rest_more (λ x. x) _ _ _ _ _ _ _ _ _ c.loop-i-test.true c.item.ensures c.push_input-d.ensures ∙ c.loop-i.invariant.0, push_in_tables _ _ _ _ _ _ c.loop-i.invariant.1 c.push_input-d.ensures)

pub shape_of-m : goal.shape_of-m
shape_of-m c = c.loop-i.invariant.1.size

pub returns : goal.returns
returns c = rest_last (λ x. x) _ _ _ c.args.t _ _ c.loop-i-test.false ∙ c.loop-i.invariant.0

use mathlib.Core.Path.{◌∙◌}
use Rattle.record.specs.InTables.{tables_same}
use Rattle.record.proofs.InputLaws.{rest_first, rest_more, rest_last, type_kept, push_in_tables}
use Rattle.record.proofs.push_node_types.Goals as goal

pub loop-i-init : goal.loop-i-init
loop-i-init c = (rest_first _ _ _ _ _, tables_same _)

pub loop-i-preserved : goal.loop-i-preserved
loop-i-preserved c = (rest_more _ _ _ _ _ _ _ _ _ _ c.loop-i-test.true (type_kept _ _ _ _ _ c.loop-i.invariant.1 c.item.ensures c.type_or_nil-x.ensures) c.push_input-d.ensures ∙ c.loop-i.invariant.0, push_in_tables _ _ _ _ _ _ c.loop-i.invariant.1 c.push_input-d.ensures)

pub shape_of-m : goal.shape_of-m
shape_of-m c = c.loop-i.invariant.1.size

pub returns : goal.returns
returns c = rest_last _ _ _ _ c.args.t _ _ c.loop-i-test.false ∙ c.loop-i.invariant.0

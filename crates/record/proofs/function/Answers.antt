use Rattle.nodes.specs.Numbers.{length_items}
use Rattle.record.proofs.InputLaws.{function_gives, function_none}
use Rattle.record.proofs.function.Goals as goal

pub returns-then-o-c : goal.returns-then-o-c
returns-then-o-c c = function_none _ _ _ _ _ c.if-o-c.true

pub returns : goal.returns
returns c = function_gives _ _ _ _ _ _ _ _ _ _ _ c.with_made.ensures c.if-o-c.false (length_items _ _) c.push_types-d.ensures c.function.ensures

use Rattle.nodes.specs.Numbers.{length_items}
use Rattle.record.proofs.InputLaws.{lambda_gives, lambda_none}
use Rattle.record.proofs.lambda.Goals as goal

pub returns-then-o-c : goal.returns-then-o-c
returns-then-o-c c = lambda_none _ _ _ _ _ c.if-o-c.true

pub returns : goal.returns
returns c = lambda_gives _ _ _ _ _ _ _ _ _ _ _ c.with_made.ensures c.if-o-c.false (length_items _ _) c.push_node_types-d.ensures c.lambda.ensures

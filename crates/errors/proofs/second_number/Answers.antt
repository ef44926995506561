use Rattle.errors.proofs.ErrorLaws.{second_none, second_node}
use Rattle.errors.proofs.second_number.Goals as goal

pub returns-then-q-eq0 : goal.returns-then-q-eq0
returns-then-q-eq0 c = (second_none _ _ c.if-q-eq0.true).1

pub returns-else-q-eq0 : goal.returns-else-q-eq0
returns-else-q-eq0 c = (second_node _ _ c.if-q-eq0.false).1

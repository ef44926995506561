use Rattle.rules.proofs.Laws.{amounts_right, amounts_wrong}
use Rattle.rules.proofs.amounts.Goals as goal

pub returns-then-k-given : goal.returns-then-k-given
returns-then-k-given c = amounts_right _ _ _ _ _ _ c.input_count-k.ensures c.if-k-given.true

pub returns-else-k-given : goal.returns-else-k-given
returns-else-k-given c = amounts_wrong _ _ _ _ _ _ c.input_count-k.ensures c.if-k-given.false c.own_error.ensures

use Rattle.rules.proofs.Laws.{condition_bool, condition_other}
use Rattle.rules.proofs.condition.Goals as goal

pub returns-then-x-eq-BOOL : goal.returns-then-x-eq-BOOL
returns-then-x-eq-BOOL c = condition_bool _ _ c.if-x-eq-BOOL.true

pub returns-else-x-eq-BOOL : goal.returns-else-x-eq-BOOL
returns-else-x-eq-BOOL c = condition_other _ _ c.if-x-eq-BOOL.false c.own_error.ensures

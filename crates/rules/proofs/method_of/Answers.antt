use Rattle.rules.proofs.Laws.{method_err, method_none, method_there}
use Rattle.rules.proofs.method_of.Goals as goal

pub returns-then-x-eq-ERR : goal.returns-then-x-eq-ERR
returns-then-x-eq-ERR c = record { by = method_err _ _ _ _ _ c.if-x-eq-ERR.true }

pub returns-in-Some : goal.returns-in-Some
returns-in-Some c = record { by = method_there _ _ _ _ _ _ c.method.ensures c.if-x-eq-ERR.false _ c.in-Some.is (c.set_extra.ensures _) }

pub returns-in-None : goal.returns-in-None
returns-in-None c = record { by = method_none _ _ _ _ _ _ c.method.ensures c.if-x-eq-ERR.false c.in-None.is c.own_error.ensures }

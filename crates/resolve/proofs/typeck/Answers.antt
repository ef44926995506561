use Rattle.record.specs.Runs.{type_is, type_refused}
use Rattle.rules.specs.Exits.{exit_rule}
use Rattle.resolve.proofs.Laws.{typeck_off, typeck_on}
use Rattle.resolve.proofs.typeck.Goals as goal

pub returns : goal.returns
returns c = typeck_on _ _ _ (type_is c.in_ok-d.was c.body_type.ensures) c.result.ensures

pub returns-in_err-d : goal.returns-in_err-d
returns-in_err-d c = exit_rule c.in_err-d.was _ c.from_residual.ensures (typeck_off _ _ _ _ (type_refused c.in_err-d.was c.body_type.ensures))

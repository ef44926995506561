use Rattle.rules.specs.Exits.{exit}
use Rattle.rules.proofs.Laws.{lambda_made, lambda_refused}
use Rattle.record.specs.Runs.{rule_done, rule_refused, typed_type, typed_type, typed_type}
use Rattle.rules.proofs.lambda.Goals as goal

pub returns : goal.returns
returns c = lambda_made _ _ _ _ _ _ _ c.mismatch.ensures (rule_done c.in_ok-d.was c.equate_on.ensures) (typed_type c.lambda-r.ensures)

pub returns-in_err-d : goal.returns-in_err-d
returns-in_err-d c = exit c.in_err-d.was _ c.from_residual.ensures (lambda_refused _ _ _ _ _ _ _ _ _ c.mismatch.ensures (rule_refused c.in_err-d.was c.equate_on.ensures))

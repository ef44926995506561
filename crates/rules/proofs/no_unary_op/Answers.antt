use Rattle.rules.proofs.Laws.{no_op_err}
use Rattle.record.specs.Runs.{typed_type}
use Rattle.rules.proofs.no_unary_op.Goals as goal

pub returns : goal.returns
returns c = typed_type (no_op_err _ _ (c.own_error-d.ensures))

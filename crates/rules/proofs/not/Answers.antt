use Rattle.rules.proofs.Laws.{not_number, not_other}
use Rattle.record.specs.Runs.{typed_type}
use Rattle.rules.proofs.not.Goals as goal

pub returns-then-head-le-HEAD_INT : goal.returns-then-head-le-HEAD_INT
returns-then-head-le-HEAD_INT c = typed_type (not_number _ _ _ c.head.ensures c.if-head-le-HEAD_INT.true)

pub returns-else-head-le-HEAD_INT : goal.returns-else-head-le-HEAD_INT
returns-else-head-le-HEAD_INT c = not_other _ _ _ c.head.ensures c.if-head-le-HEAD_INT.false c.no_unary_op.ensures

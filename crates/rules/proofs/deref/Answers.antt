use Rattle.rules.proofs.Laws.{deref_other, deref_ref}
use Rattle.record.specs.Runs.{typed_type}
use Rattle.rules.proofs.deref.Goals as goal

pub returns-then-head-eq-HEAD_REF : goal.returns-then-head-eq-HEAD_REF
returns-then-head-eq-HEAD_REF c = typed_type (deref_ref _ _ _ c.head.ensures _ c.if-head-eq-HEAD_REF.true c.element.ensures)

pub returns-else-head-eq-HEAD_REF : goal.returns-else-head-eq-HEAD_REF
returns-else-head-eq-HEAD_REF c = deref_other _ _ _ c.head.ensures c.if-head-eq-HEAD_REF.false c.no_unary_op.ensures

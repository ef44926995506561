use native.Mathlib.Omega.{arith}
use Rattle.rules.proofs.Laws.{negate_int, negate_other, negate_variable}
use Rattle.record.specs.Runs.{typed_type}
use Rattle.rules.proofs.negation.Goals as goal

pub returns-in-2 : goal.returns-in-2
returns-in-2 c = typed_type (negate_int _ _ _ c.head.ensures c.in-2.is)

pub returns-in-12 : goal.returns-in-12
returns-in-12 c = typed_type (negate_variable _ _ _ c.head.ensures _ c.in-12.is c.var_of.ensures c.mark.ensures)

pub returns-in_default : goal.returns-in_default
returns-in_default c = negate_other _ _ c.head.result c.head.ensures (λ e. omega arith) (λ e. omega arith) c.no_unary_op.ensures

use native.Mathlib.Omega.{arith}
use Rattle.rules.proofs.Laws.{field-there, field_absent, field_err, field_inst, field_other}
use Rattle.record.specs.Runs.{typed_type}
use Rattle.rules.proofs.field.Goals as goal

pub returns-in-Some : goal.returns-in-Some
returns-in-Some c = field_inst _ _ _ _ _ _ c.head.ensures _ _ c.in-5.is c.inst_of.ensures c.field_type.ensures (typed_type (field-there _ _ _ _ _ c.in-Some.is))

pub returns-in-None : goal.returns-in-None
returns-in-None c = field_inst _ _ _ _ _ _ c.head.ensures _ _ c.in-5.is c.inst_of.ensures c.field_type.ensures (typed_type (field_absent _ _ _ _ c.in-None.is c.own_error-r.ensures))

pub returns-in-10 : goal.returns-in-10
returns-in-10 c = typed_type (field_err _ _ _ _ _ _ c.head.ensures c.in-10.is)

pub returns-in_default : goal.returns-in_default
returns-in_default c = typed_type (field_other _ _ _ _ _ c.head.result c.head.ensures (λ e. omega arith) (λ e. omega arith) c.own_error-r-in_default.ensures)

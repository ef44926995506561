use Rattle.record.proofs.EquationLaws.{equation_met, equation_mismatch, equation_12, equation_13}
use Rattle.record.proofs.raise.Goals as goal

pub returns-in-Success : goal.returns-in-Success
returns-in-Success c = equation_met _ _ _ _ _ _ _ c.unify.ensures c.in-Success.is _ _ c.log.ensures

pub returns-in-Mismatch : goal.returns-in-Mismatch
returns-in-Mismatch c = equation_mismatch _ _ _ _ _ _ _ c.unify.ensures c.in-Mismatch.is _ _ c.log-in-Mismatch.ensures

pub returns-in-Refused12 : goal.returns-in-Refused12
returns-in-Refused12 c = equation_12 _ _ _ _ _ _ _ c.unify.ensures c.in-Refused12.is _ _ c.log-in-Refused12.ensures

pub returns-in-Refused13 : goal.returns-in-Refused13
returns-in-Refused13 c = equation_13 _ _ _ _ _ _ _ c.unify.ensures c.in-Refused13.is _ _ c.log-in-Refused13.ensures

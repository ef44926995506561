use native.Mathlib.Omega.{arith}
use Rattle.record.proofs.EquationLaws.{log_full, log_written_lem}
use Rattle.record.proofs.log.Goals as goal

pub returns-then-c-eq65535 : goal.returns-then-c-eq65535
returns-then-c-eq65535 c = log_full _ _ _ _ _ (omega arith)

pub returns : goal.returns
returns c = log_written_lem _ _ _ _ _ _ _ _ _ _ c.clip.ensures c.clip-2.ensures c.write.ensures c.write-2.ensures c.write-3.ensures

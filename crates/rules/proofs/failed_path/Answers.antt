use Rattle.rules.proofs.Laws.{failed_e, failed_inst, failed_none}
use Rattle.record.specs.Runs.{typed_refused, typed_type}
use Rattle.rules.proofs.failed_path.Goals as goal

pub returns-in-Inst : goal.returns-in-Inst
returns-in-Inst c = failed_inst _ _ _ _ _ _ c.in-Inst.is c.inst_path.ensures

pub returns-in-Error : goal.returns-in-Error
returns-in-Error c = typed_type (failed_e _ _ _ _ _ c.in-Error.is (c.set_extra.ensures _))

pub returns-in-Local : goal.returns-in-Local
returns-in-Local c = typed_refused (failed_none _ _ _ _ _ c.in-Local.is)

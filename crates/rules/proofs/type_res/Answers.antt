use Rattle.rules.proofs.Laws.{local_typed, local_untyped, res_def, res_error, res_inst, res_other}
use Rattle.record.specs.Runs.{typed_refused, typed_type}
use Rattle.rules.proofs.type_res.Goals as goal

pub returns-in-Some : goal.returns-in-Some
returns-in-Some c = typed_type (local_typed _ _ _ c.in-Local.is _ c.node_type.ensures _ c.in-Some.is)

pub returns-in-None : goal.returns-in-None
returns-in-None c = typed_refused (local_untyped _ _ _ c.in-Local.is _ c.node_type.ensures c.in-None.is)

pub returns-in-Fn : goal.returns-in-Fn
returns-in-Fn c = res_def _ _ _ c.in-Fn.is c.fn_type.ensures

pub returns-in-Inst : goal.returns-in-Inst
returns-in-Inst c = typed_type (res_inst _ _ _ c.in-Inst.is c.instance-g.ensures)

pub returns-in-Error : goal.returns-in-Error
returns-in-Error c = typed_type (res_error _ _ c.in-Error.is)

pub returns-in-Other : goal.returns-in-Other
returns-in-Other c = typed_refused (res_other _ _ c.in-Other.is)

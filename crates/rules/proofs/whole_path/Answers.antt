use Rattle.rules.specs.Exits.{exit}
use Rattle.rules.proofs.Laws.{whole_is, whole_refused}
use Rattle.record.specs.Runs.{type_is, type_refused, typed_type}
use Rattle.rules.proofs.whole_path.Goals as goal

pub returns : goal.returns
returns c = typed_type (whole_is _ _ _ (type_is c.in_ok-d.was c.type_res.ensures) (c.set_extra.ensures _))

pub returns-in_err-d : goal.returns-in_err-d
returns-in_err-d c = exit c.in_err-d.was _ c.from_residual.ensures (whole_refused _ _ _ _ (type_refused c.in_err-d.was c.type_res.ensures))

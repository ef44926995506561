use Rattle.rules.specs.Exits.{exit}
use native.Mathlib.Omega.{arith}
use Rattle.rules.proofs.Laws.{inst_found, inst_refused, inst_short}
use Rattle.record.specs.Runs.{type_is, type_refused, typed_refused}
use Rattle.rules.proofs.inst_path.Goals as goal

pub returns-then-resolved-from : goal.returns-then-resolved-from
returns-then-resolved-from c = typed_refused (inst_short _ _ _ _ (omega (arith, c.if-resolved-from.true, c.from.ensures)))

pub returns : goal.returns
returns c = inst_found _ _ _ _ (omega (arith, c.if-resolved-from.false, c.from.ensures)) _ _ c.segment_name-name.ensures c.segment_res-last.ensures _ (type_is c.in_ok-d.was c.type_res.ensures) c.path_method.ensures

pub returns-in_err-d : goal.returns-in_err-d
returns-in_err-d c = exit c.in_err-d.was _ c.from_residual.ensures (inst_refused _ _ _ _ (omega (arith, c.if-resolved-from.false, c.from.ensures)) _ _ c.segment_name-name.ensures c.segment_res-last.ensures _ _ (type_refused c.in_err-d.was c.type_res.ensures))

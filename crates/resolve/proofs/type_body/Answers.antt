use Rattle.record.specs.Runs.{rule_done, rule_refused}
use Rattle.resolve.proofs.Laws.{body_done, body_refused}
use Rattle.resolve.proofs.type_body.Goals as goal

pub returns : goal.returns
returns c = body_done _ _ _ _ c.fn_line-f.ensures _ c.start-c.ensures c.declare_types-d.ensures (c.params.ensures _) (rule_done c.in_ok-e.was c.typeck.ensures) c.resolve_nodes.ensures

pub returns-in_err-e : goal.returns-in_err-e
returns-in_err-e c = body_refused _ _ _ _ c.fn_line-f.ensures _ c.start-c.ensures c.declare_types-d.ensures (c.params.ensures _) _ c.from_residual.ensures (rule_refused c.in_err-e.was c.typeck.ensures)

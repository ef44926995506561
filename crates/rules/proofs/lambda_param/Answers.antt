use Rattle.rules.proofs.Laws.{param_declared, param_drawn}
use Rattle.rules.proofs.lambda_param.Goals as goal

pub returns-in-Some : goal.returns-in-Some
returns-in-Some c = param_declared _ _ _ _ (c.declared.ensures) (c.in-Some.is) (c.set_node_type.ensures _)

pub returns-in-None : goal.returns-in-None
returns-in-None c = param_drawn _ _ _ _ (c.declared.ensures) (c.in-None.is) (c.new_infer_var-r.ensures) (c.set_node_type-in-None.ensures _)

use Rattle.rules.proofs.Laws.{output_declared, output_drawn}
use Rattle.rules.proofs.lambda_output.Goals as goal

pub returns-in-Some : goal.returns-in-Some
returns-in-Some c = output_declared _ _ _ _ (c.in-Some.is) (c.new_infer_var-r.ensures)

pub returns-in-None : goal.returns-in-None
returns-in-None c = output_drawn _ _ _ (c.in-None.is) (c.new_infer_var-r.ensures)

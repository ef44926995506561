use borrow.Author.Rules.{rules}
use Rattle.rules.proofs.Laws.{params_first, params_last, params_next}
use Rattle.rules.proofs.lambda_params.Goals as goal

pub loop-i-init : goal.loop-i-init
loop-i-init c = (params_first _ _ _, search rules)

pub loop-i-preserved : goal.loop-i-preserved
loop-i-preserved c = (params_next _ _ _ _ _ _ c.loop-i-test.true c.item.ensures c.loop-i.invariant.0 c.lambda_param-d.ensures, search rules)

pub returns : goal.returns
returns c = params_last _ _ _ _ _ c.loop-i-test.false c.loop-i.invariant.0

use borrow.Author.Rules.{rules}
use Rattle.resolve.proofs.Laws.{params_first, params_last, params_next}
use Rattle.resolve.proofs.params.Goals as goal

pub loop-i-init : goal.loop-i-init
loop-i-init c = ((λ z. params_first _ _ _), search rules)

pub loop-i-preserved : goal.loop-i-preserved
loop-i-preserved c = ((λ z. params_next _ _ _ _ _ _ c.loop-i-test.true c.item.ensures (c.loop-i.invariant.0 z) (c.param.ensures z)), search rules)

pub returns : goal.returns
returns c = (λ z. params_last _ _ _ _ _ c.loop-i-test.false (c.loop-i.invariant.0 z))

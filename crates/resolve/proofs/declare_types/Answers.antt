use borrow.Author.Rules.{rules}
use Rattle.resolve.proofs.Laws.{lines-first, lines_last, lines_next}
use Rattle.resolve.proofs.declare_types.Goals as goal

pub loop-i-init : goal.loop-i-init
loop-i-init c = (lines-first _ _ _, search rules)

pub loop-i-preserved : goal.loop-i-preserved
loop-i-preserved c = (lines_next _ _ _ _ c.loop-i-test.true c.loop-i.invariant.0 c.declare_type-d.ensures, search rules)

pub returns : goal.returns
returns c = lines_last _ _ _ _ c.loop-i-test.false c.loop-i.invariant.0

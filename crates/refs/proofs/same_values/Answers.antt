use Rattle.std.proofs.Common.{rules}
use Rattle.refs.proofs.Laws.{same_all, same_not, same_more}
use Rattle.refs.proofs.same_values.Goals as goal

pub returns-then-value_of : goal.returns-then-value_of
returns-then-value_of c = search (rules, same_not)

pub loop-i-preserved : goal.loop-i-preserved
loop-i-preserved c = search (rules, same_more)

pub returns : goal.returns
returns c = search (rules, same_all)

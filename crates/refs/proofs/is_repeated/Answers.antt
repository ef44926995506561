use Rattle.std.proofs.Common.{rules}
use Rattle.refs.proofs.Laws.{repeated_none, repeated_here, repeated_more}
use Rattle.refs.proofs.is_repeated.Goals as goal

pub returns-then-is_same : goal.returns-then-is_same
returns-then-is_same c = search (rules, repeated_here)

pub loop-r-preserved : goal.loop-r-preserved
loop-r-preserved c = search (rules, repeated_more)

pub returns : goal.returns
returns c = search (rules, repeated_none)

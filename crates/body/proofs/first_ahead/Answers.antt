use Rattle.std.proofs.Common.{rules}
use Rattle.body.proofs.Laws.{ahead_here, ahead_later, none_ahead}
use Rattle.body.proofs.first_ahead.Goals as goal

pub returns-then-is_ahead : goal.returns-then-is_ahead
returns-then-is_ahead c = search (rules, ahead_here)

pub loop-r-preserved : goal.loop-r-preserved
loop-r-preserved c = search (rules, ahead_later)

pub returns : goal.returns
returns c = search (rules, none_ahead)

use Rattle.std.proofs.Common.{rules, sym}
use Rattle.lex.proofs.Laws.{letter_at, stop, whole}
use Rattle.lex.proofs.pack.Goals as goal

pub returns-then-a : goal.returns-then-a
returns-then-a c = search (rules, stop)

pub loop-x-preserved : goal.loop-x-preserved
loop-x-preserved c = search (rules, letter_at)

pub returns : goal.returns
returns c = sym (search (rules, whole))

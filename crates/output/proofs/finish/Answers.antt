use Rattle.std.proofs.Common.{rules}
use Rattle.output.proofs.OutputLaws.{finish_at, finish_full}
use Rattle.output.proofs.finish.Goals as goal

pub returns-then-c-eq-FULL : goal.returns-then-c-eq-FULL
returns-then-c-eq-FULL c = search (rules, finish_full)

pub returns-else-c-eq-FULL : goal.returns-else-c-eq-FULL
returns-else-c-eq-FULL c = finish_at _ _ c.if-c-eq-FULL.false

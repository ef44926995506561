use Rattle.std.proofs.Common.{rules}
use Rattle.lex.proofs.Laws.{ended, beyond, open_end, end_0, end_1, end_2, end_3, past_3, stepped, turned}
use Rattle.lex.proofs.field_end.Goals as goal

pub returns-then-x-c-clause-value : goal.returns-then-x-c-clause-value
returns-then-x-c-clause-value c = search (rules, end_0)

pub returns-then-y-c-clause-value : goal.returns-then-y-c-clause-value
returns-then-y-c-clause-value c = search (rules, end_1)

pub returns-then-z-c-clause-value : goal.returns-then-z-c-clause-value
returns-then-z-c-clause-value c = search (rules, end_2)

pub returns-then-w-c-clause-value : goal.returns-then-w-c-clause-value
returns-then-w-c-clause-value c = search (rules, end_3)

pub loop-rest-preserved : goal.loop-rest-preserved
loop-rest-preserved c = turned _ _ _ _ _ _ c.loop-rest.invariant c.in-len4-up.len_at_least c.if-x-c.false c.if-y-c.false c.if-z-c.false c.if-w-c.false

pub returns-then-x-c-2-clause-value : goal.returns-then-x-c-2-clause-value
returns-then-x-c-2-clause-value c = search (rules, ended)

pub loop-x-preserved : goal.loop-x-preserved
loop-x-preserved c = stepped _ _ _ _ _ c.loop-x.x-index c.loop-rest.rest.now c.loop-x.invariant c.loop-x-test.true c.if-x-c-2.false

pub returns-clause-value : goal.returns-clause-value
returns-clause-value c = search (rules, open_end)

use Rattle.std.proofs.Common.{rules}
use Rattle.lex.proofs.Laws.{found, passed, none, letter_of, word_end, word_all, word_at, word_none}
use Rattle.lex.proofs.word_to.Goals as goal

pub returns-then-x-c-clause-end_value : goal.returns-then-x-c-clause-end_value
returns-then-x-c-clause-end_value c = (search (rules, found), search (rules, word_end))

pub returns-then-number-clause-end_value : goal.returns-then-number-clause-end_value
returns-then-number-clause-end_value c = (search (rules, word_at), word_none _ _ _ _ c.loop-end.invariant.1 c.loop-end.invariant.0 _ c.field_end.ensures.value c.loop-end-test.true c.if-x-c.false c.then-number.either)

pub loop-end-preserved : goal.loop-end-preserved
loop-end-preserved c = (search (rules, passed), search (rules, letter_of))

pub returns-clause-end_value : goal.returns-clause-end_value
returns-clause-end_value c = (search (rules, none), search (rules, word_all))

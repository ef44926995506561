use Rattle.std.proofs.Common.{rules, sym}
use Rattle.body.proofs.Laws.{over_limit, repeated, unlinked_line, linked_line, advanced_fields}
use Rattle.body.proofs.judge.Goals as goal

pub returns-then-j-limit_of-clause-rows_after : goal.returns-then-j-limit_of-clause-rows_after
returns-then-j-limit_of-clause-rows_after c = sym (search (rules, over_limit))

pub returns-then-repeats-clause-rows_after : goal.returns-then-repeats-clause-rows_after
returns-then-repeats-clause-rows_after c = sym (search (rules, repeated))

pub returns-in_default-clause-rows_after : goal.returns-in_default-clause-rows_after
returns-in_default-clause-rows_after c = sym (search (rules, unlinked_line))

pub returns-clause-within : goal.returns-clause-within
returns-clause-within c = advanced_fields _ _ _ _ _ c.advance.ensures

pub returns-clause-rows_after : goal.returns-clause-rows_after
returns-clause-rows_after c = sym (linked_line _ _ _ _ _ _ _ _ c.count_of-j.ensures c.limit_of.ensures c.if-j-limit_of.false _ c.repeats.ensures c.if-repeats.false _ c.form_at.ensures c.requires _ _ c.link_fields.ensures _ _ _ _ _ c.in-Some.is c.levels_of-levels.ensures c.base_of.ensures.value c.put_row.ensures c.advance.ensures)

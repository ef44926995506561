use Rattle.std.proofs.Common.{rules}
use Rattle.forms.proofs.Laws.{narrow, long_line, no_line, bad_line, good_line}
use Rattle.forms.proofs.read_line.Goals as goal

pub returns-then-v-gt-MOST_VALUE-clause-t_after : goal.returns-then-v-gt-MOST_VALUE-clause-t_after
returns-then-v-gt-MOST_VALUE-clause-t_after c = search (rules, long_line)

pub returns-then-i-ge-MOST_FORMS-clause-t_after : goal.returns-then-i-ge-MOST_FORMS-clause-t_after
returns-then-i-ge-MOST_FORMS-clause-t_after c = search (rules, no_line)

pub returns-in-Some : goal.returns-in-Some
returns-in-Some c = record { within = search (rules, narrow); t_after = search (rules, good_line) }

pub returns-in-None-clause-t_after : goal.returns-in-None-clause-t_after
returns-in-None-clause-t_after c = search (rules, bad_line)

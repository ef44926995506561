use Rattle.std.proofs.Common.{rules, sym}
use Rattle.body.proofs.Laws.{no_fn, ahead, too_deep, all_there}
use Rattle.body.proofs.finish.Goals as goal

pub returns-then-st-ne-KEY_FN : goal.returns-then-st-ne-KEY_FN
returns-then-st-ne-KEY_FN c = sym (search (rules, no_fn))

pub returns-then-r-st : goal.returns-then-r-st
returns-then-r-st c = sym (search (rules, ahead))

pub returns-then-st : goal.returns-then-st
returns-then-st c = sym (search (rules, too_deep))

pub returns-else-st : goal.returns-else-st
returns-else-st c = sym (search (rules, all_there))

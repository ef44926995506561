use Rattle.std.proofs.Common.{rules}
use Rattle.body_write.proofs.WriteLaws.{values_worded, values_none, values_bare}
use Rattle.body_write.proofs.put_values.Goals as goal

pub returns-then-worded : goal.returns-then-worded
returns-then-worded c = search (rules, values_worded)

pub returns-then-m-eq0 : goal.returns-then-m-eq0
returns-then-m-eq0 c = search (rules, values_none)

pub returns-else-m-eq0 : goal.returns-else-m-eq0
returns-else-m-eq0 c = search (rules, values_bare)

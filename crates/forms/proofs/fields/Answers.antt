use Rattle.std.proofs.Common.{rules}
use Rattle.forms.proofs.Laws.{turn, turn_bad, turned}
use Rattle.forms.proofs.fields.Goals as goal

pub returns-in_err-cell-clause-t_after : goal.returns-in_err-cell-clause-t_after
returns-in_err-cell-clause-t_after c = search (rules, turn_bad)

pub loop-p-preserved : goal.loop-p-preserved
loop-p-preserved c = (search rules, search rules, search rules, search (rules, turn))

pub returns-clause-t_after : goal.returns-clause-t_after
returns-clause-t_after c = search (rules, turned)

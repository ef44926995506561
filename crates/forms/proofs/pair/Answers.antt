use Rattle.std.proofs.Common.{rules}
use Rattle.forms.proofs.Laws.{no_colon, no_name, no_value, at_colon}
use Rattle.forms.proofs.pair.Goals as goal

pub returns-then-e-s : goal.returns-then-e-s
returns-then-e-s c = search (rules, no_colon)

pub returns-in_err-name : goal.returns-in_err-name
returns-in_err-name c = search (rules, no_name)

pub returns-in_err-cell : goal.returns-in_err-cell
returns-in_err-cell c = search (rules, no_value)

pub returns : goal.returns
returns c = search (rules, at_colon)

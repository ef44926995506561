use Rattle.record.specs.Runs.{equation_refused, ruled_done, ruled_refused}
use Rattle.rules.specs.Exits.{equation_ended}
use Rattle.resolve.proofs.Laws.{result_off, result_on}
use Rattle.resolve.proofs.result.Goals as goal

pub returns-in-Met : goal.returns-in-Met
returns-in-Met c = ruled_done (result_on _ _ (equation_ended c.in-Met.is c.equate.ensures).1)

pub returns-in-Met-2 : goal.returns-in-Met-2
returns-in-Met-2 c = ruled_done (result_on _ _ (equation_ended c.in-Met.is c.equate.ensures).1)

pub returns-in-Refused : goal.returns-in-Refused
returns-in-Refused c = ruled_refused (result_off _ _ _ (equation_refused c.in-Refused.is c.equate.ensures))

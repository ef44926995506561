use Rattle.rules.specs.Exits.{equation_ended}
use Rattle.rules.proofs.Laws.{equated_on, equated_on_refused}
use Rattle.record.specs.Runs.{equation_refused, ruled_done, ruled_refused}
use Rattle.rules.proofs.equate_on.Goals as goal

pub returns-in-Met : goal.returns-in-Met
returns-in-Met c = ruled_done (equated_on _ _ _ _ (equation_ended c.in-Met.is c.equate.ensures).1)

pub returns-in-Met-2 : goal.returns-in-Met-2
returns-in-Met-2 c = ruled_done (equated_on _ _ _ _ (equation_ended c.in-Met.is c.equate.ensures).1)

pub returns-in-Refused : goal.returns-in-Refused
returns-in-Refused c = ruled_refused (equated_on_refused _ _ _ _ _ (equation_refused c.in-Refused.is c.equate.ensures))

use Rattle.rules.specs.Exits.{equation_ended}
use Rattle.rules.proofs.Laws.{equated_for, equated_for_refused}
use Rattle.record.specs.Runs.{equation_refused, typed_refused, typed_type}
use Rattle.rules.proofs.equate_for.Goals as goal

pub returns-in-Met : goal.returns-in-Met
returns-in-Met c = typed_type (equated_for _ _ _ _ _ (equation_ended c.in-Met.is c.equate.ensures).1)

pub returns-in-Met-2 : goal.returns-in-Met-2
returns-in-Met-2 c = typed_type (equated_for _ _ _ _ _ (equation_ended c.in-Met.is c.equate.ensures).1)

pub returns-in-Refused : goal.returns-in-Refused
returns-in-Refused c = typed_refused (equated_for_refused _ _ _ _ _ _ (equation_refused c.in-Refused.is c.equate.ensures))

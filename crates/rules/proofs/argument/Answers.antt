use Rattle.rules.proofs.Laws.{argument_extra, argument_there}
use Rattle.record.specs.Runs.{ruled_done}
use Rattle.rules.proofs.argument.Goals as goal

pub returns-in-Some : goal.returns-in-Some
returns-in-Some c = argument_there _ _ _ _ _ _ _ _ _ _ (c.input.ensures) (c.in-Some.is) (c.mismatch.ensures) (c.equate_on.ensures)

pub returns-in-None : goal.returns-in-None
returns-in-None c = ruled_done (argument_extra _ _ _ _ _ _ _ _ (c.input.ensures) (c.in-None.is))

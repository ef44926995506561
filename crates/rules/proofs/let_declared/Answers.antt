use Rattle.rules.specs.Exits.{equation_ended}
use Rattle.rules.proofs.Laws.{let_both, let_refused}
use Rattle.record.specs.Runs.{equation_refused, ruled_done, ruled_refused}
use Rattle.rules.proofs.let_declared.Goals as goal

pub returns-in-Met : goal.returns-in-Met
returns-in-Met c = ruled_done (let_both _ _ _ _ c.mismatch.ensures (equation_ended c.in-Met.is c.equate.ensures).1 (c.set_extra.ensures _) (c.set_node_type.ensures _))

pub returns-in-Refused : goal.returns-in-Refused
returns-in-Refused c = ruled_refused (let_refused _ _ _ _ _ c.mismatch.ensures (equation_refused c.in-Refused.is c.equate.ensures))

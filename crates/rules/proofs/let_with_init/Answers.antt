use Rattle.rules.proofs.Laws.{let_init, let_of}
use Rattle.record.specs.Runs.{ruled_done}
use Rattle.rules.proofs.let_with_init.Goals as goal

pub returns-in-Some : goal.returns-in-Some
returns-in-Some c = let_of _ _ _ _ (c.in-Some.is) (c.let_declared.ensures)

pub returns-in-None : goal.returns-in-None
returns-in-None c = ruled_done (let_init _ _ _ (c.in-None.is) (c.set_extra.ensures _) (c.set_node_type.ensures _))

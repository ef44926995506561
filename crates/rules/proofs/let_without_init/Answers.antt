use Rattle.rules.proofs.Laws.{let_declared_type, let_drawn}
use Rattle.record.specs.Runs.{ruled_done}
use Rattle.rules.proofs.let_without_init.Goals as goal

pub returns-in-Some : goal.returns-in-Some
returns-in-Some c = ruled_done (let_declared_type _ _ _ (c.in-Some.is) (c.set_extra.ensures _) (c.set_node_type.ensures _))

pub returns-in-None : goal.returns-in-None
returns-in-None c = ruled_done (let_drawn _ _ _ (c.in-None.is) (c.new_infer_var-r.ensures) (c.set_node_type-in-None.ensures _))

use Rattle.walk.proofs.Laws.{written_type, written_none}
use Rattle.walk.proofs.write_down.Goals as goal

pub returns-in-Ok : goal.returns-in-Ok
returns-in-Ok c = written_type _ c.in-Ok.is c.set_node_type.ensures

pub returns-in_default : goal.returns-in_default
returns-in_default c = written_none _ _ c.in_default.not-Ok

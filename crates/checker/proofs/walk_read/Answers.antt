use Rattle.checker.proofs.Laws.{walk_done, walk_refused}
use Rattle.checker.proofs.walk_read.Goals as goal

pub returns-in-Ok : goal.returns-in-Ok
returns-in-Ok c = walk_done _ _ _ _ _ _ (c.type_body.ensures) _ (c.in-Ok.is)

pub returns-in-Err : goal.returns-in-Err
returns-in-Err c = rw c.from.ensures (walk_refused _ _ _ _ _ _ c.type_body.ensures _ c.in-Err.is)

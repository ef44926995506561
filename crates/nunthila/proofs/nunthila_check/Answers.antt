use Rattle.nunthila.proofs.ToldLaws.{check_law}
use Rattle.nunthila.proofs.nunthila_check.Goals as goal

pub returns : goal.returns
returns c = check_law _ _ _ _ _ _ _ c.check-a.ensures c.tell.ensures

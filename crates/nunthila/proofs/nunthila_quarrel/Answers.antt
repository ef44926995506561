use Rattle.nunthila.proofs.ToldLaws.{quarrel_law}
use Rattle.nunthila.proofs.nunthila_quarrel.Goals as goal

pub returns : goal.returns
returns c = quarrel_law _ _ _ _ _ _ _ _ _ _ _ c.minimal-q.ensures c.quarrel-r.ensures c.tell_quarrel.ensures

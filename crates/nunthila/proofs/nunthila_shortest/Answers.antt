use Rattle.nunthila.proofs.ToldLaws.{shortest_law}
use Rattle.nunthila.proofs.nunthila_shortest.Goals as goal

pub returns : goal.returns
returns c = shortest_law _ _ _ _ _ _ _ _ _ _ _ _ c.shortest-q.ensures c.quarrel-r.ensures c.tell_quarrel.ensures

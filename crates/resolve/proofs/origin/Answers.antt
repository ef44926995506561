use Rattle.resolve.proofs.Laws.{origin_is}
use Rattle.resolve.proofs.origin.Goals as goal

pub returns : goal.returns
returns c = origin_is _ _ _ _ _ c.origin_of.ensures c.unwrap_or.ensures

use Rattle.conflict_check.proofs.QuarrelLaws.{refuses}
use Rattle.conflict_check.proofs.refuse.Goals as goal

pub returns : goal.returns
returns c = refuses _ _ _ _ (c.nothing.ensures)

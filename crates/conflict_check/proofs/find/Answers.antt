use Rattle.conflict_check.proofs.QuarrelLaws.{finds}
use Rattle.conflict_check.proofs.find.Goals as goal

pub returns : goal.returns
returns c = finds _ _ _ _ _ _ _ _ _ (c.conflict_in-o.ensures) (c.with_answer.ensures)

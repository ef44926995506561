use Rattle.conflict_check.proofs.QuarrelLaws.{tables_law}
use Rattle.conflict_check.proofs.quarrel_tables.Goals as goal

pub returns : goal.returns
returns c = tables_law _ _ _ _ _ _ _ (c.check_walk-e.ensures) (c.check_walk-e.auto.memory) _ _ _ (c.conflict_by.ensures)

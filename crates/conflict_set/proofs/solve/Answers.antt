use Rattle.conflict_set.specs.Laws.{solve_law}
use Rattle.conflict_set.proofs.solve.Goals as goal

pub returns : goal.returns
returns c = solve_law _ _ _ _ _ _ (c.reopen.ensures) (c.add_all.ensures)

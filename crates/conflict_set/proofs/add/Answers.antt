use Rattle.conflict_set.specs.Laws.{add_law}
use Rattle.conflict_set.proofs.add.Goals as goal

pub returns : goal.returns
returns c = add_law _ _ _ _ _ _ _ _ (c.expected-x.ensures) (c.got-y.ensures) (c.unify.ensures) (c.is_success.ensures)

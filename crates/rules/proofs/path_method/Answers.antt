use Rattle.rules.proofs.Laws.{path_none, path_there}
use Rattle.record.specs.Runs.{typed_type}
use Rattle.rules.proofs.path_method.Goals as goal

pub returns-in-Some : goal.returns-in-Some
returns-in-Some c = path_there _ _ _ _ _ (c.method.ensures) _ (c.in-Some.is) (c.set_extra.ensures _) (c.fn_type.ensures)

pub returns-in-None : goal.returns-in-None
returns-in-None c = typed_type (path_none _ _ _ _ _ (c.method.ensures) (c.in-None.is) (c.set_extra-in-None.ensures _) (c.own_error-r.ensures))

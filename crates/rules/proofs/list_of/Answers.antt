use Rattle.rules.proofs.Laws.{list_is}
use Rattle.record.specs.Runs.{typed_type}
use Rattle.rules.proofs.list_of.Goals as goal

pub returns : goal.returns
returns c = typed_type (list_is _ _ (c.array_of-r.ensures))

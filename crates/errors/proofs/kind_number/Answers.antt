use Rattle.errors.proofs.ErrorLaws.{kind_min}
use Rattle.errors.proofs.kind_number.Goals as goal

pub returns : goal.returns
returns c = kind_min _ _ c.min.ensures

use Rattle.errors.proofs.ErrorLaws.{span_min}
use Rattle.errors.proofs.span_tag.Goals as goal

pub returns : goal.returns
returns c = span_min _ _ _ c.min.ensures

use Rattle.errors.proofs.ErrorLaws.{span_low, span_high}
use Rattle.errors.proofs.span_number.Goals as goal

pub returns-then-p-lt2 : goal.returns-then-p-lt2
returns-then-p-lt2 c = span_low _ _ c.if-p-lt2.true

pub returns-else-p-lt2 : goal.returns-else-p-lt2
returns-else-p-lt2 c = span_high _ _ c.if-p-lt2.false

use Rattle.std.proofs.Common.{arith}
use Rattle.forms.proofs.Laws.{past_forms}
use Rattle.forms.proofs.form_at.Goals as goal

pub returns-in_default : goal.returns-in_default
returns-in_default c = past_forms _ (omega arith)

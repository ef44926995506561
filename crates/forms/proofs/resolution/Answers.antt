use Rattle.std.proofs.Common.{sym, ◌∙◌, eqb-true}
use Rattle.forms.proofs.Laws.{no_tag}
use Rattle.forms.proofs.resolution.Goals as goal

pub returns-then-is_empty : goal.returns-then-is_empty
returns-then-is_empty c = no_tag _ (eqb-true _ _ (sym c.is_empty.ensures ∙ c.if-is_empty.true))

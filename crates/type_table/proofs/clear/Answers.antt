use mathlib.Core.Path.{refl}
use Rattle.type_table.proofs.Laws.{filled_all}
use Rattle.type_table.proofs.clear.Goals as goal

pub returns : goal.returns
returns c = filled_all _ _ _ c.requires refl (c.fill.ensures.after (λ y h. h))

use mathlib.Core.Path.{refl}
use Rattle.answers.proofs.Laws.{all_emptied}
use Rattle.answers.proofs.clear.Goals as goal

pub returns : goal.returns
returns c = all_emptied _ _ (c.clear.ensures) (c.clear-2.ensures) (c.clear-3.ensures) (c.clear-4.ensures) (c.clear-5.ensures) (c.clear-6.ensures) refl refl

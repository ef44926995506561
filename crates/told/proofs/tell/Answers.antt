use mathlib.Core.Path.{refl}
use Rattle.told.proofs.NumberLaws.{tell_law}
use Rattle.told.proofs.tell.Goals as goal

pub returns : goal.returns
returns c = tell_law _ _ _ c.args.a c.args.n _ c.told_numbers-xs.ensures c.put_all.ensures refl

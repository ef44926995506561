use mathlib.Core.Path.{refl}
use Rattle.conflict_set.specs.SearchLaws.{bound_first, bound_second}
use Rattle.conflict_set.proofs.bound_of.Goals as goal

pub returns-in-Some : goal.returns-in-Some
returns-in-Some c = bound_first (c.args.m.now) (c.args.c) _ _ _ _ _ refl (c.bound_to.ensures) (c.in-Some.is)

pub returns-in-None : goal.returns-in-None
returns-in-None c = bound_second (c.args.m.now) (c.args.c) _ _ _ _ refl (c.bound_to.ensures) (c.in-None.is)

use mathlib.Core.Path.{ap, sym}
use Rattle.conflict_check.specs.Quarrel.{quarreled_by}
use Rattle.conflict_check.proofs.with_answer.Goals as goal

pub returns-in-Written : goal.returns-in-Written
returns-in-Written c = ap (quarreled_by _) (sym (c.in-Written.is))

pub returns-in-Nothing : goal.returns-in-Nothing
returns-in-Nothing c = ap (quarreled_by _) (sym (c.in-Nothing.is))

pub returns-in-NoRoom : goal.returns-in-NoRoom
returns-in-NoRoom c = ap (quarreled_by _) (sym (c.in-NoRoom.is))

use mathlib.Core.Path.{ap, sym}
use Rattle.conflict_set.specs.Text.{by_ending}
use Rattle.conflict_set.specs.TextLaws.{written_law}
use Rattle.conflict_set.proofs.written.Goals as goal

pub returns-in-Some : goal.returns-in-Some
returns-in-Some c = written_law _ _ _ _ _ (c.finish.ensures) (ap by_ending (sym (c.in-Some.is)))

pub returns-in-None : goal.returns-in-None
returns-in-None c = written_law _ _ _ _ _ (c.finish.ensures) (ap by_ending (sym (c.in-None.is)))

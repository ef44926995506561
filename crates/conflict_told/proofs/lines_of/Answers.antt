use Rattle.conflict_told.proofs.QuarrelNumberLaws.{lines_numbers, lines_places}
use Rattle.conflict_told.proofs.lines_of.Goals as goal

pub returns-then-n-eq0 : goal.returns-then-n-eq0
returns-then-n-eq0 c = lines_numbers _ (c.if-n-eq0.true)

pub returns : goal.returns
returns c = lines_places _ (c.if-n-eq0.false)

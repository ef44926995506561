use Rattle.tables.proofs.NodeLaws.{tag_low, tag_high}
use Rattle.tables.proofs.extra_tag.Goals as goal

pub returns-then-a-lt9 : goal.returns-then-a-lt9
returns-then-a-lt9 c = tag_low _ _ c.if-a-lt9.true

pub returns-else-a-lt9 : goal.returns-else-a-lt9
returns-else-a-lt9 c = tag_high _ _ c.if-a-lt9.false

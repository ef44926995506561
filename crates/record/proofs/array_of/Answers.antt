use Rattle.record.proofs.TableLaws.{array_gives}
use Rattle.record.proofs.array_of.Goals as goal

pub returns : goal.returns
returns c = array_gives _ _ _ _ _ c.with_made.ensures _ c.array_of.ensures

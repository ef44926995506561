use Rattle.record.proofs.TableLaws.{mark_does}
use Rattle.record.proofs.mark.Goals as goal

pub returns : goal.returns
returns c = mark_does _ _ _ _ c.mark.ensures

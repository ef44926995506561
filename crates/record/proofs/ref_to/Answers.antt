use Rattle.record.proofs.TableLaws.{ref_gives}
use Rattle.record.proofs.ref_to.Goals as goal

pub returns : goal.returns
returns c = ref_gives _ _ _ _ _ c.with_made.ensures _ c.ref_to.ensures

use Rattle.record.proofs.TableLaws.{instance_gives}
use Rattle.record.proofs.instance.Goals as goal

pub returns : goal.returns
returns c = instance_gives _ _ _ _ _ c.with_made.ensures _ c.instance.ensures

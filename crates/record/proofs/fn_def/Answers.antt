use Rattle.record.proofs.TableLaws.{fn_gives}
use Rattle.record.proofs.fn_def.Goals as goal

pub returns : goal.returns
returns c = fn_gives _ _ _ _ _ c.with_made.ensures _ c.fn_def.ensures

use Rattle.record.proofs.TableLaws.{draw_gives}
use Rattle.record.proofs.new_infer_var.Goals as goal

pub returns : goal.returns
returns c = draw_gives _ _ _ _ _ c.with_made.ensures _ _ c.draw.ensures

use Rattle.report_text.proofs.LineLaws.{part_none, part-rest, part_inside}
use Rattle.report_text.proofs.put_part.Goals as goal

pub returns-then-n-f : goal.returns-then-n-f
returns-then-n-f c = part_none c.args.t.now c.args.f c.args.k _ _ c.if-n-f.true

pub returns-then-n-f-2 : goal.returns-then-n-f-2
returns-then-n-f-2 c = part-rest c.args.t.now _ _ c.if-n-f-2.true c.put_each.ensures

pub returns-else-n-f-2 : goal.returns-else-n-f-2
returns-else-n-f-2 c = part_inside c.args.t.now c.args.f c.args.k c.put_each-else-n-f-2.ensures

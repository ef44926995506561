use Rattle.body_write.proofs.WriteLaws.{row_as}
use Rattle.body_write.proofs.put_row.Goals as goal

pub returns : goal.returns
returns c = row_as c.args.f c.args.cells.now c.args.j c.args.m c.put_head-a.ensures c.put_values-b.ensures c.put.ensures

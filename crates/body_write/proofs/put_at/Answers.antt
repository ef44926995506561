use Rattle.body_write.proofs.WriteLaws.{at_as}
use Rattle.body_write.proofs.put_at.Goals as goal

pub returns : goal.returns
returns c = at_as c.args.rows.now c.args.cells.now c.args.p _ _ _ c.form_of-f.ensures c.first_of-j.ensures c.count_of-m.ensures c.put_row.ensures

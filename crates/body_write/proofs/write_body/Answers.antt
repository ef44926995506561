use Rattle.body_write.proofs.WriteLaws.{body_as}
use Rattle.body_write.proofs.write_body.Goals as goal

pub returns : goal.returns
returns c = body_as c.args.n c.args.rows.now c.args.cells.now c.put_declarations-c.ensures c.put_rows-d.ensures c.put_at-e.ensures c.finish.ensures

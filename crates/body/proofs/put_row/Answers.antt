use Rattle.body.proofs.Laws.{row_written_lem}
use Rattle.body.proofs.put_row.Goals as goal

pub returns : goal.returns
returns c = rw (c.write-4.ensures, c.write-3.ensures, c.write-2.ensures, c.write.ensures) (row_written_lem _ _ _ _ _ _)

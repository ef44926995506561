use mathlib.Core.Path.{refl}
use Rattle.errors.proofs.ErrorLaws.{row-past, row_read}
use Rattle.errors.proofs.error_row.Goals as goal

pub returns-then-i-n : goal.returns-then-i-n
returns-then-i-n c = row-past _ _ _ _ (c.if-i-n.true) (c.no_error.ensures)

pub returns : goal.returns
returns c = row_read _ _ _ _ _ _ _ _ _ _ _ _ _ _ _ _ _ _ (c.if-i-n.false) refl (c.read.ensures) (c.read-2.ensures) (c.read-p.ensures) (c.read-x.ensures) (c.read-q.ensures) (c.read-y.ensures) (c.read-3.ensures) (c.read-4.ensures) (c.read-5.ensures) (c.kind_number.ensures) (c.span_tag.ensures) (c.span_number.ensures) (c.second_tag.ensures) (c.second_number.ensures)

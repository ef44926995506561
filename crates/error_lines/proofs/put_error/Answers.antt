use Rattle.error_lines.proofs.ErrorLineLaws.{error_line_lem}
use Rattle.error_lines.proofs.put_error.Goals as goal

pub returns : goal.returns
returns c = error_line_lem _ _ _ (c.kind_number.ensures) (c.values.ensures) (c.put_field-a.ensures) (c.put_field-b.ensures) (c.put_place-d.ensures) (c.put_values-e.ensures) (c.put.ensures)

use Rattle.error_lines.proofs.ErrorLineLaws.{values_none, values_one, values_two, values_three}
use Rattle.error_lines.proofs.put_values.Goals as goal

pub returns-then-n-eq0 : goal.returns-then-n-eq0
returns-then-n-eq0 c = values_none _ _ _ _ (c.if-n-eq0.true)

pub returns-then-n-eq1 : goal.returns-then-n-eq1
returns-then-n-eq1 c = values_one (c.args.r) _ (c.if-n-eq1.true) (c.put_field-a.ensures)

pub returns-then-n-eq2 : goal.returns-then-n-eq2
returns-then-n-eq2 c = values_two (c.args.r) _ (c.if-n-eq2.true) (c.put_field-a.ensures) (c.put_field-b.ensures)

pub returns : goal.returns
returns c = values_three (c.args.r) _ (c.if-n-eq0.false) (c.if-n-eq1.false) (c.if-n-eq2.false) (c.put_field-a.ensures) (c.put_field-b.ensures) (c.put_field.ensures)

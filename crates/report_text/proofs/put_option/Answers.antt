use Rattle.report_text.proofs.LineLaws.{option_there, option_absent}
use Rattle.report_text.proofs.put_option.Goals as goal

pub returns-then-read-eq1 : goal.returns-then-read-eq1
returns-then-read-eq1 c = option_there _ c.args.t.now _ _ _ c.read.ensures c.if-read-eq1.true c.read-then-read-eq1.ensures c.put_all-d.ensures c.put_number.ensures

pub returns-else-read-eq1 : goal.returns-else-read-eq1
returns-else-read-eq1 c = option_absent _ c.args.t.now _ _ c.read.ensures c.if-read-eq1.false c.put_all-d.ensures c.put.ensures

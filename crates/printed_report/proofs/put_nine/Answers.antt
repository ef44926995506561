use mathlib.Core.Path.{ap}
use Rattle.printed_report.specs.Printed.{text_bytes}
use Rattle.printed_report.proofs.Laws.{text_printed}
use Rattle.printed_report.proofs.put_nine.Goals as goal

pub returns-in-Some : goal.returns-in-Some
returns-in-Some c = text_printed _ _ _ _ _ _ _ (c.put_all-c.ensures) (c.finish.ensures) (ap text_bytes (c.in-Some.is))

pub returns-in-None : goal.returns-in-None
returns-in-None c = text_printed _ _ _ _ _ _ _ (c.put_all-c.ensures) (c.finish.ensures) (ap text_bytes (c.in-None.is))

use Rattle.running.proofs.Laws.{raised_met, raised_failed, raised_refused}
use Rattle.running.proofs.equate.Goals as goal

pub returns-in-Met : goal.returns-in-Met
returns-in-Met c = raised_met c.raise.ensures _ c.in-Met.is

pub returns-in-Failed : goal.returns-in-Failed
returns-in-Failed c = raised_failed c.raise.ensures _ c.in-Failed.is c.caused-error.ensures c.emit.ensures

pub returns-in-Refused : goal.returns-in-Refused
returns-in-Refused c = raised_refused c.raise.ensures _ c.in-Refused.is

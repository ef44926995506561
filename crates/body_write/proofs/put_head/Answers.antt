use Rattle.std.proofs.Common.{arith}
use Rattle.output.specs.Appending.{appends_as}
use Rattle.body_write.proofs.WriteLaws.{head_other}
use Rattle.body_write.proofs.put_head.Goals as goal

pub returns-in_default : goal.returns-in_default
returns-in_default c = appends_as (head_other _ (omega arith)) c.put_all-in_default.ensures

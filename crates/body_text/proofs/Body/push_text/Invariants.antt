use Rattle.std.proofs.Common.{length}
use Rattle.body_text.proofs.Body.push_text.Given as goal

abbrev pub decreases-loop-rest : goal.decreases-loop-rest
decreases-loop-rest l = length l.rest

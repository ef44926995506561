use Rattle.std.proofs.Common.{◌*◌, ◌≤◌}
use Rattle.samples.proofs.inputs.Given as goal

abbrev pub invariant-loop-i : goal.invariant-loop-i
invariant-loop-i l = l.k ≤ l.i * 65535

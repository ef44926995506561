use Rattle.std.proofs.Common.{◌<◌}
use Rattle.sample_input.proofs.hash.Given as goal

abbrev pub invariant-loop-x : goal.invariant-loop-x
invariant-loop-x l = l.initial.h < 4294967291 → l.hash < 4294967291

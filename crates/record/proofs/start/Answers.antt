use Rattle.record.specs.Writes.{started}
use native.Mathlib.Omega.{arith}
use Rattle.record.proofs.start.Goals as goal

pub returns : goal.returns
returns c = λ large. started _ _ _ _ _ c.start-counts.ensures c.start-counts.auto.m (c.clear.ensures (omega (arith, large, c.start-counts.auto.m))) large

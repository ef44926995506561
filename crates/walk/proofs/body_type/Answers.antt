use native.Mathlib.Omega.{arith}
use Rattle.walk.proofs.Laws.{expr_written}
use Rattle.walk.proofs.body_type.Goals as goal

pub returns : goal.returns
returns c = expr_written _ _ 64 (λ e. omega (arith, e)) c.rule-z.ensures c.write_down.ensures

use native.Mathlib.Omega.{arith}
use Rattle.rules.proofs.Laws.{callee_def, callee_err, callee_none, callee_typed}
use Rattle.rules.proofs.callee.Goals as goal

pub returns-in-7 : goal.returns-in-7
returns-in-7 c = record { by = callee_def _ _ _ _ _ c.head.ensures _ _ c.in-7.is c.def_of-f.ensures c.output.ensures }

pub returns-in-13 : goal.returns-in-13
returns-in-13 c = record { by = callee_typed _ _ _ _ _ c.head.ensures _ c.in-13.is c.output-in-13.ensures }

pub returns-in-10 : goal.returns-in-10
returns-in-10 c = record { by = callee_err _ _ _ _ _ c.head.ensures c.in-10.is }

pub returns-in_default : goal.returns-in_default
returns-in_default c = record { by = callee_none _ _ _ _ c.head.result c.head.ensures (λ e. omega arith) (λ e. grind arith) (λ e. grind arith) (λ e. omega arith) c.own_error.ensures }

use native.Mathlib.Omega.{arith}
use Rattle.resolve.proofs.Laws.{resolve_arr, resolve_bare, resolve_other}
use Rattle.resolve.proofs.resolve_type_variable.Goals as goal

pub returns-in-12 : goal.returns-in-12
returns-in-12 c = resolve_bare _ _ c.head.ensures _ c.in-12.is c.end.ensures

pub returns-in-8 : goal.returns-in-8
returns-in-8 c = resolve_arr _ _ c.head.ensures _ _ c.in-8.is c.element.ensures c.array.ensures

pub returns-in_default : goal.returns-in_default
returns-in_default c = resolve_other _ c.head.result c.head.ensures (λ e. omega arith) (λ e. omega arith)

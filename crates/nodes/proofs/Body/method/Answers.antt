use native.Mathlib.Nat.{sub-zero}
use Rattle.nodes.proofs.Laws.{method_none, method_here, method_more}
use Rattle.nodes.proofs.Body.method.Goals as goal

pub loop-j-init : goal.loop-j-init
loop-j-init c = rw sub-zero

pub returns-in-Some : goal.returns-in-Some
returns-in-Some c = method_here _ _ _ _ _ _ _ _ c.loop-j.invariant c.loop-j-test.true _ c.method_in.ensures _ c.in-Some.is

pub loop-j-preserved : goal.loop-j-preserved
loop-j-preserved c = method_more _ _ _ _ _ _ _ _ c.loop-j.invariant c.loop-j-test.true _ c.method_in.ensures c.in_default.is

pub returns : goal.returns
returns c = method_none _ _ _ _ _ _ _ _ c.loop-j.invariant c.loop-j-test.false

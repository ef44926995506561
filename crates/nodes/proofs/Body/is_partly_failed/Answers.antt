use native.Mathlib.Nat.{sub-zero, add-zero}
use Rattle.nodes.proofs.Laws.{failed_none, failed_here, failed_more}
use Rattle.nodes.proofs.Body.is_partly_failed.Goals as goal

pub loop-i-init : goal.loop-i-init
loop-i-init c = simp (sub-zero, add-zero)

pub returns-then-tag_of-eq5 : goal.returns-then-tag_of-eq5
returns-then-tag_of-eq5 c = failed_here _ _ _ _ _ c.loop-i.invariant c.loop-i-test.true _ (rw c.place.ensures at c.tag_of.ensures) c.if-tag_of-eq5.true

pub loop-i-preserved : goal.loop-i-preserved
loop-i-preserved c = failed_more _ _ _ _ _ c.loop-i.invariant c.loop-i-test.true _ (rw c.place.ensures at c.tag_of.ensures) c.if-tag_of-eq5.false

pub returns : goal.returns
returns c = failed_none _ _ _ _ _ c.loop-i.invariant c.loop-i-test.false

use native.Mathlib.Nat.{sub-zero, add-zero}
use Rattle.nodes.proofs.Laws.{named_none, named_here, named_more, name_at, value_at}
use Rattle.nodes.proofs.Body.named.Goals as goal

pub loop-i-init : goal.loop-i-init
loop-i-init c = simp (sub-zero, add-zero)

pub returns-then-name_of-name : goal.returns-then-name_of-name
returns-then-name_of-name c = named_here _ _ _ _ _ _ c.loop-i.invariant c.loop-i-test.true _ (rw c.place-j.ensures at c.name_of.ensures) _ c.if-name_of-name.true (rw c.place-j.ensures at c.value_of.ensures)

pub loop-i-preserved : goal.loop-i-preserved
loop-i-preserved c = named_more _ _ _ _ _ _ c.loop-i.invariant c.loop-i-test.true _ (rw c.place-j.ensures at c.name_of.ensures) c.if-name_of-name.false

pub returns : goal.returns
returns c = named_none _ _ _ _ _ _ c.loop-i.invariant c.loop-i-test.false

pub loop-k-init : goal.loop-k-init
loop-k-init c = simp (sub-zero, add-zero)

pub returns-then-self-at : goal.returns-then-self-at
returns-then-self-at c = named_here _ _ _ _ _ _ c.loop-k.invariant c.loop-k-test.true _ (name_at _ _ _ c.place-in-loop-k.ensures) _ c.if-self-at.true (value_at _ _ _ c.place-in-loop-k.ensures)

pub loop-k-preserved : goal.loop-k-preserved
loop-k-preserved c = named_more _ _ _ _ _ _ c.loop-k.invariant c.loop-k-test.true _ (name_at _ _ _ c.place-in-loop-k.ensures) c.if-self-at.false

pub returns-then-place-self : goal.returns-then-place-self
returns-then-place-self c = named_none _ _ _ _ _ _ c.loop-k.invariant c.loop-k-test.false

use Rattle.std.specs.Prelude.{None, Some}
use Prim.Native.Nat.{◌+◌, ◌-◌}
use native.Mathlib.Omega.{arith}
use mathlib.Core.Path.{refl, sym, subst, ap, ◌∙◌}
use lib.ListN.{length}
use borrow.Author.Tests.{leb-true, leb-false}
use Rattle.conflict_set.specs.SearchLaws.{last_start, last_on, advance_found, advance_none}
use Rattle.conflict_set.specs.Searching.{AdvancedBy}
use borrow.Author.Rules.{rules}
use Rattle.conflict_set.proofs.advance.Goals as goal

pub loop-p-init : goal.loop-p-init
loop-p-init c = (last_start _ _ _, search rules, refl)

pub can_rise-requires : goal.can_rise-requires
can_rise-requires c = omega (arith, c.loop-p.invariant.1)

pub overflow_add-x : goal.overflow_add-x
overflow_add-x c = let h = leb-true (c.read-x.result + (c.args.k - (c.loop-p.p - 1)) + 1) (c.args.n) (sym (c.can_rise.ensures) ∙ c.if-can_rise.true) in omega (arith, h, c.ranges.n)

pub follow-requires : goal.follow-requires
follow-requires c = let h = leb-true (c.read-x.result + (c.args.k - (c.loop-p.p - 1)) + 1) (c.args.n) (sym (c.can_rise.ensures) ∙ c.if-can_rise.true) in (omega (arith, c.loop-p.invariant.1), omega (arith, h, c.ranges.n))

pub shape_of-set-then-can_rise : goal.shape_of-set-then-can_rise
shape_of-set-then-can_rise c = (c.follow.auto.set) ∙ ap length (c.loop-p.invariant.2)

pub returns-then-can_rise : goal.returns-then-can_rise
returns-then-can_rise c = subst (λ s. AdvancedBy s (c.args.k) (c.args.n) (c.follow.new.set) (Some (c.loop-p.p - 1))) (c.loop-p.invariant.2) (advance_found _ _ _ _ _ _ refl (c.loop-p-test.true) (c.loop-p.invariant.1) (c.read-x.ensures) (c.loop-p.invariant.0) _ _ (leb-true (c.read-x.result + (c.args.k - (c.loop-p.p - 1)) + 1) (c.args.n) (sym (c.can_rise.ensures) ∙ c.if-can_rise.true)) refl (c.follow.ensures))

pub loop-p-preserved : goal.loop-p-preserved
loop-p-preserved c = (last_on _ _ _ _ _ _ refl (c.loop-p-test.true) (c.loop-p.invariant.1) (c.read-x.ensures) (c.loop-p.invariant.0) (leb-false _ _ (sym (c.can_rise.ensures) ∙ c.if-can_rise.false)), omega (arith, c.loop-p.invariant.1), c.loop-p.invariant.2)

pub shape_of-set : goal.shape_of-set
shape_of-set c = ap length (c.loop-p.invariant.2)

pub returns : goal.returns
returns c = subst (λ s. AdvancedBy s (c.args.k) (c.args.n) (c.loop-p.set) None) (c.loop-p.invariant.2) (advance_none _ _ _ (c.loop-p.p) (c.loop-p-test.false) (c.loop-p.invariant.0))

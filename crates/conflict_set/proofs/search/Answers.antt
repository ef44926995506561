use native.Mathlib.Omega.{arith}
use Prim.Native.Nat.{ℕ, ◌<◌, ◌≤◌, max}
use mathlib.Core.Path.{◌≡◌, refl, subst, ◌∙◌}
use Rattle.conflict_set.specs.SearchLaws.{searches_start, searches_found, searches_out, searches_on, searches_end}
use Rattle.conflict_set.specs.Searching.{FirstTriedBy}
use borrow.Author.Rules.{rules}
use Rattle.conflict_set.proofs.search.Goals as goal

-- the size at which the loop ended
reached : (k most r : ℕ) → most ≤ k → (most ≤ 1 → k ≤ 1) → (1 ≤ most → k ≤ most) → 0 < k → r ≡ max most 1 → r ≡ k
reached k most r a b d e f = grind arith

pub loop-k-init : goal.loop-k-init
loop-k-init c = (searches_start (c.args.m.now) (c.args.c) (c.args.set.now) (c.args.bound.now) (c.args.most) (c.args.n) (c.args.b), refl, refl, refl, search rules, λ h. omega arith)

pub tries-requires : goal.tries-requires
tries-requires c = let h : 0 < c.loop-k.k = c.loop-k.invariant.4 in search rules

pub returns-in-Found : goal.returns-in-Found
returns-in-Found c = searches_found _ _ _ _ _ _ _ _ _ _ _ _ _ _ _ (c.loop-k.invariant.1) (c.loop-k.invariant.2) (c.loop-k-test.true) (c.loop-k.invariant.0) _ (subst (FirstTriedBy _ _ _ _ _ _ _ _ _ _) (c.in-Found.is) (c.tries.ensures)) refl refl

pub returns-in-Out : goal.returns-in-Out
returns-in-Out c = searches_out _ _ _ _ _ _ _ _ _ _ _ _ _ _ _ (c.loop-k.invariant.1) (c.loop-k.invariant.2) (c.loop-k-test.true) (c.loop-k.invariant.0) _ (subst (FirstTriedBy _ _ _ _ _ _ _ _ _ _) (c.in-Out.is) (c.tries.ensures)) (c.out_within.ensures.0) (c.out_within.ensures.1)

pub loop-k-preserved : goal.loop-k-preserved
loop-k-preserved c = (searches_on (c.args.m.now) (c.args.c) (c.args.set.now) (c.args.bound.now) (c.args.most) (c.args.n) (c.args.b) _ _ _ _ _ _ _ _ (c.loop-k.invariant.1) (c.loop-k.invariant.2) (c.loop-k-test.true) (c.loop-k.invariant.0) _ (subst (FirstTriedBy _ _ _ _ _ _ _ _ _ _) (c.in-Through.is) (c.tries.ensures)), (c.tries.ensures.size) ∙ (c.loop-k.invariant.1), (c.tries.ensures.room) ∙ (c.loop-k.invariant.2), (c.tries.auto.m) ∙ (c.loop-k.invariant.3), search rules, λ h. omega (arith, c.loop-k-test.true, c.loop-k.invariant.4))

pub returns : goal.returns
returns c = searches_end _ _ _ _ _ _ _ _ _ _ _ _ _ (c.loop-k-test.false) refl (reached _ _ _ (c.loop-k-test.false) (c.loop-k.invariant.5) (c.loop-k.auto.k-end) (c.loop-k.invariant.4) (c.max.ensures)) (c.loop-k.invariant.0)

use native.Mathlib.Omega.{arith}
use Rattle.conflict_set.specs.In.{ScannedBy}
use borrow.Author.Rules.{rules}
use mathlib.Core.Path.{◌≡◌, refl, subst, ◌∙◌}
use Rattle.conflict_set.specs.Laws.{scans_start, scans_on, scans_stop, scans_nowhere, scans_end}
use Rattle.conflict_set.specs.In.{SolvedBy, FellBy, stop_below}
use Rattle.conflict_set.proofs.scan.Goals as goal

pub loop-k-init : goal.loop-k-init
loop-k-init c = (scans_start _ _ _ _, search rules, refl, refl)

pub overflow_add-lo : goal.overflow_add-lo
overflow_add-lo c = let h = subst (stop_below _) (c.in-Some.is) (c.back.ensures.within) in search rules

pub loop-k-preserved : goal.loop-k-preserved
loop-k-preserved c = (scans_on _ _ _ (c.args.set.now) _ _ _ _ _ (c.loop-k-test.true) (c.loop-k.invariant.0) _ _ _ (c.loop-k.invariant.2) (subst (SolvedBy _ _ _ _) (c.if-not-solve.false) (c.solve.ensures)) (subst (FellBy _ _ _ _ _) (c.in-Some.is) (c.back.ensures)) (c.write.ensures), search rules, c.write.auto.m ∙ c.loop-k.invariant.2, c.back.auto.m ∙ c.solve.auto.m ∙ c.loop-k.invariant.3)

pub returns-then-not-solve : goal.returns-then-not-solve
returns-then-not-solve c = scans_stop _ _ _ _ _ _ _ _ _ (c.loop-k-test.true) (c.loop-k.invariant.0) (c.loop-k.invariant.2) (subst (SolvedBy _ _ _ _) (c.if-not-solve.true) (c.solve.ensures))

pub returns-in_default : goal.returns-in_default
returns-in_default c = scans_nowhere _ _ _ _ _ _ _ _ _ (c.loop-k-test.true) (c.loop-k.invariant.0) _ (c.loop-k.invariant.2) (subst (SolvedBy _ _ _ _) (c.if-not-solve.false) (c.solve.ensures)) (subst (FellBy _ _ _ _ _) (c.in_default.is) (c.back.ensures))

pub returns : goal.returns
returns c =
    let e : c.loop-k.k ≡ c.args.n = omega arith in
    subst (ScannedBy (c.args.m.now) (c.args.c) (c.args.n) (c.args.set.now) (c.loop-k.m) (c.loop-k.set)) e (scans_end _ _ _ _ _ _ _ _ (c.loop-k-test.false) (c.loop-k.invariant.1) (c.loop-k.invariant.2) (c.loop-k.invariant.0))

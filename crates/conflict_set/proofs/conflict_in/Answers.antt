use mathlib.Core.Path.{sym, ◌∙◌}
use Rattle.conflict_set.specs.TextLaws.{conflict_none, conflict_rough, conflict_put}
use Rattle.conflict_set.proofs.conflict_in.Goals as goal
use Rattle.conflict_set.proofs.conflict_in.Goals.{then-n-eq0-via-then-n-eq0, then-n-eq0-via-else-n-eq0+then-not-all_plain}

pub returns-then-n-eq0 : goal.returns-then-n-eq0
returns-then-n-eq0 c =
    elim c.then-n-eq0.branch [
      | then-n-eq0-via-then-n-eq0 w ↦ conflict_none _ _ _ _ _ _ (c.worked-n.ensures) _ _ (w.if-n-eq0.true) (c.nothing.ensures)
      | then-n-eq0-via-else-n-eq0+then-not-all_plain w ↦ conflict_rough _ _ _ _ _ _ (c.worked-n.ensures) _ _ (w.if-n-eq0.false) (λ k. sym (w.if-not-all_plain.true) ∙ (w.all_plain.ensures k)) (c.nothing.ensures)
    ]

pub returns : goal.returns
returns c = conflict_put _ _ _ _ _ _ (c.worked-n.ensures) _ _ _ (c.if-n-eq0.false) (λ k. sym (c.if-not-all_plain.false) ∙ (c.all_plain.ensures k)) (c.put_sought.ensures)

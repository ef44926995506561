use native.Mathlib.Omega.{arith}
use mathlib.Core.Path.{refl, sym, ◌∙◌}
use Rattle.conflict_set.specs.SearchLaws.{leads_start, leads_on, leads_open, leads_nowhere, leads_end}
use Rattle.conflict_set.proofs.open_end.Goals as goal

pub loop-step-init : goal.loop-step-init
loop-step-init c = leads_start _ _ _ _ (omega arith)

pub loop-step-preserved : goal.loop-step-preserved
loop-step-preserved c = leads_on _ _ _ _ _ _ (omega arith) (omega arith) (c.loop-step.invariant) _ (sym (c.in-On.is) ∙ c.lead_from.ensures)

pub returns-in-Open : goal.returns-in-Open
returns-in-Open c = leads_open _ _ _ _ _ _ (omega arith) refl (c.loop-step.invariant) _ (sym (c.in-Open.is) ∙ c.lead_from.ensures)

pub returns-in-Nowhere : goal.returns-in-Nowhere
returns-in-Nowhere c = leads_nowhere _ _ _ _ _ _ (omega arith) refl (c.loop-step.invariant) (sym (c.in-Nowhere.is) ∙ c.lead_from.ensures)

pub returns : goal.returns
returns c = leads_end _ _ _ _ _ (omega arith) (c.loop-step.invariant)

use mathlib.Core.Logic.{inl, inr}
use mathlib.Core.Path.{ap, sym, ◌∙◌}
use Rattle.checker.specs.Parts.{record_of}
use Rattle.checker.proofs.record_of.Goals as goal

pub returns-in-Typed : goal.returns-in-Typed
returns-in-Typed c = elim c.in-Typed.is [ inl q ↦ ap record_of (sym q.1) | inr q ↦ ap record_of (sym q.2) ]

pub returns-in-Typed-2 : goal.returns-in-Typed-2
returns-in-Typed-2 c = elim c.in-Typed.is [ inl q ↦ ap record_of (sym q.1) | inr q ↦ ap record_of (sym q.2) ]

pub returns-in-Refused : goal.returns-in-Refused
returns-in-Refused c = elim c.in-Refused.is [ inl q ↦ c.no_record.ensures ∙ ap record_of (sym q.2) | inr q ↦ c.no_record.ensures ∙ ap record_of (sym q) ]

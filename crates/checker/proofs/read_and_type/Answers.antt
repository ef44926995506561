use mathlib.Core.Logic.{inl, inr}
use Rattle.checker.proofs.Laws.{walked_body, walked_long, walked_short, walked_refused}
use Rattle.checker.proofs.read_and_type.Goals as goal

pub returns-in-Body : goal.returns-in-Body
returns-in-Body c = walked_body _ _ _ _ _ _ _ (c.read_body.ensures) _ _ _ (c.in-Body.is) (c.walk_read.ensures)

pub returns-in-TooLong : goal.returns-in-TooLong
returns-in-TooLong c = elim c.in-TooLong.is [ inl e ↦ walked_long _ _ _ _ _ _ _ c.read_body.ensures e | inr e ↦ walked_short _ _ _ _ _ _ _ c.read_body.ensures e ]

pub returns-in-Refused : goal.returns-in-Refused
returns-in-Refused c = walked_refused _ _ _ _ _ _ _ (c.read_body.ensures) _ _ (c.in-Refused.is)

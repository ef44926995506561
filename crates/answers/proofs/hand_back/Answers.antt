use mathlib.Core.Path.{refl}
use Rattle.answers.proofs.Laws.{handed_typed, handed_declined, handed_refused, handed_unread}
use Rattle.answers.proofs.hand_back.Goals as goal

pub returns-in-Typed : goal.returns-in-Typed
returns-in-Typed c = handed_typed _ _ _ _ _ _ _ _ _ (c.in-Typed.is) (c.count.ensures) (c.fill.ensures)

pub returns-in-Declined : goal.returns-in-Declined
returns-in-Declined c = handed_declined _ _ _ _ _ _ (c.in-Declined.is) (c.clear.ensures, refl, refl)

pub returns-in-Refused : goal.returns-in-Refused
returns-in-Refused c = handed_refused _ _ _ _ _ (c.in-Refused.is) (c.clear-in-Refused.ensures, refl, refl)

pub returns-in-Unread : goal.returns-in-Unread
returns-in-Unread c = handed_unread _ _ (c.in-Unread.is)

use mathlib.Core.Path.{refl, ap}
use borrow.Author.Tests.{eq-eqb, ne_eqb}
use Rattle.conflict_check.specs.Quarrel.{is_open}
use Rattle.conflict_check.proofs.QuarrelLaws.{as_open, as_shut}
use Rattle.conflict_check.proofs.conflict_by.Goals as goal

pub returns-then-k-eq12 : goal.returns-then-k-eq12
returns-then-k-eq12 c = as_open _ _ _ _ _ _ _ _ _ (c.in-Declined.is) (eq-eqb _ _ (c.if-k-eq12.true)) (c.find-then-k-eq12.ensures)

pub returns-in-Checked : goal.returns-in-Checked
returns-in-Checked c = as_open _ _ _ _ _ _ _ _ _ (c.in-Checked.is) refl (c.find.ensures)

pub returns-in-TooLong : goal.returns-in-TooLong
returns-in-TooLong c = as_shut _ _ _ _ _ _ _ _ refl (ap is_open (c.in-TooLong.is)) (c.refuse.ensures)

pub returns-in-ShortTable : goal.returns-in-ShortTable
returns-in-ShortTable c = as_shut _ _ _ _ _ _ _ _ refl (ap is_open (c.in-ShortTable.is)) (c.refuse-in-ShortTable.ensures)

pub returns-in-Refused : goal.returns-in-Refused
returns-in-Refused c = as_shut _ _ _ _ _ _ _ _ (c.in-Refused.is) refl (c.refuse-in-Refused.ensures)

pub returns-else-k-eq12 : goal.returns-else-k-eq12
returns-else-k-eq12 c = as_shut _ _ _ _ _ _ _ _ (c.in-Declined.is) (ne_eqb _ _ (c.if-k-eq12.false)) (c.refuse-in-Declined.ensures)

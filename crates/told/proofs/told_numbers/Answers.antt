use mathlib.Core.Path.{refl}
use Rattle.told.proofs.NumberLaws.{told_as}
use Rattle.told.proofs.told_numbers.Goals as goal

pub returns-in-Checked : goal.returns-in-Checked
returns-in-Checked c = told_as _ _ _ _ _ _ _ _ c.in-Checked.is refl refl refl c.numbers.ensures

pub returns-in-TooLong : goal.returns-in-TooLong
returns-in-TooLong c = told_as _ _ _ _ _ _ _ _ c.in-TooLong.is refl refl c.no_totals-z.ensures c.numbers-in-TooLong.ensures

pub returns-in-ShortTable : goal.returns-in-ShortTable
returns-in-ShortTable c = told_as _ _ _ _ _ _ _ _ c.in-ShortTable.is refl refl c.no_totals-z.ensures c.numbers-in-ShortTable.ensures

pub returns-in-Refused : goal.returns-in-Refused
returns-in-Refused c = told_as _ _ _ _ _ _ _ _ c.in-Refused.is c.fault_number.ensures refl c.no_totals-z.ensures c.numbers-in-Refused.ensures

pub returns-in-Declined : goal.returns-in-Declined
returns-in-Declined c = told_as _ _ _ _ _ _ _ _ c.in-Declined.is refl refl c.no_totals-z.ensures c.numbers-in-Declined.ensures

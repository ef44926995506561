-- The numbers in which `quarrel`'s answer is told, and the form of its lines as a number. Definitions alone.
use Rattle.std.specs.Prelude.{List, ℕ, eqb}
use Rattle.type_table.specs.Memory.{pick}
use Rattle.told.specs.Numbers.{told_numbers, own_numbers}
use Rattle.conflict_set.specs.declared.Lines.{Lines}
use Rattle.conflict_set.specs.declared.Lines.TheVariants as lines
use Rattle.conflict_check.specs.declared.Quarreled.{Quarreled}
use Rattle.conflict_check.specs.declared.Quarreled.TheVariants.{Refused, Written, Nothing, NoRoom}

-- 0 for lines with the number alone, any other number for those with the place
abbrev pub lines_of : ℕ → Lines
lines_of n = pick (eqb n 0) lines.Numbers lines.Places

-- the fourteen numbers: the papers' number and PLACE, Check's counts, and the bytes of the text
abbrev pub quarrel_numbers : Quarreled → List ℕ
quarrel_numbers (Refused a) = told_numbers a 0
quarrel_numbers (Written a n) = own_numbers 0 a n
quarrel_numbers (Nothing a) = own_numbers 14 a 0
quarrel_numbers (NoRoom a) = own_numbers 9 a 0

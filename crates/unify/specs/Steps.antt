-- The number of steps that unification has, by the counts of a memory, and that it fits a number of 64 bits. Assumes nothing.
use Rattle.std.specs.Prelude.{◌≡◌, List, ℕ, suc, ◌+◌, ◌*◌, ◌≤◌, ◌<◌}
use Rattle.std.proofs.Common.{arith, mul-le-mul_left}
use Rattle.theory.specs.Program.{fuel}
use Rattle.type_table.specs.declared.Counts.{Counts}
use Rattle.type_table.specs.Memory.{mem_of}
use Rattle.type_table.specs.Tables.{length-rows, length_binds}
use Rattle.unify.specs.Promise.{mem_in, rows_in}

-- as the code has it
abbrev pub steps : Counts → ℕ
steps c = c.vars * (c.types + c.types + 1) + (c.types + c.types) + 1

-- it is that of the rules
pub fuel_is : (m : List ℕ) (c : Counts) → fuel (rows_in m c) (mem_in m c) ≡ steps c
unfolding mem_of
fuel_is m c = let i : suc (c.types + c.types) ≡ c.types + c.types + 1 = omega arith in rw (length_binds m c.vars, length-rows m c.types, i) (omega arith)

-- the product in it is small
pub product : (v w : ℕ) → v < 65536 → w < 131072 → v * w < 8589934592
product v w h k = omega (arith, mul-le-mul_left v (le w k))
  where
    le : (w : ℕ) → w < 131072 → w ≤ 131072
    le w k = omega arith

-- so it fits
pub product_fits : (v w : ℕ) → v < 65536 → w < 131072 → v * w < 18446744073709551616
product_fits v w h k = omega (arith, product v w h k)

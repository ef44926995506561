-- A number of 64 bits from its decimal digits. Definitions alone.
use Rattle.std.specs.Prelude.{List, [], ◌∷◌, cond, ℕ, ◌+◌, ◌*◌, ◌-◌, leb, ltb, Option, Some, None}

-- 2^64
abbrev pub most : ℕ
most = 18446744073709551616

-- the number of the digits xs behind digits of the value a; a number is below 2^64
unfoldable pub digits_from : ℕ → List ℕ → Option ℕ
digits_from a [] = cond (ltb a most) (Some a) None
digits_from a (x ∷ xs) = cond (leb 48 x) (cond (leb x 57) (digits_from (a * 10 + (x - 48)) xs) None) None

-- a number has at least one digit
unfoldable pub number_of : List ℕ → Option ℕ
number_of [] = None
number_of (x ∷ xs) = digits_from 0 (x ∷ xs)

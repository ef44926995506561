-- A table of zeros. A definition alone.
use Rattle.std.specs.Prelude.{List, ℕ, length, replicate}

-- a zero for each cell
abbrev pub zeros : List ℕ → List ℕ
zeros t = replicate (length t) 0

-- The state that a walk starts from, and the one computed test that its table has to pass. Assumes nothing.
use Rattle.std.specs.Prelude.{List, [], ◌∷◌, Bool, true, ◌&&◌, ℕ, suc, length, ltb}
use Rattle.std.proofs.Math.Option.{none}
use Rattle.theory.specs.Rules.{Shape}
use Rattle.theory.specs.Program.{St, sane}

-- ── definitions ──

-- each of these rows, which count from n, is made of lower rows and is no variable
abbrev pub ordered_from : ℕ → List Shape → Bool
ordered_from n [] = true
ordered_from n (s ∷ l) = sane n s && ordered_from (suc n) l

-- a table to start from: it has a row, and each row is made of lower rows and is no variable
abbrev pub ordered : List Shape → Bool
ordered rows = ltb 0 (length rows) && ordered_from 0 rows

-- no variable is drawn, no equation raised, no error emitted
unfoldable pub start : {X Er : Type 0} → List Shape → X → St X Er
start rows x = record { rows = rows; kinds = []; origins = []; mem = record { binds = []; marks = [] }; log = []; errs = []; stop = none; own = x }

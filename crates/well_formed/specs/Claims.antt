-- What the claims in proofs/Claims.antt are stated with, beside the definitions that are named there. Definitions alone.
use Rattle.std.specs.Prelude.{ℕ, List}
use Rattle.body.specs.Body.{Held, body_of}

module _ (s rows cells : List ℕ) where
  -- the answer to the file s, and what is then in the two tables lent for it
  abbrev pub result : Held
  result = body_of s rows cells

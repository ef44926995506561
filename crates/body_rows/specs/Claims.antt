-- What the claims in proofs/Claims.antt are stated with, beside the definitions that are named there. Definitions alone.
use Rattle.std.specs.Prelude.{ℕ, ◌≡◌, List}
use Rattle.refs.specs.declared.Counts.{Counts}
use Rattle.body.specs.declared.Answer.TheVariants as answer
use Rattle.body.specs.Body.{Held, body_of}
use Rattle.body_rows.specs.Text.{file_text_in}

-- ── 2. a file that is answered 0, with the counts n ──

module _ (s rows cells : List ℕ) (n : Counts) (read : (body_of s rows cells).answer ≡ answer.Body n) where
  -- the answer to it, and what is then in the two tables lent for it
  abbrev pub result : Held
  result = body_of s rows cells

  -- the text of its tables
  abbrev pub written : List ℕ
  written = file_text_in n result.rows result.cells

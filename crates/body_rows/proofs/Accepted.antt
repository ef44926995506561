-- Of Accepted: the theorems that rest on a declaration which an edit of a definition in specs/ refuses. The definitions and the other theorems stand in
-- specs/Accepted.antt. Assumes nothing.
use Prim.Native.Nat.{ℕ}
use Rattle.std.specs.Prelude.{◌≡◌, List}
use Rattle.refs.specs.declared.Counts.{Counts}
use Rattle.body.specs.declared.Answer.TheVariants as answer
use Rattle.body.specs.Body.{body_of}
use Rattle.well_formed.proofs.WellFormed.{read_well_formed}
use Rattle.body_rows.specs.Text.{lookup_in}
use Rattle.body_rows.proofs.Tables.{rows_of_read}
use Rattle.body_rows.specs.Rows.{WellFormedRows}
use Rattle.body_rows.specs.Accepted.{body_at, tables_well_formed}

-- ── equal types ──

-- ACCEPTED FILES ARE GOOD BODIES: the tables of a file that is read
pub accepted_well_formed : (s rows cells : List ℕ) (n : Counts) → (body_of s rows cells).answer ≡ answer.Body n → WellFormedRows n (lookup_in (body_of s rows cells).rows (body_of s rows cells).cells)
accepted_well_formed s rows cells n e =
    tables_well_formed n (body_of s rows cells).rows (body_of s rows cells).cells (read_well_formed s rows cells n e)
    (body_at n (lookup_in (body_of s rows cells).rows (body_of s rows cells).cells) (rows_of_read s rows cells n e).writable)

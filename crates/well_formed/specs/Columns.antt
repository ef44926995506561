-- A row whose first four columns stay.
-- Assumes nothing.
use Rattle.std.specs.Prelude.{ℕ, ◌+◌, ◌*◌, ◌<◌, ◌≡◌, List, get_or}
use Rattle.std.proofs.Common.{add-zero, arith}
use Rattle.refs.specs.Refs.{form_in, first_in, count_in, levels_in}

-- the first four columns of the row r of rows' are those of rows
abbrev pub RowStays : List ℕ → List ℕ → ℕ → Type 0
RowStays rows rows' r = (c : ℕ) → c < 4 → get_or rows' (r * 5 + c) 0 ≡ get_or rows (r * 5 + c) 0

module _ (rows rows' : List ℕ) (r : ℕ) (stays : RowStays rows rows' r) where
  -- its form stays,
  pub form_same : form_in rows' r ≡ form_in rows r
  unfolding form_in
  form_same = rw (add-zero (r * 5)) at (stays 0 (omega arith))

  -- its first field,
  pub first-same : first_in rows' r ≡ first_in rows r
  unfolding first_in
  first-same = stays 1 (omega arith)

  -- the number of its fields,
  pub count_same : count_in rows' r ≡ count_in rows r
  unfolding count_in
  count_same = stays 2 (omega arith)

  -- and its levels
  pub levels_same : levels_in rows' r ≡ levels_in rows r
  unfolding levels_in
  levels_same = stays 3 (omega arith)

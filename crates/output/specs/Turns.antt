-- What each turn of a loop that writes one line or field after another shows, over plain variables. Assumes nothing.
use Rattle.std.proofs.Common.{arith, add-one, sym, ap}
use Rattle.std.specs.Prelude.{◌≡◌, List, ℕ, ◌+◌, ◌≤◌}
unfoldable pub use Rattle.table_cells.specs.Rows.{cells_to}
use Rattle.output.specs.Output.{Appends}
use Rattle.output.specs.Appending.{append_none, then, appends_as}

-- no row
pub rows_none : (f : ℕ → List ℕ) (c : ℕ) (x : List ℕ) → Appends (cells_to f 0) c x c x
unfolding cells_to
rows_none f c x = append_none c x

-- one row more
pub rows_next : {c d e : ℕ} {x y z : List ℕ} (f : ℕ → List ℕ) (i : ℕ) → Appends (cells_to f i) c x d y → Appends (f i) d y e z → Appends (cells_to f (i + 1)) c x e z
unfolding cells_to
rows_next f i p q = appends_as (ap (cells_to f) (sym (add-one i))) (then p q)

-- all rows
pub rows_all : {c d : ℕ} {x y : List ℕ} (f : ℕ → List ℕ) (n i : ℕ) → i ≤ n → n ≤ i → Appends (cells_to f i) c x d y → Appends (cells_to f n) c x d y
rows_all f n i le ge p = appends_as (ap (cells_to f) (meet le ge)) p
  where
    meet : i ≤ n → n ≤ i → i ≡ n
    meet a b = omega (arith, a, b)

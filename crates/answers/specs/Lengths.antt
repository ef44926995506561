-- What the test of the lengths of the lent tables tells. Assumes nothing.
use Rattle.std.specs.Prelude.{◌≡◌, refl, List, Bool, true, false, ◌||◌, ℕ, ◌≤◌, length, ltb}
use Rattle.std.proofs.Common.{sym, ◌∙◌, ltb-false}
use Rattle.std.proofs.lemmas.Bool.{false≢true}
use Rattle.body.specs.Body.{rows_length, cells_length}
use Rattle.answers.specs.Lent.{Lent, nodes_length, vars_length, types_length, errors_length, memory_length, too_short}

-- tables that are long enough
pub record Long (l : Lent) : Type 0 where
  pub rows : rows_length ≤ length l.rows
  pub cells : cells_length ≤ length l.cells
  pub memory : memory_length ≤ length l.memory
  pub nodes : nodes_length ≤ length l.nodes
  pub vars : vars_length ≤ length l.vars
  pub types : types_length ≤ length l.types
  pub errors : errors_length ≤ length l.errors

-- both parts of a test are false
or-false : (a b : Bool) → (a || b) ≡ false → (a ≡ false) × (b ≡ false)
or-false true b e = absurd (false≢true (sym e))
or-false false b e = (refl, e)

-- a test of a length that is false
long : {A : Type 0} (n : ℕ) (t : List A) → ltb (length t) n ≡ false → n ≤ length t
long n t = ltb-false (length t) n

-- no table is below its length
pub not_short : (l : Lent) → too_short l ≡ false → Long l
unfolding too_short
not_short l e =
    let a = or-false (ltb (length l.rows) rows_length) _ e in
    let b = or-false (ltb (length l.cells) cells_length) _ a.1 in
    let c = or-false (ltb (length l.memory) memory_length) _ b.1 in
    let d = or-false (ltb (length l.nodes) nodes_length) _ c.1 in
    let f = or-false (ltb (length l.vars) vars_length) _ d.1 in
    let g = or-false (ltb (length l.types) types_length) _ f.1 in
    record {
      rows = long rows_length l.rows a.0;
      cells = long cells_length l.cells b.0;
      memory = long memory_length l.memory c.0;
      nodes = long nodes_length l.nodes d.0;
      vars = long vars_length l.vars f.0;
      types = long types_length l.types g.0;
      errors = long errors_length l.errors g.1;
    }

-- the test of all lengths, by the number of the error rows
unfoldable pub too_few : List ℕ → List ℕ → List ℕ → List ℕ → List ℕ → ℕ → List ℕ → Bool
too_few rows cells nodes vars types n memory =
    ltb (length rows) rows_length
    || (ltb (length cells) cells_length
    || (ltb (length memory) memory_length
    || (ltb (length nodes) nodes_length
    || (ltb (length vars) vars_length
    || (ltb (length types) types_length
    || ltb n errors_length)))))

-- it is the test of the tables
pub short_is : (l : Lent) (n : ℕ) (b c : Bool) → length l.errors ≡ n → b ≡ too_few l.rows l.cells l.nodes l.vars l.types n l.memory → b ≡ c → too_short l ≡ c
unfolding too_short too_few
short_is l n b c k e f = rw k (sym e ∙ f)

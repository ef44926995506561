-- What holds of the totals and of the tables on 0: the limits, and zeros behind the used rows. Assumes nothing.
use Rattle.std.specs.Prelude.{◌≡◌, refl, List, [], ◌∷◌, ◌++◌, Bool, true, false, ℕ, suc, zero, ◌+◌, ◌-◌, ◌*◌, ◌≤◌, ◌<◌, replicate, leb}
use Rattle.std.proofs.Math.Path.{sym}
use Rattle.std.proofs.Common.{ap, ◌∙◌, arith, length-drop, length-append, get_or-append-add}
use Rattle.std.proofs.Math.ListN.{length, get_or-append}
use Rattle.theory.specs.Rules.{Shape}
use Rattle.theory.specs.Program.{Equation}
use Rattle.type_table.specs.Memory.{pick, tab, cell}
use Rattle.refs.specs.declared.Counts.{Counts}
use Rattle.nodes.specs.Nodes.{fn_line}
use Rattle.record.specs.declared.TypingError.{TypingError}
use Rattle.record.specs.Own.{Own}
use Rattle.record.specs.Regions.{numbers}
use Rattle.record.specs.Steps.{State}
use Rattle.resolve.specs.Body.{last_state}
use Rattle.well_formed.specs.Good.{WellFormed}
use Rattle.well_formed.specs.Zeros.{ZeroBehind, zero_at}
use Rattle.bounds.proofs.Claims.{variables_1024, made_count, errors_4096, equations_bound}
use Rattle.tables.specs.Rows.{padded, zeros}
use Rattle.tables.specs.RowLaws.{length_cells, length-padded}
use Rattle.tables.specs.Nodes.{node_row, node_table}
use Rattle.tables.specs.Vars.{var_row, var_table}
use Rattle.tables.specs.Types.{inputs_from_lem, shape_inputs, type_rows, type_table, inputs_of}
use Rattle.errors.specs.Rows.{zero_row, row_at, error_rows}
use Rattle.errors.specs.Filling.{length_error_rows, behind_rows}
use Rattle.tables.specs.Log.{equation_row, log_table}
use Rattle.tables.specs.Read.{made_at}
use Rattle.answers.specs.declared.Totals.{Totals}
use Rattle.answers.specs.Lent.{Lent, first_made, made_types, totals, filled}
use Rattle.checker.specs.Back.{cell_padded, made_held}

-- ── limits ──

-- the rows in use are within document 01's limits; the equations are at most two for each node
pub record Limited (t : Totals) : Type 0 where
  pub vars : t.vars ≤ 1024
  pub types : t.types ≤ 4096
  pub errors : t.errors ≤ 4096
  pub equations : t.equations ≤ 2048

-- the totals of a well-formed body
pub limited : (n : Counts) (rows cells : List ℕ) → WellFormed n rows cells → Limited (totals n (last_state n rows cells))
limited n rows cells w =
    let o = (fn_line rows cells).output.0 in
    let s = last_state n rows cells in
    record {
      vars = variables_1024 n rows cells w o;
      types = omega (arith, made_count n rows cells w o, length-drop (first_made n) s.rows);
      errors = errors_4096 n rows cells w o;
      equations = omega (arith, equations_bound n rows cells w o, w.limited.nodes);
    }

-- ── zeros behind ──

-- all of a table past its used rows is zero
pub record Zero (t : Totals) (u : Lent) : Type 0 where
  pub declared : ZeroBehind t.declared u.rows u.cells
  pub nodes : (i : ℕ) → t.declared.nodes * 6 ≤ i → cell u.nodes i ≡ 0
  pub vars : (i : ℕ) → t.vars * 6 ≤ i → cell u.vars i ≡ 0
  pub types : (i : ℕ) → t.types * 5 ≤ i → i < inputs_from_lem → cell u.types i ≡ 0
  pub inputs : (i : ℕ) → inputs_from_lem + length (inputs_of (tab (made_at u.types) t.types)) ≤ i → cell u.types i ≡ 0
  pub errors : (i : ℕ) → t.errors ≤ i → row_at u.errors i ≡ zero_row
  pub log : (i : ℕ) → t.equations * 3 ≤ i → cell u.log i ≡ 0
  pub memory : (i : ℕ) → cell u.memory i ≡ 0

-- behind the cells of a table
behind : (k : ℕ) (t : List ℕ) (i : ℕ) → length t ≤ i → cell (padded k t) i ≡ 0
behind k t i h =
    let z : length t + (i - length t) ≡ i = omega arith in
    ap (λ (j : ℕ). cell (padded k t) j) (sym z) ∙ get_or-append-add t (replicate (k - length t) 0) (i - length t) 0 ∙ zero_at (k - length t) (i - length t)

-- the row of a node has six cells
node_length : (o : Own) (k : ℕ) → length (node_table o k) ≡ k * 6
node_length o k = length_cells (node_row o) 6 (λ i. refl) k

-- and so has that of a variable
var_length : (s : State) → length (var_table s) ≡ length s.kinds * 6
unfolding var_row
var_length s = length_cells (var_row s) 6 (λ v. refl) (length s.kinds)

-- that of a type five
type_length : (k : ℕ) (l : List Shape) → length (type_rows k l) ≡ length l * 5
unfolding type_rows
type_length k [] = refl
type_length k (x ∷ l) = omega (arith, type_length (k + length (shape_inputs x)) l)

-- and that of an equation three
log_length : (n : ℕ) (l : List Equation) → length (log_table n l) ≤ length l * 3
unfolding log_table
log_length n [] = omega arith
log_length n (q ∷ l) = by (log_length n l) (leb (length l * 3 + 3) n)
  where
    by : length (log_table n l) ≤ length l * 3 → (b : Bool) → length (log_table n l ++ pick b (equation_row q) []) ≤ suc (length l) * 3
    by h true = omega (arith, length-append (log_table n l) (equation_row q))
    by h false = omega (arith, length-append (log_table n l) [])

module _ (n : Counts) (rows cells : List ℕ) (w : WellFormed n rows cells) (z : ZeroBehind n rows cells) (l : Lent) where
  -- the state in which the body ends
  abbrev last : State
  last = last_state n rows cells

  -- its made types
  abbrev made : List Shape
  made = made_types n last

  -- their rows are within the first region
  rows_room : length made * 5 ≤ inputs_from_lem
  rows_room = omega (arith, made_count n rows cells w (fn_line rows cells).output.0)

  -- the first region is as long as it should be
  region : length (padded inputs_from_lem (type_rows 0 made)) ≡ inputs_from_lem
  region = length-padded inputs_from_lem (type_rows 0 made) (omega (arith, type_length 0 made, rows_room))

  -- behind the rows of the types
  types_behind : (i : ℕ) → length made * 5 ≤ i → i < inputs_from_lem → cell (type_table (length l.types) made) i ≡ 0
  types_behind i h b =
      get_or-append (padded inputs_from_lem (type_rows 0 made)) (padded (length l.types - inputs_from_lem) (inputs_of made)) 0 i (omega (arith, region))
      ∙ behind inputs_from_lem (type_rows 0 made) i (omega (arith, type_length 0 made))

  -- behind their inputs
  inputs_behind : (i : ℕ) → inputs_from_lem + length (inputs_of made) ≤ i → cell (type_table (length l.types) made) i ≡ 0
  inputs_behind i h =
      let k : ℕ = i - inputs_from_lem in
      let e : i ≡ length (padded inputs_from_lem (type_rows 0 made)) + k = omega (arith, region) in
      ap (λ (j : ℕ). cell (type_table (length l.types) made) j) e
      ∙ get_or-append-add (padded inputs_from_lem (type_rows 0 made)) (padded (length l.types - inputs_from_lem) (inputs_of made)) k 0
      ∙ behind (length l.types - inputs_from_lem) (inputs_of made) k (omega arith)

  -- all tables
  pub zero_behind : Zero (totals n last) (filled n rows cells last l)
  unfolding filled
  zero_behind =
      let e : length last.rows - first_made n ≡ length made = sym (length-drop (first_made n) last.rows) in
      record {
        declared = record {
          cells_zero = λ j h. cell_padded (length l.cells) cells j ∙ z.cells_zero j h;
          rows_zero = λ k i c h b t u. cell_padded (length l.rows) rows _ ∙ z.rows_zero k i c h b t u;
          end_zero = λ j h. cell_padded (length l.rows) rows j ∙ z.end_zero j h;
        };
        nodes = λ i h. behind (length l.nodes) (node_table last.own n.nodes) i (omega (arith, node_length last.own n.nodes));
        vars = λ i h. behind (length l.vars) (var_table last) i (omega (arith, var_length last));
        types = λ i h b. types_behind i (omega (arith, e)) b;
        inputs = λ i h. inputs_behind i (rw (made_held n rows cells w l) at h);
        errors = λ i h. behind_rows (error_rows last.errs) (length l.errors) i (omega (arith, length_error_rows last.errs));
        log = λ i h. behind (length l.log) (log_table (length l.log) last.log) i (omega (arith, log_length (length l.log) last.log));
        memory = λ i. zero_at (length l.memory) i;
      }

-- A row is written behind the rows of a memory: one more row, the rest of the tables as they were. Assumes `Laid`, and room for the row.
use Rattle.std.specs.Prelude.{◌≡◌, refl, List, [], ◌∷◌, ◌++◌, true, ℕ, ◌+◌, ◌*◌, ◌≤◌, ◌<◌, length}
use Rattle.std.proofs.Common.{◌∙◌, arith}
use Rattle.std.proofs.Math.Option.{none}
use Rattle.std.proofs.Math.Decide.{ℕ_discrete}
use Rattle.theory.specs.Rules.{Shape, kids, as_var}
use Rattle.theory.specs.Program.{St, sane, appended}
use Rattle.theory.specs.Basics.{All, clash}
use Rattle.theory.specs.Lift.{lower_on}
use Rattle.theory.proofs.Lift.{good_on}
use Rattle.theory.specs.Demand.{sane_facts}
use Rattle.type_table.specs.declared.Counts.{Counts}
use Rattle.type_table.specs.Memory.{most_types, most_vars, rows_at, inputs_at, arrays_at, cells, counts, first_at, count_at, inputs_from, shape_of, rows_of, kinds_of, origins_of, binds_of, marks_of, mem_of}
use Rattle.type_table.specs.Made.{row_written, pool_cell}
use Rattle.type_table.specs.Tables.{length-rows}
use Rattle.type_table.specs.Sound.{InputsBelow, InputRows, PoolNames, SameInputs, Laid, Sound, state_of}
use Rattle.type_table.specs.Pool.{in_pool, pool_range}
use Rattle.type_table.specs.Frames.{SameIn, SameRows, inputs_same, rows_grow, below_kept, row_length, row_below, row_above, row_inputs, row_shape, SameVars, kinds_kept, origins_kept, binds_kept, marks_kept}

-- ── definitions ──

-- a row can be written in u behind the n rows of m, of i inputs
pub record Ready (m u : List ℕ) (n i : ℕ) : Type 0 where
  -- the inputs of the rows stand below i
  pub below : InputsBelow m n i
  -- u has these rows and inputs
  pub same : SameRows m u n i
  -- u has all regions
  pub size : cells ≤ length u
  -- there is room for a row
  pub room : n < most_types

-- the type of a head, a number, an output and k inputs of m from f on
abbrev pub type_of : List ℕ → ℕ → ℕ → ℕ → ℕ → ℕ → Shape
type_of m h a o f k = shape_of h a o (inputs_from m f k)

-- the counts with one more row
abbrev pub one_more : Counts → Counts
one_more c = counts (c.types + 1) c.vars c.inputs

-- ── the written row ──

module _ {m u : List ℕ} {n i : ℕ} (ready : Ready m u n i) (h a o f k : ℕ) (head : h < 15) (inputs : f + k ≤ i) where
  written_same : SameRows m (row_written u n h a o f k) n i
  written_same =
      record {
        rows = λ j l r. row_below u n h a o f k j (omega arith) ∙ ready.same.rows j l r;
        inputs = λ j l r. row_above u n h a o f k j (omega (arith, ready.room)) ∙ ready.same.inputs j l r;
      }

  row_room : rows_at + n * 5 + 4 < length u
  row_room = omega (arith, ready.size, ready.room)

  -- one more row
  pub written_rows : rows_of (row_written u n h a o f k) (n + 1) ≡ rows_of m n ++ type_of m h a o f k ∷ []
  written_rows =
      rw (rows_grow m (row_written u n h a o f k) n i ready.below written_same, row_shape u n h a o f k row_room head ready.room, inputs_same m u n i ready.below ready.same f k inputs)

  -- the inputs stay
  pub written_inputs : (g b : ℕ) → g + b ≤ i → inputs_from (row_written u n h a o f k) g b ≡ inputs_from m g b
  written_inputs = inputs_same m (row_written u n h a o f k) n i ready.below written_same

  -- the inputs of each row stand
  pub written_below : InputsBelow (row_written u n h a o f k) (n + 1) i
  written_below x l = by (ℕ_discrete x n)
    where
      by : Dec (x ≡ n) → first_at (row_written u n h a o f k) (n + 1) x + count_at (row_written u n h a o f k) (n + 1) x ≤ i
      by (yes e) = rw e (row_inputs u n h a o f k row_room i inputs)
      by (no e) = below_kept m (row_written u n h a o f k) n i ready.below written_same (n + 1) (omega arith) x (omega arith)

  -- the inputs name rows
  pub written_named : InputRows m n i → InputRows (row_written u n h a o f k) (n + 1) i
  written_named named j l = rw (written_same.inputs (inputs_at + j) (omega arith) (omega arith)) (omega (arith, named j l))

  -- the pool stays
  pub written_pool : (rows : List Shape) → PoolNames u rows → PoolNames (row_written u n h a o f k) rows
  written_pool rows p g b e = rw (row_above u n h a o f k (pool_cell g b) (omega (arith, ready.room, pool_range g b (pool_cell g b) (in_pool g b e)))) (p g b e)

  -- the variables stay
  pub written_vars : (v : ℕ) → v ≤ most_vars → (j : ℕ) → j < 5 → SameVars m u v j → SameVars m (row_written u n h a o f k) v j
  written_vars v l j r s x q = row_below u n h a o f k (x * 5 + j) (omega arith) ∙ s x q

-- ── of a memory that differs at most in the pool ──

module _ {m : List ℕ} {c : Counts} (laid : Laid m c) (u : List ℕ) (low : SameIn m u 0 arrays_at) (size : length u ≡ length m) (room : c.types < most_types) (h a o f k : ℕ) (head : h < 15) (inputs : f + k ≤ c.inputs) where
  -- the memory with the row
  abbrev w : List ℕ
  w = row_written u c.types h a o f k

  ready : Ready m u c.types c.inputs
  ready = record { below = laid.below; same = record { rows = λ j l r. low j (omega arith) (omega arith); inputs = λ j l r. low j (omega arith) (omega (arith, laid.inputs)) }; size = rw size laid.size; room = room }

  rows_more : rows_of w (c.types + 1) ≡ rows_of m c.types ++ type_of m h a o f k ∷ []
  rows_more = written_rows ready h a o f k head inputs

  vars_same : (j : ℕ) → j < 5 → SameVars m w c.vars j
  vars_same j r = written_vars ready h a o f k head inputs c.vars laid.vars j r (λ x l. low (x * 5 + j) (omega arith) (omega (arith, laid.vars)))

  kinds_same : kinds_of w c.vars ≡ kinds_of m c.vars
  kinds_same = kinds_kept m w c.vars (vars_same 0 (omega arith))

  origins_same : origins_of w c.vars ≡ origins_of m c.vars
  origins_same = origins_kept m w c.vars (vars_same 1 (omega arith))

  binds_same : binds_of w c.vars ≡ binds_of m c.vars
  binds_same = binds_kept m w c.vars (vars_same 2 (omega arith)) (vars_same 3 (omega arith))

  marks_same : marks_of w c.vars ≡ marks_of m c.vars
  marks_same = marks_kept m w c.vars (vars_same 4 (omega arith))

  -- the state with the row
  pub grown_state : {X Er : Type 0} (s : St X Er) → state_of (row_written u c.types h a o f k) (one_more c) s ≡ appended (type_of m h a o f k) (state_of m c s)
  unfolding state_of mem_of appended
  grown_state s = rw (rows_more, kinds_same, origins_same, binds_same, marks_same)

  -- the inputs stay
  pub grown_inputs : SameInputs m c (row_written u c.types h a o f k)
  grown_inputs = written_inputs ready h a o f k head inputs

  module _ (pool : PoolNames u (rows_of m c.types ++ type_of m h a o f k ∷ [])) where
    -- `Laid` is kept
    pub grown_laid : Laid (row_written u c.types h a o f k) (one_more c)
    grown_laid =
        record {
          size = rw (row_length u c.types h a o f k, size) laid.size;
          types = omega arith;
          vars = laid.vars;
          inputs = laid.inputs;
          fixed = omega (arith, laid.fixed);
          below = written_below ready h a o f k head inputs;
          named = written_named ready h a o f k head inputs laid.named;
          pooled = rw rows_more (written_pool ready h a o f k head inputs (rows_of m c.types ++ type_of m h a o f k ∷ []) pool);
        }

    -- `Sound` is kept, where the parts of the new row are rows and it is no variable
    pub grown_sound : Sound m c → sane c.types (type_of m h a o f k) ≡ true → Sound (row_written u c.types h a o f k) (one_more c)
    grown_sound sound e =
        let g = sane_facts c.types (type_of m h a o f k) e in
        let q : as_var (type_of m h a o f k) ≡ none = g.0 in
        let new_low : All (λ (y : ℕ). y < length (rows_of m c.types)) (kids (type_of m h a o f k)) = rw (length-rows m c.types) g.1 in
        record {
          laid = grown_laid;
          lower = rw rows_more (lower_on (rows_of m c.types) (type_of m h a o f k) sound.lower new_low);
          good = rw (rows_more, kinds_same, binds_same)
              (good_on (rows_of m c.types) (type_of m h a o f k) (kinds_of m c.vars) (kinds_of m c.vars) (binds_of m c.vars) (binds_of m c.vars) sound.good (λ v. refl) (omega arith) (λ v l. refl) (λ v x. clash (cc)) (rw q new_low));
        }

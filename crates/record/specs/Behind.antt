-- A memory that differs only behind the tables of types and variables holds the same tables.
use Rattle.std.specs.Prelude.{◌≡◌, refl, List, ℕ, ◌+◌, ◌*◌, ◌≤◌, ◌<◌, set, length}
use Rattle.std.proofs.Common.{arith, length-set}
use Rattle.theory.specs.Program.{St}
use Rattle.type_table.specs.declared.Counts.{Counts}
use Rattle.type_table.specs.Memory.{inputs_at, cells, cell, rows_of, kinds_of, origins_of, binds_of, mem_of}
use Rattle.type_table.specs.Made.{pool_cell}
use Rattle.type_table.specs.Pool.{in_pool, pool_range}
use Rattle.type_table.specs.Sound.{Laid, Sound, state_of}
use Rattle.type_table.specs.Frames.{SameVars, SameRows, set_above, rows-kept, below_kept, kinds_kept, origins_kept, binds_kept, marks_kept}

-- ── definitions ──

-- w has the length of m, and its cells as far as the tables go
pub record Behind (m w : List ℕ) : Type 0 where
  -- the length is the same
  pub size : length w ≡ length m
  -- the cells of the tables are the same
  pub tables : (i : ℕ) → i < cells → cell w i ≡ cell m i

-- two states have the same rows and variables
pub record SameTypes {X Er : Type 0} (s t : St X Er) : Type 0 where
  -- the rows
  pub rows : t.rows ≡ s.rows
  -- the kinds
  pub kinds : t.kinds ≡ s.kinds
  -- the origins
  pub origins : t.origins ≡ s.origins
  -- the bindings and marks
  pub mem : t.mem ≡ s.mem

-- ── writes behind the tables ──

-- nothing is written
pub behind_none : (m : List ℕ) → Behind m m
behind_none m = record { size = refl; tables = λ i h. refl }

-- one more cell behind the tables is written
pub behind_set : (m w : List ℕ) (j a : ℕ) → cells ≤ j → Behind m w → Behind m (set w j a)
behind_set m w j a h b = record { size = rw length-set b.size; tables = λ i l. rw (set_above w j i a (omega arith)) (b.tables i l) }

-- ── what the tables keep ──

module _ (m w : List ℕ) (c : Counts) (b : Behind m w) (laid : Laid m c) where
  -- the cells of the rows and of their inputs are the same
  same_rows : SameRows m w c.types c.inputs
  same_rows = record { rows = λ i l r. b.tables i (omega (arith, laid.types)); inputs = λ i l r. b.tables i (omega (arith, laid.inputs)) }

  -- each cell of the variables is the same
  same_vars : (k : ℕ) → k < 5 → SameVars m w c.vars k
  same_vars k h v l = b.tables (v * 5 + k) (omega (arith, laid.vars))

  -- the rows are the same
  pub behind_rows : rows_of w c.types ≡ rows_of m c.types
  behind_rows = rows-kept m w c.types c.inputs laid.below same_rows

  -- the kinds are the same
  pub behind_kinds : kinds_of w c.vars ≡ kinds_of m c.vars
  behind_kinds = kinds_kept m w c.vars (same_vars 0 (omega arith))

  -- the origins are the same
  pub behind_origins : origins_of w c.vars ≡ origins_of m c.vars
  behind_origins = origins_kept m w c.vars (same_vars 1 (omega arith))

  -- the bindings are the same
  pub behind_binds : binds_of w c.vars ≡ binds_of m c.vars
  behind_binds = binds_kept m w c.vars (same_vars 2 (omega arith)) (same_vars 3 (omega arith))

  -- the bindings and marks are the same
  pub behind_mem : mem_of w c.vars ≡ mem_of m c.vars
  unfolding mem_of
  behind_mem = rw (behind_binds, marks_kept m w c.vars (same_vars 4 (omega arith)))

  -- the memory stays laid out
  pub behind_laid : Laid w c
  behind_laid =
      record {
        size = rw b.size laid.size;
        types = laid.types;
        vars = laid.vars;
        inputs = laid.inputs;
        fixed = laid.fixed;
        below = below_kept m w c.types c.inputs laid.below same_rows c.types (omega arith);
        named = λ j l. rw (b.tables (inputs_at + j) (omega (arith, laid.inputs))) (laid.named j l);
        pooled = λ h a e. let p = pool_range h a (pool_cell h a) (in_pool h a e) in rw (behind_rows, b.tables (pool_cell h a) (omega (arith, p))) (laid.pooled h a e);
      }

module _ (m w : List ℕ) (c : Counts) (b : Behind m w) (sound : Sound m c) where
  -- the tables stay sound
  pub behind_sound : Sound w c
  behind_sound =
      let laid = sound.laid in
      record {
        laid = behind_laid m w c b laid;
        lower = rw (behind_rows m w c b laid) sound.lower;
        good = rw (behind_rows m w c b laid, behind_kinds m w c b laid, behind_binds m w c b laid) sound.good;
      }

  -- they are those of the same state
  pub behind_state : {X Er : Type 0} (s : St X Er) → state_of w c s ≡ state_of m c s
  unfolding state_of
  behind_state s = let laid = sound.laid in rw (behind_rows m w c b laid, behind_kinds m w c b laid, behind_origins m w c b laid, behind_mem m w c b laid)

-- ── the state ──

-- a memory holds the tables of a state, so it holds those of a state with the same rows and variables
pub state_types : {X Er : Type 0} (m : List ℕ) (c : Counts) (s t : St X Er) → SameTypes s t → state_of m c s ≡ s → state_of m c t ≡ t
unfolding state_of
state_types {X} {Er} m c s t same e =
    let rows : rows_of m c.types ≡ t.rows = cc in
    let kinds : kinds_of m c.vars ≡ t.kinds = cc in
    let origins : origins_of m c.vars ≡ t.origins = cc in
    let mem : mem_of m c.vars ≡ t.mem = cc in
    rw (rows, kinds, origins, mem)

-- the tables of a state after a write behind them
pub behind_types_lem : {X Er : Type 0} (m w : List ℕ) (c : Counts) (s t : St X Er) → Behind m w → Sound m c → SameTypes s t → state_of m c s ≡ s → state_of w c t ≡ t
behind_types_lem m w c s t b sound same e = rw (behind_state m w c b sound t) (state_types m c s t same e)

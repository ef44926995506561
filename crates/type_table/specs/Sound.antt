-- The property of a memory and its counts that every operation keeps, and the state of a walk that they stand for. Definitions alone.
use Rattle.std.specs.Prelude.{◌≡◌, ◌≢◌, List, [], ◌∷◌, ℕ, ◌+◌, ◌≤◌, ◌<◌, length}
use Rattle.theory.specs.Rules.{w8, w16, w32, w64, bool, nil, float, double, uint, int, Shape, base, err, div}
use Rattle.theory.specs.Program.{St, first_equal}
use Rattle.theory.specs.Graph.{Lower, Good}
use Rattle.type_table.specs.declared.Counts.{Counts}
use Rattle.type_table.specs.Memory.{most_types, most_vars, most_inputs, inputs_at, cells, cell, first_at, count_at, inputs_from, shape_of, rows_of, kinds_of, numbered, origins_of, binds_of, mem_of}
use Rattle.type_table.specs.Made.{Making, pool_cell}

-- the fixed types in document 01's order: Nil, Bool, u8, u16, u32, u64, i8, i16, i32, i64, Float, Double, Error, Diverges
abbrev pub fixed_types : List Shape
fixed_types = base nil ∷ base bool ∷ base (uint w8) ∷ base (uint w16) ∷ base (uint w32) ∷ base (uint w64) ∷ base (int w8) ∷ base (int w16) ∷ base (int w32) ∷ base (int w64) ∷ base float ∷ base double ∷ err ∷ div ∷ []

-- the inputs of each of n rows stand below the input i
abbrev pub InputsBelow : List ℕ → ℕ → ℕ → Type 0
InputsBelow m n i = (x : ℕ) → x < n → first_at m n x + count_at m n x ≤ i

-- each of the first i inputs names one of n rows
abbrev pub InputRows : List ℕ → ℕ → ℕ → Type 0
InputRows m n i = (j : ℕ) → j < i → cell m (inputs_at + j) < n

-- for each type that has a cell of the pool, that cell names the first of these rows that is equal to it
abbrev pub PoolNames : List ℕ → List Shape → Type 0
PoolNames m rows = (h a : ℕ) → pool_cell h a ≢ 0 → numbered (cell m (pool_cell h a)) ≡ first_equal 0 rows (shape_of h a 0 [])

-- u has the inputs of m
abbrev pub SameInputs : List ℕ → Counts → List ℕ → Type 0
SameInputs m c u = (f k : ℕ) → f + k ≤ c.inputs → inputs_from u f k ≡ inputs_from m f k

-- the memory is large enough, the counts are within their limits, the inputs of the rows stand and name rows, and the pool is right
pub record Laid (m : List ℕ) (c : Counts) : Type 0 where
  -- the memory has all regions
  pub size : cells ≤ length m
  -- the rows are within their limit
  pub types : c.types ≤ most_types
  -- and the variables
  pub vars : c.vars ≤ most_vars
  -- and the inputs
  pub inputs : c.inputs ≤ most_inputs
  -- the fixed types stand
  pub fixed : 14 ≤ c.types
  -- the inputs of each row are inputs
  pub below : InputsBelow m c.types c.inputs
  -- each input names a row
  pub named : InputRows m c.types c.inputs
  -- the pool names the first of equal rows
  pub pooled : PoolNames m (rows_of m c.types)

-- the same, and the tables are those that the theory speaks of
pub record Sound (m : List ℕ) (c : Counts) : Type 0 where
  -- the memory and its counts
  pub laid : Laid m c
  -- each row is made of lower rows
  pub lower : Lower (rows_of m c.types)
  -- no cycle, all numbers in range, each variable's kind met
  pub good : Good (rows_of m c.types) (kinds_of m c.vars) (binds_of m c.vars)

-- the state s of a walk, with the tables of a memory for its own
unfoldable pub state_of : {X Er : Type 0} → List ℕ → Counts → St X Er → St X Er
state_of m c s = record { rows = rows_of m c.types; kinds = kinds_of m c.vars; origins = origins_of m c.vars; mem = mem_of m c.vars; log = s.log; errs = s.errs; stop = s.stop; own = s.own }

-- what an operation that makes a type answers, and the state that it leaves
abbrev pub answered : {X Er : Type 0} → Making → St X Er → ℕ × St X Er
answered r s = (r.ty, state_of r.memory r.counts s)

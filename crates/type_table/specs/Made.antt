-- What the writing operations leave in the memory and answer.
use Rattle.std.specs.Prelude.{List, [], ◌∷◌, ℕ, suc, zero, ◌+◌, ◌-◌, ◌*◌, get_or, set, length, eqb, ltb, leb, None, Option, Some}
use Rattle.theory.specs.Rules.{infer_head}
use Rattle.theory.specs.Program.{clip}
use Rattle.type_table.specs.declared.Counts.{Counts}
use Rattle.type_table.specs.declared.Made.{Made}
use Rattle.type_table.specs.declared.Kind.{Kind}
use Rattle.type_table.specs.declared.Kind.TheVariants.{Regular, Integer, Float}
unfoldable pub use Rattle.memory_cells.specs.Cells.{row_written, var_written}
use Rattle.type_table.specs.Memory.{pick, cell, counts, most_types, most_vars, most_inputs, inputs_at, arrays_at, refs_at, defs_at, instances_at, cells}
use Rattle.type_table.specs.declared.NodeId.{NodeId}

-- a mark is set
unfoldable pub marking : List ℕ → ℕ → ℕ → List ℕ
marking m n v = pick (ltb v n) (set m (v * 5 + 4) 1) m

-- a variable is bound
unfoldable pub binding : List ℕ → ℕ → ℕ → ℕ → List ℕ
binding m n v z = pick (ltb v n) (set (set m (v * 5 + 2) 1) (v * 5 + 3) z) m

-- the number that stands for a kind
abbrev pub kind_number : Kind → ℕ
kind_number Regular = 0
kind_number Integer = 1
kind_number Float = 2

-- 0 for a literal, else the node's number plus one
abbrev pub origin_number : Option NodeId → ℕ
origin_number None = 0
origin_number (Some n) = pick (ltb n.0 65535) (n.0 + 1) 0

-- what an operation that makes a type answers, and the memory
pub record Making : Type 0 where
  pub counts : Counts
  pub ty : ℕ
  pub memory : List ℕ

-- these counts, this type and this memory
abbrev pub making : Counts → ℕ → List ℕ → Making
making c x m = record { counts = c; ty = x; memory = m }

-- the answer of an operation, with the memory that it leaves
abbrev pub made : Made → List ℕ → Making
made r m = making r.counts r.ty.0 m

-- counts, and the memory
pub record Counting : Type 0 where
  pub counts : Counts
  pub memory : List ℕ

-- these counts and this memory
abbrev pub pushed : Counts → List ℕ → Counting
pushed c m = record { counts = c; memory = m }

-- a new variable and its row
unfoldable pub draw_in : List ℕ → Counts → Kind → Option NodeId → Making
draw_in m c k o =
    pick (leb most_vars c.vars) (making c 0 m)
    (pick (leb most_types c.types) (making c 0 m)
    (making (counts (c.types + 1) (c.vars + 1) c.inputs) c.types
    (row_written (var_written m c.vars (kind_number k) (origin_number o)) c.types infer_head c.vars 0 0 0)))

-- a new row
unfoldable pub append_in : List ℕ → Counts → ℕ → ℕ → ℕ → ℕ → ℕ → Making
append_in m c h a o f k =
    pick (leb most_types c.types) (making c 0 m)
    (making (counts (c.types + 1) c.vars c.inputs) c.types (row_written m c.types h a o f k))

-- where the pool has the first row of a head and a number: 0 where it has none
unfoldable pub pool_cell : ℕ → ℕ → ℕ
pool_cell h a =
    pick (eqb h 8) (pick (ltb a most_types) (arrays_at + a) 0)
    (pick (eqb h 14) (pick (ltb a most_types) (refs_at + a) 0)
    (pick (eqb h 7) (pick (ltb a 256) (defs_at + a) 0)
    (pick (eqb h 5) (pick (ltb a 64) (instances_at + a) 0)
    0)))

-- a new row that the pool has in the cell p
unfoldable pub enter_in : List ℕ → Counts → ℕ → ℕ → ℕ → Making
enter_in m c p h a = pick (leb most_types c.types) (making c 0 m) (append_in (set m p (c.types + 1)) c h a 0 0 0)

-- the row that the pool has, else a new one
unfoldable pub intern_in : List ℕ → Counts → ℕ → ℕ → Making
intern_in m c h a =
    pick (eqb (pool_cell h a) 0) (making c 0 m)
    (pick (eqb (cell m (pool_cell h a)) 0) (enter_in m c (pool_cell h a) h a) (making c (cell m (pool_cell h a) - 1) m))

-- the same, of a head that is made of a row
unfoldable pub intern_of : List ℕ → Counts → ℕ → ℕ → Making
intern_of m c h e = pick (ltb e c.types) (intern_in m c h e) (making c 0 m)

-- a new row of a head that has an output and inputs; nothing changes where the output is no row or not all inputs are there
unfoldable pub parts_in : List ℕ → Counts → ℕ → ℕ → ℕ → ℕ → ℕ → Making
parts_in m c h a o f k =
    pick (leb c.types o) (making c 0 m)
    (pick (ltb c.inputs (f + k)) (making c 0 m)
    (append_in m c h a o f k))

-- one more input; what is no row is pushed as row 0
unfoldable pub push_in : List ℕ → Counts → ℕ → Counting
push_in m c x = pick (leb most_inputs c.inputs) (pushed c m) (pushed (counts c.types c.vars (c.inputs + 1)) (set m (inputs_at + c.inputs) (clip c.types x)))

-- how many cells the pool has
abbrev pub pool_cells : ℕ
pool_cells = 9564

-- k cells from the pool's first on are 0
unfoldable pub cleared : List ℕ → ℕ → List ℕ
cleared m zero = m
cleared m (suc k) = set (cleared m k) (arrays_at + k) 0

-- the fields of `Types` by head, and their widths
abbrev pub fixed_heads : List ℕ
fixed_heads = 9 ∷ 0 ∷ 1 ∷ 1 ∷ 1 ∷ 1 ∷ 2 ∷ 2 ∷ 2 ∷ 2 ∷ 3 ∷ 4 ∷ 10 ∷ 11 ∷ []

-- the widths of these types
abbrev pub fixed_widths : List ℕ
fixed_widths = 0 ∷ 0 ∷ 0 ∷ 1 ∷ 2 ∷ 3 ∷ 0 ∷ 1 ∷ 2 ∷ 3 ∷ 0 ∷ 0 ∷ 0 ∷ 0 ∷ []

-- the first n fixed types
unfoldable pub fixed_rows : List ℕ → ℕ → List ℕ
fixed_rows m zero = m
fixed_rows m (suc x) = row_written (fixed_rows m x) x (get_or fixed_heads x 0) (get_or fixed_widths x 0) 0 0 0

-- the fixed types and an empty pool; a memory that is too short stays as it is, with no row
unfoldable pub start_in : List ℕ → Counting
start_in m = pick (ltb (length m) cells) (pushed (counts 0 0 0) m) (pushed (counts 14 0 0) (fixed_rows (cleared m pool_cells) 14))

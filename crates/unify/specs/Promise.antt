-- The promise of `unify`: what it answers and leaves, of every memory, counts and rows. Definitions alone.
use Rattle.std.specs.Prelude.{◌≡◌, ◌≢◌, List, false, ℕ, ◌+◌, ◌*◌, ◌<◌, length, ltb}
use Rattle.std.proofs.Math.Option.{none}
use Rattle.theory.specs.Rules.{Kind, Mem, Out, success, mismatch, refused12, refused13, dry, numbers_of, Res}
use Rattle.theory.specs.Program.{clip, solve}
use Rattle.type_table.specs.declared.Counts.{Counts}
use Rattle.type_table.specs.declared.TypeId.{TypeId}
use Rattle.type_table.specs.Memory.{pick, cells, most_types, most_vars, counts, cell, kinds_of, mem_of, binding_at, mark_at}
pub use Rattle.search.specs.Search.{rows_in, row_in}
use Rattle.unify.specs.declared.Answer.{Answer}
use Rattle.unify.specs.declared.Answer.TheVariants.{Success, Mismatch, Refused12, Refused13}

-- ── the tables in a memory ──

-- the kinds of its variables
abbrev pub kinds_in : List ℕ → Counts → List Kind
kinds_in m c = kinds_of m c.vars

-- their bindings and marks
abbrev pub mem_in : List ℕ → Counts → Mem
mem_in m c = mem_of m c.vars

-- ── what stays ──

-- from m to w only bindings and marks have changed: no other cell, and neither the cells of a variable that is open nor those of one that is
-- unmarked
pub record Frame (m : List ℕ) (c : Counts) (w : List ℕ) : Type 0 where
  pub size : length w ≡ length m
  pub same : (i : ℕ) → ((v k : ℕ) → v < c.vars → 1 < k → k < 5 → i ≢ v * 5 + k) → cell w i ≡ cell m i
  pub unbound : (v : ℕ) → binding_at w c.vars v ≡ none → (cell w (v * 5 + 2) ≡ cell m (v * 5 + 2)) × (cell w (v * 5 + 3) ≡ cell m (v * 5 + 3))
  pub unmarked : (v : ℕ) → mark_at w c.vars v ≡ false → cell w (v * 5 + 4) ≡ cell m (v * 5 + 4)

-- ── the answer ──

-- the answer that a result of the rules has; out of steps is never met in sound tables
abbrev pub answer_is : Out → Answer
answer_is success = Success
answer_is mismatch = Mismatch
answer_is refused12 = Refused12
answer_is refused13 = Refused13
answer_is dry = Refused12

-- document 01's numbers of an answer: Check's answer, and the CAUSE of an error row
abbrev pub numbers : Answer → ℕ × ℕ
numbers Success = (0, 0)
numbers Mismatch = (0, 1)
numbers Refused12 = (12, 0)
numbers Refused13 = (13, 0)

-- ── the promise ──

-- the counts, if the memory has its length and they do not pass the limits; else there are no rows and no variables
unfoldable pub held_in : List ℕ → Counts → Counts
held_in m c = pick (ltb (length m) cells) (counts 0 0 0) (pick (ltb most_types c.types) (counts 0 0 0) (pick (ltb most_vars c.vars) (counts 0 0 0) c))

-- what the rules make of the equation of x and y over the tables in the memory
unfoldable pub solve_in : List ℕ → Counts → ℕ → ℕ → Res
solve_in m c x y = solve (rows_in m c) (kinds_in m c) (mem_in m c) (clip c.types x) (clip c.types y)

-- the answer, and bindings and marks, are what the rules make of the tables in the memory; nothing else changes
pub record SolvedBy (m : List ℕ) (c : Counts) (x y : TypeId) (w : List ℕ) (r : Answer) : Type 0 where
  pub frame : Frame m c w
  pub answer : r ≡ answer_is (solve_in m c x.0 y.0).0
  pub number : numbers r ≡ numbers_of (solve_in m c x.0 y.0).0
  pub memory : mem_in w c ≡ (solve_in m c x.0 y.0).1

-- the promise: a memory that is too short, or counts past the limits, count as none
abbrev pub Solved : List ℕ → Counts → TypeId → TypeId → List ℕ → Answer → Type 0
Solved m c x y w r = SolvedBy m (held_in m c) x y w r

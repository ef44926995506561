-- A change in the tables of types and variables alone: each operation on them keeps the cells behind them. Assumes nothing but that the variables are within their limit.
use Rattle.std.specs.Prelude.{◌≡◌, List, [], ◌∷◌, ℕ, suc, zero, ◌+◌, ◌*◌, ◌≤◌, ◌<◌, length, set, Option as Option·R}
use Rattle.std.proofs.Math.Path.{refl}
use Rattle.std.proofs.Common.{ap, ◌∙◌, arith, length-set}
use Rattle.std.proofs.Math.Option.{Option}
use Rattle.std.proofs.Math.Decide.{ℕ_discrete}
use borrow.Author.Tests.{eq-eqb, ne_eqb}
use Rattle.theory.specs.Rules.{infer_head}
use Rattle.theory.specs.Program.{Equation, clip}
use Rattle.type_table.specs.declared.Counts.{Counts}
use Rattle.type_table.specs.declared.Kind.{Kind}
use Rattle.type_table.specs.Memory.{tab, cell, cells, counts, most_types, most_vars, most_inputs, inputs_at}
use Rattle.type_table.specs.Made.{marking, kind_number, origin_number, row_written, var_written, Making, making, Counting, pushed, draw_in, append_in, pool_cell, enter_in, intern_in, intern_of, parts_in, push_in}
use Rattle.type_table.specs.Tables.{tab_ext}
use Rattle.type_table.specs.Pool.{in_pool, pool_range}
use Rattle.type_table.specs.Frames.{SameIn, set_below, below_cases, limit_cases, row_length, row_above, var_length, var_above}
use Rattle.unify.specs.Promise.{Frame}
use Rattle.record.specs.declared.Extra.{Extra}
use Rattle.record.specs.Own.{Own, most_nodes, nodes_at, errors_at, log_at, raw_at, extra_at, final_at, own_of, raws_of, error_at, errors_of}
use Rattle.record.specs.Encodes.{LoggedAt, Logged}
use Rattle.type_table.specs.declared.NodeId.{NodeId}

-- w has the length of m, and the same cells behind the tables of types and variables
pub record InTables (m w : List ℕ) : Type 0 where
  -- the length
  pub size : length w ≡ length m
  -- the cells
  pub same : (j : ℕ) → cells ≤ j → cell w j ≡ cell m j

-- ── one store, and one after another ──

-- a memory as it is
pub tables_same : (m : List ℕ) → InTables m m
tables_same m = record { size = refl; same = λ j l. refl }

-- one change after another
pub tables_on : {m w u : List ℕ} → InTables m w → InTables w u → InTables m u
tables_on a b = record { size = b.size ∙ a.size; same = λ j l. b.same j l ∙ a.same j l }

-- a store in the tables
pub tables_set : (m : List ℕ) (i x : ℕ) → i < cells → InTables m (set m i x)
tables_set m i x h = record { size = length-set m i x; same = λ j l. set_below m i j x (omega arith) }

-- a row is written
tables_row : (m : List ℕ) (x h a o f k : ℕ) → x < most_types → InTables m (row_written m x h a o f k)
tables_row m x h a o f k l = record { size = row_length m x h a o f k; same = λ j r. row_above m x h a o f k j (omega arith) }

-- a variable is written
tables_var : (m : List ℕ) (v k o : ℕ) → v < most_vars → InTables m (var_written m v k o)
tables_var m v k o l = record { size = var_length m v k o; same = λ j r. var_above m v k o j (omega arith) }

-- ── the operations ──

-- an answer that leaves what is behind the tables, and as many inputs
pub record Beside (m : List ℕ) (c : Counts) (r : Making) : Type 0 where
  pub in_tables : InTables m r.memory
  pub inputs : r.counts.inputs ≡ c.inputs

module _ (m : List ℕ) (c : Counts) where
  -- nothing is done
  beside_none : (x : ℕ) → Beside m c (making c x m)
  beside_none x = record { in_tables = tables_same m; inputs = refl }

  -- a variable is drawn
  pub beside_draw : (k : Kind) (o : Option·R NodeId) → Beside m c (draw_in m c k o)
  unfolding draw_in
  beside_draw k o =
      let P : Making → Type 0 = Beside m c in
      limit_cases P most_vars c.vars (making c 0 m) _ (λ l. beside_none 0)
      (λ h. limit_cases P most_types c.types (making c 0 m) _ (λ l. beside_none 0)
      (λ g. record { in_tables = tables_on (tables_var m c.vars (kind_number k) (origin_number o) h) (tables_row (var_written m c.vars (kind_number k) (origin_number o)) c.types infer_head c.vars 0 0 0 g); inputs = refl }))

  -- a row is appended
  beside_append : (u : List ℕ) → InTables m u → (h a o f k : ℕ) → Beside m c (append_in u c h a o f k)
  unfolding append_in
  beside_append u b h a o f k =
      limit_cases (Beside m c) most_types c.types (making c 0 u) _ (λ l. record { in_tables = b; inputs = refl })
      (λ g. record { in_tables = tables_on b (tables_row u c.types h a o f k g); inputs = refl })

  -- a lambda or a function is made
  pub beside_parts : (h a o f k : ℕ) → Beside m c (parts_in m c h a o f k)
  unfolding parts_in
  beside_parts h a o f k =
      limit_cases (Beside m c) c.types o (making c 0 m) _ (λ l. beside_none 0)
      (λ l. below_cases (Beside m c) c.inputs (f + k) (making c 0 m) _ (λ g. beside_none 0) (λ g. beside_append m (tables_same m) h a o f k))

  -- a row is entered in the pool
  beside_enter : (p h a : ℕ) → p < cells → Beside m c (enter_in m c p h a)
  unfolding enter_in
  beside_enter p h a l =
      limit_cases (Beside m c) most_types c.types (making c 0 m) _ (λ g. beside_none 0) (λ g. beside_append (set m p (c.types + 1)) (tables_set m p (c.types + 1) l) h a 0 0 0)

  -- a type with a cell of the pool is made
  pub beside_intern : (h a : ℕ) → Beside m c (intern_in m c h a)
  unfolding intern_in
  beside_intern h a = by (ℕ_discrete (pool_cell h a) 0) (ℕ_discrete (cell m (pool_cell h a)) 0)
    where
      by : Dec (pool_cell h a ≡ 0) → Dec (cell m (pool_cell h a) ≡ 0) → Beside m c (intern_in m c h a)
      by (yes e) d = rw (eq-eqb (pool_cell h a) 0 e) (beside_none 0)
      by (no e) (yes d) = rw (ne_eqb (pool_cell h a) 0 e, eq-eqb (cell m (pool_cell h a)) 0 d) (beside_enter (pool_cell h a) h a (pool_range h a (pool_cell h a) (in_pool h a e)).1)
      by (no e) (no d) = rw (ne_eqb (pool_cell h a) 0 e, ne_eqb (cell m (pool_cell h a)) 0 d) (beside_none _)

  -- the same, of a head that is made of a row
  pub beside_of : (h e : ℕ) → Beside m c (intern_of m c h e)
  unfolding intern_of
  beside_of h e = below_cases (Beside m c) e c.types (intern_in m c h e) (making c 0 m) (λ l. beside_intern h e) (λ l. beside_none 0)

  -- an input is pushed
  pub tables_push : (x : ℕ) → InTables m (push_in m c x).memory
  unfolding push_in
  tables_push x =
      limit_cases (λ (r : Counting). InTables m r.memory) most_inputs c.inputs (pushed c m) (pushed (counts c.types c.vars (c.inputs + 1)) (set m (inputs_at + c.inputs) (clip c.types x))) (λ l. tables_same m)
      (λ l. tables_set m (inputs_at + c.inputs) (clip c.types x) (omega arith))

  -- a mark is set
  pub tables_mark : c.vars ≤ most_vars → (v : ℕ) → InTables m (marking m c.vars v)
  unfolding marking
  tables_mark few v = below_cases (InTables m) v c.vars (set m (v * 5 + 4) 1) m (λ l. tables_set m (v * 5 + 4) 1 (omega arith)) (λ l. tables_same m)

  -- bindings and marks change
  pub tables_frame : c.vars ≤ most_vars → (w : List ℕ) → Frame m c w → InTables m w
  tables_frame few w f = record { size = f.size; same = λ j l. f.same j (λ v k a b d e. omega (arith, few)) }

-- Each writing operation is its step of the theory on the tables of the memory, where there is room, and keeps `Laid` and `Sound` always. Assumes `Laid` or `Sound`.
use Rattle.std.specs.Prelude.{◌≡◌, ◌≢◌, ◌⊎◌, List, [], ◌∷◌, ◌++◌, true, false, ◌&&◌, set, length, eqb, ltb, Option, Some}
use Rattle.std.proofs.Math.Path.{refl}
use Rattle.std.proofs.Common.{sym, ap, ◌∙◌, inl, inr, length-set, length-append, get_or-set_same, get_or-set_other}
use Rattle.std.proofs.Math.Option.{none, some}
use Prim.Native.Nat.{ℕ, suc, zero, ◌+◌, ◌-◌, ◌*◌, ◌≤◌, ◌<◌}
use native.Mathlib.Omega.{arith}
use Rattle.std.proofs.Math.Decide.{ℕ_discrete}
use Rattle.std.proofs.Math.Numerals.{add-one}
use Rattle.std.proofs.Math.ListN.{get_or, get_or-append, get_or-eq_default}
use Rattle.std.proofs.Math.Seq.{set_out}
use borrow.Author.Tests.{eq-eqb, ne_eqb, lt-leb, lt-ltb, le-ltb}
use Rattle.theory.specs.Rules.{Shape, var, arr, ref, fn, fun, lam, base, inst, regular, bind, array_head, ref_head, fn_def_head, instance_head, lambda_head, param_head, infer_head}
use Rattle.theory.specs.Program.{St, made_of, first_equal, all_below, sane, clip, drawn, appended, interned, marking as marking·T}
use Rattle.theory.specs.Basics.{All}
use Rattle.theory.specs.Graph.{Good}
use Rattle.theory.specs.Lift.{lower_on}
use Rattle.theory.proofs.Lift.{good_on}
use Rattle.theory.specs.Demand.{read_past, clip_in}
use Rattle.theory.specs.Start.{start}
use Rattle.theory.proofs.Start.{start_track}
use Rattle.type_table.specs.declared.Counts.{Counts}
use Rattle.type_table.specs.declared.NodeId.{NodeId}
use Rattle.type_table.specs.declared.Kind.{Kind}
use Rattle.type_table.specs.Memory.{pick, tab, most_types, most_vars, most_inputs, rows_at, inputs_at, arrays_at, cells, cell, counts, inputs_from, shape_of, rows_of, kind_of, kinds_of, numbered, origins_of, binds_of, marks_of, mem_of, Held}
use Rattle.type_table.specs.Made.{marking, binding, kind_number, origin_number, row_written, var_written, Making, making, draw_in, append_in, pool_cell, enter_in, intern_in, intern_of, parts_in, Counting, pushed, push_in, fixed_heads, fixed_widths, fixed_rows, pool_cells, cleared, start_in}
use Rattle.type_table.specs.Tables.{tab_snoc, length-rows, length_kinds, length_binds, length_marks}
use Rattle.type_table.specs.Sound.{fixed_types, InputsBelow, InputRows, PoolNames, SameInputs, Laid, Sound, state_of, answered}
use Rattle.type_table.specs.Pool.{InPool, array, reference, definition, «instance», in_pool, pool_range, pool_head, pool_own, pool_equal, unequal, first-none, first_other, first_new}
use Rattle.type_table.specs.Frames.{set_above, set_below, below_cases, limit_cases, SameIn, SameRows, inputs_snoc, inputs_low, rows_low, rows-kept, inputs_same, below_kept, row_length, row_below, row_above, SameVars, kinds_kept, origins_kept, binds_kept, marks_kept, kinds_grow, origins_grow, binds_grow, marks_grow, var_length, var_below, var_above, var_kind, var_origin, var_binding, var_mark, cell_other, marks_set, binds_set, cleared_length, cleared_cell}
use Rattle.type_table.specs.Grow.{Ready, type_of, one_more, written_rows, written_inputs, written_below, written_named, written_pool, written_vars, grown_state, grown_inputs, grown_laid, grown_sound}

-- what the reading and unifying operations ask of a memory
pub laid_held : {m : List ℕ} {c : Counts} → Laid m c → Held m c
laid_held laid = record { room = omega (arith, laid.size, laid.vars); vars = laid.vars; types = laid.types }

-- ── a variable is drawn ──

-- a node's number is read as it was stored
pub origin_node : (n : NodeId) → n.0 < 65535 → numbered (origin_number (Some n)) ≡ some n.0
origin_node n h = rw (lt-ltb n.0 65535 h, add-one n.0)

module _ {m : List ℕ} {c : Counts} (laid : Laid m c) (room : c.types < most_types) (room' : c.vars < most_vars) (k : Kind) (o : Option NodeId) where
  -- the number of the kind
  abbrev kn : ℕ
  kn = kind_number k

  -- the number of the origin
  abbrev on : ℕ
  on = origin_number o

  -- the memory with the variable's cells
  abbrev u : List ℕ
  u = var_written m c.vars kn on

  -- and with its row
  abbrev w : List ℕ
  w = row_written u c.types infer_head c.vars 0 0 0

  -- the counts with the variable and its row
  abbrev both_more : Counts
  both_more = counts (c.types + 1) (c.vars + 1) c.inputs

  above : (j : ℕ) → rows_at ≤ j → cell u j ≡ cell m j
  above j l = var_above m c.vars kn on j (omega arith)

  ready : Ready m u c.types c.inputs
  ready = record { below = laid.below; same = record { rows = λ j l r. above j l; inputs = λ j l r. above j (omega arith) }; size = rw (var_length m c.vars kn on) laid.size; room = room }

  more_rows : rows_of w (c.types + 1) ≡ rows_of m c.types ++ var c.vars ∷ []
  unfolding shape_of
  more_rows = written_rows ready infer_head c.vars 0 0 0 (omega arith) (omega arith)

  old_vars : (j : ℕ) → j < 5 → SameVars m w c.vars j
  old_vars j l = written_vars ready infer_head c.vars 0 0 0 (omega arith) (omega arith) c.vars laid.vars j l (λ x r. var_below m c.vars kn on (x * 5 + j) (omega arith))

  new_var : (j : ℕ) → j < c.vars * 5 + 5 → cell w j ≡ cell u j
  new_var j l = row_below u c.types infer_head c.vars 0 0 0 j (omega arith)

  var_room_lem : c.vars * 5 + 4 < length m
  var_room_lem = omega (arith, laid.size)

  more_kinds : kinds_of w (c.vars + 1) ≡ kinds_of m c.vars ++ kind_of kn ∷ []
  more_kinds = rw (kinds_grow m w c.vars (old_vars 0 (omega arith)), var_kind m c.vars kn on var_room_lem w new_var)

  more_origins : origins_of w (c.vars + 1) ≡ origins_of m c.vars ++ numbered on ∷ []
  more_origins = rw (origins_grow m w c.vars (old_vars 1 (omega arith)), var_origin m c.vars kn on var_room_lem w new_var)

  more_binds : binds_of w (c.vars + 1) ≡ binds_of m c.vars ++ none ∷ []
  more_binds = rw (binds_grow m w c.vars (old_vars 2 (omega arith)) (old_vars 3 (omega arith)), var_binding m c.vars kn on var_room_lem w new_var)

  more_marks : marks_of w (c.vars + 1) ≡ marks_of m c.vars ++ false ∷ []
  more_marks = rw (marks_grow m w c.vars (old_vars 4 (omega arith)), var_mark m c.vars kn on var_room_lem w new_var)

  drawn_state : {X Er : Type 0} (s : St X Er) → state_of w both_more s ≡ drawn (kind_of kn) (numbered on) (state_of m c s)
  unfolding state_of mem_of drawn
  drawn_state s = rw (more_rows, more_kinds, more_origins, more_binds, more_marks, length_binds m c.vars)

  drawn_inputs : SameInputs m c w
  drawn_inputs = written_inputs ready infer_head c.vars 0 0 0 (omega arith) (omega arith)

  more_pool : PoolNames u (rows_of m c.types ++ var c.vars ∷ [])
  more_pool g b e =
      rw (above (pool_cell g b) (omega (arith, pool_range g b (pool_cell g b) (in_pool g b e))), first_other (rows_of m c.types) (var c.vars) (shape_of g b 0 []) (unequal (var c.vars) (shape_of g b 0 []) refl)) (laid.pooled g b e)

  drawn_laid : Laid w both_more
  drawn_laid =
      record {
        size = rw (row_length u c.types infer_head c.vars 0 0 0) ready.size;
        types = omega arith;
        vars = omega arith;
        inputs = laid.inputs;
        fixed = omega (arith, laid.fixed);
        below = written_below ready infer_head c.vars 0 0 0 (omega arith) (omega arith);
        named = written_named ready infer_head c.vars 0 0 0 (omega arith) (omega arith) laid.named;
        pooled = rw more_rows (written_pool ready infer_head c.vars 0 0 0 (omega arith) (omega arith) (rows_of m c.types ++ var c.vars ∷ []) more_pool);
      }

  drawn_sound : Sound m c → Sound w both_more
  drawn_sound sound =
      record {
        laid = drawn_laid;
        lower = rw more_rows (lower_on (rows_of m c.types) (var c.vars) sound.lower tt);
        good = rw (more_rows, more_kinds, more_binds)
            (good_on (rows_of m c.types) (var c.vars) (kinds_of m c.vars) (kinds_of m c.vars ++ kind_of kn ∷ []) (binds_of m c.vars) (binds_of m c.vars ++ none ∷ []) sound.good (read_past (binds_of m c.vars))
            (simp length-append (omega arith)) (λ v l. get_or-append (kinds_of m c.vars) (kind_of kn ∷ []) regular v (omega (arith, length_kinds m c.vars, length_binds m c.vars)))
            (λ v e. let q : c.vars ≡ v = cc in simp length-append (omega (arith, length_binds m c.vars)))
            (rw (get_or-eq_default (binds_of m c.vars) none {n = c.vars} (omega (arith, length_binds m c.vars))) tt));
      }

-- without room nothing changes
draw_cases : {m : List ℕ} {c : Counts} (laid : Laid m c) (k : Kind) (o : Option NodeId) (P : Making → Type 0) → (most_vars ≤ c.vars → P (making c 0 m)) → (most_types ≤ c.types → P (making c 0 m))
    → ((room : c.types < most_types) (room' : c.vars < most_vars) → P (making (both_more laid room room' k o) c.types (w laid room room' k o))) → P (draw_in m c k o)
unfolding draw_in
draw_cases {m} {c} laid k o P no-variable no_row new = limit_cases P most_vars c.vars (making c 0 m) _ no-variable (λ h. limit_cases P most_types c.types (making c 0 m) _ no_row (λ g. new g h))

module _ {m : List ℕ} {c : Counts} (laid : Laid m c) (k : Kind) (o : Option NodeId) where
  -- the answer is the new row, and the state is that with a variable drawn
  pub draw_state : c.types < most_types → c.vars < most_vars → {X Er : Type 0} (s : St X Er) → answered (draw_in m c k o) s ≡ (c.types, drawn (kind_of (kind_number k)) (numbered (origin_number o)) (state_of m c s))
  draw_state room room' s =
      draw_cases laid k o (λ (r : Making). answered r s ≡ (c.types, drawn (kind_of (kind_number k)) (numbered (origin_number o)) (state_of m c s))) (λ l. absurd (omega arith)) (λ l. absurd (omega arith)) (λ g h. rw (drawn_state laid g h k o s))

  -- the inputs stay
  pub draw_inputs : SameInputs m c (draw_in m c k o).memory
  draw_inputs = draw_cases laid k o (λ (r : Making). SameInputs m c r.memory) (λ l f n q. refl) (λ l f n q. refl) (λ g h. drawn_inputs laid g h k o)

  -- `Laid` is kept
  pub draw_laid : Laid (draw_in m c k o).memory (draw_in m c k o).counts
  draw_laid = draw_cases laid k o (λ (r : Making). Laid r.memory r.counts) (λ l. laid) (λ l. laid) (λ g h. drawn_laid laid g h k o)

-- `Sound` is kept
pub draw_sound : {m : List ℕ} {c : Counts} → Sound m c → (k : Kind) (o : Option NodeId) → Sound (draw_in m c k o).memory (draw_in m c k o).counts
draw_sound sound k o = draw_cases sound.laid k o (λ (r : Making). Sound r.memory r.counts) (λ l. sound) (λ l. sound) (λ g h. drawn_sound sound.laid g h k o sound)

-- ── the row that a made type is given ──

module _ {X Er : Type 0} (t : Shape) (m : List ℕ) (c : Counts) (s : St X Er) where
  interned_new : sane c.types t ≡ true → first_equal 0 (rows_of m c.types) t ≡ none → interned t (state_of m c s) ≡ (c.types, appended t (state_of m c s))
  unfolding interned state_of
  interned_new e q = rw (length-rows m c.types, e, q) (ap (λ (n : ℕ). (n, appended t (state_of m c s))) (length-rows m c.types))

  interned_old : (r : ℕ) → sane c.types t ≡ true → first_equal 0 (rows_of m c.types) t ≡ some r → interned t (state_of m c s) ≡ (r, state_of m c s)
  unfolding interned state_of
  interned_old r e q = rw (length-rows m c.types, e, q)

  interned_not : sane c.types t ≡ false → interned t (state_of m c s) ≡ (0, state_of m c s)
  unfolding interned state_of
  interned_not e = rw (length-rows m c.types, e)

-- ── a lambda or a function is made ──

-- inputs that name rows are rows
inputs_below : (m : List ℕ) (n i : ℕ) → InputRows m n i → (f k : ℕ) → f + k ≤ i → all_below n (inputs_from m f k) ≡ true
unfolding inputs_from
inputs_below m n i named f zero h = refl
inputs_below m n i named f (suc k) h = rw (lt-ltb (cell m (inputs_at + f)) n (named f (omega arith)), inputs_below m n i named (suc f) k (omega arith))

-- the type has the output o and k inputs from f on, and is made of no number
module _ {m : List ℕ} {c : Counts} (laid : Laid m c) (h a o f k : ℕ) (head : h < 15) (unmade : made_of (type_of m h a o f k) ≡ none)
    (parts : sane c.types (type_of m h a o f k) ≡ (ltb o c.types && all_below c.types (inputs_from m f k))) where
  -- the type
  abbrev parts_type : Shape
  parts_type = type_of m h a o f k

  -- the memory with its row
  abbrev parts_memory : List ℕ
  parts_memory = row_written m c.types h a o f k

  parts_made : o < c.types → f + k ≤ c.inputs → sane c.types parts_type ≡ true
  parts_made l i = parts ∙ rw (lt-ltb o c.types l, inputs_below m c.types c.inputs laid.named f k i)

  parts_unmade : c.types ≤ o → sane c.types parts_type ≡ false
  parts_unmade l = parts ∙ rw (le-ltb o c.types l)

  parts_pool : PoolNames m (rows_of m c.types ++ parts_type ∷ [])
  parts_pool g b e = laid.pooled g b e ∙ sym (first_other (rows_of m c.types) parts_type (shape_of g b 0 []) (unequal parts_type (shape_of g b 0 []) unmade))

  -- nothing changes where the output is no row, an input is not there, or there is no room
  parts_cases : (P : Making → Type 0) → (c.types ≤ o → P (making c 0 m)) → (c.inputs < f + k → P (making c 0 m)) → (most_types ≤ c.types → P (making c 0 m))
      → (o < c.types → f + k ≤ c.inputs → c.types < most_types → P (making (one_more c) c.types parts_memory)) → P (parts_in m c h a o f k)
  unfolding parts_in append_in
  parts_cases P no_output no_input no_room new =
      let old = making c 0 m in
      limit_cases P c.types o old _ no_output (λ l. below_cases P c.inputs (f + k) old _ no_input (λ i. limit_cases P most_types c.types old _ no_room (λ r. new l i r)))

  -- the answer is the new row, and the state is that with the type made; of an output that is no row nothing is made
  parts_state : c.types < most_types → f + k ≤ c.inputs → {X Er : Type 0} (s : St X Er) → answered (parts_in m c h a o f k) s ≡ interned (type_of m h a o f k) (state_of m c s)
  parts_state room inputs s =
      parts_cases (λ (r : Making). answered r s ≡ interned parts_type (state_of m c s)) (λ l. sym (interned_not parts_type m c s (parts_unmade l))) (λ i. absurd (omega arith)) (λ q. absurd (omega arith))
      (λ l i r. rw (interned_new parts_type m c s (parts_made l i) (first-none 0 (rows_of m c.types) parts_type unmade), grown_state laid m (λ j p q. refl) refl r h a o f k head i s))

  parts_inputs : SameInputs m c (parts_in m c h a o f k).memory
  parts_inputs = parts_cases (λ (r : Making). SameInputs m c r.memory) (λ l g b q. refl) (λ i g b q. refl) (λ r g b q. refl) (λ l i r. grown_inputs laid m (λ j p q. refl) refl r h a o f k head i)

  parts_laid : Laid (parts_in m c h a o f k).memory (parts_in m c h a o f k).counts
  parts_laid = parts_cases (λ (r : Making). Laid r.memory r.counts) (λ l. laid) (λ i. laid) (λ r. laid) (λ l i r. grown_laid laid m (λ j p q. refl) refl r h a o f k head i parts_pool)

  parts_sound : Sound m c → Sound (parts_in m c h a o f k).memory (parts_in m c h a o f k).counts
  parts_sound sound = parts_cases (λ (r : Making). Sound r.memory r.counts) (λ l. sound) (λ i. sound) (λ r. sound) (λ l i r. grown_sound laid m (λ j p q. refl) refl r h a o f k head i parts_pool sound (parts_made l i))

module _ {m : List ℕ} {c : Counts} (laid : Laid m c) (a o f k : ℕ) where
  -- a lambda is made; of an output that is no row nothing is made
  pub lambda_state : c.types < most_types → f + k ≤ c.inputs → {X Er : Type 0} (s : St X Er) → answered (parts_in m c lambda_head a o f k) s ≡ interned (lam a o (inputs_from m f k)) (state_of m c s)
  unfolding shape_of
  lambda_state = parts_state laid lambda_head a o f k (omega arith) refl refl

  -- a function is made; of an output that is no row nothing is made
  pub function_state : c.types < most_types → f + k ≤ c.inputs → {X Er : Type 0} (s : St X Er) → answered (parts_in m c param_head a o f k) s ≡ interned (fun a o (inputs_from m f k)) (state_of m c s)
  unfolding shape_of
  function_state = parts_state laid param_head a o f k (omega arith) refl refl

  -- a lambda keeps the inputs
  pub lambda_inputs : SameInputs m c (parts_in m c lambda_head a o f k).memory
  unfolding shape_of
  lambda_inputs = parts_inputs laid lambda_head a o f k (omega arith) refl refl

  -- a function keeps the inputs
  pub function_inputs : SameInputs m c (parts_in m c param_head a o f k).memory
  unfolding shape_of
  function_inputs = parts_inputs laid param_head a o f k (omega arith) refl refl

  -- a lambda keeps `Laid`
  pub lambda_laid : Laid (parts_in m c lambda_head a o f k).memory (parts_in m c lambda_head a o f k).counts
  unfolding shape_of
  lambda_laid = parts_laid laid lambda_head a o f k (omega arith) refl refl

  -- a function keeps `Laid`
  pub function_laid : Laid (parts_in m c param_head a o f k).memory (parts_in m c param_head a o f k).counts
  unfolding shape_of
  function_laid = parts_laid laid param_head a o f k (omega arith) refl refl

module _ {m : List ℕ} {c : Counts} (sound : Sound m c) (a o f k : ℕ) where
  -- a lambda keeps `Sound`
  pub lambda_sound : Sound (parts_in m c lambda_head a o f k).memory (parts_in m c lambda_head a o f k).counts
  unfolding shape_of
  lambda_sound = parts_sound sound.laid lambda_head a o f k (omega arith) refl refl sound

  -- a function keeps `Sound`
  pub function_sound : Sound (parts_in m c param_head a o f k).memory (parts_in m c param_head a o f k).counts
  unfolding shape_of
  function_sound = parts_sound sound.laid param_head a o f k (omega arith) refl refl sound

-- ── a type with a cell of the pool is made ──

module _ {m : List ℕ} {c : Counts} (laid : Laid m c) (h a : ℕ) where
  -- its cell
  abbrev p : ℕ
  p = pool_cell h a

  -- the type
  abbrev t : Shape
  t = shape_of h a 0 []

  -- the rows that there are
  abbrev rows : List Shape
  rows = rows_of m c.types

  -- the memory with the new row's number in the pool
  abbrev entered : List ℕ
  entered = set m p (c.types + 1)

  enter_low : InPool h a p → SameIn m entered 0 arrays_at
  enter_low here j l r = set_above m p j (c.types + 1) (omega (arith, pool_range h a p here))

  enter_pool : InPool h a p → first_equal 0 rows t ≡ none → PoolNames entered (rows ++ t ∷ [])
  enter_pool here q g b n = by (ℕ_discrete h g) (ℕ_discrete a b)
    where
      there : InPool g b (pool_cell g b)
      there = in_pool g b n

      other : (eqb h g && eqb a b) ≡ false → pool_cell g b ≢ p → numbered (cell entered (pool_cell g b)) ≡ first_equal 0 (rows ++ t ∷ []) (shape_of g b 0 [])
      other d o = rw (get_or-set_other m p (pool_cell g b) (c.types + 1) 0 o, first_other rows t (shape_of g b 0 []) (pool_equal h a g b p (pool_cell g b) here there ∙ d)) (laid.pooled g b n)

      own : pool_cell g b ≡ p → (h ≡ g) × (a ≡ b)
      own r = pool_own h a g b p here (rw r at there)

      by : Dec (h ≡ g) → Dec (a ≡ b) → numbered (cell entered (pool_cell g b)) ≡ first_equal 0 (rows ++ t ∷ []) (shape_of g b 0 [])
      by (yes i) (yes j) =
          rw (
            ← i,
            ← j,
            get_or-set_same m p (c.types + 1) 0 (omega (arith, laid.size, pool_range h a p here)),
            add-one c.types,
            first_new rows t t (pool_equal h a h a p p here here ∙ rw (eq-eqb h h refl, eq-eqb a a refl)) q,
            length-rows m c.types,
          )
      by (yes i) (no j) = other (rw (ne_eqb a b j, eq-eqb h g i)) (λ r. j (own r).1)
      by (no i) d = other (rw (ne_eqb h g i)) (λ r. i (own r).0)

  -- the memory with the new row
  abbrev entered_row : List ℕ
  entered_row = row_written entered c.types h a 0 0 0

  -- where none is equal a row is entered, if there is room; else the first equal one is answered
  intern_cases : (P : Making → Type 0) → (pool_cell h a ≡ 0 → P (making c 0 m)) → (most_types ≤ c.types → P (making c 0 m)) → ((r : ℕ) → first_equal 0 rows t ≡ some r → P (making c r m))
      → (InPool h a p → c.types < most_types → first_equal 0 rows t ≡ none → P (making (one_more c) c.types entered_row)) → P (intern_in m c h a)
  unfolding intern_in enter_in append_in
  intern_cases P no_cell no_room old new = by (ℕ_discrete p 0)
    where
      found : pool_cell h a ≢ 0 → (x : ℕ) → numbered x ≡ first_equal 0 rows t → P (pick (eqb x 0) (enter_in m c p h a) (making c (x - 1) m))
      found e zero q = limit_cases P most_types c.types (making c 0 m) _ no_room (λ room. rw (lt-leb most_types c.types room) (new (in_pool h a e) room (sym q)))
      found e (suc r) q = let z : suc r - 1 ≡ r = omega arith in rw (ne_eqb (suc r) 0 (λ y. omega arith), z) (old r (sym q))

      by : Dec (p ≡ 0) → P (intern_in m c h a)
      by (yes e) = rw e (no_cell e)
      by (no e) = rw (ne_eqb p 0 e) (found e (cell m p) (laid.pooled h a e))

  intern_inputs : SameInputs m c (intern_in m c h a).memory
  intern_inputs = intern_cases (λ (r : Making). SameInputs m c r.memory) (λ e f k l. refl) (λ e f k l. refl) (λ r q f k l. refl) (λ here room q. grown_inputs laid entered (enter_low here) (length-set m p (c.types + 1)) room h a 0 0 0 (pool_head h a p here) (omega arith))

  intern_laid : Laid (intern_in m c h a).memory (intern_in m c h a).counts
  unfolding inputs_from
  intern_laid = intern_cases (λ (r : Making). Laid r.memory r.counts) (λ e. laid) (λ e. laid) (λ r q. laid) (λ here room q. grown_laid laid entered (enter_low here) (length-set m p (c.types + 1)) room h a 0 0 0 (pool_head h a p here) (omega arith) (enter_pool here q))

  module _ (made : sane c.types (shape_of h a 0 []) ≡ true) where
    -- the first row equal by value, else a new one
    intern_state : c.types < most_types → pool_cell h a ≢ 0 → {X Er : Type 0} (s : St X Er) → answered (intern_in m c h a) s ≡ interned (shape_of h a 0 []) (state_of m c s)
    unfolding inputs_from
    intern_state room cellular s =
        intern_cases (λ (r : Making). answered r s ≡ interned t (state_of m c s)) (λ e. absurd (cellular e)) (λ e. absurd (omega arith)) (λ r q. rw (interned_old t m c s r made q))
        (λ here more q. rw (interned_new t m c s made q, grown_state laid entered (enter_low here) (length-set m p (c.types + 1)) more h a 0 0 0 (pool_head h a p here) (omega arith) s))

    intern_sound : Sound m c → Sound (intern_in m c h a).memory (intern_in m c h a).counts
    unfolding inputs_from
    intern_sound sound =
        intern_cases (λ (r : Making). Sound r.memory r.counts) (λ e. sound) (λ e. sound) (λ r q. sound)
        (λ here room q. grown_sound laid entered (enter_low here) (length-set m p (c.types + 1)) room h a 0 0 0 (pool_head h a p here) (omega arith) (enter_pool here q) sound made)

-- ── a definition's type or an instance is made ──

-- each of 256 definitions has a cell of the pool
pub fn_cell : (a : ℕ) → a < 256 → pool_cell fn_def_head a ≢ 0
unfolding pool_cell
fn_cell a few = rw (lt-ltb a 256 few) (λ q. omega arith)

-- each of 64 instances has a cell of the pool
pub instance_cell : (a : ℕ) → a < 64 → pool_cell instance_head a ≢ 0
unfolding pool_cell
instance_cell a few = rw (lt-ltb a 64 few) (λ q. omega arith)

module _ {m : List ℕ} {c : Counts} (laid : Laid m c) (a : ℕ) where
  -- a definition's type is made; of 256
  pub fn_state : c.types < most_types → a < 256 → {X Er : Type 0} (s : St X Er) → answered (intern_in m c fn_def_head a) s ≡ interned (fn a) (state_of m c s)
  unfolding shape_of
  fn_state room few = intern_state laid fn_def_head a refl room (fn_cell a few)

  -- an instance is made; of 64
  pub instance_state : c.types < most_types → a < 64 → {X Er : Type 0} (s : St X Er) → answered (intern_in m c instance_head a) s ≡ interned (base (inst a)) (state_of m c s)
  unfolding shape_of
  instance_state room few = intern_state laid instance_head a refl room (instance_cell a few)

  -- a definition's type keeps the inputs
  pub fn_inputs : SameInputs m c (intern_in m c fn_def_head a).memory
  fn_inputs = intern_inputs laid fn_def_head a

  -- an instance keeps the inputs
  pub instance_inputs : SameInputs m c (intern_in m c instance_head a).memory
  instance_inputs = intern_inputs laid instance_head a

  -- a definition's type keeps `Laid`
  pub fn_laid : Laid (intern_in m c fn_def_head a).memory (intern_in m c fn_def_head a).counts
  fn_laid = intern_laid laid fn_def_head a

  -- an instance keeps `Laid`
  pub instance_laid : Laid (intern_in m c instance_head a).memory (intern_in m c instance_head a).counts
  instance_laid = intern_laid laid instance_head a

module _ {m : List ℕ} {c : Counts} (sound : Sound m c) (a : ℕ) where
  -- a definition's type keeps `Sound`
  pub fn_sound : Sound (intern_in m c fn_def_head a).memory (intern_in m c fn_def_head a).counts
  unfolding shape_of
  fn_sound = intern_sound sound.laid fn_def_head a refl sound

  -- an instance keeps `Sound`
  pub instance_sound : Sound (intern_in m c instance_head a).memory (intern_in m c instance_head a).counts
  unfolding shape_of
  instance_sound = intern_sound sound.laid instance_head a refl sound

-- ── an array or a reference is made ──

-- h is the head of the types that are made of a row: the element x of an array, or what a reference refers to
module _ {m : List ℕ} {c : Counts} (laid : Laid m c) (h x : ℕ) (of_row : (h ≡ array_head) ⊎ (h ≡ ref_head)) where
  of_cell : x < c.types → pool_cell h x ≢ 0
  unfolding pool_cell
  of_cell l = by of_row
    where
      by : (h ≡ array_head) ⊎ (h ≡ ref_head) → pool_cell h x ≢ 0
      by (inl i) = rw (i, lt-ltb x most_types (omega (arith, laid.types))) (λ q. omega arith)
      by (inr i) = rw (i, lt-ltb x most_types (omega (arith, laid.types))) (λ q. omega arith)

  of_made : sane c.types (shape_of h x 0 []) ≡ (ltb x c.types && true)
  unfolding shape_of
  of_made = by of_row
    where
      by : (h ≡ array_head) ⊎ (h ≡ ref_head) → sane c.types (shape_of h x 0 []) ≡ (ltb x c.types && true)
      by (inl i) = rw i
      by (inr i) = rw i

  of_row_made : x < c.types → sane c.types (shape_of h x 0 []) ≡ true
  of_row_made l = of_made ∙ rw (lt-ltb x c.types l)

  of_none_made : c.types ≤ x → sane c.types (shape_of h x 0 []) ≡ false
  of_none_made l = of_made ∙ rw (le-ltb x c.types l)

  of_cases : (P : Making → Type 0) → (x < c.types → P (intern_in m c h x)) → (c.types ≤ x → P (making c 0 m)) → P (intern_of m c h x)
  unfolding intern_of
  of_cases P new old = below_cases P x c.types (intern_in m c h x) (making c 0 m) new old

  -- the first row equal by value, else a new one; of what is no row nothing is made
  intern_of_state : c.types < most_types → {X Er : Type 0} (s : St X Er) → answered (intern_of m c h x) s ≡ interned (shape_of h x 0 []) (state_of m c s)
  intern_of_state room s =
      of_cases (λ (r : Making). answered r s ≡ interned (shape_of h x 0 []) (state_of m c s)) (λ l. intern_state laid h x (of_row_made l) room (of_cell l) s) (λ l. sym (interned_not (shape_of h x 0 []) m c s (of_none_made l)))

  intern_of_inputs : SameInputs m c (intern_of m c h x).memory
  intern_of_inputs = of_cases (λ (r : Making). SameInputs m c r.memory) (λ l. intern_inputs laid h x) (λ l f k q. refl)

  intern_of_laid : Laid (intern_of m c h x).memory (intern_of m c h x).counts
  intern_of_laid = of_cases (λ (r : Making). Laid r.memory r.counts) (λ l. intern_laid laid h x) (λ l. laid)

  intern_of_sound : Sound m c → Sound (intern_of m c h x).memory (intern_of m c h x).counts
  intern_of_sound sound = of_cases (λ (r : Making). Sound r.memory r.counts) (λ l. intern_sound laid h x (of_row_made l) sound) (λ l. sound)

module _ {m : List ℕ} {c : Counts} (laid : Laid m c) (x : ℕ) where
  -- an array is made; of what is no row nothing is made
  pub array_state : c.types < most_types → {X Er : Type 0} (s : St X Er) → answered (intern_of m c array_head x) s ≡ interned (arr x) (state_of m c s)
  unfolding shape_of
  array_state = intern_of_state laid array_head x (inl refl)

  -- a reference is made; of what is no row nothing is made
  pub ref_state : c.types < most_types → {X Er : Type 0} (s : St X Er) → answered (intern_of m c ref_head x) s ≡ interned (ref x) (state_of m c s)
  unfolding shape_of
  ref_state = intern_of_state laid ref_head x (inr refl)

  -- an array keeps the inputs
  pub array_inputs : SameInputs m c (intern_of m c array_head x).memory
  array_inputs = intern_of_inputs laid array_head x (inl refl)

  -- a reference keeps the inputs
  pub ref_inputs : SameInputs m c (intern_of m c ref_head x).memory
  ref_inputs = intern_of_inputs laid ref_head x (inr refl)

  -- an array keeps `Laid`
  pub array_laid : Laid (intern_of m c array_head x).memory (intern_of m c array_head x).counts
  array_laid = intern_of_laid laid array_head x (inl refl)

  -- a reference keeps `Laid`
  pub ref_laid : Laid (intern_of m c ref_head x).memory (intern_of m c ref_head x).counts
  ref_laid = intern_of_laid laid ref_head x (inr refl)

module _ {m : List ℕ} {c : Counts} (sound : Sound m c) (x : ℕ) where
  -- an array keeps `Sound`
  pub array_sound : Sound (intern_of m c array_head x).memory (intern_of m c array_head x).counts
  array_sound = intern_of_sound sound.laid array_head x (inl refl) sound

  -- a reference keeps `Sound`
  pub ref_sound : Sound (intern_of m c ref_head x).memory (intern_of m c ref_head x).counts
  ref_sound = intern_of_sound sound.laid ref_head x (inr refl) sound

-- ── rows and pool stay ──

-- u has the same rows, inputs and pool, and perhaps more inputs
module _ {m : List ℕ} {c : Counts} (laid : Laid m c) (u : List ℕ) (same : SameRows m u c.types c.inputs) (pool : SameIn m u arrays_at cells) (size : length u ≡ length m) (i : ℕ) (more : c.inputs ≤ i) (room : i ≤ most_inputs) (named : InputRows u c.types i) where
  kept_rows : rows_of u c.types ≡ rows_of m c.types
  kept_rows = rows-kept m u c.types c.inputs laid.below same

  kept_laid : Laid u (counts c.types c.vars i)
  kept_laid =
      record {
        size = rw size laid.size;
        types = laid.types;
        vars = laid.vars;
        inputs = room;
        fixed = laid.fixed;
        below = λ x h. omega (arith, below_kept m u c.types c.inputs laid.below same c.types (omega arith) x h);
        named = named;
        pooled = λ g b e. let p = pool_range g b (pool_cell g b) (in_pool g b e) in rw (kept_rows, pool (pool_cell g b) p.0 p.1) (laid.pooled g b e);
      }

  kept_sound : Sound m c → kinds_of u c.vars ≡ kinds_of m c.vars → Good (rows_of m c.types) (kinds_of m c.vars) (binds_of u c.vars) → Sound u (counts c.types c.vars i)
  kept_sound sound e good = record { laid = kept_laid; lower = rw kept_rows sound.lower; good = rw (kept_rows, e) good }

-- u differs from m only in the variables
module _ {m : List ℕ} {c : Counts} (laid : Laid m c) (u : List ℕ) (high : (j : ℕ) → rows_at ≤ j → cell u j ≡ cell m j) (size : length u ≡ length m) where
  high_same : SameRows m u c.types c.inputs
  high_same = record { rows = λ j l r. high j l; inputs = λ j l r. high j (omega arith) }

  high_named : InputRows u c.types c.inputs
  high_named j l = rw (high (inputs_at + j) (omega arith)) (laid.named j l)

  low_laid : Laid u c
  low_laid = kept_laid laid u high_same (λ j l r. high j (omega arith)) size c.inputs (omega arith) laid.inputs high_named

  pub low_sound : Sound m c → kinds_of u c.vars ≡ kinds_of m c.vars → Good (rows_of m c.types) (kinds_of m c.vars) (binds_of u c.vars) → Sound u c
  low_sound = kept_sound laid u high_same (λ j l r. high j (omega arith)) size c.inputs (omega arith) laid.inputs high_named

-- ── an input is pushed ──

module _ {m : List ℕ} {c : Counts} (laid : Laid m c) (x : ℕ) where
  -- the row that is pushed
  abbrev y : ℕ
  y = clip c.types x

  -- the memory with the input
  abbrev v : List ℕ
  v = set m (inputs_at + c.inputs) y

  push_cases : (P : Counting → Type 0) → (c.inputs < most_inputs → P (pushed (counts c.types c.vars (c.inputs + 1)) v)) → (most_inputs ≤ c.inputs → P (pushed c m)) → P (push_in m c x)
  unfolding push_in
  push_cases P new old = limit_cases P most_inputs c.inputs (pushed c m) (pushed (counts c.types c.vars (c.inputs + 1)) v) old new

  push_same : SameRows m v c.types c.inputs
  push_same = record { rows = λ j l r. set_above m (inputs_at + c.inputs) j y (omega (arith, laid.types)); inputs = λ j l r. set_above m (inputs_at + c.inputs) j y (omega arith) }

  push_vars : (j : ℕ) → j < 5 → SameVars m v c.vars j
  push_vars j l z r = set_above m (inputs_at + c.inputs) (z * 5 + j) y (omega (arith, laid.vars))

  push_pool : c.inputs < most_inputs → SameIn m v arrays_at cells
  push_pool h j l r = set_below m (inputs_at + c.inputs) j y (omega arith)

  push_named : InputRows v c.types (c.inputs + 1)
  push_named j l = by (ℕ_discrete j c.inputs)
    where
      by : Dec (j ≡ c.inputs) → cell v (inputs_at + j) < c.types
      by (yes e) = rw (e, get_or-set_same m (inputs_at + c.inputs) y 0 (omega (arith, laid.size, laid.inputs))) (clip_in c.types x (omega (arith, laid.fixed)))
      by (no n) = rw (set_above m (inputs_at + c.inputs) (inputs_at + j) y (omega arith)) (laid.named j (omega arith))

  push_kinds : kinds_of v c.vars ≡ kinds_of m c.vars
  push_kinds = kinds_kept m v c.vars (push_vars 0 (omega arith))

  push_binds : binds_of v c.vars ≡ binds_of m c.vars
  push_binds = binds_kept m v c.vars (push_vars 2 (omega arith)) (push_vars 3 (omega arith))

  -- the tables stay
  pub push_state : {X Er : Type 0} (s : St X Er) → state_of (push_in m c x).memory (push_in m c x).counts s ≡ state_of m c s
  unfolding state_of mem_of
  push_state s =
      push_cases (λ (r : Counting). state_of r.memory r.counts s ≡ state_of m c s)
      (λ h. rw (rows-kept m v c.types c.inputs laid.below push_same, push_kinds, origins_kept m v c.vars (push_vars 1 (omega arith)), push_binds, marks_kept m v c.vars (push_vars 4 (omega arith)))) (λ l. refl)

  -- `Laid` is kept
  pub push_laid : Laid (push_in m c x).memory (push_in m c x).counts
  push_laid = push_cases (λ (r : Counting). Laid r.memory r.counts) (λ h. kept_laid laid v push_same (push_pool h) (length-set m (inputs_at + c.inputs) y) (c.inputs + 1) (omega arith) (omega arith) push_named) (λ l. laid)

  pushed_sound : Sound m c → Sound (push_in m c x).memory (push_in m c x).counts
  pushed_sound sound =
      push_cases (λ (r : Counting). Sound r.memory r.counts)
      (λ h. kept_sound laid v push_same (push_pool h) (length-set m (inputs_at + c.inputs) y) (c.inputs + 1) (omega arith) (omega arith) push_named sound push_kinds (rw push_binds sound.good)) (λ l. sound)

  -- the inputs stay
  pub push_inputs : SameInputs m c (push_in m c x).memory
  push_inputs = push_cases (λ (r : Counting). SameInputs m c r.memory) (λ h. inputs_same m v c.types c.inputs laid.below push_same) (λ q f k l. refl)

  -- the pushed input is the last; what is no row is pushed as row 0
  pub push_last : c.inputs < most_inputs → (f k : ℕ) → f + k ≡ c.inputs → inputs_from (push_in m c x).memory f (k + 1) ≡ inputs_from m f k ++ clip c.types x ∷ []
  push_last h f k e =
      push_cases (λ (r : Counting). inputs_from r.memory f (k + 1) ≡ inputs_from m f k ++ y ∷ [])
      (λ q. rw (inputs_snoc v f k, e, get_or-set_same m (inputs_at + c.inputs) y 0 (omega (arith, laid.size)), inputs_same m v c.types c.inputs laid.below push_same f k (omega arith))) (λ q. absurd (omega arith))

-- `Sound` is kept
pub push_sound : {m : List ℕ} {c : Counts} → Sound m c → (x : ℕ) → Sound (push_in m c x).memory (push_in m c x).counts
push_sound sound x = pushed_sound sound.laid x sound

-- ── a mark is set ──

module _ {m : List ℕ} {c : Counts} (held : Held m c) (v : ℕ) where
  mark_cases : (P : List ℕ → Type 0) → (v < c.vars → P (set m (v * 5 + 4) 1)) → (c.vars ≤ v → P m) → P (marking m c.vars v)
  unfolding marking
  mark_cases P new old = below_cases P v c.vars (set m (v * 5 + 4) 1) m new old

  mark_vars : (d : ℕ) → d < 4 → SameVars m (marking m c.vars v) c.vars d
  mark_vars d l = mark_cases (λ (u : List ℕ). SameVars m u c.vars d) (λ h. cell_other m v 4 1 (omega arith) c.vars d (omega arith) (λ q. omega arith)) (λ h x r. refl)

  mark_high : (j : ℕ) → rows_at ≤ j → cell (marking m c.vars v) j ≡ cell m j
  mark_high j l = mark_cases (λ (u : List ℕ). cell u j ≡ cell m j) (λ h. set_below m (v * 5 + 4) j 1 (omega (arith, held.vars))) (λ h. refl)

  mark_size : length (marking m c.vars v) ≡ length m
  mark_size = mark_cases (λ (u : List ℕ). length u ≡ length m) (λ h. length-set m (v * 5 + 4) 1) (λ h. refl)

  -- the mark is set
  pub mark_marks : marks_of (marking m c.vars v) c.vars ≡ set (marks_of m c.vars) v true
  mark_marks =
      mark_cases (λ (u : List ℕ). marks_of u c.vars ≡ set (marks_of m c.vars) v true) (λ h. marks_set m c.vars v held.room) (λ h. sym (set_out (marks_of m c.vars) v true (rw (length_marks m c.vars) h)))

  -- the rows stay
  pub mark_rows : (n : ℕ) → rows_of (marking m c.vars v) n ≡ rows_of m n
  mark_rows n = rows_low m (marking m c.vars v) n mark_high

  -- the inputs stay
  pub mark_inputs : (f k : ℕ) → inputs_from (marking m c.vars v) f k ≡ inputs_from m f k
  mark_inputs = inputs_low m (marking m c.vars v) mark_high

  -- the kinds stay
  pub mark_kinds : kinds_of (marking m c.vars v) c.vars ≡ kinds_of m c.vars
  mark_kinds = kinds_kept m (marking m c.vars v) c.vars (mark_vars 0 (omega arith))

  -- the origins stay
  pub mark_origins : origins_of (marking m c.vars v) c.vars ≡ origins_of m c.vars
  mark_origins = origins_kept m (marking m c.vars v) c.vars (mark_vars 1 (omega arith))

  -- the bindings stay
  pub mark_binds : binds_of (marking m c.vars v) c.vars ≡ binds_of m c.vars
  mark_binds = binds_kept m (marking m c.vars v) c.vars (mark_vars 2 (omega arith)) (mark_vars 3 (omega arith))

  -- the marks change, and nothing else does
  pub mark_state : {X Er : Type 0} (s : St X Er) → state_of (marking m c.vars v) c s ≡ marking·T v (state_of m c s)
  unfolding state_of mem_of marking·T
  mark_state s = rw (mark_rows c.types, mark_kinds, mark_origins, mark_binds, mark_marks)

  -- `Laid` is kept
  pub mark_laid : Laid m c → Laid (marking m c.vars v) c
  mark_laid laid = low_laid laid (marking m c.vars v) mark_high mark_size

  marked_sound : Sound m c → Sound (marking m c.vars v) c
  marked_sound sound = low_sound sound.laid (marking m c.vars v) mark_high mark_size sound mark_kinds (rw mark_binds sound.good)

-- `Sound` is kept
pub mark_sound : {m : List ℕ} {c : Counts} → Sound m c → (v : ℕ) → Sound (marking m c.vars v) c
mark_sound sound v = marked_sound (laid_held sound.laid) v sound

-- ── a variable is bound ──

module _ {m : List ℕ} {c : Counts} (held : Held m c) (v z : ℕ) where
  bind_cases : (P : List ℕ → Type 0) → (v < c.vars → P (set (set m (v * 5 + 2) 1) (v * 5 + 3) z)) → (c.vars ≤ v → P m) → P (binding m c.vars v z)
  unfolding binding
  bind_cases P new old = below_cases P v c.vars (set (set m (v * 5 + 2) 1) (v * 5 + 3) z) m new old

  bind_vars : (d : ℕ) → d < 5 → d ≢ 2 → d ≢ 3 → SameVars m (binding m c.vars v z) c.vars d
  bind_vars d l p q =
      bind_cases (λ (u : List ℕ). SameVars m u c.vars d) (λ h x r. cell_other (set m (v * 5 + 2) 1) v 3 z (omega arith) c.vars d l q x r ∙ cell_other m v 2 1 (omega arith) c.vars d l p x r) (λ h x r. refl)

  bind_high : (j : ℕ) → rows_at ≤ j → cell (binding m c.vars v z) j ≡ cell m j
  bind_high j l =
      bind_cases (λ (u : List ℕ). cell u j ≡ cell m j) (λ h. set_below (set m (v * 5 + 2) 1) (v * 5 + 3) j z (omega (arith, held.vars)) ∙ set_below m (v * 5 + 2) j 1 (omega (arith, held.vars))) (λ h. refl)

  bind_size : length (binding m c.vars v z) ≡ length m
  bind_size = bind_cases (λ (u : List ℕ). length u ≡ length m) (λ h. simp length-set) (λ h. refl)

  -- the binding is set
  pub bind_binds : binds_of (binding m c.vars v z) c.vars ≡ set (binds_of m c.vars) v (some z)
  bind_binds =
      bind_cases (λ (u : List ℕ). binds_of u c.vars ≡ set (binds_of m c.vars) v (some z)) (λ h. binds_set m c.vars v held.room z) (λ h. sym (set_out (binds_of m c.vars) v (some z) (rw (length_binds m c.vars) h)))

  -- the rows stay
  pub bind_rows : (n : ℕ) → rows_of (binding m c.vars v z) n ≡ rows_of m n
  bind_rows n = rows_low m (binding m c.vars v z) n bind_high

  -- the inputs stay
  pub bind_inputs : (f k : ℕ) → inputs_from (binding m c.vars v z) f k ≡ inputs_from m f k
  bind_inputs = inputs_low m (binding m c.vars v z) bind_high

  -- the kinds stay
  pub bind_kinds : kinds_of (binding m c.vars v z) c.vars ≡ kinds_of m c.vars
  bind_kinds = kinds_kept m (binding m c.vars v z) c.vars (bind_vars 0 (omega arith) (λ q. omega arith) (λ q. omega arith))

  -- the origins stay
  pub bind_origins : origins_of (binding m c.vars v z) c.vars ≡ origins_of m c.vars
  bind_origins = origins_kept m (binding m c.vars v z) c.vars (bind_vars 1 (omega arith) (λ q. omega arith) (λ q. omega arith))

  -- the marks stay
  pub bind_marks : marks_of (binding m c.vars v z) c.vars ≡ marks_of m c.vars
  bind_marks = marks_kept m (binding m c.vars v z) c.vars (bind_vars 4 (omega arith) (λ q. omega arith) (λ q. omega arith))

  -- as the rules bind
  pub bind_mem : mem_of (binding m c.vars v z) c.vars ≡ bind (mem_of m c.vars) v z
  unfolding mem_of bind
  bind_mem = rw (bind_binds, bind_marks)

  -- `Laid` is kept
  pub bind_laid : Laid m c → Laid (binding m c.vars v z) c
  bind_laid laid = low_laid laid (binding m c.vars v z) bind_high bind_size

  bound_sound : Sound m c → Good (rows_of m c.types) (kinds_of m c.vars) (set (binds_of m c.vars) v (some z)) → Sound (binding m c.vars v z) c
  bound_sound sound good = low_sound sound.laid (binding m c.vars v z) bind_high bind_size sound bind_kinds (rw bind_binds good)

-- `Sound` is kept where the bindings stay sound
pub bind_sound : {m : List ℕ} {c : Counts} → Sound m c → (v z : ℕ) → Good (rows_of m c.types) (kinds_of m c.vars) (set (binds_of m c.vars) v (some z)) → Sound (binding m c.vars v z) c
bind_sound sound v z = bound_sound (laid_held sound.laid) v z sound

-- ── the start ──

-- the type of the fixed row x
abbrev fixed_type : ℕ → Shape
fixed_type x = shape_of (get_or fixed_heads x 0) (get_or fixed_widths x 0) 0 []

-- what stands in u after the first x fixed rows
record Begun (m u : List ℕ) (x : ℕ) : Type 0 where
  size : length u ≡ length m
  above : (j : ℕ) → rows_at + x * 5 ≤ j → cell u j ≡ cell m j
  below : InputsBelow u x 0
  rows : rows_of u x ≡ tab fixed_type x

below_15 : (l : List ℕ) (x : ℕ) → All (λ (h : ℕ). h < 15) l → get_or l x 0 < 15
below_15 [] x h = omega arith
below_15 (y ∷ ys) zero h = h.0
below_15 (y ∷ ys) (suc x) h = below_15 ys x h.1

fixed_heads_15 : (x : ℕ) → get_or fixed_heads x 0 < 15
fixed_heads_15 x = below_15 fixed_heads x (omega arith)

no_rows : (m : List ℕ) → rows_of m 0 ≡ []
unfolding rows_of
no_rows m = refl

module _ (m : List ℕ) (large : cells ≤ length m) where
  begun : (x : ℕ) → x ≤ most_types → Begun m (fixed_rows m x) x
  unfolding fixed_rows inputs_from
  begun zero h = record { size = refl; above = λ j l. refl; below = λ x l. absurd (omega arith); rows = no_rows m }
  begun (suc x) h = by (begun x (omega arith))
    where
      by : Begun m (fixed_rows m x) x → Begun m (row_written (fixed_rows m x) x (get_or fixed_heads x 0) (get_or fixed_widths x 0) 0 0 0) (suc x)
      by b =
          let u = fixed_rows m x in
          let g = get_or fixed_heads x 0 in
          let a = get_or fixed_widths x 0 in
          let ready : Ready u u x 0 = record { below = b.below; same = record { rows = λ j l r. refl; inputs = λ j l r. refl }; size = rw b.size large; room = omega arith } in
          record {
            size = row_length u x g a 0 0 0 ∙ b.size;
            above = λ j l. row_above u x g a 0 0 0 j (omega arith) ∙ b.above j (omega arith);
            below = rw (← add-one x) (written_below ready g a 0 0 0 (fixed_heads_15 x) (omega arith));
            rows = rw (tab_snoc fixed_type x, ← b.rows, ← add-one x) (written_rows ready g a 0 0 0 (fixed_heads_15 x) (omega arith));
          }

  begun_14 : Begun m (fixed_rows m 14) 14
  begun_14 = begun 14 (omega arith)

  start_rows : rows_of (fixed_rows m 14) 14 ≡ fixed_types
  unfolding shape_of
  start_rows = begun_14.rows

none_fixed : (h a p : ℕ) → InPool h a p → first_equal 0 fixed_types (shape_of h a 0 []) ≡ none
unfolding shape_of
none_fixed h a p (array e l q) = rw e
none_fixed h a p (reference e l q) = rw e
none_fixed h a p (definition e l q) = rw e
none_fixed h a p («instance» e l q) = rw e

module _ (m : List ℕ) (large : cells ≤ length m) where
  -- the memory with the pool cleared
  abbrev m₀ : List ℕ
  m₀ = cleared m pool_cells

  large₀ : cells ≤ length m₀
  large₀ = rw (cleared_length m pool_cells) large

  start_is : start_in m ≡ pushed (counts 14 0 0) (fixed_rows m₀ 14)
  unfolding start_in
  start_is = rw (le-ltb (length m) cells large)

  -- the fixed types, no variable and no input
  pub start_state : {X Er : Type 0} (own : X) → state_of {X = X} {Er = Er} (start_in m).memory (start_in m).counts (start fixed_types own) ≡ start fixed_types own
  unfolding state_of start mem_of kinds_of origins_of binds_of marks_of
  start_state own = rw (start_is, start_rows m₀ large₀)

  start_pool : PoolNames (fixed_rows m₀ 14) fixed_types
  start_pool h a e =
      let i = in_pool h a e in
      let r = pool_range h a (pool_cell h a) i in
      rw ((begun_14 m₀ large₀).above (pool_cell h a) (omega arith), cleared_cell m pool_cells (pool_cell h a) r.0 r.1 (omega arith), none_fixed h a (pool_cell h a) i)

  start_laid : Laid (fixed_rows m₀ 14) (counts 14 0 0)
  start_laid =
      let b = begun_14 m₀ large₀ in
      record { size = rw b.size large₀; types = omega arith; vars = omega arith; inputs = omega arith; fixed = omega arith; below = b.below; named = λ j l. absurd (omega arith); pooled = rw (start_rows m₀ large₀) start_pool }

  -- `Sound` holds
  pub start_sound : Sound (start_in m).memory (start_in m).counts
  unfolding start kinds_of binds_of
  start_sound =
      let claim = (start_track {X = Unit {0}} {Er = Unit {0}} fixed_types tt refl).tables.claim in
      rw start_is record { laid = start_laid; lower = rw (start_rows m₀ large₀) claim.lower; good = rw (start_rows m₀ large₀) claim.good }

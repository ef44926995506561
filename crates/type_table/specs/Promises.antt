-- What each public operation promises, by the definition that its contract names: its step of the theory on the tables of the memory, and that `Sound` is kept.
-- Each line cites the law that shows it. That the end which `follow` answers is reached is proofs/Promises.
use Rattle.std.specs.Prelude.{◌≡◌, List, false, ℕ, ◌+◌, ◌≤◌, ◌<◌, get_or, length, set, None, Option}
use Rattle.std.proofs.Math.Option.{none, some}
use Rattle.theory.specs.Rules.{arr, ref, fn, fun, lam, base, inst, row, kind, bound, bind, array_head, ref_head, fn_def_head, instance_head, lambda_head, param_head}
use Rattle.theory.specs.Program.{St, drawn, interned, marking as marking·T}
use Rattle.theory.specs.Graph.{Good}
use Rattle.theory.specs.Start.{start}
use Rattle.type_table.specs.declared.Counts.{Counts}
use Rattle.type_table.specs.declared.TypeId.{TypeId}
use Rattle.type_table.specs.declared.VarId.{VarId}
use Rattle.type_table.specs.declared.Kind.{Kind}
use Rattle.type_table.specs.Memory.{most_types, most_vars, cells, head_at, number_at, output_at, first_at, count_at, inputs_from, shape_of, shape_at, rows_of, kind_of, kinds_of, numbered, origins_of, binds_of, mark_at, marks_of, mem_of}
use Rattle.type_table.specs.View.{type, kind_in, origin_in, bound_in, view_in, onward_in, end_in}
use Rattle.type_table.specs.Made.{kind_number, origin_number, marking, binding, draw_in, intern_in, intern_of, parts_in, push_in, start_in}
use Rattle.type_table.specs.Tables.{row_at, mark_at_lem}
use Rattle.type_table.specs.Sound.{fixed_types, Sound, state_of, answered}
use Rattle.type_table.specs.Reads.{row_meant, origin_meant, bound_meant, view_row, kind_read, origin_read, bound_read, follow_open}
use Rattle.type_table.specs.Keeps.{laid_held, draw_state, draw_sound, array_state, array_sound, ref_state, ref_sound, fn_state, fn_sound, instance_state, instance_sound, push_state, push_sound, lambda_state, lambda_sound, function_state, function_sound, mark_state, mark_sound, bind_mem, bind_sound, start_state, start_sound}
use Rattle.type_table.specs.declared.NodeId.{NodeId}

-- ── what reads; it changes nothing ──

module _ (m : List ℕ) (c : Counts) where
  -- head, number, output, inputs and input: they are what the row of the table is made of
  pub row_promise : (x : ℕ) → row (rows_of m c.types) x ≡ shape_of (head_at m c.types x) (number_at m c.types x) (output_at m c.types x) (inputs_from m (first_at m c.types x) (count_at m c.types x))
  unfolding shape_at
  row_promise = row_at m c.types

  -- view: the row of the table
  pub view_promise : (x : TypeId) → row_meant m (view_in m c x) ≡ row (rows_of m c.types) x.0
  view_promise = view_row m c

  -- kind_of: the kind of the table
  pub kind_promise : (v : VarId) → kind_of (kind_number (kind_in m c v)) ≡ kind (kinds_of m c.vars) v.0
  kind_promise = kind_read m c

  -- origin_of: the origin of the table
  pub origin_promise : (v : VarId) → origin_meant (origin_in m c v) ≡ get_or (origins_of m c.vars) v.0 none
  origin_promise = origin_read m c

  -- bound_to: the binding of the table
  pub bound_promise : (v : VarId) → bound_meant (bound_in m c v) ≡ bound (binds_of m c.vars) v.0
  bound_promise = bound_read m c

  -- is_marked: the mark of the table
  pub is_marked_promise : (v : VarId) → get_or (marks_of m c.vars) v.0 false ≡ mark_at m c.vars v.0
  is_marked_promise v = mark_at_lem m c.vars v.0

-- follow: the row that it answers is bound to nothing
pub follow_promise : {m : List ℕ} {c : Counts} → Sound m c → (x : ℕ) → onward_in m c (type (end_in m c x)) ≡ None
follow_promise = follow_open

-- ── what writes: its step of the theory ──

module _ {X Er : Type 0} {m : List ℕ} {c : Counts} (sound : Sound m c) (s : St X Er) where
  -- draw: the theory draws a variable
  pub draw_step : (k : Kind) (o : Option NodeId) → c.types < most_types → c.vars < most_vars → answered (draw_in m c k o) s ≡ (c.types, drawn (kind_of (kind_number k)) (numbered (origin_number o)) (state_of m c s))
  draw_step k o room room' = draw_state sound.laid k o room room' s

  -- array_of: the theory makes an array
  pub array_step : (x : ℕ) → c.types < most_types → answered (intern_of m c array_head x) s ≡ interned (arr x) (state_of m c s)
  array_step x room = array_state sound.laid x room s

  -- ref_to: the theory makes a reference
  pub ref_step : (x : ℕ) → c.types < most_types → answered (intern_of m c ref_head x) s ≡ interned (ref x) (state_of m c s)
  ref_step x room = ref_state sound.laid x room s

  -- fn_def: the theory makes a definition's type
  pub fn_step : (a : ℕ) → c.types < most_types → a < 256 → answered (intern_in m c fn_def_head a) s ≡ interned (fn a) (state_of m c s)
  fn_step a room few = fn_state sound.laid a room few s

  -- instance: the theory makes an instance
  pub instance_step : (a : ℕ) → c.types < most_types → a < 64 → answered (intern_in m c instance_head a) s ≡ interned (base (inst a)) (state_of m c s)
  instance_step a room few = instance_state sound.laid a room few s

  -- push_input: the tables stay
  pub push_step : (x : ℕ) → state_of (push_in m c x).memory (push_in m c x).counts s ≡ state_of m c s
  push_step x = push_state sound.laid x s

  -- lambda: the theory makes a lambda
  pub lambda_step : (a o f k : ℕ) → c.types < most_types → f + k ≤ c.inputs → answered (parts_in m c lambda_head a o f k) s ≡ interned (lam a o (inputs_from m f k)) (state_of m c s)
  lambda_step a o f k room inputs = lambda_state sound.laid a o f k room inputs s

  -- function: the theory makes a function
  pub function_step : (a o f k : ℕ) → c.types < most_types → f + k ≤ c.inputs → answered (parts_in m c param_head a o f k) s ≡ interned (fun a o (inputs_from m f k)) (state_of m c s)
  function_step a o f k room inputs = function_state sound.laid a o f k room inputs s

  -- mark: the theory sets a mark
  pub mark_step : (v : ℕ) → state_of (marking m c.vars v) c s ≡ marking·T v (state_of m c s)
  mark_step v = mark_state (laid_held sound.laid) v s

  -- bind, for `unify` alone: the rules bind a variable
  pub bind_step : (v z : ℕ) → mem_of (binding m c.vars v z) c.vars ≡ bind (mem_of m c.vars) v z
  bind_step v z = bind_mem (laid_held sound.laid) v z

-- start: the theory starts from the fixed types
pub start_step : {X Er : Type 0} (m : List ℕ) → cells ≤ length m → (own : X) → state_of {X = X} {Er = Er} (start_in m).memory (start_in m).counts (start fixed_types own) ≡ start fixed_types own
start_step m large = start_state m large

-- ── what writes: `Sound` is kept ──

module _ {m : List ℕ} {c : Counts} (sound : Sound m c) where
  -- draw keeps it
  pub draw_keeps : (k : Kind) (o : Option NodeId) → Sound (draw_in m c k o).memory (draw_in m c k o).counts
  draw_keeps = draw_sound sound

  -- array_of keeps it
  pub array_keeps : (x : ℕ) → Sound (intern_of m c array_head x).memory (intern_of m c array_head x).counts
  array_keeps = array_sound sound

  -- ref_to keeps it
  pub ref_keeps : (x : ℕ) → Sound (intern_of m c ref_head x).memory (intern_of m c ref_head x).counts
  ref_keeps = ref_sound sound

  -- fn_def keeps it
  pub fn_keeps : (a : ℕ) → Sound (intern_in m c fn_def_head a).memory (intern_in m c fn_def_head a).counts
  fn_keeps = fn_sound sound

  -- instance keeps it
  pub instance_keeps : (a : ℕ) → Sound (intern_in m c instance_head a).memory (intern_in m c instance_head a).counts
  instance_keeps = instance_sound sound

  -- push_input keeps it
  pub push_keeps : (x : ℕ) → Sound (push_in m c x).memory (push_in m c x).counts
  push_keeps = push_sound sound

  -- lambda keeps it
  pub lambda_keeps : (a o f k : ℕ) → Sound (parts_in m c lambda_head a o f k).memory (parts_in m c lambda_head a o f k).counts
  lambda_keeps = lambda_sound sound

  -- function keeps it
  pub function_keeps : (a o f k : ℕ) → Sound (parts_in m c param_head a o f k).memory (parts_in m c param_head a o f k).counts
  function_keeps = function_sound sound

  -- mark keeps it
  pub mark_keeps : (v : ℕ) → Sound (marking m c.vars v) c
  mark_keeps = mark_sound sound

  -- bind, for `unify` alone, keeps it where the bindings stay sound
  pub bind_keeps : (v z : ℕ) → Good (rows_of m c.types) (kinds_of m c.vars) (set (binds_of m c.vars) v (some z)) → Sound (binding m c.vars v z) c
  bind_keeps = bind_sound sound

-- start establishes it, in a memory that is long enough
pub start_keeps : (m : List ℕ) → cells ≤ length m → Sound (start_in m).memory (start_in m).counts
start_keeps = start_sound

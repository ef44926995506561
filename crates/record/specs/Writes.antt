-- What the writes behind the tables do to the state that a memory holds.
use Rattle.std.specs.Prelude.{◌≡◌, ◌≢◌, ℕ, ◌+◌, ◌*◌, ◌≤◌, ◌<◌, length}
use Rattle.std.proofs.Math.Path.{refl, sym, ap}
use Rattle.std.proofs.Common.{◌∙◌, arith, le-ltb}
use mathlib.Core.List.{List, [], ◌∷◌}
use Rattle.std.proofs.lemmas.List.Edits.{sets}
use Rattle.std.proofs.Math.Seq.{length-sets}
use Rattle.theory.specs.Program.{run, emitted, written}
use Rattle.theory.specs.Start.{start}
use Rattle.type_table.specs.declared.Counts.{Counts}
use Rattle.type_table.specs.declared.TypeId.{TypeId}
use Rattle.type_table.specs.Memory.{cells, cell}
use Rattle.type_table.specs.Made.{Counting, pushed, start_in}
use Rattle.type_table.specs.Sound.{fixed_types}
use Rattle.type_table.specs.Promises.{start_step, start_keeps}
use Rattle.record.specs.declared.Extra.{Extra}
use Rattle.record.specs.declared.TypingError.{TypingError}
use Rattle.record.specs.declared.Record.{Record}
use Rattle.record.specs.Own.{most_errors, most_nodes, nodes_at, errors_at, log_at, Own, own_of, blank, extra_tag, extra_value, error_written, errors_of}
use Rattle.record.specs.Steps.{State, change, set_node_type, set_extra, set_final, error}
use Rattle.record.specs.Encodes.{input_total, Logged, Encodes, Fits, Runs, Does}
use Rattle.record.specs.Operations.{with_errors, new_record, node_cells_lem, cleared}
use Rattle.record.specs.Behind.{Behind, behind_none, behind_sound, behind_state, behind_types_lem}
use Rattle.record.specs.Regions.{SameFrom, sets_other, errors_kept, length_errors, logged_kept, own_kept, own_typed, own_marked, own_resolved, own_untyped, own_unmarked, own_unresolved, own_blank, cleared_length, cleared_below, cleared_cell, numbers, error_sets, errors_more}

-- ── cells in a row behind the tables ──

-- any cells in a row behind the tables
pub behind_sets : (m : List ℕ) (j : ℕ) (vs : List ℕ) → cells ≤ j → Behind m (sets m j vs)
behind_sets m j vs h = record { size = length-sets m j vs; tables = λ i l. sets_other m j vs i (λ k q r. omega arith) }

-- ── nodes ──

module _ (m w : List ℕ) (f : Own → Own) (b : Behind m w) (same : SameFrom m w errors_at) (own : (o : ℕ) → log_at ≤ length m → own_of w o ≡ f (own_of m o)) where
  -- a write to the nodes alone changes what the walk keeps of its own
  pub own_changed : Does m w (change f)
  unfolding run change written
  own_changed c = record {
    ran = λ s e fits. (
      refl,
      record {
        size = rw b.size e.size;
        sound = behind_sound m w c.counts b e.sound;
        tables = behind_types_lem m w c.counts s (written (f s.own) s) b e.sound record { rows = refl; kinds = refl; origins = refl; mem = refl } e.tables;
        inputs = e.inputs;
        own = ap f e.own ∙ sym (own c.output.0 e.size);
        errors = e.errors ∙ sym (errors_kept m w c.errors (λ i l r. same i l));
        equations = e.equations;
        logged = logged_kept m w s.log b.size (λ i l r. same i (omega arith)) e.logged;
      },
    );
  }

-- the cells k and k + 1 of a node are stored
module _ (m : List ℕ) (v k a b : ℕ) (node : v < most_nodes) (in-six : k < 5) where
  -- they lie below the errors
  node_cells_from : SameFrom m (sets m (nodes_at + v * 6 + k) (a ∷ b ∷ [])) errors_at
  node_cells_from i l = sets_other m (nodes_at + v * 6 + k) (a ∷ b ∷ []) i (λ j q r. omega arith)

  -- and behind the tables
  node_cells_behind : Behind m (sets m (nodes_at + v * 6 + k) (a ∷ b ∷ []))
  node_cells_behind = behind_sets m (nodes_at + v * 6 + k) (a ∷ b ∷ []) (omega arith)

-- a node gets its type
pub typed_does : (m : List ℕ) (v t : ℕ) → v < most_nodes → Does m (sets m (nodes_at + v * 6 + 0) (1 ∷ t ∷ [])) (set_node_type v t)
unfolding set_node_type
typed_does m v t h = own_changed m (sets m (nodes_at + v * 6 + 0) (1 ∷ t ∷ [])) _ (node_cells_behind m v 0 1 t h (omega arith)) (node_cells_from m v 0 1 t h (omega arith)) (λ o l. own_typed m o v l t)

-- a node gets its EXTRA
pub marked_does : (m : List ℕ) (v : ℕ) (e : Extra) → v < most_nodes → Does m (sets m (nodes_at + v * 6 + 2) (extra_tag e ∷ extra_value e ∷ [])) (set_extra v e)
unfolding set_extra
marked_does m v e h = own_changed m (sets m (nodes_at + v * 6 + 2) (extra_tag e ∷ extra_value e ∷ [])) _ (node_cells_behind m v 2 (extra_tag e) (extra_value e) h (omega arith)) (node_cells_from m v 2 (extra_tag e) (extra_value e) h (omega arith)) (λ o l. own_marked m o v l e)

-- a node gets its final type
pub resolved_does : (m : List ℕ) (v t : ℕ) → v < most_nodes → Does m (sets m (nodes_at + v * 6 + 4) (1 ∷ t ∷ [])) (set_final v t)
unfolding set_final
resolved_does m v t h = own_changed m (sets m (nodes_at + v * 6 + 4) (1 ∷ t ∷ [])) _ (node_cells_behind m v 4 1 t h (omega arith)) (node_cells_from m v 4 1 t h (omega arith)) (λ o l. own_resolved m o v l t)

-- what is no node gets nothing
module _ (m : List ℕ) (v : ℕ) (out : most_nodes ≤ v) where
  -- no type
  pub untyped_does : (t : ℕ) → Does m m (set_node_type v t)
  unfolding set_node_type
  untyped_does t = own_changed m m _ (behind_none m) (λ i l. refl) (λ o l. own_untyped m o v out t)

  -- no EXTRA
  pub unmarked_does : (e : Extra) → Does m m (set_extra v e)
  unfolding set_extra
  unmarked_does e = own_changed m m _ (behind_none m) (λ i l. refl) (λ o l. own_unmarked m o v out e)

  -- no final type
  pub unresolved_does : (t : ℕ) → Does m m (set_final v t)
  unfolding set_final
  unresolved_does t = own_changed m m _ (behind_none m) (λ i l. refl) (λ o l. own_unresolved m o v out t)

-- ── errors ──

-- where there is a state after one more error, there is room for it
error_room : (m : List ℕ) (c : Record) (e : TypingError) (s : State) → Encodes m c s → Fits (emitted e s) → c.errors < most_errors
unfolding emitted
error_room m c e s h fits = let l : length s.errs ≡ c.errors = ap length h.errors ∙ length_errors m c.errors in omega (arith, fits.errors)

-- without room there is no such state
pub emit_full : (m : List ℕ) (c : Record) (e : TypingError) → most_errors ≤ c.errors → Runs m c m c (error e) tt
unfolding run error
emit_full m c e full = record { ran = λ s h fits. absurd (omega (arith, error_room m c e s h fits)) }

-- the error i is written
module _ (m : List ℕ) (i : ℕ) (e : TypingError) where
  -- the other cells stay
  error_other : (x : ℕ) → ((k : ℕ) → k < 9 → x ≢ errors_at + i * 9 + k) → cell (error_written m i e) x ≡ cell m x
  error_other x h = rw (error_sets m i e) (sets_other m (errors_at + i * 9) (numbers e) x h)

  -- the tables stay
  error_behind : Behind m (error_written m i e)
  error_behind = rw (error_sets m i e) (behind_sets m (errors_at + i * 9) (numbers e) (omega arith))

-- one more error, where there is room
module _ (m : List ℕ) (c : Record) (e : TypingError) (s : State) (h : Encodes m c s) (room : c.errors < most_errors) where
  -- the memory holds the state with the error
  emit_encodes : Encodes (error_written m c.errors e) (with_errors c (c.errors + 1)) (emitted e s)
  unfolding emitted
  emit_encodes =
      let w = error_written m c.errors e in
      let b = error_behind m c.errors e in
      record {
        size = rw b.size h.size;
        sound = behind_sound m w c.counts b h.sound;
        tables = behind_types_lem m w c.counts s (emitted e s) b h.sound record { rows = refl; kinds = refl; origins = refl; mem = refl } h.tables;
        inputs = h.inputs;
        own = h.own ∙ sym (own_kept m w c.output.0 (λ i l r. error_other m c.errors e i (λ k q p. omega arith)));
        errors = ap (λ (l : List TypingError). e ∷ l) h.errors ∙ sym (errors_more m c.errors e (omega (arith, h.size)));
        equations = h.equations;
        logged = logged_kept m w s.log b.size (λ i l r. error_other m c.errors e i (λ k q p. omega arith)) h.logged;
      }

-- one more error
pub emit_more : (m : List ℕ) (c : Record) (e : TypingError) → Runs m c (error_written m c.errors e) (with_errors c (c.errors + 1)) (error e) tt
unfolding run error
emit_more m c e = record { ran = λ s h fits. (refl, emit_encodes m c e s h (error_room m c e s h fits)) }

-- ── the start ──

-- the tables are set up, then the nodes cleared
abbrev swept : List ℕ → List ℕ
swept m = cleared (start_in m).memory node_cells_lem

module _ (m : List ℕ) (large : log_at ≤ length m) (size : length (start_in m).memory ≡ length m) where
  -- the nodes are cleared behind the tables
  start_behind : Behind (start_in m).memory (swept m)
  start_behind = record { size = cleared_length (start_in m).memory node_cells_lem; tables = cleared_below (start_in m).memory node_cells_lem }

  -- no input stands
  start_inputs : (start_in m).counts.inputs ≡ input_total fixed_types
  unfolding start_in input_total
  start_inputs = rw (le-ltb (length m) cells (omega arith))

  -- the memory and a new record hold the state that a walk starts from
  start_encodes : (o : TypeId) → Encodes (swept m) (new_record (start_in m).counts o) (start fixed_types (blank o.0))
  unfolding start errors_of Logged
  start_encodes o =
      let w = swept m in
      let sound = start_keeps m (omega arith) in
      record {
        size = rw (cleared_length (start_in m).memory node_cells_lem, size) large;
        sound = behind_sound (start_in m).memory w (start_in m).counts start_behind sound;
        tables = behind_state (start_in m).memory w (start_in m).counts start_behind sound (start fixed_types (blank o.0)) ∙ start_step m (omega arith) (blank o.0);
        inputs = start_inputs;
        own = sym (own_blank w o.0 (λ i l r. cleared_cell (start_in m).memory node_cells_lem i l (omega arith) (omega arith)));
        errors = refl;
        equations = refl;
        logged = tt;
      }

-- so does what the two calls leave, where the memory is long enough
pub started : (m m₁ w : List ℕ) (d : Counts) (o : TypeId) → pushed d m₁ ≡ start_in m → length m₁ ≡ length m → w ≡ cleared m₁ node_cells_lem → log_at ≤ length m → Encodes w (new_record d o) (start fixed_types (blank o.0))
started m m₁ w d o p size q large =
    let memory : m₁ ≡ (start_in m).memory = ap (λ (r : Counting). r.memory) p in
    let counts : d ≡ (start_in m).counts = ap (λ (r : Counting). r.counts) p in
    rw (q, memory, counts) (start_encodes m large (ap length (sym memory) ∙ size) o)

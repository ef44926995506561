-- What the functions that make a type, draw a variable or set a mark do is their step of a program. Over plain variables.
use Rattle.std.specs.Prelude.{Option as Option·R}
use mathlib.Core.Path.{◌≡◌, refl, sym, ap, ◌∙◌}
use mathlib.Core.List.{List, [], ◌∷◌}
use mathlib.Core.Option.{Option, none, some}
use mathlib.Core.Bool.{Bool, true, false, cond}
use Prim.Native.Nat.{ℕ, ◌≤◌, ◌<◌}
use native.Mathlib.Omega.{arith}
use native.Mathlib.Decide.{dec_lt}
use lib.ListN.{length, length-append}
use lib.Dec.{ltb}
use borrow.Author.Tests.{eq-eqb, lt-ltb, le-ltb}
use Rattle.theory.specs.Rules.{Shape, var, arr, ref, fn, base, inst, array_head, ref_head, fn_def_head, instance_head}
use Rattle.theory.specs.Program.{first_equal, sane, drawn, appended, pooled, intern_if, interned, done, intern, run, marking as marking·T}
use Rattle.type_table.specs.declared.Counts.{Counts}
use Rattle.type_table.specs.declared.Made.{Made}
use Rattle.type_table.specs.declared.Kind.{Kind}
use Rattle.type_table.specs.Memory.{most_types, most_vars, kind_of, numbered}
use Rattle.type_table.specs.Made.{kind_number, origin_number, marking, Making, making, made, draw_in, pool_cell, intern_in, intern_of}
use Rattle.type_table.specs.Tables.{length-rows, length_kinds}
use Rattle.type_table.specs.Sound.{Sound, state_of, answered}
use Rattle.type_table.specs.Promises.{draw_step, draw_keeps, array_keeps, ref_keeps, fn_keeps, instance_keeps, mark_step, mark_keeps}
use Rattle.record.specs.declared.Record.{Record}
use Rattle.record.specs.declared.Given.{Given}
use Rattle.record.specs.Steps.{State, new_infer_var, array_of, ref_to_lem, fn_def_lem, instance, mark_var}
use Rattle.record.specs.Encodes.{input_count, input_total, Encodes, Runs, Gives}
use Rattle.record.specs.Grows.{total-append}
use Rattle.record.specs.Runs.{rows_are}
use Rattle.record.specs.Operations.{with_counts, with_made}
use Rattle.record.specs.Regions.{own_kept, errors_kept, logged_kept}
use Rattle.record.specs.InTables.{InTables, tables_same, Beside, beside_draw, beside_intern, beside_of, tables_mark}
use Rattle.record.specs.Pooled.{array_fits, ref_fits, fn_fits, instance_fits}
use Rattle.type_table.specs.declared.NodeId.{NodeId}

-- ── the tables of a state ──

module _ {m : List ℕ} {c : Record} {s : State} (e : Encodes m c s) where
  -- the rows are counted
  pub rows_counted : length s.rows ≡ c.counts.types
  rows_counted = ap length (rows_are e) ∙ length-rows m c.counts.types

  -- the variables are counted
  pub vars_counted : length s.kinds ≡ c.counts.vars
  unfolding state_of
  vars_counted = sym (ap (λ (t : State). length t.kinds) e.tables) ∙ length_kinds m c.counts.vars

  -- other tables, and the same behind them
  encodes_own : {w : List ℕ} {d : Counts} → InTables m w → Sound w d → d.inputs ≡ input_total (state_of w d s).rows → Encodes w (with_counts c d) (state_of w d s)
  unfolding state_of
  encodes_own {w} b sound i =
      record {
        size = omega (arith, b.size, e.size);
        sound = sound;
        tables = refl;
        inputs = i;
        own = e.own ∙ sym (own_kept m w c.output.0 (λ j l r. b.same j (omega arith)));
        errors = e.errors ∙ sym (errors_kept m w c.errors (λ j l r. b.same j (omega arith)));
        equations = e.equations;
        logged = logged_kept m w s.log b.size (λ j l r. b.same j (omega arith)) e.logged;
      }

  -- the same, of a state that has these tables
  pub encodes_on : {w : List ℕ} {d : Counts} {t : State} → InTables m w → Sound w d → state_of w d s ≡ t → d.inputs ≡ input_total t.rows → Encodes w (with_counts c d) t
  encodes_on b sound q i = rw q at (encodes_own b sound (rw q i))

  -- what is made, R, is in the memory and in the record that `with_made` answers
  pub given : {m' : List ℕ} {x : Made} {r : Given} {R : Making} → made x m' ≡ R → r ≡ with_made c x → InTables m R.memory → Sound R.memory R.counts
      → (a : ℕ × State) → answered R s ≡ a → R.counts.inputs ≡ input_total a.1.rows → (◌≡◌ {A = Option ℕ} (some a.0) (some r.ty.0)) × Encodes m' r.record a.1
  given {m'} {x} {r} {R} p q b sound a h i =
      let g : answered (made x m') s ≡ a = rw (← p) at h in
      rw q (ap (λ (z : ℕ × State). some z.0) (sym g), encodes_on (rw (← p) at b) (rw (← p) at sound) (ap (λ (z : ℕ × State). z.1) g) (rw (← p) at i))

-- ── inputs ──

-- a type without inputs
interned_total : (t : Shape) (s : State) → input_count t ≡ 0 → input_total (interned t s).1.rows ≡ input_total s.rows
unfolding interned appended input_total
interned_total t s z = whole (sane (length s.rows) t)
  where
    row : (o : Option ℕ) → input_total (pooled t o s).1.rows ≡ input_total s.rows
    row none = omega (arith, z, total-append s.rows (t ∷ []))
    row (some r) = refl

    whole : (b : Bool) → input_total (intern_if b t s).1.rows ≡ input_total s.rows
    whole true = row (first_equal 0 s.rows t)
    whole false = refl

-- a mark changes no row
marked_total : (v : ℕ) (s : State) → input_total s.rows ≡ input_total (marking·T v s).rows
unfolding marking·T
marked_total v s = refl

-- ── what makes a type ──

module _ (m m' : List ℕ) (c : Record) (x : Made) (r : Given) (q : r ≡ with_made c x) where
  -- a type t without inputs is made
  made_gives : (R : Making) (t : Shape) → made x m' ≡ R → input_count t ≡ 0 → Beside m c.counts R → (s : State) → Encodes m c s → Sound R.memory R.counts → answered R s ≡ interned t (state_of m c.counts s)
      → (◌≡◌ {A = Option ℕ} (some (interned t s).0) (some r.ty.0)) × Encodes m' r.record (interned t s).1
  made_gives R t p z b s e sound h =
      let g : answered R s ≡ interned t s = rw e.tables at h in
      given e p q b.in_tables sound (interned t s) g (b.inputs ∙ e.inputs ∙ sym (interned_total t s z))

  -- `new_infer_var`
  pub draw_gives : (k : Kind) (o : Option·R NodeId) → made x m' ≡ draw_in m c.counts k o → Gives m c m' r (new_infer_var (kind_of (kind_number k)) (numbered (origin_number o)))
  unfolding new_infer_var run drawn input_total
  draw_gives k o p = record {
    ran = λ s e f. let d = c.counts in
        let room : d.types < most_types = omega (arith, rows_counted e, length-append s.rows (var (length s.mem.binds) ∷ []), f.rows) in
        let room' : d.vars < most_vars = omega (arith, vars_counted e, length-append s.kinds (kind_of (kind_number k) ∷ []), f.vars) in
        let a : ℕ × State = (d.types, drawn (kind_of (kind_number k)) (numbered (origin_number o)) s) in
        let h : answered (draw_in m d k o) s ≡ a = rw e.tables at (draw_step e.sound s k o room room') in
        rw (rows_counted e) (given e p q (beside_draw m d k o).in_tables (draw_keeps e.sound k o) a h ((beside_draw m d k o).inputs ∙ e.inputs ∙ sym (total-append s.rows (var (length s.mem.binds) ∷ []) ∙ omega arith)));
  }

  -- the type array of y
  pub array_gives : (y : ℕ) → made x m' ≡ intern_of m c.counts array_head y → Gives m c m' r (array_of y)
  unfolding array_of run
  array_gives y p = record { ran = λ s e f. made_gives (intern_of m c.counts array_head y) (arr y) p refl (beside_of m c.counts array_head y) s e (array_keeps e.sound y) (array_fits e.sound s y (rw e.tables f.rows)) }

  -- the type reference to y
  pub ref_gives : (y : ℕ) → made x m' ≡ intern_of m c.counts ref_head y → Gives m c m' r (ref_to_lem y)
  unfolding ref_to_lem run
  ref_gives y p = record { ran = λ s e f. made_gives (intern_of m c.counts ref_head y) (ref y) p refl (beside_of m c.counts ref_head y) s e (ref_keeps e.sound y) (ref_fits e.sound s y (rw e.tables f.rows)) }

  -- a number without a cell of the pool: nothing is made
  none_gives : (h a : ℕ) → made x m' ≡ intern_in m c.counts h a → pool_cell h a ≡ 0 → (s : State) → Encodes m c s → (◌≡◌ {A = Option ℕ} (some 0) (some r.ty.0)) × Encodes m' r.record s
  unfolding intern_in
  none_gives h a p z s e =
      let g : made x m' ≡ making c.counts 0 m = rw (eq-eqb (pool_cell h a) 0 z) at p in
      given e g q (tables_same m) e.sound (0, s) (ap (λ (t : State). (0, t)) e.tables) e.inputs

  -- the type of one of 256 definitions
  fn_made : (a : ℕ) → made x m' ≡ intern_in m c.counts fn_def_head a → a < 256 → Gives m c m' r (intern (fn a) done)
  unfolding run
  fn_made a p few = record { ran = λ s e f. made_gives (intern_in m c.counts fn_def_head a) (fn a) p refl (beside_intern m c.counts fn_def_head a) s e (fn_keeps e.sound a) (fn_fits e.sound s a few (rw e.tables f.rows)) }

  -- no type of another definition
  fn_none : (a : ℕ) → made x m' ≡ intern_in m c.counts fn_def_head a → 256 ≤ a → Gives m c m' r (done 0)
  unfolding run pool_cell
  fn_none a p many = record { ran = λ s e f. none_gives fn_def_head a p (rw (le-ltb a 256 many)) s e }

  -- the type of a definition
  pub fn_gives : (a : ℕ) → made x m' ≡ intern_in m c.counts fn_def_head a → Gives m c m' r (fn_def_lem a)
  unfolding fn_def_lem
  fn_gives a p = by (dec_lt a 256)
    where
      by : Dec (a < 256) → Gives m c m' r (cond (ltb a 256) (intern (fn a) done) (done 0))
      by (yes l) = rw (lt-ltb a 256 l) (fn_made a p l)
      by (no l) = let g : 256 ≤ a = omega arith in rw (le-ltb a 256 g) (fn_none a p g)

  -- the type of one of 64 instances
  instance_made : (a : ℕ) → made x m' ≡ intern_in m c.counts instance_head a → a < 64 → Gives m c m' r (intern (base (inst a)) done)
  unfolding run
  instance_made a p few = record { ran = λ s e f. made_gives (intern_in m c.counts instance_head a) (base (inst a)) p refl (beside_intern m c.counts instance_head a) s e (instance_keeps e.sound a) (instance_fits e.sound s a few (rw e.tables f.rows)) }

  -- no type of another instance
  instance_none : (a : ℕ) → made x m' ≡ intern_in m c.counts instance_head a → 64 ≤ a → Gives m c m' r (done 0)
  unfolding run pool_cell
  instance_none a p many = record { ran = λ s e f. none_gives instance_head a p (rw (le-ltb a 64 many)) s e }

  -- the type of an instance
  pub instance_gives : (a : ℕ) → made x m' ≡ intern_in m c.counts instance_head a → Gives m c m' r (instance a)
  unfolding instance
  instance_gives a p = by (dec_lt a 64)
    where
      by : Dec (a < 64) → Gives m c m' r (cond (ltb a 64) (intern (base (inst a)) done) (done 0))
      by (yes l) = rw (lt-ltb a 64 l) (instance_made a p l)
      by (no l) = let g : 64 ≤ a = omega arith in rw (le-ltb a 64 g) (instance_none a p g)

-- ── a mark ──

-- a variable's mark is set
pub mark_does : (m m' : List ℕ) (c : Record) (v : ℕ) → m' ≡ marking m c.counts.vars v → Runs m c m' c (mark_var v) tt
unfolding mark_var run
mark_does m m' c v p = record {
  ran = λ s e f. let d = c.counts in
      let h : state_of (marking m d.vars v) d s ≡ marking·T v s = rw e.tables at (mark_step e.sound s v) in
      (refl, rw p (encodes_on e (tables_mark m d e.sound.laid.vars v) (mark_keeps e.sound v) h (e.inputs ∙ marked_total v s)));
}

-- A made type is its step of the theory wherever the state after it fits: an equal row stands, and no room is needed, or there is room. Assumes `Sound`.
use Rattle.std.proofs.Math.Path.{◌≡◌, refl}
use Rattle.std.proofs.Common.{sym, ap, ◌∙◌, length-append}
use Rattle.std.specs.Prelude.{◌≢◌, List, [], ◌∷◌, ◌++◌, true, false, length}
use Rattle.std.proofs.Math.Option.{Option, none, some}
use Prim.Native.Nat.{ℕ, suc, zero, ◌+◌, ◌-◌, ◌≤◌, ◌<◌}
use native.Mathlib.Omega.{arith}
use Rattle.std.proofs.Math.Decide.{dec_lt}
use borrow.Author.Tests.{ne_eqb, lt-ltb, le-ltb}
use Rattle.theory.specs.Rules.{Shape, arr, ref, fn, base, inst, array_head, ref_head, fn_def_head, instance_head}
use Rattle.theory.specs.Program.{St, first_equal, sane, appended, interned}
use Rattle.type_table.specs.declared.Counts.{Counts}
use Rattle.type_table.specs.Memory.{cell, most_types, numbered, shape_of, rows_of}
use Rattle.type_table.specs.Made.{pool_cell, intern_in, intern_of}
use Rattle.type_table.specs.Tables.{length-rows}
use Rattle.type_table.specs.Sound.{Sound, state_of, answered}
use Rattle.type_table.specs.Keeps.{fn_cell, instance_cell}
use Rattle.type_table.specs.Promises.{array_step, ref_step, fn_step, instance_step}

module _ {X Er : Type 0} (t : Shape) (m : List ℕ) (c : Counts) (s : St X Er) where
  -- an equal row stands for the type
  interned_old : (r : ℕ) → sane c.types t ≡ true → first_equal 0 (rows_of m c.types) t ≡ some r → interned t (state_of m c s) ≡ (r, state_of m c s)
  unfolding interned state_of
  interned_old r e q = rw (length-rows m c.types, e, q)

  -- of what is no row nothing is made
  pub interned_not : sane c.types t ≡ false → interned t (state_of m c s) ≡ (0, state_of m c s)
  unfolding interned state_of
  interned_not e = rw (length-rows m c.types, e)

  -- with no equal row there is one row more
  pub interned_more : sane c.types t ≡ true → first_equal 0 (rows_of m c.types) t ≡ none → (interned t (state_of m c s)).1.rows ≡ rows_of m c.types ++ t ∷ []
  unfolding interned state_of appended
  interned_more e q = rw (length-rows m c.types, e, q)

  -- so there is room for it
  pub interned_room : sane c.types t ≡ true → first_equal 0 (rows_of m c.types) t ≡ none → length (interned t (state_of m c s)).1.rows ≤ most_types → c.types < most_types
  interned_room e q h =
      let g : length (rows_of m c.types ++ t ∷ []) ≤ most_types = rw (interned_more e q) at h in
      omega (arith, length-append (rows_of m c.types) (t ∷ []), length-rows m c.types, g)

-- the type with the head h, made of the number a
module _ {X Er : Type 0} {m : List ℕ} {c : Counts} (sound : Sound m c) (s : St X Er) (h a : ℕ) (cellular : pool_cell h a ≢ 0) where
  -- the cell of the pool names the row
  found : (r x : ℕ) → cell m (pool_cell h a) ≡ x → numbered x ≡ some r → answered (intern_in m c h a) s ≡ (r, state_of m c s)
  unfolding intern_in
  found r zero e q = absurd (let z : ◌≡◌ {A = ℕ} 0 1 = cc in omega arith)
  found r (suc x) e q =
      let z : suc x - 1 ≡ x = omega arith in
      let y : x ≡ r = cc in
      rw (ne_eqb (pool_cell h a) 0 cellular, e, ne_eqb (suc x) 0 (λ p. omega arith), z, y)

  -- where the law holds with room, it holds
  pool_step : (t : Shape) → shape_of h a 0 [] ≡ t → sane c.types t ≡ true → length (interned t (state_of m c s)).1.rows ≤ most_types
      → (c.types < most_types → answered (intern_in m c h a) s ≡ interned t (state_of m c s)) → answered (intern_in m c h a) s ≡ interned t (state_of m c s)
  pool_step t e made fits law = by (dec_lt c.types most_types) (first_equal 0 (rows_of m c.types) t) refl
    where
      by : Dec (c.types < most_types) → (o : Option ℕ) → first_equal 0 (rows_of m c.types) t ≡ o → answered (intern_in m c h a) s ≡ interned t (state_of m c s)
      by (yes room) o q = law room
      by (no full) none q = law (interned_room t m c s made q fits)
      by (no full) (some r) q = found r (cell m (pool_cell h a)) refl (sound.laid.pooled h a cellular ∙ ap (first_equal 0 (rows_of m c.types)) e ∙ q) ∙ sym (interned_old t m c s r made q)

module _ {X Er : Type 0} {m : List ℕ} {c : Counts} (sound : Sound m c) (s : St X Er) where
  -- h is the head of the types that are made of a row: their element x, or what they refer to
  of_step : (h x : ℕ) (t : Shape) → (x < most_types → pool_cell h x ≢ 0) → shape_of h x 0 [] ≡ t → (x < c.types → sane c.types t ≡ true) → (c.types ≤ x → sane c.types t ≡ false) → length (interned t (state_of m c s)).1.rows ≤ most_types
      → (c.types < most_types → answered (intern_of m c h x) s ≡ interned t (state_of m c s)) → answered (intern_of m c h x) s ≡ interned t (state_of m c s)
  unfolding intern_of
  of_step h x t cellular e some-made none_made fits law = by (dec_lt x c.types)
    where
      by : Dec (x < c.types) → answered (intern_of m c h x) s ≡ interned t (state_of m c s)
      by (yes l) = rw (lt-ltb x c.types l) (pool_step sound s h x (cellular (omega (arith, sound.laid.types))) t e (some-made l) fits (λ room. rw (lt-ltb x c.types l) at (law room)))
      by (no l) = let g : c.types ≤ x = omega arith in rw (le-ltb x c.types g) (sym (interned_not t m c s (none_made g)))

  -- array_of, where the state after it fits
  pub array_fits : (x : ℕ) → length (interned (arr x) (state_of m c s)).1.rows ≤ most_types → answered (intern_of m c array_head x) s ≡ interned (arr x) (state_of m c s)
  unfolding shape_of pool_cell
  array_fits x fits = of_step array_head x (arr x) (λ l. rw (lt-ltb x most_types l) (λ q. omega arith)) refl (λ l. rw (lt-ltb x c.types l)) (λ l. rw (le-ltb x c.types l)) fits (array_step sound s x)

  -- ref_to, where the state after it fits
  pub ref_fits : (x : ℕ) → length (interned (ref x) (state_of m c s)).1.rows ≤ most_types → answered (intern_of m c ref_head x) s ≡ interned (ref x) (state_of m c s)
  unfolding shape_of pool_cell
  ref_fits x fits = of_step ref_head x (ref x) (λ l. rw (lt-ltb x most_types l) (λ q. omega arith)) refl (λ l. rw (lt-ltb x c.types l)) (λ l. rw (le-ltb x c.types l)) fits (ref_step sound s x)

  -- fn_def, where the state after it fits
  pub fn_fits : (a : ℕ) → a < 256 → length (interned (fn a) (state_of m c s)).1.rows ≤ most_types → answered (intern_in m c fn_def_head a) s ≡ interned (fn a) (state_of m c s)
  unfolding shape_of
  fn_fits a few fits = pool_step sound s fn_def_head a (fn_cell a few) (fn a) refl refl fits (λ room. fn_step sound s a room few)

  -- instance, where the state after it fits
  pub instance_fits : (a : ℕ) → a < 64 → length (interned (base (inst a)) (state_of m c s)).1.rows ≤ most_types → answered (intern_in m c instance_head a) s ≡ interned (base (inst a)) (state_of m c s)
  unfolding shape_of
  instance_fits a few fits = pool_step sound s instance_head a (instance_cell a few) (base (inst a)) refl refl fits (λ room. instance_step sound s a room few)

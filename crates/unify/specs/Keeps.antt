-- What the promise of `unify` gives: one answer and one memory, sound tables from sound tables, and an answer that is never out of steps.
use Rattle.std.proofs.Math.Path.{◌≡◌, sym, ap}
use Rattle.std.specs.Prelude.{refl, ◌≢◌, ◌⊎◌, List, Bool, ℕ, suc, zero, ◌+◌, ◌*◌, ◌≤◌, ◌<◌}
use Rattle.std.proofs.Common.{◌∙◌, inl, inr, arith, ext_get_or}
use Rattle.std.proofs.Math.Option.{Option, none, some}
use Rattle.std.proofs.Math.Bool.{true, false}
use Rattle.std.proofs.Math.Decide.{ℕ_discrete}
use lib.ListN.{length}
use Rattle.std.proofs.Math.Dec.{eqb}
use borrow.Author.Tests.{eq-eqb, ne_eqb, le-ltb, lt-leb}
use Rattle.theory.specs.Rules.{Mem}
use Rattle.theory.specs.Program.{clip, St, solved, raised}
use Rattle.theory.specs.Keep.{KeptBy, Ended}
use Rattle.theory.proofs.Keep.{solve_kept}
use Rattle.theory.specs.Demand.{clip_in}
use Rattle.type_table.specs.declared.Counts.{Counts}
use Rattle.type_table.specs.declared.TypeId.{TypeId}
use Rattle.type_table.specs.Memory.{pick, cell, cells, most_types, most_vars, binding_at, mark_at, binds_of, mem_of, origins_of, Held}
use Rattle.type_table.specs.Tables.{bound_at, mark_at_lem, length-rows}
use Rattle.type_table.specs.Frames.{origins_kept}
use Rattle.type_table.specs.Sound.{Sound, state_of}
use Rattle.type_table.specs.Keeps.{laid_held, low_sound}
use Rattle.unify.specs.declared.Answer.{Answer}
use Rattle.unify.specs.Frames.{kinds_same, rows_same}
use Rattle.unify.specs.Promise.{Solved, SolvedBy, answer_is, held_in, kinds_in, mem_in, rows_in, solve_in}

-- ── sound tables ──

-- sound counts are taken as they are
pub held_sound : (m : List ℕ) (c : Counts) → Sound m c → held_in m c ≡ c
unfolding held_in
held_sound m c s = rw (le-ltb (length m) cells s.laid.size, le-ltb most_types c.types s.laid.types, le-ltb most_vars c.vars s.laid.vars)

module _ (m : List ℕ) (c : Counts) (sound : Sound m c) (x y : TypeId) where
  -- a clipped number is a row's
  clip_low : (z : ℕ) → clip c.types z < length (rows_in m c)
  clip_low z = rw (length-rows m c.types) (clip_in c.types z (omega (arith, sound.laid.fixed)))

  -- what the rules make of sound tables is sound
  solve_sound : KeptBy (rows_in m c) (kinds_in m c) (mem_in m c) (solve_in m c x.0 y.0)
  unfolding solve_in mem_of
  solve_sound = solve_kept (rows_in m c) (kinds_in m c) (mem_in m c) (clip c.types x.0) (clip c.types y.0) sound.good (clip_low x.0) (clip_low y.0)

  -- the steps never run out
  pub never_dry : Ended (solve_in m c x.0 y.0).0
  never_dry = solve_sound.ended

  -- the tables that `unify` leaves are sound
  pub unify_sound : (w : List ℕ) (r : Answer) → Solved m c x y w r → Sound w c
  unfolding mem_of
  unify_sound w r s = by (rw (held_sound m c sound) at s)
    where
      by : SolvedBy m c x y w r → Sound w c
      by t =
          let held : Held m c = laid_held sound.laid in
          let binds : binds_of w c.vars ≡ (solve_in m c x.0 y.0).1.binds = ap (λ (z : Mem). z.binds) t.memory in
          low_sound sound.laid w (λ j h. t.frame.same j (λ v k a b d e. omega (arith, held.vars))) t.frame.size sound (kinds_same m c w t.frame held c.vars) (rw binds solve_sound.good)

-- ── the step of a program ──

module _ (m : List ℕ) (c : Counts) (sound : Sound m c) (x y : TypeId) (w : List ℕ) (r : Answer) (s : Solved m c x y w r) where
  -- the promise, with the counts as they are
  by_itself : SolvedBy m c x y w r
  by_itself = rw (held_sound m c sound) at s

  origins_same : origins_of w c.vars ≡ origins_of m c.vars
  origins_same = origins_kept m w c.vars (λ v h. by_itself.frame.same (v * 5 + 1) (λ u k a b d e. omega arith))

  -- `unify` does what the step `equate` of a program does with the tables in the memory: the same answer, bindings and marks
  pub unify_step : {X Er : Type 0} (p : ℕ) (t : St X Er) → let e = clip c.types x.0 in let g = clip c.types y.0 in let q = solved e g (state_of m c t) in
      (state_of w c (raised p e g q t) ≡ raised p e g q (state_of m c t)) × (r ≡ answer_is q.0)
  unfolding state_of raised solve_in
  unify_step p t =
      let held : Held m c = laid_held sound.laid in
      (rw (rows_same m c w by_itself.frame held c.types, kinds_same m c w by_itself.frame held c.vars, origins_same, by_itself.memory), by_itself.answer)

-- ── one answer and one memory ──

module _ (m : List ℕ) (c : Counts) (x y : TypeId) (w u : List ℕ) (r q : Answer) (s : SolvedBy m c x y w r) (t : SolvedBy m c x y u q) where
  same_binding : (v : ℕ) → binding_at w c.vars v ≡ binding_at u c.vars v
  unfolding mem_of
  same_binding v = sym (bound_at w c.vars v) ∙ ap (λ (z : Mem). lib.ListN.get_or z.binds v none) (s.memory ∙ sym t.memory) ∙ bound_at u c.vars v

  same_mark : (v : ℕ) → mark_at w c.vars v ≡ mark_at u c.vars v
  unfolding mem_of
  same_mark v = sym (mark_at_lem w c.vars v) ∙ ap (λ (z : Mem). lib.ListN.get_or z.marks v false) (s.memory ∙ sym t.memory) ∙ mark_at_lem u c.vars v

  mark_one : (a : List ℕ) (v : ℕ) → v < c.vars → mark_at a c.vars v ≡ true → cell a (v * 5 + 4) ≡ 1
  unfolding mark_at
  mark_one a v h e = by (ℕ_discrete (cell a (v * 5 + 4)) 1) (rw (lt-leb c.vars v h) at e)
    where
      by : Dec (cell a (v * 5 + 4) ≡ 1) → eqb (cell a (v * 5 + 4)) 1 ≡ true → cell a (v * 5 + 4) ≡ 1
      by (yes p) f = p
      by (no n) f = let g : ◌≡◌ {A = Bool} true false = sym f ∙ ne_eqb (cell a (v * 5 + 4)) 1 n in absurd (let z : ◌≡◌ {A = ℕ} 0 1 = cc in omega arith)

  -- a bound variable has 1 in its third cell and its row in the fourth
  bound_cells : (a : List ℕ) (v b : ℕ) → v < c.vars → binding_at a c.vars v ≡ some b → (cell a (v * 5 + 2) ≡ 1) × (cell a (v * 5 + 3) ≡ b)
  unfolding binding_at
  bound_cells a v b h e = by (ℕ_discrete (cell a (v * 5 + 2)) 1) (rw (lt-leb c.vars v h) at e)
    where
      by : Dec (cell a (v * 5 + 2) ≡ 1) → pick (eqb (cell a (v * 5 + 2)) 1) (some (cell a (v * 5 + 3))) none ≡ some b → (cell a (v * 5 + 2) ≡ 1) × (cell a (v * 5 + 3) ≡ b)
      by (yes p) f = (p, let g = rw (eq-eqb (cell a (v * 5 + 2)) 1 p) at f in cc)
      by (no n) f = let g : none ≡ some b = rw (ne_eqb (cell a (v * 5 + 2)) 1 n) at f in absurd (let z : ◌≡◌ {A = ℕ} 0 1 = cc in omega arith)

  var_cells : (v : ℕ) → v < c.vars → (cell w (v * 5 + 2) ≡ cell u (v * 5 + 2)) × (cell w (v * 5 + 3) ≡ cell u (v * 5 + 3))
  var_cells v h = by (binding_at w c.vars v) refl
    where
      by : (o : Option ℕ) → binding_at w c.vars v ≡ o → (cell w (v * 5 + 2) ≡ cell u (v * 5 + 2)) × (cell w (v * 5 + 3) ≡ cell u (v * 5 + 3))
      by none e = let a = s.frame.unbound v e in let b = t.frame.unbound v (sym (same_binding v) ∙ e) in (a.0 ∙ sym b.0, a.1 ∙ sym b.1)
      by (some z) e = let a = bound_cells w v z h e in let b = bound_cells u v z h (sym (same_binding v) ∙ e) in (a.0 ∙ sym b.0, a.1 ∙ sym b.1)

  mark_cell : (v : ℕ) → v < c.vars → cell w (v * 5 + 4) ≡ cell u (v * 5 + 4)
  mark_cell v h = by (mark_at w c.vars v) refl
    where
      by : (b : Bool) → mark_at w c.vars v ≡ b → cell w (v * 5 + 4) ≡ cell u (v * 5 + 4)
      by true e = mark_one w v h e ∙ sym (mark_one u v h (sym (same_mark v) ∙ e))
      by false e = s.frame.unmarked v e ∙ sym (t.frame.unmarked v (sym (same_mark v) ∙ e))

  -- the cell i, if it is one of the binding and mark cells of the variables below n
  among : (i n : ℕ) → n ≤ c.vars → (cell w i ≡ cell u i) ⊎ ((v k : ℕ) → v < n → 1 < k → k < 5 → i ≢ v * 5 + k)
  among i zero h = inr (λ v k a b d. absurd (omega arith))
  among i (suc n) h = by (ℕ_discrete i (n * 5 + 2)) (ℕ_discrete i (n * 5 + 3)) (ℕ_discrete i (n * 5 + 4)) (among i n (omega arith))
    where
      by : Dec (i ≡ n * 5 + 2) → Dec (i ≡ n * 5 + 3) → Dec (i ≡ n * 5 + 4) → (cell w i ≡ cell u i) ⊎ ((v k : ℕ) → v < n → 1 < k → k < 5 → i ≢ v * 5 + k) → (cell w i ≡ cell u i) ⊎ ((v k : ℕ) → v < suc n → 1 < k → k < 5 → i ≢ v * 5 + k)
      by (yes e) b d f = inl (rw e (var_cells n (omega arith)).0)
      by (no a) (yes e) d f = inl (rw e (var_cells n (omega arith)).1)
      by (no a) (no b) (yes e) f = inl (rw e (mark_cell n (omega arith)))
      by (no a) (no b) (no d) (inl e) = inl e
      by (no a) (no b) (no d) (inr f) = inr g
        where
          at_n : (k : ℕ) → 1 < k → k < 5 → i ≢ n * 5 + k
          at_n k p q e = last (ℕ_discrete k 2) (ℕ_discrete k 3)
            where
              last : Dec (k ≡ 2) → Dec (k ≡ 3) → ⊥
              last (yes z) y = a (rw z at e)
              last (no z) (yes y) = b (rw y at e)
              last (no z) (no y) = d (let j : k ≡ 4 = omega (arith, p, q) in rw j at e)

          g : (v k : ℕ) → v < suc n → 1 < k → k < 5 → i ≢ v * 5 + k
          g v k l p q e = go (ℕ_discrete v n)
            where
              go : Dec (v ≡ n) → ⊥
              go (yes z) = at_n k p q (rw z at e)
              go (no z) = f v k (omega (arith, l)) p q e

  each_cell : (i : ℕ) → cell w i ≡ cell u i
  each_cell i = by (among i c.vars (omega arith))
    where
      by : (cell w i ≡ cell u i) ⊎ ((v k : ℕ) → v < c.vars → 1 < k → k < 5 → i ≢ v * 5 + k) → cell w i ≡ cell u i
      by (inl e) = e
      by (inr f) = s.frame.same i f ∙ sym (t.frame.same i f)

  -- the promise determines answer and memory
  pub determined : (r ≡ q) × (w ≡ u)
  determined = (s.answer ∙ sym t.answer, ext_get_or 0 w u (s.frame.size ∙ sym t.frame.size) (λ i h. each_cell i))

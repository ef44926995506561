-- What a mark and a binding change in the memory, and what stays.
use Rattle.std.specs.Prelude.{◌≡◌, refl, ◌≢◌, List, Bool, true, false, ℕ, ◌+◌, ◌*◌, ◌≤◌, ◌<◌, set}
use Rattle.std.proofs.Common.{sym, ◌∙◌, arith, lt-ltb, le-ltb}
use Rattle.std.proofs.Math.Option.{none, some}
use Rattle.std.proofs.Math.Decide.{dec_lt, ℕ_discrete}
use Rattle.std.proofs.Math.ListN.{length-set}
use Rattle.std.proofs.Math.Seq.{get_or-set_same, get_or-set_other}
use Rattle.std.proofs.lemmas.Bool.{lt-leb}
use Rattle.theory.specs.Rules.{bind}
use Rattle.type_table.specs.declared.Counts.{Counts}
use Rattle.type_table.specs.Memory.{cell, inputs_from, rows_of, kinds_of, binding_at, binds_of, mark_at, marks_of, mem_of, Held}
use Rattle.type_table.specs.Made.{marking, binding}
use Rattle.type_table.specs.Frames.{inputs_low, rows_low, kinds_kept}
use Rattle.type_table.specs.Keeps.{mark_binds, mark_marks, bind_mem}
use Rattle.unify.specs.Promise.{Frame}

pub frame_same : (m : List ℕ) (c : Counts) → Frame m c m
frame_same m c = record { size = refl; same = λ i h. refl; unbound = λ v e. (refl, refl); unmarked = λ v e. refl }

-- ── what a frame keeps ──

module _ (m : List ℕ) (c : Counts) (w : List ℕ) (f : Frame m c w) where
  pub held_on : Held m c → Held w c
  held_on h = record { room = rw f.size h.room; vars = h.vars; types = h.types }

  module _ (held : Held m c) where
    -- a cell at or above the rows
    above : (i : ℕ) → 5120 ≤ i → cell w i ≡ cell m i
    above i h = f.same i (λ v k a b d e. omega (arith, held.vars))

    -- a kind or an origin
    below : (v j : ℕ) → j < 2 → cell w (v * 5 + j) ≡ cell m (v * 5 + j)
    below v j h = f.same (v * 5 + j) (λ u k a b d e. omega arith)

    pub inputs_same : (x k : ℕ) → inputs_from w x k ≡ inputs_from m x k
    inputs_same = inputs_low m w above

    pub rows_same : (n : ℕ) → rows_of w n ≡ rows_of m n
    rows_same n = rows_low m w n above

    pub kinds_same : (n : ℕ) → kinds_of w n ≡ kinds_of m n
    kinds_same n = kinds_kept m w n (λ v h. below v 0 (omega arith))

-- a variable whose binding cells are the same has the same binding
same_binding : (m w : List ℕ) (n v : ℕ) → (cell w (v * 5 + 2) ≡ cell m (v * 5 + 2)) × (cell w (v * 5 + 3) ≡ cell m (v * 5 + 3)) → binding_at w n v ≡ binding_at m n v
unfolding binding_at
same_binding m w n v e = rw (e.0, e.1)

same_mark : (m w : List ℕ) (n v : ℕ) → cell w (v * 5 + 4) ≡ cell m (v * 5 + 4) → mark_at w n v ≡ mark_at m n v
unfolding mark_at
same_mark m w n v e = rw e

pub frame_trans : (m : List ℕ) (c : Counts) (w u : List ℕ) → Frame m c w → Frame w c u → Frame m c u
frame_trans m c w u a b =
    record {
      size = b.size ∙ a.size;
      same = λ i h. b.same i h ∙ a.same i h;
      unbound = λ v e. (let g = b.unbound v e in let h = a.unbound v (sym (same_binding w u c.vars v g) ∙ e) in (g.0 ∙ h.0, g.1 ∙ h.1));
      unmarked = λ v e. (let g = b.unmarked v e in g ∙ a.unmarked v (sym (same_mark w u c.vars v g) ∙ e));
    }

-- ── a mark ──

module _ (m : List ℕ) (c : Counts) (held : Held m c) (v : ℕ) where
  module _ (hv : v < c.vars) where
    abbrev now_marked : List ℕ
    now_marked = set m (v * 5 + 4) 1

    is_marked_lem : marking m c.vars v ≡ now_marked
    unfolding marking
    is_marked_lem = rw (lt-ltb v c.vars hv)

    mark_other : (i : ℕ) → i ≢ v * 5 + 4 → cell now_marked i ≡ cell m i
    mark_other i d = get_or-set_other m (v * 5 + 4) i 1 0 d

    mark_here : cell now_marked (v * 5 + 4) ≡ 1
    mark_here = get_or-set_same m (v * 5 + 4) 1 0 (omega (arith, held.room))

    marked_now : mark_at now_marked c.vars v ≡ true
    unfolding mark_at
    marked_now = rw (lt-leb c.vars v hv, mark_here)

    mark_frame : Frame m c now_marked
    mark_frame =
        record {
          size = length-set m (v * 5 + 4) 1;
          same = λ i h. mark_other i (h v 4 hv (omega arith) (omega arith));
          unbound = λ u e. (mark_other (u * 5 + 2) (λ q. omega arith), mark_other (u * 5 + 3) (λ q. omega arith));
          unmarked = λ u e. by u e (ℕ_discrete u v);
        }
      where
        by : (u : ℕ) → mark_at now_marked c.vars u ≡ false → Dec (u ≡ v) → cell now_marked (u * 5 + 4) ≡ cell m (u * 5 + 4)
        by u e (yes q) = let g = rw q at e in let h : ◌≡◌ {A = Bool} true false = sym marked_now ∙ g in absurd (let y : ◌≡◌ {A = ℕ} 0 1 = cc in omega arith)
        by u e (no d) = mark_other (u * 5 + 4) (λ q. d (omega arith))

  not_marking : c.vars ≤ v → marking m c.vars v ≡ m
  unfolding marking
  not_marking h = rw (le-ltb v c.vars h)

  pub marking_frame : Frame m c (marking m c.vars v)
  marking_frame = by (dec_lt v c.vars)
    where
      by : Dec (v < c.vars) → Frame m c (marking m c.vars v)
      by (yes h) = rw (is_marked_lem h) (mark_frame h)
      by (no h) = let k : c.vars ≤ v = omega arith in rw (not_marking k) (frame_same m c)

  -- a mark is set in the tables
  pub marking_mem : mem_of (marking m c.vars v) c.vars ≡ record { binds = binds_of m c.vars; marks = set (marks_of m c.vars) v true }
  unfolding mem_of
  marking_mem = rw (mark_binds held v, mark_marks held v)

-- ── a binding ──

module _ (m : List ℕ) (c : Counts) (held : Held m c) (v z : ℕ) where
  module _ (hv : v < c.vars) where
    abbrev now_bound : List ℕ
    now_bound = set (set m (v * 5 + 2) 1) (v * 5 + 3) z

    is_bound_lem : binding m c.vars v z ≡ now_bound
    unfolding binding
    is_bound_lem = rw (lt-ltb v c.vars hv)

    bind_other : (i : ℕ) → i ≢ v * 5 + 2 → i ≢ v * 5 + 3 → cell now_bound i ≡ cell m i
    bind_other i d e = get_or-set_other (set m (v * 5 + 2) 1) (v * 5 + 3) i z 0 e ∙ get_or-set_other m (v * 5 + 2) i 1 0 d

    bound_now : binding_at now_bound c.vars v ≡ some z
    unfolding binding_at
    bound_now =
        let a : cell now_bound (v * 5 + 2) ≡ 1 = get_or-set_other (set m (v * 5 + 2) 1) (v * 5 + 3) (v * 5 + 2) z 0 (λ q. omega arith) ∙ get_or-set_same m (v * 5 + 2) 1 0 (omega (arith, held.room)) in
        let b : cell now_bound (v * 5 + 3) ≡ z = get_or-set_same (set m (v * 5 + 2) 1) (v * 5 + 3) z 0 (omega (arith, held.room, length-set m (v * 5 + 2) 1)) in
        rw (lt-leb c.vars v hv, a, b)

    bind_frame : Frame m c now_bound
    bind_frame =
        record {
          size = length-set (set m (v * 5 + 2) 1) (v * 5 + 3) z ∙ length-set m (v * 5 + 2) 1;
          same = λ i h. bind_other i (h v 2 hv (omega arith) (omega arith)) (h v 3 hv (omega arith) (omega arith));
          unbound = λ u e. by u e (ℕ_discrete u v);
          unmarked = λ u e. bind_other (u * 5 + 4) (λ q. omega arith) (λ q. omega arith);
        }
      where
        by : (u : ℕ) → binding_at now_bound c.vars u ≡ none → Dec (u ≡ v) → (cell now_bound (u * 5 + 2) ≡ cell m (u * 5 + 2)) × (cell now_bound (u * 5 + 3) ≡ cell m (u * 5 + 3))
        by u e (yes q) = let g = rw q at e in let h : some z ≡ none = sym bound_now ∙ g in absurd (let y : ◌≡◌ {A = ℕ} 0 1 = cc in omega arith)
        by u e (no d) = (bind_other (u * 5 + 2) (λ q. d (omega arith)) (λ q. omega arith), bind_other (u * 5 + 3) (λ q. omega arith) (λ q. d (omega arith)))

  not_binding : c.vars ≤ v → binding m c.vars v z ≡ m
  unfolding binding
  not_binding h = rw (le-ltb v c.vars h)

  pub binding_frame : Frame m c (binding m c.vars v z)
  binding_frame = by (dec_lt v c.vars)
    where
      by : Dec (v < c.vars) → Frame m c (binding m c.vars v z)
      by (yes h) = rw (is_bound_lem h) (bind_frame h)
      by (no h) = let k : c.vars ≤ v = omega arith in rw (not_binding k) (frame_same m c)

  -- a variable is bound in the tables
  pub binding_mem : mem_of (binding m c.vars v z) c.vars ≡ bind (mem_of m c.vars) v z
  binding_mem = bind_mem held v z

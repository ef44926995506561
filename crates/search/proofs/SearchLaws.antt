-- The search: what each return shows, and why the queue answers as `leads` does, of any rows and bindings.
use Rattle.std.specs.Prelude.{None, Option as Option·R, Some}
use mathlib.Core.Path.{◌≡◌, refl, sym, ap, ◌∙◌, subst}
use mathlib.Core.Logic.{◌≢◌, ◌⊎◌, inl, inr}
use mathlib.Core.List.{List, [], ◌∷◌}
use mathlib.Core.Option.{Option, none, some}
use mathlib.Core.Bool.{Bool, true, false, ◌||◌, cond}
use Prim.Native.Nat.{ℕ, suc, zero, ◌+◌, ◌-◌, ◌≤◌, ◌<◌}
use native.Mathlib.Omega.{arith}
use native.Mathlib.Numerals.{add-one}
use native.Mathlib.Decide.{ℕ_discrete, dec_lt}
use lib.ListN.{get_or, set, length, length-set, replicate, length-replicate, get_or-replicate, get_or-eq_default}
use lib.Seq.{get_or-set_same, get_or-set_other}
use lib.Dec.{eqb, leb}
use borrow.Author.Tests.{eq-eqb, ne_eqb, le-leb, lt-leb, leb-false}
use Rattle.theory.specs.Rules.{row, base, nil, var, as_var, bound, succs, opt_list, is_same, any, leads, far, seek, seek_var, follow}
use Rattle.theory.specs.Rules.{free, ring, inside}
use Rattle.theory.specs.Basics.{All, all_map}
use Rattle.type_table.specs.declared.Counts.{Counts}
use Rattle.type_table.specs.declared.TypeId.{TypeId}
use Rattle.type_table.specs.declared.VarId.{VarId}
use Rattle.type_table.specs.declared.InputRange.{InputRange}
use Rattle.type_table.specs.Memory.{pick, cell, inputs_at, head_at, number_at, output_at, first_at, count_at, inputs_from, Held}
use Rattle.type_table.specs.View.{type, variable, bound_in}
use Rattle.search.specs.declared.Found.TheVariants.{Free, Ring, Inside, Lost}
use Rattle.search.specs.declared.Queue.{Queue}
use Rattle.search.specs.declared.Lead.{Lead}
use Rattle.search.specs.declared.Lead.TheVariants.{At, End, Parts, To}
use Rattle.search.specs.Search.{rows_in, queue, push_f, push_all, parts, binds_in, next_in, leads_in, Visited, ReachedK, Reached, LedVar, Led, Stands, seek_in, Sought}
use Rattle.type_table.specs.Tables.{length-rows}
use Rattle.type_table.specs.Heads.{var_row_lem}
use Rattle.search.specs.Bridge.{bound_open, bound_some, no_var_row, kids_row}

-- ── pushing ──

module _ (n : ℕ) (q : List ℕ) (t y : ℕ) where
  pub push_none : n ≤ y → queue q t ≡ push_f n (queue q t) y
  unfolding push_f
  push_none h = rw (le-leb n y h)

  pub push_far : y < n → 4622 ≤ y → queue q t ≡ push_f n (queue q t) y
  unfolding push_f
  push_far h k = rw (lt-leb n y h, le-leb 4622 y k)

  pub push_full : y < n → y < 4622 → get_or q y 0 ≡ 0 → 4622 ≤ t → queue q t ≡ push_f n (queue q t) y
  unfolding push_f
  push_full i h e k = rw (lt-leb n y i, lt-leb 4622 y h, e, le-leb 4622 t k)

  pub push_new : y < n → y < 4622 → get_or q y 0 ≡ 0 → t < 4622 → queue (set (set q y 1) (4622 + t) y) (t + 1) ≡ push_f n (queue q t) y
  unfolding push_f
  push_new i h e k = rw (lt-leb n y i, lt-leb 4622 y h, e, lt-leb 4622 t k)

  pub push_seen : y < n → y < 4622 → get_or q y 0 ≢ 0 → queue q t ≡ push_f n (queue q t) y
  unfolding push_f
  push_seen i h e = rw (lt-leb n y i, lt-leb 4622 y h, ne_eqb (get_or q y 0) 0 e)

-- one input more of a run of inputs
pub inputs_more : (n : ℕ) (m : List ℕ) (s u : Queue) (f k j : ℕ) (y : TypeId) → k ≡ suc j → y.0 ≡ cell m (inputs_at + f) → u ≡ push_f n s y.0 → push_all n u (inputs_from m (f + 1) j) ≡ push_all n s (inputs_from m f k)
unfolding push_all inputs_from
inputs_more n m s u f k j y h e p = rw (h, add-one, ← e, ← p)

pub inputs_end : (n : ℕ) (m : List ℕ) (s : Queue) (f k : ℕ) → k ≡ 0 → push_all n s (inputs_from m f k) ≡ s
unfolding push_all inputs_from
inputs_end n m s f k h = rw h

-- ── where a row leads ──

module _ (m : List ℕ) (c : Counts) (x : TypeId) (h : ℕ) (p : h ≡ head_at m c.types x.0) where
  parts_two : (h ≡ 6) ⊎ (h ≡ 13) → parts m c x ≡ output_at m c.types x.0 ∷ inputs_from m (first_at m c.types x.0) (count_at m c.types x.0)
  unfolding parts
  parts_two (inl e) = rw (← p, e)
  parts_two (inr e) = rw (← p, e)

  parts-one : (h ≡ 8) ⊎ (h ≡ 14) → parts m c x ≡ number_at m c.types x.0 ∷ []
  unfolding parts
  parts-one (inl e) = rw (← p, e)
  parts-one (inr e) = rw (← p, e)

  parts_no : h ≢ 6 → h ≢ 13 → h ≢ 8 → h ≢ 14 → parts m c x ≡ []
  unfolding parts
  parts_no a b d f = rw (← p, ne_eqb h 6 a, ne_eqb h 13 b, ne_eqb h 8 d, ne_eqb h 14 f)

  -- a row other than a variable leads to its parts
  next_parts : h ≢ 12 → next_in m c x.0 ≡ parts m c x
  next_parts d = ap (succs (binds_in m c) (row (rows_in m c) x.0)) (no_var_row m c.types x.0 (rw p at d)) ∙ kids_row m c x

  var_of : (u : ℕ) → h ≡ 12 → u ≡ number_at m c.types x.0 → row (rows_in m c) x.0 ≡ var u
  var_of u e q = var_row_lem m c.types x.0 (sym p ∙ e) ∙ ap var (sym q)

  pub parts_of_two : (h ≡ 6) ⊎ (h ≡ 13) → (o : TypeId) (r : InputRange) (s u w : Queue) → o.0 ≡ output_at m c.types x.0 → (r.first ≡ first_at m c.types x.0) × (r.count ≡ count_at m c.types x.0)
      → u ≡ push_f c.types s o.0 → w ≡ push_all c.types u (inputs_from m r.first r.count) → w ≡ push_all c.types s (parts m c x)
  unfolding push_all
  parts_of_two e o r s u w a b d f =
      let g : parts m c x ≡ o.0 ∷ inputs_from m r.first r.count = parts_two e ∙ rw (← a, ← b.0, ← b.1) in
      f ∙ ap (λ (z : Queue). push_all c.types z (inputs_from m r.first r.count)) d ∙ sym (ap (push_all c.types s) g)

  pub parts_of_one : (h ≡ 8) ⊎ (h ≡ 14) → (e : ℕ) (s w : Queue) → e ≡ number_at m c.types x.0 → w ≡ push_f c.types s e → w ≡ push_all c.types s (parts m c x)
  unfolding push_all
  parts_of_one k e s w a d = rw (parts-one k, ← a) d

  pub parts_of_none : h ≢ 6 → h ≢ 13 → h ≢ 8 → h ≢ 14 → (s : Queue) → s ≡ push_all c.types s (parts m c x)
  unfolding push_all
  parts_of_none a b d f s = rw (parts_no a b d f)

  module _ (v : VarId) where
    module _ (u : ℕ) (e : h ≡ 12) (q : u ≡ number_at m c.types x.0) where
      as_u : as_var (row (rows_in m c) x.0) ≡ some u
      as_u = ap as_var (var_of u e q)

      next_u : next_in m c x.0 ≡ opt_list (bound (binds_in m c) u)
      next_u = rw (var_of u e q)

      pub visit_hit : (s : Queue) → u ≡ v.0 → Visited m c v x s s true
      visit_hit s e = as_u ∙ ap some e

      not_v : u ≢ v.0 → as_var (row (rows_in m c) x.0) ≢ some v.0
      not_v d r = d (let g : some u ≡ some v.0 = sym as_u ∙ r in cc)

      pub visit_open : (s : Queue) (b : Option·R TypeId) → u ≢ v.0 → b ≡ bound_in m c (variable u) → b ≡ None → Visited m c v x s s false
      unfolding push_all
      visit_open s b d r o = (not_v d, rw (next_u, bound_open m c (variable u) b r o))

      pub visit_bound : (s w : Queue) (b : Option·R TypeId) (y : TypeId) → u ≢ v.0 → b ≡ bound_in m c (variable u) → b ≡ Some y → w ≡ push_f c.types s y.0 → Visited m c v x s w false
      unfolding push_all
      visit_bound s w b y d r o g = (not_v d, rw (next_u, bound_some m c (variable u) b r y o) g)

    pub visit_parts : h ≢ 12 → (s w : Queue) → w ≡ push_all c.types s (parts m c x) → Visited m c v x s w false
    visit_parts d s w g =
        (λ r. (let y : ◌≡◌ {A = ℕ} 0 1 = (let f : none ≡ some v.0 = sym (no_var_row m c.types x.0 (rw p at d)) ∙ r in cc) in omega arith), rw (next_parts d) g)

or_right : (a b : Bool) → b ≡ true → (a || b) ≡ true
or_right true b r = refl
or_right false b r = r

-- ── steps along the rows ──

module _ (m : List ℕ) (c : Counts) (v : ℕ) where
  or-false : (a : Bool) → (a || false) ≡ a
  or-false true = refl
  or-false false = refl

  step_eq : (n x : ℕ) → leads_in m c v (suc n) x ≡ (is_same v (as_var (row (rows_in m c) x)) || any (leads_in m c v n) (next_in m c x))
  unfolding leads
  step_eq n x = refl

  zero_eq : (x : ℕ) → leads_in m c v 0 x ≡ false
  unfolding leads
  zero_eq x = refl

  -- a row that is not v's and leads to one row
  step_one : (n x y : ℕ) → is_same v (as_var (row (rows_in m c) x)) ≡ false → next_in m c x ≡ y ∷ [] → leads_in m c v (suc n) x ≡ leads_in m c v n y
  step_one n x y e f = step_eq n x ∙ rw (e, f) (or-false (leads_in m c v n y))

  -- a row that is not v's and leads nowhere
  step-none : (n x : ℕ) → is_same v (as_var (row (rows_in m c) x)) ≡ false → next_in m c x ≡ [] → leads_in m c v n x ≡ false
  step-none zero x e f = zero_eq x
  step-none (suc n) x e f = step_eq n x ∙ rw (e, f)

  any_mono : (f g : ℕ → Bool) (l : List ℕ) → ((y : ℕ) → f y ≡ true → g y ≡ true) → any f l ≡ true → any g l ≡ true
  any_mono f g [] h e = e
  any_mono f g (y ∷ ys) h e = by (λ q. any_mono f g ys h q) (f y) refl e
    where
      by : (any f ys ≡ true → any g ys ≡ true) → (b : Bool) → f y ≡ b → (b || any f ys) ≡ true → (g y || any g ys) ≡ true
      by ih true p q = rw (h y p)
      by ih false p q = or_right (g y) (any g ys) (ih q)

  or_mono : (a b d : Bool) → (b ≡ true → d ≡ true) → (a || b) ≡ true → (a || d) ≡ true
  or_mono true b d f e = refl
  or_mono false b d f e = f e

  -- more steps find no less
  more_steps : (n x : ℕ) → leads_in m c v n x ≡ true → leads_in m c v (suc n) x ≡ true
  more_steps zero x e = let y : ◌≡◌ {A = Bool} true false = sym e ∙ zero_eq x in cc
  more_steps (suc n) x e = step_eq (suc n) x ∙ or_mono (is_same v (as_var (row (rows_in m c) x))) (any (leads_in m c v n) (next_in m c x)) (any (leads_in m c v (suc n)) (next_in m c x)) (any_mono (leads_in m c v n) (leads_in m c v (suc n)) (next_in m c x) (λ y h. more_steps n y h)) (sym (step_eq n x) ∙ e)

  pub mono : (k n x : ℕ) → leads_in m c v n x ≡ true → leads_in m c v (k + n) x ≡ true
  mono zero n x e = let i : 0 + n ≡ n = omega arith in rw i e
  mono (suc k) n x e = let i : suc k + n ≡ suc (k + n) = omega arith in rw i (more_steps (k + n) x (mono k n x e))

  pub mono_le : (n k x : ℕ) → n ≤ k → leads_in m c v n x ≡ true → leads_in m c v k x ≡ true
  mono_le n k x h e = let i : (k - n) + n ≡ k = omega arith in rw i at (mono (k - n) n x e)

  none_same : (o : Option ℕ) → o ≢ some v → is_same v o ≡ false
  none_same none d = refl
  none_same (some u) d = ne_eqb u v (λ e. d (ap some e))

  pub is-v : (n x : ℕ) → as_var (row (rows_in m c) x) ≡ some v → leads_in m c v (suc n) x ≡ true
  is-v n x e = step_eq n x ∙ rw (e, eq-eqb v v refl)

-- ── along one by one ──

module _ (m : List ℕ) (c : Counts) (v : VarId) where
  pub led_var_open : (u : VarId) (b : Option·R TypeId) → u.0 ≢ v.0 → b ≡ bound_in m c u → b ≡ None → LedVar m c v u End
  led_var_open u b d r o = (d, bound_open m c u b r o)

  pub led_var_to : (u : VarId) (b : Option·R TypeId) (y : TypeId) → u.0 ≢ v.0 → b ≡ bound_in m c u → b ≡ Some y → LedVar m c v u (To y)
  led_var_to u b y d r o = (d, bound_some m c u b r y o)

  module _ (x : TypeId) (h : ℕ) (p : h ≡ head_at m c.types x.0) where
    not_same : h ≢ 12 → is_same v.0 (as_var (row (rows_in m c) x.0)) ≡ false
    not_same d = rw (no_var_row m c.types x.0 (rw p at d))

    pub led_one : (h ≡ 8) ⊎ (h ≡ 14) → (e : ℕ) → e ≡ number_at m c.types x.0 → Led m c v x (To (type e))
    led_one k e q n = step_one m c v.0 n x.0 e (not_same no12) (next_parts m c x h p no12 ∙ parts-one m c x h p k ∙ rw (← q))
      where
        no12 : h ≢ 12
        no12 r = by k
          where
            by : (h ≡ 8) ⊎ (h ≡ 14) → ⊥
            by (inl i) = omega arith
            by (inr i) = omega arith

    pub led_none : h ≢ 8 → h ≢ 14 → h ≢ 12 → h ≢ 6 → h ≢ 13 → Led m c v x End
    led_none a b d f g n = step-none m c v.0 n x.0 (not_same d) (next_parts m c x h p d ∙ parts_no m c x h p f g a b)

    pub led_var : (u : ℕ) → h ≡ 12 → u ≡ number_at m c.types x.0 → (r : Lead) → LedVar m c v (variable u) r → Led m c v x r
    led_var u e q At d = λ n. is-v m c v.0 n x.0 (as_u m c x h p v u e q ∙ ap some d)
    led_var u e q End d = λ n. step-none m c v.0 n x.0 (rw (as_u m c x h p v u e q) (ne_eqb u v.0 d.0)) (next_u m c x h p v u e q ∙ rw d.1)
    led_var u e q Parts d = tt
    led_var u e q (To y) d = λ n. step_one m c v.0 n x.0 y.0 (rw (as_u m c x h p v u e q) (ne_eqb u v.0 d.0)) (next_u m c x h p v u e q ∙ rw d.1)

-- ── the queue ──

abbrev zero_bit : Bool → ℕ
zero_bit true = 1
zero_bit false = 0

-- how many of the first k are 0
unfoldable pub opens : (ℕ → ℕ) → ℕ → ℕ
opens g zero = 0
opens g (suc k) = zero_bit (eqb (g k) 0) + opens g k

opens_all : (g : ℕ → ℕ) (k : ℕ) → ((j : ℕ) → j < k → g j ≡ 0) → opens g k ≡ k
unfolding opens
opens_all g zero h = refl
opens_all g (suc k) h = rw (h k (omega arith), opens_all g k (λ j l. h j (omega arith))) (omega arith)

opens_ext : (g w : ℕ → ℕ) (k : ℕ) → ((j : ℕ) → j < k → w j ≡ g j) → opens w k ≡ opens g k
unfolding opens
opens_ext g w zero h = refl
opens_ext g w (suc k) h = rw (h k (omega arith), opens_ext g w k (λ j l. h j (omega arith)))

opens_less : (g w : ℕ → ℕ) (y k : ℕ) → y < k → g y ≡ 0 → w y ≢ 0 → ((j : ℕ) → j < k → j ≢ y → w j ≡ g j) → suc (opens w k) ≡ opens g k
unfolding opens
opens_less g w y zero h e d f = absurd (omega arith)
opens_less g w y (suc k) h e d f = by (ℕ_discrete k y) (λ l. opens_less g w y k l e d (λ j i n. f j (omega arith) n))
  where
    by : Dec (k ≡ y) → (y < k → suc (opens w k) ≡ opens g k) → suc (zero_bit (eqb (w k) 0) + opens w k) ≡ zero_bit (eqb (g k) 0) + opens g k
    by (yes q) r = let a : w k ≢ 0 = (λ u. d (sym (ap w q) ∙ u)) in let b : g k ≡ 0 = ap g q ∙ e in let i = opens_ext g w k (λ j l. f j (omega arith) (λ u. omega arith)) in rw (ne_eqb (w k) 0 a, eq-eqb (g k) 0 b, i) (omega arith)
    by (no n) r = let a : w k ≡ g k = f k (omega arith) n in rw a (omega (arith, r (omega arith)))

-- the i-th row of the queue
abbrev pub entry : List ℕ → ℕ → ℕ
entry q i = get_or q (4622 + i) 0

module _ (n : ℕ) (limit : n ≤ 4622) where
  -- a row that was queued
  unfoldable pub Seen : List ℕ → ℕ → Type 0
  Seen q y = (y < n) × (get_or q y 0 ≢ 0)

  -- a row that was queued, or none of the n rows
  abbrev pub Covered : List ℕ → ℕ → Type 0
  Covered q y = Seen q y ⊎ (n ≤ y)

  pub data Listed (q : List ℕ) (t y : ℕ) : Type 0 where
    at : (i : ℕ) → i < t → entry q i ≡ y → Listed q t y

  -- the marks and the queue tell of the same rows
  pub record Valid (s : Queue) : Type 0 where
    pub size : length s.cells ≡ 9244
    pub room : s.tail + opens (λ j. get_or s.cells j 0) n ≡ n
    pub listed : (y : ℕ) → Seen s.cells y → Listed s.cells s.tail y

  -- from one queue to a later one, whose new rows have P
  pub record Later (P : ℕ → Type 0) (s u : Queue) : Type 0 where
    pub valid : Valid u
    pub low : s.tail ≤ u.tail
    pub kept : (i : ℕ) → i < s.tail → entry u.cells i ≡ entry s.cells i
    pub seen : (y : ℕ) → Seen s.cells y → Seen u.cells y
    pub new : (i : ℕ) → s.tail ≤ i → i < u.tail → P (entry u.cells i)

  covered_on : (P : ℕ → Type 0) (s u : Queue) → Later P s u → (y : ℕ) → Covered s.cells y → Covered u.cells y
  covered_on P s u l y (inl h) = inl (l.seen y h)
  covered_on P s u l y (inr h) = inr h

  module _ (P : ℕ → Type 0) where
    later_same : (s : Queue) → Valid s → Later P s s
    later_same s v = record { valid = v; low = omega arith; kept = λ i h. refl; seen = λ y h. h; new = λ i h k. absurd (omega arith) }

    later_trans : (s u w : Queue) → Later P s u → Later P u w → Later P s w
    later_trans s u w a b =
        record {
          valid = b.valid;
          low = omega (arith, a.low, b.low);
          kept = λ i h. b.kept i (omega (arith, a.low)) ∙ a.kept i h;
          seen = λ y h. b.seen y (a.seen y h);
          new = λ i h k. by i h k (dec_lt i u.tail);
        }
      where
        by : (i : ℕ) → s.tail ≤ i → i < w.tail → Dec (i < u.tail) → P (entry w.cells i)
        by i h k (yes l) = subst P (sym (b.kept i l)) (a.new i h l)
        by i h k (no o) = b.new i (omega arith) k

    module _ (q : List ℕ) (t y : ℕ) (valid : Valid (queue q t)) (py : P y) where
      abbrev after : List ℕ
      after = set (set q y 1) (4622 + t) y

      abbrev Both : Queue → Type 0
      Both u = Later P (queue q t) u × Covered u.cells y

      module _ (hn : y < n) (hy : y < 4622) (e : get_or q y 0 ≡ 0) (ht : t < 4622) where
        low_cell : (j : ℕ) → j < 4622 → j ≢ y → get_or after j 0 ≡ get_or q j 0
        low_cell j h d = get_or-set_other (set q y 1) (4622 + t) j y 0 (λ u. omega arith) ∙ get_or-set_other q y j 1 0 d

        y_cell : get_or after y 0 ≡ 1
        y_cell = get_or-set_other (set q y 1) (4622 + t) y y 0 (λ u. omega arith) ∙ get_or-set_same q y 1 0 (omega (arith, valid.size))

        old_entry : (i : ℕ) → i < t → entry after i ≡ entry q i
        old_entry i h = get_or-set_other (set q y 1) (4622 + t) (4622 + i) y 0 (λ u. omega arith) ∙ get_or-set_other q y (4622 + i) 1 0 (λ u. omega arith)

        new_entry : entry after t ≡ y
        new_entry = get_or-set_same (set q y 1) (4622 + t) y 0 (omega (arith, length-set q y 1, valid.size))

        seen_after : (j : ℕ) → Seen q j → Seen after j
        unfolding Seen
        seen_after j h = (h.0, by (ℕ_discrete j y))
          where
            by : Dec (j ≡ y) → get_or after j 0 ≢ 0
            by (yes u) = absurd (h.1 (rw u e))
            by (no d) = rw (low_cell j (omega (arith, h.0)) d) h.1

        listed_after : (j : ℕ) → Seen after j → Listed after (t + 1) j
        unfolding Seen
        listed_after j h = by (ℕ_discrete j y)
          where
            on : Listed q t j → Listed after (t + 1) j
            on (at i l r) = at i (omega arith) (old_entry i l ∙ r)

            by : Dec (j ≡ y) → Listed after (t + 1) j
            by (yes u) = at t (omega arith) (new_entry ∙ sym u)
            by (no d) = on (valid.listed j (h.0, rw (low_cell j (omega (arith, h.0)) d) at h.1))

        push_both : Both (queue after (t + 1))
        unfolding Seen
        push_both = (
          record {
            valid = record { size = length-set (set q y 1) (4622 + t) y ∙ length-set q y 1 ∙ valid.size; room = omega (arith, valid.room, opens_less (λ j. get_or q j 0) (λ j. get_or after j 0) y n hn e (rw y_cell (λ u. omega arith)) (λ j l d. low_cell j (omega arith) d)); listed = listed_after };
            low = omega arith;
            kept = old_entry;
            seen = seen_after;
            new = λ i h k. (let u : i ≡ t = omega arith in rw (u, new_entry) py);
          },
          inl (hn, rw y_cell (λ u. omega arith)),
        )

      pub push_later : Both (push_f n (queue q t) y)
      unfolding Seen
      push_later = by (dec_lt y n) (ℕ_discrete (get_or q y 0) 0) (dec_lt t 4622)
        where
          by : Dec (y < n) → Dec (get_or q y 0 ≡ 0) → Dec (t < 4622) → Both (push_f n (queue q t) y)
          by (no h) e k = let l : n ≤ y = omega arith in rw (← (push_none n q t y l)) (later_same (queue q t) valid, inr l)
          by (yes h) (yes e) (yes k) = let l : y < 4622 = omega arith in rw (← (push_new n q t y h l e k)) (push_both h l e k)
          by (yes h) (yes e) (no k) = absurd (omega (arith, valid.room, opens_less (λ j. get_or q j 0) (λ j. get_or (set q y 1) j 0) y n h e (rw (get_or-set_same q y 1 0 (omega (arith, valid.size))) (λ u. omega arith)) (λ j l d. get_or-set_other q y j 1 0 d)))
          by (yes h) (no d) k = let l : y < 4622 = omega arith in rw (← (push_seen n q t y h l d)) (later_same (queue q t) valid, inl (h, d))

    pub all_later : (s : Queue) (ys : List ℕ) → Valid s → All P ys → Later P s (push_all n s ys) × All (Covered (push_all n s ys).cells) ys
    unfolding push_all
    all_later s [] v p = (later_same s v, tt)
    all_later s (y ∷ ys) v p =
        let a = push_later s.cells s.tail y v p.0 in
        let b = all_later (push_f n s y) ys a.0.valid p.1 in
        (later_trans s (push_f n s y) (push_all n (push_f n s y) ys) a.0 b.0, (covered_on P (push_f n s y) (push_all n (push_f n s y) ys) b.0 y a.1, b.1))

-- the tail never passes the queue's room
pub push_le : (n : ℕ) (s : Queue) (y : ℕ) → s.tail ≤ 4622 → (push_f n s y).tail ≤ 4622
unfolding push_f
push_le n s y h = by (leb n y) (leb 4622 y) (eqb (get_or s.cells y 0) 0) (leb 4622 s.tail) refl
  where
    by : (z a b c : Bool) → leb 4622 s.tail ≡ c → (pick z s (pick a s (pick b (pick c s (queue (set (set s.cells y 1) (4622 + s.tail) y) (s.tail + 1))) s))).tail ≤ 4622
    by true a b c e = h
    by false true b c e = h
    by false false true true e = h
    by false false true false e = omega (arith, leb-false 4622 s.tail e)
    by false false false c e = h

pub all_le : (n : ℕ) (s : Queue) (ys : List ℕ) → s.tail ≤ 4622 → (push_all n s ys).tail ≤ 4622
unfolding push_all
all_le n s [] h = h
all_le n s (y ∷ ys) h = all_le n (push_f n s y) ys (push_le n s y h)

pub visited_le : (m : List ℕ) (c : Counts) (v : VarId) (x : TypeId) (s w : Queue) → Visited m c v x s w false → s.tail ≤ 4622 → w.tail ≤ 4622
visited_le m c v x s w h l = omega (arith, ap (λ (s : Queue). s.tail) h.1, all_le c.types s (next_in m c x.0) l)

-- the empty queue
abbrev pub blank : List ℕ
blank = replicate 9244 0

pub first_le : (n : ℕ) (s : Queue) (z : ℕ) → s ≡ push_f n (queue blank 0) z → s.tail ≤ 4622
first_le n s z e = omega (arith, ap (λ (s : Queue). s.tail) e, push_le n (queue blank 0) z (omega arith))

-- ── the search in the rows ──

module _ (m : List ℕ) (c : Counts) (held : Held m c) (v : ℕ) where
  abbrev Seen·c : List ℕ → ℕ → Type 0
  Seen·c = Covered c.types held.types

  empty_valid : Valid c.types held.types (queue blank 0)
  unfolding Seen
  empty_valid =
      record {
        size = length-replicate {A = ℕ} 9244 0;
        room = omega (arith, held.types, opens_all (λ j. get_or blank j 0) c.types (λ j h. get_or-replicate {A = ℕ} 9244 j 0 0 (omega (arith, held.types))));
        listed = λ y h. absurd (h.1 (get_or-replicate {A = ℕ} 9244 y 0 0 (omega (arith, held.types, h.0))));
      }

  -- what leads from y to v leads from z to v, in k steps more
  abbrev Deep : ℕ → ℕ → ℕ → Type 0
  Deep z k y = (n : ℕ) → leads_in m c v n y ≡ true → leads_in m c v (n + k) z ≡ true

  -- the search began at z, and the first `head` rows of the queue were visited
  pub record Work (z : ℕ) (q : List ℕ) (tail head : ℕ) : Type 0 where
    pub valid : Valid c.types held.types (queue q tail)
    pub start : Seen·c q z
    pub deep : (i : ℕ) → i < tail → Deep z i (entry q i)
    pub done : (i : ℕ) → i < head → (as_var (row (rows_in m c) (entry q i)) ≢ some v) × All (Seen·c q) (next_in m c (entry q i))

  pub work_start : (q : List ℕ) (t z : ℕ) → queue q t ≡ push_f c.types (queue blank 0) z → Work z q t 0
  work_start q t z e =
      let a = push_later c.types held.types (Deep z 0) blank 0 z empty_valid (λ n h. let i : n + 0 ≡ n = omega arith in rw i h) in
      let b = rw (← e) at a in
      record { valid = b.0.valid; start = b.1; deep = λ i l. λ n h. mono_le m c v (n + 0) (n + i) z (omega arith) (b.0.new i (omega arith) l n h); done = λ i l. absurd (omega arith) }

  -- each row that x leads to
  deep_next : (z k x : ℕ) → Deep z k x → (l : List ℕ) → ((n : ℕ) → any (leads_in m c v n) l ≡ true → leads_in m c v (suc n) x ≡ true) → All (Deep z (suc k)) l
  deep_next z k x d [] f = tt
  deep_next z k x d (y ∷ ys) f = (
    λ n h. (let i : n + suc k ≡ suc n + k = omega arith in rw i (d (suc n) (f n (rw h)))),
    deep_next z k x d ys (λ n h. f n (or_right (leads_in m c v n y) (any (leads_in m c v n) ys) h)),
  )

  any_step : (n x : ℕ) → any (leads_in m c v n) (next_in m c x) ≡ true → leads_in m c v (suc n) x ≡ true
  any_step n x h = step_eq m c v n x ∙ or_right (is_same v (as_var (row (rows_in m c) x))) (any (leads_in m c v n) (next_in m c x)) h

  pub work_more : (z : ℕ) (q q' : List ℕ) (tail k head : ℕ) → Work z q tail head → head < tail → as_var (row (rows_in m c) (entry q head)) ≢ some v → queue q' k ≡ push_all c.types (queue q tail) (next_in m c (entry q head)) → Work z q' k (head + 1)
  work_more z q q' tail k head w h d e =
      let x : ℕ = entry q head in
      let a = all_later c.types held.types (Deep z (suc head)) (queue q tail) (next_in m c x) w.valid (deep_next z head x (w.deep head h) (next_in m c x) (λ n. any_step n x)) in
      let b = rw (← e) at a in
      record {
        valid = b.0.valid;
        start = covered_on c.types held.types (Deep z (suc head)) (queue q tail) (queue q' k) b.0 z w.start;
        deep = λ i l. deep i l b (dec_lt i tail);
        done = λ i l. done i l b (ℕ_discrete i head);
      }
    where
      deep : (i : ℕ) → i < k → Later c.types held.types (Deep z (suc head)) (queue q tail) (queue q' k) × All (Seen·c q') (next_in m c (entry q head)) → Dec (i < tail) → Deep z i (entry q' i)
      deep i l b (yes o) = λ n r. w.deep i o n (rw (b.0.kept i o) at r)
      deep i l b (no o) = λ n r. mono_le m c v (n + suc head) (n + i) z (omega arith) (b.0.new i (omega arith) l n r)

      done : (i : ℕ) → i < head + 1 → Later c.types held.types (Deep z (suc head)) (queue q tail) (queue q' k) × All (Seen·c q') (next_in m c (entry q head)) → Dec (i ≡ head) → (as_var (row (rows_in m c) (entry q' i)) ≢ some v) × All (Seen·c q') (next_in m c (entry q' i))
      done i l b (yes o) = rw (o, b.0.kept head h) (d, b.1)
      done i l b (no o) = let g = w.done i (omega arith) in rw (b.0.kept i (omega arith)) (g.0, all_map (Seen·c q) (Seen·c q') (next_in m c (entry q i)) (λ y s. covered_on c.types held.types (Deep z (suc head)) (queue q tail) (queue q' k) b.0 y s) g.1)

  all_false : (f : ℕ → Bool) (l : List ℕ) → All (λ (y : ℕ). f y ≡ false) l → any f l ≡ false
  all_false f [] h = refl
  all_false f (y ∷ ys) h = rw h.0 (all_false f ys h.1)

  -- nothing in a set of rows that is closed and holds no row of v leads to v
  closed : (S : ℕ → Type 0) → ((y : ℕ) → S y → (as_var (row (rows_in m c) y) ≢ some v) × All S (next_in m c y)) → (n x : ℕ) → S x → leads_in m c v n x ≡ false
  closed S f zero x s = zero_eq m c v x
  closed S f (suc n) x s =
      let g = f x s in
      step_eq m c v n x ∙ rw (none_same m c v (as_var (row (rows_in m c) x)) g.0) (all_false (leads_in m c v n) (next_in m c x) (all_map S (λ (y : ℕ). leads_in m c v n y ≡ false) (next_in m c x) (λ y t. closed S f n y t) g.1))

  pub work_end : (z : ℕ) (q : List ℕ) (tail head : ℕ) → Work z q tail head → tail ≤ head → (n : ℕ) → leads_in m c v n z ≡ false
  work_end z q tail head w h n = closed (Seen·c q) at_row n z w.start
    where
      past_row : (y : ℕ) → c.types ≤ y → row (rows_in m c) y ≡ base nil
      past_row y k = get_or-eq_default (rows_in m c) (base nil) (rw (length-rows m c.types) k)

      at_entry : (y : ℕ) → Listed c.types held.types q tail y → (as_var (row (rows_in m c) y) ≢ some v) × All (Seen·c q) (next_in m c y)
      at_entry y (at i l e) = rw (← e) (w.done i (omega arith))

      at_row : (y : ℕ) → Seen·c q y → (as_var (row (rows_in m c) y) ≢ some v) × All (Seen·c q) (next_in m c y)
      at_row y (inl s) = at_entry y (w.valid.listed y s)
      at_row y (inr k) = rw (past_row y k) (λ e. (let f : ◌≡◌ {A = ℕ} 0 1 = cc in omega arith), tt)

  pub work_hit : (z : ℕ) (q : List ℕ) (tail head : ℕ) → Work z q tail head → head < tail → as_var (row (rows_in m c) (entry q head)) ≡ some v → leads_in m c v (suc c.types) z ≡ true
  work_hit z q tail head w h e = mono_le m c v (1 + head) (suc c.types) z (omega (arith, w.valid.room)) (w.deep head h 1 (is-v m c v 0 (entry q head) e))

-- what holds in the loop of the search, whichever row z the queue b began with
abbrev pub Working : List ℕ → Counts → ℕ → Queue → Queue → ℕ → Type 0
Working m c v b s head = (held : Held m c) (z : ℕ) → b ≡ push_f c.types (queue blank 0) z → Work m c held v z s.cells s.tail head

module _ (m : List ℕ) (c : Counts) (v : VarId) (b : Queue) where
  pub reach_start : Working m c v.0 b b 0
  reach_start held z e = work_start m c held v.0 b.cells b.tail z e

  module _ (s : Queue) (head : ℕ) (k : Working m c v.0 b s head) where
    pub reach_more : (x : ℕ) (w : Queue) → head < s.tail → x ≡ entry s.cells head → Visited m c v (type x) s w false → Working m c v.0 b w (head + 1)
    reach_more x w h p a held z e = let g = rw p at a in work_more m c held v.0 z s.cells w.cells s.tail w.tail head (k held z e) h g.0 g.1

    pub reach_hit : (z : TypeId) (x : ℕ) (w : Queue) → b ≡ push_f c.types (queue blank 0) z.0 → head < s.tail → x ≡ entry s.cells head → Visited m c v (type x) s w true → Reached m c v z true
    reach_hit z x w e h p a held = let g = rw p at a in work_hit m c held v.0 z.0 s.cells s.tail head (k held z.0 e) h g

    pub reach_end : (z : TypeId) → b ≡ push_f c.types (queue blank 0) z.0 → s.tail ≤ head → Reached m c v z false
    reach_end z e h held = work_end m c held v.0 z.0 s.cells s.tail head (k held z.0 e) h

-- ── along one by one, the loop ──

-- from z the search has come to x, and n steps are left
abbrev pub Walking : List ℕ → Counts → ℕ → ℕ → ℕ → ℕ → Type 0
Walking m c v z x n = leads_in m c v (suc (c.types + c.types)) z ≡ leads_in m c v (suc (c.types + n)) x

module _ (m : List ℕ) (c : Counts) (v : VarId) (z : TypeId) where
  all_steps : far (rows_in m c) (binds_in m c) v.0 ≡ suc (c.types + c.types)
  all_steps = rw (length-rows m c.types)

  stands_by : (r : Bool) → r ≡ leads_in m c v.0 (suc (c.types + c.types)) z.0 → Stands m c v z r
  stands_by r e held = rw all_steps e

  module _ (x : TypeId) (n : ℕ) (k : Walking m c v.0 z.0 x.0 n) where
    pub stands_at : (r : Lead) → Led m c v x r → r ≡ At → Stands m c v z true
    stands_at r a b = let g = rw b at a in stands_by true (sym (k ∙ g (c.types + n)))

    pub stands_none : (r : Lead) → Led m c v x r → r ≡ End → Stands m c v z false
    stands_none r a b = let g = rw b at a in stands_by false (sym (k ∙ g (suc (c.types + n))))

    pub stands_on : (r : Lead) (y : TypeId) (d : ℕ) → n ≡ suc d → Led m c v x r → r ≡ To y → Walking m c v.0 z.0 y.0 d
    stands_on r y d h a b =
        let g = rw b at a in
        let i : c.types + n ≡ suc (c.types + d) = omega arith in
        k ∙ g (c.types + n) ∙ ap (λ (j : ℕ). leads_in m c v.0 j y.0) i

    by_reach : (r : Bool) → ReachedK m c v x r → r ≡ leads_in m c v.0 (suc (c.types + n)) x.0
    by_reach true a = sym (mono_le m c v.0 (suc c.types) (suc (c.types + n)) x.0 (omega arith) a)
    by_reach false a = sym (a (suc (c.types + n)))

    pub stands_parts : (r : Bool) → Reached m c v x r → Stands m c v z r
    stands_parts r a held = stands_by r (by_reach r (a held) ∙ sym k) held

-- ── along the bindings ──

-- from z the bindings have led to x, and n steps are left
abbrev pub Seeking : List ℕ → Counts → ℕ → ℕ → ℕ → ℕ → Type 0
Seeking m c v z x n = seek_in m c v z ≡ seek (rows_in m c) (binds_in m c) v n x

module _ (m : List ℕ) (c : Counts) (v : VarId) (z : TypeId) where
  pub seek_start : (n : ℕ) → n ≡ c.types + 1 → Seeking m c v.0 z.0 z.0 n
  unfolding seek_in
  seek_start n h = let i : suc c.types ≡ n = omega arith in rw (length-rows m c.types, i)

  module _ (x : TypeId) (n : ℕ) (k : Seeking m c v.0 z.0 x.0 n) where
    pub seek_lost : n ≡ 0 → Sought m c v z Lost
    unfolding seek
    seek_lost h held = sym (k ∙ rw h)

    seek_step : (j : ℕ) → n ≡ suc j → seek (rows_in m c) (binds_in m c) v.0 n x.0 ≡ seek_var (rows_in m c) (binds_in m c) v.0 (seek (rows_in m c) (binds_in m c) v.0 j) x.0 (as_var (row (rows_in m c) x.0))
    unfolding seek
    seek_step j h = rw h

    module _ (j : ℕ) (l : n ≡ suc j) (h : ℕ) (p : h ≡ head_at m c.types x.0) where
      module _ (u : ℕ) (e : h ≡ 12) (q : u ≡ number_at m c.types x.0) (r : Lead) (a : LedVar m c v (variable u) r) where
        at_var_lem : seek_in m c v.0 z.0 ≡ cond (eqb u v.0) ring (follow (rows_in m c) (binds_in m c) v.0 (seek (rows_in m c) (binds_in m c) v.0 j) (bound (binds_in m c) u))
        at_var_lem = k ∙ seek_step j l ∙ rw (as_u m c x h p v u e q)

        pub seek_ring : r ≡ At → Sought m c v z Ring
        seek_ring b held = let g : u ≡ v.0 = rw b at a in sym (at_var_lem ∙ rw (eq-eqb u v.0 g))

        pub seek_free : (r ≡ End) ⊎ (r ≡ Parts) → Sought m c v z Free
        seek_free (inl b) held = let g = rw b at a in sym (at_var_lem ∙ rw (ne_eqb u v.0 g.0, g.1))
        seek_free (inr b) held = absurd (rw b at a)

        pub seek_on : (y : TypeId) → r ≡ To y → Seeking m c v.0 z.0 y.0 j
        seek_on y b = let g = rw b at a in at_var_lem ∙ rw (ne_eqb u v.0 g.0, g.1)

      module _ (d : h ≢ 12) (s : Bool) (a : Stands m c v x s) where
        at_other : Held m c → seek_in m c v.0 z.0 ≡ cond s inside free
        at_other held = k ∙ seek_step j l ∙ rw (no_var_row m c.types x.0 (rw p at d), ← (a held))

        pub seek_inside : s ≡ true → Sought m c v z Inside
        seek_inside b held = sym (at_other held ∙ rw b)

        pub seek_outside : s ≡ false → Sought m c v z Free
        seek_outside b held = sym (at_other held ∙ rw b)

-- One step: what each return of settle, chase, heed, meet, exchange, roles, variable and step shows.
use Rattle.std.specs.Prelude.{None, Option, Some}
use mathlib.Core.Path.{◌≡◌, refl, sym, ap, subst, ◌∙◌}
use mathlib.Core.Logic.{◌≢◌, ◌⊎◌, inl, inr}
use mathlib.Core.List.{List, [], ◌∷◌}
use mathlib.Core.Option.{none, some}
use mathlib.Core.Bool.{Bool, true, false, not, ◌&&◌, ◌||◌, cond, true≢false, false≢true}
use Prim.Native.Nat.{ℕ}
use native.Mathlib.Omega.{arith}
use lib.Dec.{eqb}
use Rattle.theory.specs.Rules.{same, compare, left, right, down, swap, differ, success, Mem, regular, is_regular, row, kids, as_var, kind, bound, fits, kind_fits, marked, pass_to, pass, exchanged, roles, choose, compared, split, at_var, act, move, perform, each, heed, chase, settle}
use Rattle.type_table.specs.declared.Counts.{Counts}
use Rattle.type_table.specs.declared.TypeId.{TypeId}
use Rattle.type_table.specs.declared.VarId.{VarId}
use Rattle.type_table.specs.declared.Kind.{Kind}
use Rattle.type_table.specs.declared.Kind.TheVariants.{Regular, Integer, Float}
use Rattle.type_table.specs.Memory.{pick, head_at, number_at, mark_at, binds_of, marks_of, mem_of, Held}
use borrow.Author.Tests.{eqb-true as test-true, eqb-false as test-false}
use Rattle.type_table.specs.Made.{marking, binding}
use Rattle.type_table.specs.View.{type, variable, kind_in, bound_in}
use Rattle.unify.specs.declared.Decision.{Decision}
use Rattle.unify.specs.declared.Decision.TheVariants.{Same, Compare, Left, Right, Down, Swap, Differ}
use Rattle.unify.specs.declared.Reply.{Reply}
use Rattle.unify.specs.declared.Reply.TheVariants.{Success, Mismatch, Refused12, Refused13, Dry}
use Rattle.unify.specs.declared.Next.{Next}
use Rattle.unify.specs.declared.Next.TheVariants.{Done, On, Into}
use Rattle.search.specs.declared.Found.{Found}
use Rattle.search.specs.declared.Found.TheVariants.{Free, Ring, Inside, Lost}
use Rattle.unify.specs.Leaf.{kind_k, step_k, Classed, Signed, SameVar, Compared}
use Rattle.search.specs.Search.{seek_in, Sought, parts}
use Rattle.unify.specs.Step.{Rec, resume, Parted, Enterable, Settled, Chased, Heeded, unsigned_in, passed_in, Met, HasRoles, Exchanges, Varied, down_to, Stepped}
use Rattle.type_table.specs.Tables.{mark_at_lem}
use Rattle.theory.specs.Basics.{and_both, eqb-true, last_success}
use Rattle.theory.specs.Choice.{regular_fits, unfit_exchanged, number_kept, none_kept}
use Rattle.theory.proofs.Choice.{fits_kept}
use Rattle.type_table.specs.Heads.{head_row, var_row_lem}
use Rattle.search.specs.Bridge.{bound_open, bound_some, no_var_row, kids_row}
use Rattle.unify.specs.Frames.{frame_same, frame_trans, held_on, rows_same, kinds_same, marking_frame, marking_mem, binding_frame, binding_mem}
use Rattle.unify.proofs.Laws.{kind_in_lem, row_var}
use Rattle.unify.specs.Promise.{Frame, kinds_in, mem_in, row_in, rows_in}

-- ── an open variable ──

module _ (m : List ℕ) (c : Counts) (v : VarId) (z : TypeId) (f : Found) (a : Sought m c v z f) where
  pub settle_free : (w : List ℕ) → f ≡ Free → w ≡ binding m c.vars v.0 z.0 → Settled m c v z w Success
  settle_free w e p held = rw p (binding_frame m c held v.0 z.0, rw (← (a held), e, binding_mem m c held v.0 z.0))

  pub settle_ring : f ≡ Ring → Settled m c v z m Success
  settle_ring e held = (frame_same m c, rw (← (a held), e))

  pub settle_inside : f ≡ Inside → Settled m c v z m Refused12
  settle_inside e held = (frame_same m c, rw (← (a held), e))

  pub settle_lost : f ≡ Lost → Settled m c v z m Dry
  settle_lost e held = (frame_same m c, rw (← (a held), e))

-- ── its binding ──

module _ (m : List ℕ) (c : Counts) (v : VarId) (b : Option TypeId) (p : b ≡ bound_in m c v) where
  pub chase_open : (z : TypeId) (w : List ℕ) (r : Reply) → b ≡ None → Settled m c v z w r → Chased m c v z w (Done r)
  unfolding mem_of seek_in
  chase_open z w r e s held = record { frame = (s held).0; left_over = λ rec. rw (bound_open m c v b p e) (s held).1; enterable = tt }

  pub chase_bound : (z x : TypeId) → b ≡ Some x → Chased m c v z m (On x z)
  unfolding mem_of
  chase_bound z x e held = record { frame = frame_same m c; left_over = λ rec. rw (bound_some m c v b p x e); enterable = tt }

-- ── its mark ──

module _ (m : List ℕ) (c : Counts) (v : VarId) (z : TypeId) where
  marked_is : mark_at m c.vars v.0 ≡ marked (mem_in m c) v.0
  unfolding mem_of
  marked_is = sym (mark_at_lem m c.vars v.0)

  -- an unmarked variable passes nothing on
  pass_none : mark_at m c.vars v.0 ≡ false → pass (mem_in m c) v.0 (row_in m c z) ≡ mem_in m c
  unfolding pass
  pass_none e = rw (← marked_is, e)

  -- nothing is passed on to what is no variable
  pass_other : as_var (row_in m c z) ≡ none → pass (mem_in m c) v.0 (row_in m c z) ≡ mem_in m c
  unfolding pass
  pass_other e = rw e (by (marked (mem_in m c) v.0))
    where
      by : (t : Bool) → ◌≡◌ {A = Mem} (record { binds = (mem_in m c).binds; marks = pass_to t none (mem_in m c).marks }) (mem_in m c)
      by true = refl
      by false = refl

  pass_on : Held m c → (u : ℕ) → mark_at m c.vars v.0 ≡ true → as_var (row_in m c z) ≡ some u → mem_in (marking m c.vars u) c ≡ pass (mem_in m c) v.0 (row_in m c z)
  unfolding pass mem_of
  pass_on held u e f = marking_mem m c held u ∙ sym (rw (← marked_is, e, f) keep)
    where
      keep : ◌≡◌ {A = Mem} (record { binds = (mem_in m c).binds; marks = Rattle.theory.specs.Rules.pass_to true (some u) (mem_in m c).marks }) (record { binds = binds_of m c.vars; marks = lib.ListN.set (marks_of m c.vars) u true })
      keep = refl

  module _ (s : Bool) (ps : Signed m c z s) where
    not_signed : s ≡ false → Heeded m c v z m (Done Refused13)
    not_signed e held k = record { frame = frame_same m c; left_over = λ rec. rw (← ps, e); enterable = tt }

    heed_refused : s ≡ false → Heeded m c v z m (Done Refused13)
    heed_refused e = not_signed e

    heed_other : (h : ℕ) (w : List ℕ) (r : Next) → s ≡ true → h ≡ head_at m c.types z.0 → h ≢ 12 → Chased m c v z w r → Heeded m c v z w r
    heed_other h w r e p d a held k =
        let g = a held in
        record { frame = g.frame; left_over = λ rec. rw (← ps, e, pass_other (no_var_row m c.types z.0 (rw p at d))) (g.left_over rec); enterable = g.enterable }

    heed_var : (h u : ℕ) (m₁ w : List ℕ) (r : Next) → s ≡ true → h ≡ head_at m c.types z.0 → h ≡ 12 → u ≡ number_at m c.types z.0 → m₁ ≡ marking m c.vars u → Chased m₁ c v z w r → Heeded m c v z w r
    unfolding pass
    heed_var h u m₁ w r e p d q f a held k =
        let as_u : as_var (row_in m c z) ≡ some u = ap as_var (var_row_lem m c.types z.0 (sym p ∙ d)) ∙ ap some (sym q) in
        let fr : Frame m c m₁ = rw f (marking_frame m c held u) in
        let g = a (held_on m c m₁ fr held) in
        let mem : mem_in m₁ c ≡ pass (mem_in m c) v.0 (row_in m c z) = rw f (pass_on held u k as_u) in
        let rs : rows_in m₁ c ≡ rows_in m c = rows_same m c m₁ fr held c.types in
        let ks : kinds_in m₁ c ≡ kinds_in m c = kinds_same m c m₁ fr held c.vars in
        record {
          frame = frame_trans m c m₁ w fr g.frame;
          left_over = λ rec. rw (← ps, e) (by rec mem rs ks (g.left_over rec));
          enterable = g.enterable;
        }
      where
        by : (rec : Rec) → mem_in m₁ c ≡ pass (mem_in m c) v.0 (row_in m c z) → rows_in m₁ c ≡ rows_in m c → kinds_in m₁ c ≡ kinds_in m c
            → chase (rows_in m₁ c) (kinds_in m₁ c) rec (mem_in m₁ c) v.0 z.0 (bound (mem_in m₁ c).binds v.0) ≡ resume (rows_in m₁ c) (kinds_in m₁ c) rec (mem_in w c) r
            → chase (rows_in m c) (kinds_in m c) rec (pass (mem_in m c) v.0 (row_in m c z)) v.0 z.0 (bound (mem_in m c).binds v.0) ≡ resume (rows_in m c) (kinds_in m c) rec (mem_in w c) r
        by rec mem rs ks h = same_binds (rw (mem, rs, ks) at h)
          where
            same_binds : chase (rows_in m c) (kinds_in m c) rec (pass (mem_in m c) v.0 (row_in m c z)) v.0 z.0 (bound (pass (mem_in m c) v.0 (row_in m c z)).binds v.0) ≡ resume (rows_in m c) (kinds_in m c) rec (mem_in w c) r
                → chase (rows_in m c) (kinds_in m c) rec (pass (mem_in m c) v.0 (row_in m c z)) v.0 z.0 (bound (mem_in m c).binds v.0) ≡ resume (rows_in m c) (kinds_in m c) rec (mem_in w c) r
            same_binds h = h

  -- ── a variable against a row of its kind ──

  module _ (s : Bool) (ps : SameVar m c v z s) where
    pub meet_same : s ≡ true → Met m c v z m (Done Success)
    meet_same e held = record { frame = frame_same m c; left_over = λ rec. rw (← ps, e); enterable = tt }

    module _ (ns : s ≡ false) (k : Bool) (pk : k ≡ mark_at m c.vars v.0) where
      meet_marked : (w : List ℕ) (r : Next) → k ≡ true → Heeded m c v z w r → Met m c v z w r
      meet_marked w r e a held =
          let g = a held (sym pk ∙ e) in
          record { frame = g.frame; left_over = λ rec. rw (← ps, ns, ← marked_is, ← pk, e) (g.left_over rec); enterable = g.enterable }

      meet_unmarked : (w : List ℕ) (r : Next) → k ≡ false → Chased m c v z w r → Met m c v z w r
      meet_unmarked w r e a held =
          let g = a held in
          record { frame = g.frame; left_over = λ rec. rw (← ps, ns, ← marked_is, ← pk, e, pass_none (sym pk ∙ e)) (g.left_over rec); enterable = g.enterable }

  module _ (s : Bool) (ps : SameVar m c v z s) (ns : s ≡ false) where
    -- a mark keeps it from meeting the row: 13
    pub meet_unsigned : (b : Bool) → b ≡ unsigned_in m c v z → b ≡ true → Met m c v z m (Done Refused13)
    unfolding unsigned_in
    meet_unsigned b p e = by (mark_at m c.vars v.0) refl _ refl (sym p ∙ e)
      where
        by : (k : Bool) → k ≡ mark_at m c.vars v.0 → (g : Bool) → Signed m c z g → k && not g ≡ true → Met m c v z m (Done Refused13)
        by true q false f h = meet_marked s ps ns true q m (Done Refused13) refl (heed_refused false f refl)
        by true q true f h = absurd (false≢true h)
        by false q g f h = absurd (false≢true h)

    -- its mark, if it has one, is passed on
    pub meet_on : (b : Bool) (m₁ w : List ℕ) (r : Next) → b ≡ unsigned_in m c v z → b ≡ false → m₁ ≡ passed_in m c v z → Chased m₁ c v z w r → Met m c v z w r
    unfolding unsigned_in passed_in
    meet_on b m₁ w r p e f a = by (mark_at m c.vars v.0) refl _ refl (eqb (head_at m c.types z.0) 12) refl (sym p ∙ e) f
      where
        by : (k : Bool) → k ≡ mark_at m c.vars v.0 → (g : Bool) → Signed m c z g → (t : Bool) → t ≡ eqb (head_at m c.types z.0) 12 → k && not g ≡ false
            → m₁ ≡ pick k (pick t (marking m c.vars (number_at m c.types z.0)) m) m → Met m c v z w r
        by true q false i t j h n = absurd (true≢false h)
        by true q true i true j h n =
            meet_marked s ps ns true q w r refl (heed_var true i (head_at m c.types z.0) (number_at m c.types z.0) m₁ w r refl refl (test-true _ 12 (sym j)) refl n a)
        by true q true i false j h n =
            meet_marked s ps ns true q w r refl (heed_other true i (head_at m c.types z.0) w r refl refl (test-false _ 12 (sym j)) (subst (λ (x : List ℕ). Chased x c v z w r) n a))
        by false q g i t j h n = meet_unmarked s ps ns false q w r refl (subst (λ (x : List ℕ). Chased x c v z w r) n a)

-- ── step 3 ──

-- the kind test of x's variable against the row z failed
module _ (m : List ℕ) (c : Counts) (x z : TypeId) (h : ℕ) (p : h ≡ head_at m c.types z.0) where
  pub exchange_none : h ≢ 12 → Exchanges m c x z None
  unfolding act at_var
  exchange_none d v e f rec =
      let o : exchanged (kinds_in m c) (as_var (row_in m c x)) (as_var (row_in m c z)) ≡ false = rw (no_var_row m c.types z.0 (rw p at d)) (none_kept (kinds_in m c) (as_var (row_in m c x))) in
      rw (o, e, f)

  module _ (u : ℕ) (e : h ≡ 12) (q : u ≡ number_at m c.types z.0) (k : Kind) (pk : k ≡ kind_in m c (variable u)) where
    as_var_z : as_var (row_in m c z) ≡ some u
    as_var_z = ap as_var (row_var m c z h p u e q)

    -- z is the variable of the step
    pub exchange_regular : k ≡ Regular → Exchanges m c x z (Some ((variable u), x))
    unfolding act at_var
    exchange_regular r v a f rec =
        let i : kind (kinds_in m c) u ≡ regular = sym (kind_in_lem m c u k pk) ∙ ap kind_k r in
        let g : kind_fits (kind (kinds_in m c) v) regular ≡ false = rw (row_var m c z h p u e q, i) at f in
        let o : exchanged (kinds_in m c) (as_var (row_in m c x)) (as_var (row_in m c z)) ≡ true = rw (a, as_var_z, i) (unfit_exchanged (kind (kinds_in m c) v) g) in
        rw (o, as_var_z, i, regular_fits (kinds_in m c) (row_in m c x))

    -- two number variables that do not fit
    pub exchange_number : (l : Kind) → k ≡ l → is_regular (kind_k l) ≡ false → Exchanges m c x z None
    unfolding act at_var
    exchange_number l r n v a f rec =
        let i : is_regular (kind (kinds_in m c) u) ≡ false = rw (← (kind_in_lem m c u k pk), r) n in
        let o : exchanged (kinds_in m c) (as_var (row_in m c x)) (as_var (row_in m c z)) ≡ false = rw (a, as_var_z) (number_kept (kind (kinds_in m c) v) (kind (kinds_in m c) u) i) in
        rw (o, a, f)

    pub exchange_numbers : (k ≡ Integer) ⊎ (k ≡ Float) → Exchanges m c x z None
    exchange_numbers (inl e) = exchange_number Integer e refl
    exchange_numbers (inr e) = exchange_number Float e refl

module _ (m : List ℕ) (c : Counts) (x z : TypeId) (h : ℕ) (p : h ≡ head_at m c.types x.0) where
  pub roles_none : h ≢ 12 → HasRoles m c x z None
  unfolding act at_var
  roles_none d rec =
      let n = no_var_row m c.types x.0 (rw p at d) in
      let o : exchanged (kinds_in m c) (as_var (row_in m c x)) (as_var (row_in m c z)) ≡ false = rw n in
      rw (o, n)

  module _ (u : ℕ) (e : h ≡ 12) (q : u ≡ number_at m c.types x.0) (k l : Kind) (pk : k ≡ kind_in m c (variable u)) (pl : Classed m c z l) (t : Bool) (pt : t ≡ kind_fits (kind_k k) (kind_k l)) where
    as_u : as_var (row_in m c x) ≡ some u
    as_u = ap as_var (row_var m c x h p u e q)

    test : fits (kinds_in m c) (kind (kinds_in m c) u) (row_in m c z) ≡ t
    test = rw (← (kind_in_lem m c u k pk)) (pl (kind_k k)) ∙ sym pt

    pub roles_fit : t ≡ true → HasRoles m c x z (Some ((variable u), z))
    unfolding act at_var
    roles_fit f rec =
        let o : exchanged (kinds_in m c) (as_var (row_in m c x)) (as_var (row_in m c z)) ≡ false = rw as_u (fits_kept (kinds_in m c) u (row_in m c z) (test ∙ f)) in
        rw (o, as_u, test, f)

    pub roles_unfit : t ≡ false → (r : Option (VarId × TypeId)) → Exchanges m c x z r → HasRoles m c x z r
    roles_unfit f r a = a u as_u (test ∙ f)

-- the meeting takes its course
pub variable_meets : (m : List ℕ) (c : Counts) (x z : TypeId) (r : Option (VarId × TypeId)) (v : VarId) (y : TypeId) (w : List ℕ) (n : Next) → HasRoles m c x z r → r ≡ Some (v, y) → Met m c v y w n → Varied m c x z w n
variable_meets m c x z r v y w n a e b held =
    let g = b held in
    let a' : HasRoles m c x z (Some (v, y)) = rw e at a in
    record { frame = g.frame; left_over = λ rec. a' rec ∙ g.left_over rec; enterable = g.enterable }

-- the kind test failed
pub variable_unfit : (m : List ℕ) (c : Counts) (x z : TypeId) (r : Option (VarId × TypeId)) → HasRoles m c x z r → r ≡ None → Varied m c x z m (Done Mismatch)
variable_unfit m c x z r a e held = let a' : HasRoles m c x z None = rw e at a in record { frame = frame_same m c; left_over = λ rec. a' rec; enterable = tt }

-- ── steps 1 to 5 ──

-- where the choice is parts against parts
choose_inward : (e g : ℕ) → choose e g ≡ down → ((eqb e 8 && eqb g 8) ≡ true) ⊎ ((e ≡ 6) × (g ≡ 13))
unfolding choose
choose_inward e g h = by (compared e && eqb e g) (eqb g 11) (eqb e 8 && eqb g 8) (eqb e 12) (eqb g 12) (eqb e 6 && eqb g 13) (eqb e 13 && eqb g 6) (eqb e 10 || eqb g 10) refl refl h
  where
    two : (eqb e 6 && eqb g 13) ≡ true → (e ≡ 6) × (g ≡ 13)
    two q = let r = and_both (eqb e 6) (eqb g 13) q in (eqb-true e 6 r.0, eqb-true g 13 r.1)

    by : (a b d l r p s t : Bool) → (eqb e 8 && eqb g 8) ≡ d → (eqb e 6 && eqb g 13) ≡ p → cond a compare (cond b same (cond d down (cond l left (cond r right (cond p down (cond s swap (cond t same differ))))))) ≡ down → ((eqb e 8 && eqb g 8) ≡ true) ⊎ ((e ≡ 6) × (g ≡ 13))
    by true b d l r p s t i j k = absurd (let y : ◌≡◌ {A = ℕ} 0 1 = cc in omega arith)
    by false true d l r p s t i j k = absurd (let y : ◌≡◌ {A = ℕ} 0 1 = cc in omega arith)
    by false false true l r p s t i j k = inl i
    by false false false true r p s t i j k = absurd (let y : ◌≡◌ {A = ℕ} 0 1 = cc in omega arith)
    by false false false false true p s t i j k = absurd (let y : ◌≡◌ {A = ℕ} 0 1 = cc in omega arith)
    by false false false false false true s t i j k = inr (two j)
    by false false false false false false true t i j k = absurd (let y : ◌≡◌ {A = ℕ} 0 1 = cc in omega arith)
    by false false false false false false false true i j k = absurd (let y : ◌≡◌ {A = ℕ} 0 1 = cc in omega arith)
    by false false false false false false false false i j k = absurd (let y : ◌≡◌ {A = ℕ} 0 1 = cc in omega arith)

choose_swapped : (e g : ℕ) → choose e g ≡ swap → (e ≡ 13) × (g ≡ 6)
unfolding choose
choose_swapped e g h = by (compared e && eqb e g) (eqb g 11) (eqb e 8 && eqb g 8) (eqb e 12) (eqb g 12) (eqb e 6 && eqb g 13) (eqb e 13 && eqb g 6) (eqb e 10 || eqb g 10) refl h
  where
    two : (eqb e 13 && eqb g 6) ≡ true → (e ≡ 13) × (g ≡ 6)
    two q = let r = and_both (eqb e 13) (eqb g 6) q in (eqb-true e 13 r.0, eqb-true g 6 r.1)

    by : (a b d l r p s t : Bool) → (eqb e 13 && eqb g 6) ≡ s → cond a compare (cond b same (cond d down (cond l left (cond r right (cond p down (cond s swap (cond t same differ))))))) ≡ swap → (e ≡ 13) × (g ≡ 6)
    by true b d l r p s t j k = absurd (let y : ◌≡◌ {A = ℕ} 0 1 = cc in omega arith)
    by false true d l r p s t j k = absurd (let y : ◌≡◌ {A = ℕ} 0 1 = cc in omega arith)
    by false false true l r p s t j k = absurd (let y : ◌≡◌ {A = ℕ} 0 1 = cc in omega arith)
    by false false false true r p s t j k = absurd (let y : ◌≡◌ {A = ℕ} 0 1 = cc in omega arith)
    by false false false false true p s t j k = absurd (let y : ◌≡◌ {A = ℕ} 0 1 = cc in omega arith)
    by false false false false false true s t j k = absurd (let y : ◌≡◌ {A = ℕ} 0 1 = cc in omega arith)
    by false false false false false false true t j k = two j
    by false false false false false false false true j k = absurd (let y : ◌≡◌ {A = ℕ} 0 1 = cc in omega arith)
    by false false false false false false false false j k = absurd (let y : ◌≡◌ {A = ℕ} 0 1 = cc in omega arith)

-- the variable of the got side: the expected side is none
choose_righted : (e g : ℕ) → choose e g ≡ right → eqb e 12 ≡ false
unfolding choose
choose_righted e g h = by (compared e && eqb e g) (eqb g 11) (eqb e 8 && eqb g 8) (eqb e 12) refl h
  where
    by : (a b d l : Bool) → eqb e 12 ≡ l → cond a compare (cond b same (cond d down (cond l left (cond (eqb g 12) right (cond (eqb e 6 && eqb g 13) down (cond (eqb e 13 && eqb g 6) swap (cond (eqb e 10 || eqb g 10) same differ))))))) ≡ right → eqb e 12 ≡ false
    by true b d l i j = absurd (let y : ◌≡◌ {A = ℕ} 0 1 = cc in omega arith)
    by false true d l i j = absurd (let y : ◌≡◌ {A = ℕ} 0 1 = cc in omega arith)
    by false false true l i j = absurd (let y : ◌≡◌ {A = ℕ} 0 1 = cc in omega arith)
    by false false false true i j = absurd (let y : ◌≡◌ {A = ℕ} 0 1 = cc in omega arith)
    by false false false false i j = i

-- a function's or a lambda's row is made of its output and inputs
parted : (m : List ℕ) (c : Counts) (x : TypeId) → (head_at m c.types x.0 ≡ 6) ⊎ (head_at m c.types x.0 ≡ 13) → Parted m c x
unfolding parts
parted m c x (inl e) = kids_row m c x ∙ rw e
parted m c x (inr e) = kids_row m c x ∙ rw e

-- an array's row is made of its element
array_kids : (m : List ℕ) (c : Counts) (x : TypeId) → head_at m c.types x.0 ≡ 8 → kids (row_in m c x) ≡ number_at m c.types x.0 ∷ []
unfolding parts
array_kids m c x e = kids_row m c x ∙ rw e

module _ (m : List ℕ) (c : Counts) (x y : TypeId) (h k : ℕ) (ph : h ≡ head_at m c.types x.0) (pk : k ≡ head_at m c.types y.0) (d : Decision) (pd : step_k d ≡ choose h k) where
  -- whether the roles of the two rows are exchanged
  abbrev exchange : Bool
  exchange = exchanged (kinds_in m c) (as_var (row_in m c x)) (as_var (row_in m c y))

  moves : move (rows_in m c) (kinds_in m c) x.0 y.0 ≡ act x.0 y.0 (row_in m c x) (row_in m c y) (roles exchange (step_k d))
  moves = rw (head_row m c.types x.0, head_row m c.types y.0, ← ph, ← pk, ← pd)

  -- where the memory stays, and the rules do what r leaves
  stay : (r : Next) → Enterable m c r → ((rec : Rec) → perform (rows_in m c) (kinds_in m c) rec (mem_in m c) (act x.0 y.0 (row_in m c x) (row_in m c y) (roles exchange (step_k d))) ≡ resume (rows_in m c) (kinds_in m c) rec (mem_in m c) r) → Stepped m c x y m r
  stay r n f held = record { frame = frame_same m c; left_over = λ rec. rw moves (f rec); enterable = n }

  pub step_same : d ≡ Same → Stepped m c x y m (Done Success)
  unfolding act
  step_same e = stay (Done Success) tt (λ rec. rw e)

  pub step_compare : (a : Reply) → d ≡ Compare → Compared m c x y a → Stepped m c x y m (Done a)
  unfolding act
  step_compare a e f = stay (Done a) tt (λ rec. rw (e, ← f))

  pub step_differ : d ≡ Differ → Stepped m c x y m (Done Mismatch)
  unfolding act
  step_differ e = stay (Done Mismatch) tt (λ rec. rw e)

  pub step_left : (w : List ℕ) (r : Next) → d ≡ Left → Varied m c x y w r → Stepped m c x y w r
  unfolding act
  step_left w r e a held = let g = a held in record { frame = g.frame; left_over = λ rec. rw (moves, e) (g.left_over rec); enterable = g.enterable }

  pub step_right : (w : List ℕ) (r : Next) → d ≡ Right → Varied m c y x w r → Stepped m c x y w r
  unfolding act
  step_right w r e a held =
      let g = a held in
      let o = no_var_row m c.types x.0 (rw ph at (test-false h 12 (choose_righted h k (rw e at (sym pd))))) in
      record { frame = g.frame; left_over = λ rec. rw (moves, e) (rw (o, none_kept (kinds_in m c) (as_var (row_in m c y))) at (g.left_over rec)); enterable = g.enterable }

  pub step_swap : d ≡ Swap → Stepped m c x y m (Into y x)
  unfolding act
  step_swap e =
      let g = choose_swapped h k (rw e at (sym pd)) in
      stay (Into y x) (parted m c y (inl (sym pk ∙ g.1)), parted m c x (inr (sym ph ∙ g.0))) (λ rec. rw e)

  down_arrays : d ≡ Down → (eqb h 8 && eqb k 8) ≡ true → Stepped m c x y m (On (type (number_at m c.types x.0)) (type (number_at m c.types y.0)))
  unfolding act split
  down_arrays e b =
      let g = and_both (eqb h 8) (eqb k 8) b in
      let kx = array_kids m c x (sym ph ∙ eqb-true h 8 g.0) in
      let ky = array_kids m c y (sym pk ∙ eqb-true k 8 g.1) in
      stay (On (type (number_at m c.types x.0)) (type (number_at m c.types y.0))) tt (λ rec. rw (e, kx, ky) (last_success (rec (mem_in m c) (number_at m c.types x.0) (number_at m c.types y.0))))

  down_parts : d ≡ Down → (eqb h 8 && eqb k 8) ≡ false → Stepped m c x y m (Into x y)
  unfolding act
  down_parts e b = by (choose_inward h k (rw e at (sym pd)))
    where
      by : ((eqb h 8 && eqb k 8) ≡ true) ⊎ ((h ≡ 6) × (k ≡ 13)) → Stepped m c x y m (Into x y)
      by (inl q) = absurd (let f : ◌≡◌ {A = Bool} true false = sym q ∙ b in let y : ◌≡◌ {A = ℕ} 0 1 = cc in omega arith)
      by (inr q) = stay (Into x y) (parted m c x (inl (sym ph ∙ q.0)), parted m c y (inr (sym pk ∙ q.1))) (λ rec. rw e)

  pub step_down : (r : Next) → d ≡ Down → r ≡ down_to m c x y → Stepped m c x y m r
  unfolding down_to
  step_down r e f = by (eqb h 8 && eqb k 8) refl
    where
      by : (b : Bool) → (eqb h 8 && eqb k 8) ≡ b → Stepped m c x y m r
      by true q = rw (f, ← ph, ← pk, q) (down_arrays e q)
      by false q = rw (f, ← ph, ← pk, q) (down_parts e q)

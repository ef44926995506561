-- Unification: what each return and turn of each, into, uni and unify shows.
use mathlib.Core.Path.{◌≡◌, refl, sym, ap, ◌∙◌}
use mathlib.Core.Logic.{◌≢◌}
use mathlib.Core.List.{List, ◌∷◌}
use mathlib.Core.Bool.{Bool, true, false, cond, not}
use denote.Enum.Bare.{sameb}
use Rattle.unify.specs.contracts.Reply.{the_type}
use Prim.Native.Nat.{ℕ, suc, zero, ◌+◌, ◌-◌, ◌≤◌, ◌<◌}
use native.Mathlib.Omega.{arith}
use lib.ListN.{length, take}
use lib.Dec.{eqb, ltb}
use borrow.Author.Tests.{eq-eqb, ne_eqb, lt-ltb, le-ltb}
use native.Mathlib.Decide.{dec_lt}
use Rattle.theory.specs.Rules.{success, mismatch, numbers_of, Mem, Res, row, kids, split, zip, go, perform, each, and_then, move, unify}
use Rattle.type_table.specs.declared.Counts.{Counts}
use Rattle.type_table.specs.declared.TypeId.{TypeId}
use Rattle.type_table.specs.declared.InputRange.{InputRange}
use Rattle.type_table.specs.Memory.{pick, counts, cell, inputs_at, output_at, first_at, count_at, inputs_from, Held}
use Rattle.theory.specs.Program.{clip, solve}
use Rattle.unify.specs.declared.Answer.{Answer}
use Rattle.type_table.specs.Tables.{length_inputs}
use Rattle.unify.specs.declared.Reply.{Reply}
use Rattle.unify.specs.declared.Reply.TheVariants.{Success, Mismatch, Refused12, Refused13, Dry}
use Rattle.unify.specs.declared.Next.{Next}
use Rattle.unify.specs.declared.Next.TheVariants.{Done, On, Into}
use Rattle.unify.specs.Leaf.{out_k}
use Rattle.unify.specs.Step.{Rec, resume, Parted, Stepped}
use Rattle.unify.specs.Unify.{Ran, by, Unified, Entered, Eached, answer_of}
use Rattle.unify.specs.Frames.{frame_same, frame_trans, held_on, rows_same, kinds_same, inputs_same}
use Rattle.unify.specs.Steps.{steps, fuel_is}
use Rattle.unify.specs.Promise.{Frame, Solved, answer_is, held_in, kinds_in, mem_in, numbers, rows_in, solve_in}

-- what the code's test of an answer shows
pub is_met : (a : Reply) → false ≡ not (sameb the_type a Success) → a ≡ Success
is_met Success h = refl
is_met Mismatch h = absurd (let y : ◌≡◌ {A = Bool} true false = sym h in cc)
is_met Refused12 h = absurd (let y : ◌≡◌ {A = Bool} true false = sym h in cc)
is_met Refused13 h = absurd (let y : ◌≡◌ {A = Bool} true false = sym h in cc)
is_met Dry h = absurd (let y : ◌≡◌ {A = Bool} true false = sym h in cc)

pub is_other : (a : Reply) → true ≡ not (sameb the_type a Success) → a ≢ Success
is_other a h e = let y : ◌≡◌ {A = Bool} true false = rw e at h in cc

-- a success goes on
goes_on : (a : Reply) (m : Mem) (f : Mem → Res) → a ≡ Success → and_then (out_k a, m) f ≡ f m
goes_on a m f e = rw e

-- anything else stops
stops : (a : Reply) (m : Mem) (f : Mem → Res) → a ≢ Success → and_then (out_k a, m) f ≡ (out_k a, m)
stops Success m f d = absurd (d refl)
stops Mismatch m f d = refl
stops Refused12 m f d = refl
stops Refused13 m f d = refl
stops Dry m f d = refl

-- how the rows are unified stays the same within a frame
by_same : (m : List ℕ) (c : Counts) (w : List ℕ) → Frame m c w → Held m c → (n : ℕ) → by w c n ≡ by m c n
by_same m c w f held n = rw (rows_same m c w f held c.types, kinds_same m c w f held c.vars)

-- ── the inputs in order ──

-- of the run of pairs, those from f and g on are left, k of them
abbrev pub EachLoop : List ℕ → Counts → ℕ → ℕ → ℕ → ℕ → List ℕ → ℕ → ℕ → ℕ → Type 0
EachLoop m₀ c first second count n m f g k =
    Held m₀ c → Frame m₀ c m × (each (rows_in m₀ c) (kinds_in m₀ c) (by m₀ c n) (zip (inputs_from m₀ first count) (inputs_from m₀ second count)) success (mem_in m₀ c)
    ≡ each (rows_in m₀ c) (kinds_in m₀ c) (by m₀ c n) (zip (inputs_from m₀ f k) (inputs_from m₀ g k)) success (mem_in m c))

module _ (m₀ : List ℕ) (c : Counts) (first second count n : ℕ) where
  pub each_start : (f g k : ℕ) → f ≡ first → g ≡ second → k ≡ count → EachLoop m₀ c first second count n m₀ f g k
  each_start f g k p q r held = (frame_same m₀ c, rw (p, q, r))

  module _ (m : List ℕ) (f g k : ℕ) (l : EachLoop m₀ c first second count n m f g k) where
    pub each_end : k ≡ 0 → Eached m₀ c first second count n m Success
    unfolding inputs_from
    each_end h held = ((l held).0, (l held).1 ∙ rw h)

    module _ (f' g' j : ℕ) (ef : f' ≡ suc f) (eg : g' ≡ suc g) (h : k ≡ suc j) (x y : TypeId) (px : x.0 ≡ cell m (inputs_at + f)) (py : y.0 ≡ cell m (inputs_at + g)) (w : List ℕ) (a : Reply) (u : Unified m c x y n w a) where
      -- the first pair's answer, and then the others
      first_pair : (held : Held m₀ c) → Frame m₀ c w × (each (rows_in m₀ c) (kinds_in m₀ c) (by m₀ c n) (zip (inputs_from m₀ f k) (inputs_from m₀ g k)) success (mem_in m c)
          ≡ and_then (out_k a, mem_in w c) (λ t. each (rows_in m₀ c) (kinds_in m₀ c) (by m₀ c n) (zip (inputs_from m₀ f' j) (inputs_from m₀ g' j)) success t))
      unfolding inputs_from
      first_pair held =
          let fr : Frame m₀ c m = (l held).0 in
          let r = u (held_on m₀ c m fr held) in
          let s : by m c n ≡ by m₀ c n = by_same m₀ c m fr held n in
          let e : by m₀ c n (mem_in m c) x.0 y.0 ≡ (out_k a, mem_in w c) = ap (λ (q : Rec). q (mem_in m c) x.0 y.0) (sym s) ∙ r.1 in
          let ix : x.0 ≡ cell m₀ (inputs_at + f) = px ∙ fr_cell fr held f in
          let iy : y.0 ≡ cell m₀ (inputs_at + g) = py ∙ fr_cell fr held g in
          (frame_trans m₀ c m w fr r.0, rw (h, ef, eg, ← ix, ← iy, e))
        where
          fr_cell : Frame m₀ c m → Held m₀ c → (z : ℕ) → cell m (inputs_at + z) ≡ cell m₀ (inputs_at + z)
          fr_cell fr held z = fr.same (inputs_at + z) (λ v b p q r t. omega (arith, held.vars))

      pub each_more : a ≡ Success → EachLoop m₀ c first second count n w f' g' j
      each_more e held = let r = first_pair held in (r.0, (l held).1 ∙ r.1 ∙ goes_on a (mem_in w c) (λ t. each (rows_in m₀ c) (kinds_in m₀ c) (by m₀ c n) (zip (inputs_from m₀ f' j) (inputs_from m₀ g' j)) success t) e)

      pub each_stop : a ≢ Success → Eached m₀ c first second count n w a
      each_stop e held = let r = first_pair held in (r.0, (l held).1 ∙ r.1 ∙ stops a (mem_in w c) (λ t. each (rows_in m₀ c) (kinds_in m₀ c) (by m₀ c n) (zip (inputs_from m₀ f' j) (inputs_from m₀ g' j)) success t) e)

-- ── outputs, then lengths, then inputs ──

module _ (m : List ℕ) (c : Counts) (x y : TypeId) (n : ℕ) (o p : TypeId) (r s : InputRange) (po : o.0 ≡ output_at m c.types x.0) (pp : p.0 ≡ output_at m c.types y.0)
    (pr : (r.first ≡ first_at m c.types x.0) × (r.count ≡ count_at m c.types x.0)) (ps : (s.first ≡ first_at m c.types y.0) × (s.count ≡ count_at m c.types y.0))
    (w : List ℕ) (a : Reply) (u : Unified m c o p n w a) where
  abbrev ins : InputRange → List ℕ
  ins t = inputs_from m t.first t.count

  abbrev both : List ℕ → List ℕ → Res
  both xs ys = perform (rows_in m c) (kinds_in m c) (by m c n) (mem_in m c) (split xs ys)

  sides : Parted m c x × Parted m c y → both (kids (row (rows_in m c) x.0)) (kids (row (rows_in m c) y.0)) ≡ both (o.0 ∷ ins r) (p.0 ∷ ins s)
  sides q =
      let i : kids (row (rows_in m c) x.0) ≡ o.0 ∷ ins r = q.0 ∙ rw (← po, ← pr.0, ← pr.1) in
      let j : kids (row (rows_in m c) y.0) ≡ p.0 ∷ ins s = q.1 ∙ rw (← pp, ← ps.0, ← ps.1) in
      rw (i, j)

  abbrev rest : Bool → Mem → Res
  rest true t = each (rows_in m c) (kinds_in m c) (by m c n) (zip (ins r) (ins s)) success t
  rest false t = (mismatch, t)

  split_as : Held m c → both (o.0 ∷ ins r) (p.0 ∷ ins s) ≡ and_then (out_k a, mem_in w c) (λ t. rest (eqb (suc r.count) (suc s.count)) t)
  unfolding split
  split_as held = rw (length_inputs m r.first r.count, length_inputs m s.first s.count) (by0 (eqb (suc r.count) (suc s.count)))
    where
      by0 : (b : Bool) → perform (rows_in m c) (kinds_in m c) (by m c n) (mem_in m c) (cond b (go (zip (o.0 ∷ ins r) (p.0 ∷ ins s)) success) (go (take 1 (zip (o.0 ∷ ins r) (p.0 ∷ ins s))) mismatch)) ≡ and_then (out_k a, mem_in w c) (λ t. rest b t)
      by0 true = rw (u held).1
      by0 false = rw (u held).1

  pub into_stop : a ≢ Success → Entered m c x y n w a
  into_stop e held q = ((u held).0, sides q ∙ split_as held ∙ stops a (mem_in w c) (λ t. rest (eqb (suc r.count) (suc s.count)) t) e)

  pub into_lengths : a ≡ Success → r.count ≢ s.count → Entered m c x y n w Mismatch
  into_lengths e d held q =
      ((u held).0, sides q ∙ split_as held ∙ goes_on a (mem_in w c) (λ t. rest (eqb (suc r.count) (suc s.count)) t) e ∙ rw (ne_eqb (suc r.count) (suc s.count) (λ i. d (omega arith))))

  pub into_inputs : (w₂ : List ℕ) (b : Reply) → a ≡ Success → r.count ≡ s.count → Eached w c r.first s.first r.count n w₂ b → Entered m c x y n w₂ b
  into_inputs w₂ b e i t held q =
      let fr : Frame m c w = (u held).0 in
      let g = t (held_on m c w fr held) in
      let k : eqb (suc r.count) (suc s.count) ≡ true = eq-eqb (suc r.count) (suc s.count) (ap suc i) in (
        frame_trans m c w w₂ fr g.0,
        sides q ∙ split_as held ∙ goes_on a (mem_in w c) (λ t. rest (eqb (suc r.count) (suc s.count)) t) e ∙ rw k (then fr held i g.1),
      )
    where
      then : Frame m c w → Held m c → r.count ≡ s.count → each (rows_in w c) (kinds_in w c) (by w c n) (zip (inputs_from w r.first r.count) (inputs_from w s.first r.count)) success (mem_in w c) ≡ (out_k b, mem_in w₂ c)
          → each (rows_in m c) (kinds_in m c) (by m c n) (zip (ins r) (ins s)) success (mem_in w c) ≡ (out_k b, mem_in w₂ c)
      then fr held i h = rw (← i) (rw (rows_same m c w fr held c.types, kinds_same m c w fr held c.vars, inputs_same m c w fr held r.first r.count, inputs_same m c w fr held s.first r.count) at h)

-- ── step by step ──

-- from a₀ against b₀ the rules have come to a against b, and k steps are left
abbrev pub Loop : List ℕ → Counts → TypeId → TypeId → ℕ → List ℕ → TypeId → TypeId → ℕ → Type 0
Loop m₀ c a₀ b₀ n m a b k = Held m₀ c → Frame m₀ c m × (by m₀ c n (mem_in m₀ c) a₀.0 b₀.0 ≡ by m₀ c k (mem_in m c) a.0 b.0)

module _ (m₀ : List ℕ) (c : Counts) (a₀ b₀ : TypeId) (n : ℕ) where
  pub loop-start : Loop m₀ c a₀ b₀ n m₀ a₀ b₀ n
  loop-start held = (frame_same m₀ c, refl)

  module _ (m : List ℕ) (a b : TypeId) (k : ℕ) (l : Loop m₀ c a₀ b₀ n m a b k) where
    pub loop_dry : k ≡ 0 → Unified m₀ c a₀ b₀ n m Dry
    unfolding unify
    loop_dry h held = ((l held).0, (l held).1 ∙ rw h)

    module _ (h : 0 < k) (w : List ℕ) (r : Next) (s : Stepped m c a b w r) where
      -- one step is done
      stepped : (held : Held m₀ c) → Frame m₀ c w × (by m₀ c n (mem_in m₀ c) a₀.0 b₀.0 ≡ resume (rows_in m₀ c) (kinds_in m₀ c) (by m₀ c (k - 1)) (mem_in w c) r)
      unfolding unify
      stepped held =
          let fr : Frame m₀ c m = (l held).0 in
          let g = s (held_on m₀ c m fr held) in
          (frame_trans m₀ c m w fr g.frame, (l held).1 ∙ unrolled k h ∙ (rw (rows_same m₀ c m fr held c.types, kinds_same m₀ c m fr held c.vars) at (g.left_over (by m₀ c (k - 1)))))
        where
          unrolled : (k : ℕ) → 0 < k → by m₀ c k (mem_in m c) a.0 b.0 ≡ perform (rows_in m₀ c) (kinds_in m₀ c) (by m₀ c (k - 1)) (mem_in m c) (move (rows_in m₀ c) (kinds_in m₀ c) a.0 b.0)
          unrolled zero h = absurd (omega arith)
          unrolled (suc k) h = let i : suc k - 1 ≡ k = omega arith in rw i

      pub loop-done : (q : Reply) → r ≡ Done q → Unified m₀ c a₀ b₀ n w q
      loop-done q e held = let g = stepped held in (g.0, g.1 ∙ rw e)

      pub loop_on : (d f : TypeId) → r ≡ On d f → Loop m₀ c a₀ b₀ n w d f (k - 1)
      loop_on d f e held = let g = stepped held in (g.0, g.1 ∙ rw e)

      pub loop_into : (d f : TypeId) (w₂ : List ℕ) (q : Reply) → r ≡ Into d f → Entered w c d f (k - 1) w₂ q → Unified m₀ c a₀ b₀ n w₂ q
      loop_into d f w₂ q e t held =
          let g = stepped held in
          let en = rw e at (s (held_on m₀ c m (l held).0 held)).enterable in
          let v = t (held_on m₀ c w g.0 held) en in
          (frame_trans m₀ c w w₂ g.0 v.0, g.1 ∙ rw e (rw (rows_same m₀ c w g.0 held c.types, kinds_same m₀ c w g.0 held c.vars) at v.1))

-- ── the public operation ──

-- the counts that are taken are held
pub held_is : (m : List ℕ) (c : Counts) → Held m (held_in m c)
unfolding held_in
held_is m c = by0 (dec_lt (length m) 47010) (dec_lt 4622 c.types) (dec_lt 1024 c.vars)
  where
    none_held : Held m (counts 0 0 0)
    none_held = record { room = omega arith; vars = omega arith; types = omega arith }

    by0 : Dec (length m < 47010) → Dec (4622 < c.types) → Dec (1024 < c.vars) → Held m (pick (ltb (length m) 47010) (counts 0 0 0) (pick (ltb 4622 c.types) (counts 0 0 0) (pick (ltb 1024 c.vars) (counts 0 0 0) c)))
    by0 (yes a) b d = rw (lt-ltb (length m) 47010 a) none_held
    by0 (no a) (yes b) d = let i : 47010 ≤ length m = omega arith in rw (le-ltb (length m) 47010 i, lt-ltb 4622 c.types b) none_held
    by0 (no a) (no b) (yes d) = let i : 47010 ≤ length m = omega arith in let j : c.types ≤ 4622 = omega arith in rw (le-ltb (length m) 47010 i, le-ltb 4622 c.types j, lt-ltb 1024 c.vars d) none_held
    by0 (no a) (no b) (no d) =
        let i : 47010 ≤ length m = omega arith in
        let j : c.types ≤ 4622 = omega arith in
        let k : c.vars ≤ 1024 = omega arith in
        rw (le-ltb (length m) 47010 i, le-ltb 4622 c.types j, le-ltb 1024 c.vars k) (record { room = omega arith; vars = omega arith; types = omega arith })

-- an answer by its result
answer_is_lem : (a : Reply) → answer_of a ≡ answer_is (out_k a)
answer_is_lem Success = refl
answer_is_lem Mismatch = refl
answer_is_lem Refused12 = refl
answer_is_lem Refused13 = refl
answer_is_lem Dry = refl

number_is : (a : Reply) → numbers (answer_of a) ≡ numbers_of (out_k a)
number_is Success = refl
number_is Mismatch = refl
number_is Refused12 = refl
number_is Refused13 = refl
number_is Dry = refl

module _ (m : List ℕ) (c d : Counts) (x y e g : TypeId) (pd : d ≡ held_in m c) (pe : e.0 ≡ clip d.types x.0) (pg : g.0 ≡ clip d.types y.0) where
  pub unify_solved : (w : List ℕ) (a : Reply) (r : Answer) → Unified m d e g (steps d) w a → r ≡ answer_of a → Solved m c x y w r
  unfolding solve_in solve
  unify_solved w a r u q = rw (← pd) (record { frame = run.0; answer = q ∙ answer_is_lem a ∙ ap (λ (z : Res). answer_is z.0) (sym told); number = ap numbers q ∙ number_is a ∙ ap (λ (z : Res). numbers_of z.0) (sym told); memory = ap (λ (z : Res). z.1) (sym told) })
    where
      run : Ran m d w a (by m d (steps d) (mem_in m d) e.0 g.0)
      run = u (rw pd (held_is m c))

      told : solve_in m d x.0 y.0 ≡ (out_k a, mem_in w d)
      told = rw (← pe, ← pg, fuel_is m d) run.1

-- One equation of any rows, whatever step its heads call for: no cycle is made, the steps are enough, and the tables keep their lengths.
-- Assumes sound bindings (`Good`), sides of the table, and as many steps as `Ready` says.
use Rattle.std.specs.Prelude.{◌≡◌, List, [], ◌∷◌, Bool, cond, not, ◌&&◌, length, set, take, eqb}
use Rattle.std.proofs.Math.Path.{refl}
use Rattle.std.proofs.Common.{sym, ◌∙◌, subst, arith}
use Rattle.std.proofs.Math.Logic.{inl, inr}
use Rattle.std.proofs.Math.Option.{Option, none, some}
use Rattle.std.proofs.Math.Bool.{true, false}
use Prim.Native.Nat.{ℕ, suc, zero, ◌+◌, ◌*◌, ◌<◌}
use Rattle.std.proofs.Math.Nat.{mul-le-mul_right}
use Rattle.std.proofs.Math.ListN.{length-set}
use Rattle.theory.specs.Rules.{Shape, Kind, Out, success, mismatch, refused12, refused13, dry, Mem, Pair, Res, Step, same, compare, left, right, down, swap, differ, go, kids, as_var, row, kind, fits, exchanged, roles, bound, alike, zip, split, at_var, act, succs, next, head, choose}
use Rattle.theory.specs.Rules.{Found, free, ring, inside, lost, seek, pass_to, pass, bind, is_same, settle, chase, heed, other, suits, each, perform, unify, onward, marked, signed}
use Rattle.theory.specs.Program.{fuel, solve}
use Rattle.theory.specs.Basics.{All, all_map, all_map2}
use Rattle.theory.specs.Graph.{Good, seek_sure, seek_free}
use Rattle.theory.proofs.Graph.{bind_good}
use Rattle.theory.specs.Meaning.{as_var_lem}
use Rattle.theory.specs.Keep.{opens, opens_le, Ended, Fewer, toll as toll·S, Ready as Ready·S, Kept as Kept·S, KeptBy as KeptBy·S, Waits as Waits·S, passed as passed·S, Below as Below·S}

opens_set : (b : List (Option ℕ)) (v z : ℕ) → v < length b → bound b v ≡ none → opens (set b v (some z)) < opens b
opens_set [] v z h e = absurd (omega arith)
opens_set (o ∷ b) zero z h e = rw e (omega arith)
opens_set (o ∷ b) (suc v) z h e = omega (arith, opens_set b v z (omega arith) e)

fewer_trans : (a b c : List (Option ℕ)) → Fewer a b → Fewer b c → Fewer a c
fewer_trans a b c (inl p) (inl q) = inl (q ∙ p)
fewer_trans a b c (inl p) (inr q) = inr (rw p at q)
fewer_trans a b c (inr p) (inl q) = inr (rw q p)
fewer_trans a b c (inr p) (inr q) = inr (omega arith)

pass_length : (c : Bool) (o : Option ℕ) (l : List Bool) → length (pass_to c o l) ≡ length l
pass_length false o l = refl
pass_length true none l = refl
pass_length true (some u) l = length-set l u true

zip_all : (P Q : ℕ → Type 0) (xs ys : List ℕ) → All P xs → All Q ys → All (λ (p : Pair). P p.0 × Q p.1) (zip xs ys)
zip_all P Q [] ys h k = tt
zip_all P Q (x ∷ xs) [] h k = tt
zip_all P Q (x ∷ xs) (y ∷ ys) h k = ((h.0, k.0), zip_all P Q xs ys h.1 k.1)

take_all : (P : Pair → Type 0) (n : ℕ) (l : List Pair) → All P l → All P (take n l)
take_all P zero l h = tt
take_all P (suc n) [] h = tt
take_all P (suc n) (p ∷ l) h = (h.0, take_all P n l h.1)

kids_next : (P : ℕ → Type 0) (b : List (Option ℕ)) (s : Shape) (o : Option ℕ) → as_var s ≡ o → All P (succs b s o) → All P (kids s)
kids_next P b s none e h = h
kids_next P b s (some v) e h = rw (as_var_lem s v e) tt

module _ (rows : List Shape) (kinds : List Kind) where
  -- as specs/Keep has it
  abbrev toll : ℕ
  toll = toll·S rows kinds

  -- as specs/Keep has it
  abbrev Ready : (n : ℕ) (b : List (Option ℕ)) (x y : ℕ) → Type 0
  Ready = Ready·S rows kinds

  -- as specs/Keep has it
  abbrev Kept : (m : Mem) (o : Out) (m' : Mem) → Type 0
  Kept = Kept·S rows kinds

  -- as specs/Keep has it
  abbrev KeptBy : Mem → Res → Type 0
  KeptBy = KeptBy·S rows kinds

  -- nothing changed
  kept_same : (m : Mem) (o : Out) → Good rows kinds m.binds → Ended o → Kept m o m
  kept_same m o g w = record { good = g; binds_length = refl; marks_length = refl; fewer = inl refl; ended = w }

  -- one step after another
  kept_trans : (a b c : Mem) (p q : Out) → Kept a p b → Kept b q c → Kept a q c
  kept_trans a b c p q h k = record { good = k.good; binds_length = k.binds_length ∙ h.binds_length; marks_length = k.marks_length ∙ h.marks_length; fewer = fewer_trans a.binds b.binds c.binds h.fewer k.fewer; ended = k.ended }

  pass_kept : (m : Mem) (v : ℕ) (s : Shape) → Good rows kinds m.binds → Kept m success (pass m v s)
  unfolding pass
  pass_kept m v s g = record { good = g; binds_length = refl; marks_length = pass_length (marked m v) (as_var s) m.marks; fewer = inl refl; ended = tt }

  module _ (n : ℕ) (rec : Mem → ℕ → ℕ → Res) (ih : (m : Mem) (x y : ℕ) → Ready n m.binds x y → KeptBy m (rec m x y)) where
    -- pairs of rows in order
    module _ (m : Mem) where
      -- as specs/Keep has it
      abbrev Waits : Pair → Type 0
      Waits = Waits·S rows kinds n rec ih m

      still_ready : (c : List (Option ℕ)) → Good rows kinds c → Fewer m.binds c → (p : Pair) → Waits p → Ready n c p.0 p.1
      still_ready c g (inl e) p r = subst (λ (d : List (Option ℕ)). Ready n d p.0 p.1) (sym e) r
      still_ready c g (inr h) p r = record { good = g; left_in = r.left_in; right_in = r.right_in; enough = omega (arith, mul-le-mul_right toll h, r.enough, g.top p.0, g.top p.1) }

      each_kept : (ps : List Pair) (o : Out) (m' : Mem) → Ended o → Kept m success m' → All Waits ps → KeptBy m (each rows kinds rec ps o m')
      each_kept [] o m' w k a = kept_trans m m' m' success o k (kept_same m' o k.good w)
      each_kept (p ∷ ps) o m' w k a = by (rec m' p.0 p.1).0 (rec m' p.0 p.1).1 (ih m' p.0 p.1 (still_ready m'.binds k.good k.fewer p a.0)) (λ m'' k''. each_kept ps o m'' w k'' a.1)
        where
          by : (q : Out) (c : Mem) → Kept m' q c → ((m'' : Mem) → Kept m success m'' → KeptBy m (each rows kinds rec ps o m'')) → KeptBy m (onward q c (λ m''. each rows kinds rec ps o m''))
          by success c j f = f c (kept_trans m m' c success success k j)
          by mismatch c j f = kept_trans m m' c success mismatch k j
          by refused12 c j f = kept_trans m m' c success refused12 k j
          by refused13 c j f = kept_trans m m' c success refused13 k j
          by dry c j f = absurd j.ended

    -- step 3, a variable against a row
    module _ (m : Mem) (good : Good rows kinds m.binds) (v z : ℕ) (hv : v < length m.binds) (hz : z < length rows) (on : (r : ℕ) → bound m.binds v ≡ some r → Ready n m.binds r z) where
      -- as specs/Keep has it
      abbrev passed : Mem
      passed = passed·S rows kinds n rec ih m good v z hv hz on

      settle-kept : fits kinds (kind kinds v) (row rows z) ≡ true → bound m.binds v ≡ none → (f : Found) → seek rows m.binds v (suc (length rows)) z ≡ f → KeptBy passed (settle passed v z f)
      unfolding pass bind
      settle-kept k e free q = record { good = bind_good rows kinds m.binds good v z hv (seek_free rows kinds m.binds good v (suc (length rows)) z q) hz k; binds_length = length-set m.binds v (some z); marks_length = refl; fewer = inr (opens_set m.binds v z hv e); ended = tt }
      settle-kept k e ring q = kept_same passed success good tt
      settle-kept k e inside q = kept_same passed refused12 good tt
      settle-kept k e lost q = absurd (rw q at (seek_sure rows kinds m.binds good v (suc (length rows)) z (omega (arith, good.top z))))

      chase_kept : fits kinds (kind kinds v) (row rows z) ≡ true → (o : Option ℕ) → bound m.binds v ≡ o → KeptBy passed (chase rows kinds rec passed v z o)
      unfolding pass
      chase_kept k (some r) e = ih passed r z (on r e)
      chase_kept k none e = settle-kept k e (seek rows m.binds v (suc (length rows)) z) refl

      heed_kept : fits kinds (kind kinds v) (row rows z) ≡ true → (c : Bool) → KeptBy m (heed rows kinds rec m v z c)
      heed_kept k true = kept_same m refused13 good tt
      heed_kept k false = let r = chase rows kinds rec passed v z (bound m.binds v) in kept_trans m passed r.1 success r.0 (pass_kept m v (row rows z) good) (chase_kept k (bound m.binds v) refl)

      other_kept : fits kinds (kind kinds v) (row rows z) ≡ true → (c : Bool) → KeptBy m (other rows kinds rec m v z c)
      other_kept k true = kept_same m success good tt
      other_kept k false = heed_kept k (marked m v && not (signed (row rows z)))

      suits_kept : (c : Bool) → fits kinds (kind kinds v) (row rows z) ≡ c → KeptBy m (suits rows kinds rec m v z c)
      suits_kept true e = other_kept e (is_same v (as_var (row rows z)))
      suits_kept false e = kept_same m mismatch good tt

    module _ (m : Mem) (x y : ℕ) (given : Ready (suc n) m.binds x y) where
      -- as specs/Keep has it
      abbrev Below : ℕ → ℕ → Type 0
      Below = Below·S rows kinds n rec ih m x y given

      next_below : (p : ℕ) → All (Below p) (next rows m.binds p)
      next_below p = all_map2 (λ (q : ℕ). given.good.rank q < given.good.rank p) (λ (q : ℕ). q < length rows) (Below p) (next rows m.binds p) (λ q i j. (i, j)) (given.good.falls p) (given.good.within p)

      -- a variable at one side, against the other
      var_kept : (a z : ℕ) → z < length rows → opens m.binds * toll + (given.good.rank a + given.good.rank z) < suc n → (o : Option ℕ) → as_var (row rows a) ≡ o → KeptBy m (perform rows kinds rec m (at_var o z))
      unfolding at_var
      var_kept a z hz le none e = kept_same m mismatch given.good tt
      var_kept a z hz le (some v) e = suits_kept m given.good v z (given.good.meant a v e) hz on (fits kinds (kind kinds v) (row rows z)) refl
        where
          on : (r : ℕ) → bound m.binds v ≡ some r → Ready n m.binds r z
          on r q = let f = next_below a in let g = rw (e, q) at f in record { good = given.good; left_in = g.0.1; right_in = hz; enough = omega (arith, g.0.0) }

      -- parts against parts
      split_kept : (a c : ℕ) → opens m.binds * toll + (given.good.rank a + given.good.rank c) < suc n → KeptBy m (perform rows kinds rec m (split (kids (row rows a)) (kids (row rows c))))
      unfolding split
      split_kept a c le = by (eqb (length (kids (row rows a))) (length (kids (row rows c))))
        where
          kids_below : (p : ℕ) → All (Below p) (kids (row rows p))
          kids_below p = kids_next (Below p) m.binds (row rows p) (as_var (row rows p)) refl (next_below p)

          pairs : All (Waits m) (zip (kids (row rows a)) (kids (row rows c)))
          pairs = all_map (λ (p : Pair). Below a p.0 × Below c p.1) (Waits m) (zip (kids (row rows a)) (kids (row rows c)))
              (λ p h. record { good = given.good; left_in = h.0.1; right_in = h.1.1; enough = omega (arith, h.0.0, h.1.0) })
              (zip_all (Below a) (Below c) (kids (row rows a)) (kids (row rows c)) (kids_below a) (kids_below c))

          by : (q : Bool) → KeptBy m (perform rows kinds rec m (cond q (go (zip (kids (row rows a)) (kids (row rows c))) success) (go (take 1 (zip (kids (row rows a)) (kids (row rows c)))) mismatch)))
          by true = each_kept m (zip (kids (row rows a)) (kids (row rows c))) success m tt (kept_same m success given.good tt) pairs
          by false = each_kept m (take 1 (zip (kids (row rows a)) (kids (row rows c)))) mismatch m tt (kept_same m success given.good tt) (take_all (Waits m) 1 (zip (kids (row rows a)) (kids (row rows c))) pairs)

      -- whatever the step
      step_kept : (p : Step) → KeptBy m (perform rows kinds rec m (act x y (row rows x) (row rows y) p))
      unfolding act
      step_kept same = kept_same m success given.good tt
      step_kept compare = by (alike (row rows x) (row rows y))
        where
          by : (c : Bool) → Kept m (cond c success mismatch) m
          by true = kept_same m success given.good tt
          by false = kept_same m mismatch given.good tt
      step_kept left = var_kept x y given.right_in given.enough (as_var (row rows x)) refl
      step_kept right = var_kept y x given.left_in (omega (arith, given.enough)) (as_var (row rows y)) refl
      step_kept down = split_kept x y given.enough
      step_kept swap = split_kept y x (omega (arith, given.enough))
      step_kept differ = kept_same m mismatch given.good tt

  -- whatever the rows: no cycle is made, the steps are enough, the tables keep their lengths
  pub kept : (n : ℕ) (m : Mem) (x y : ℕ) → Ready n m.binds x y → KeptBy m (unify rows kinds n m x y)
  unfolding unify
  kept zero m x y given = absurd (omega (arith, given.enough))
  kept (suc n) m x y given = step_kept n (unify rows kinds n) (λ m' x' y' r. kept n m' x' y' r) m x y given (roles (exchanged kinds (as_var (row rows x)) (as_var (row rows y))) (choose (head (row rows x)) (head (row rows y))))

  -- so with the steps that a program gives each equation
  pub solve_kept : (m : Mem) (e g : ℕ) → Good rows kinds m.binds → e < length rows → g < length rows → KeptBy m (solve rows kinds m e g)
  unfolding solve
  solve_kept m e g good he hg = kept (fuel rows m) m e g (record { good = good; left_in = he; right_in = hg; enough = omega (arith, mul-le-mul_right toll (opens_le m.binds), good.top e, good.top g) })

-- Rows as a graph: from a row to its parts, and from a variable's row to its binding. Where it has no cycle (`Good`), the search for a
-- variable ends, and binding a variable that the search did not find makes no cycle. Assumes nothing of the rows but `Good`.
use Rattle.std.specs.Prelude.{◌≡◌, List, [], ◌∷◌, Bool, ◌||◌, T, eqb, ltb}
use Rattle.std.proofs.Math.Path.{refl}
use Rattle.std.proofs.Common.{ap, sym, ◌∙◌, ltb→lt, lt→ltb}
use Rattle.std.proofs.Math.Option.{Option, none, some}
use Rattle.std.proofs.Math.Bool.{true, false, cond}
use Prim.Native.Nat.{ℕ, suc, zero, ◌+◌, ◌≤◌, ◌<◌}
use native.Mathlib.Omega.{arith}
use Rattle.std.proofs.Math.Decide.{ℕ_discrete}
use Rattle.std.proofs.Math.ListN.{length}
use Rattle.theory.specs.Rules.{Shape, Kind, kids, as_var, bound, iter, row, kind, fits, opt_list, succs, next, any, is_same, Found, free, ring, inside, lost, leads_at, leads, far, follow, seek_var, seek}
use Rattle.theory.specs.Basics.{All, all_map, clash, false_of, or_neither, eqb_same, ltb_yes}

-- each row is made of lower rows
abbrev pub Lower : List Shape → Type 0
Lower rows = (x : ℕ) → All (λ (y : ℕ). y < x) (kids (row rows x))

-- ── functions by steps over a graph ──

-- where the rank falls at each step, more steps than the rank change nothing
module _ {A : Type 0} (step : (ℕ → A) → ℕ → A) (succ : ℕ → List ℕ) (rank : ℕ → ℕ) (falls : (x : ℕ) → All (λ (y : ℕ). rank y < rank x) (succ x))
    (local : (f g : ℕ → A) (x : ℕ) → All (λ (y : ℕ). f y ≡ g y) (succ x) → step f x ≡ step g x) where
  -- nor does what is answered out of steps
  pub alike : (a b : A) (n k x : ℕ) → rank x < n → rank x < k → iter step a n x ≡ iter step b k x
  alike a b zero k x h l = absurd (omega arith)
  alike a b (suc n) zero x h l = absurd (omega arith)
  alike a b (suc n) (suc k) x h l =
      local (iter step a n) (iter step b k) x
      (all_map (λ (y : ℕ). rank y < rank x) (λ (y : ℕ). iter step a n y ≡ iter step b k y) (succ x) (λ y j. alike a b n k y (omega arith) (omega arith)) (falls x))

  -- one more step changes nothing
  pub fixed : (a : A) (n x : ℕ) → rank x < n → iter step a n x ≡ step (iter step a n) x
  fixed a n x h = alike a a n (suc n) x h (omega arith)

-- ── ranks ──

-- from any rank of k rows, one that is at most k: how many rows rank below
module _ (H : ℕ → ℕ) where
  -- 1 for true
  abbrev bit : Bool → ℕ
  bit true = 1
  bit false = 0

  -- how many of k rows rank below a
  unfoldable pub below : ℕ → ℕ → ℕ
  below zero a = 0
  below (suc k) a = bit (ltb (H k) a) + below k a

  bit_true : (a b : ℕ) → a < b → bit (ltb a b) ≡ 1
  bit_true a b h = ap bit (ltb_yes a b h)

  bit_false : (a : ℕ) → bit (ltb a a) ≡ 0
  bit_false a = ap bit (false_of (ltb a a) (λ t. omega (arith, ltb→lt a a t)))

  bit_mono : (a b c : ℕ) → b ≤ c → bit (ltb a b) ≤ bit (ltb a c)
  bit_mono a b c h = go (ltb a b) (ltb a c) (λ t. lt→ltb a c (omega (arith, ltb→lt a b t)))
    where
      go : (p q : Bool) → (T p → T q) → bit p ≤ bit q
      go true true f = omega arith
      go true false f = absurd (f tt)
      go false true f = omega arith
      go false false f = omega arith

  -- at most all of them
  pub below_le : (k a : ℕ) → below k a ≤ k
  unfolding below
  below_le zero a = omega arith
  below_le (suc k) a = go (ltb (H k) a) (below_le k a)
    where
      go : (c : Bool) → below k a ≤ k → bit c + below k a ≤ suc k
      go true h = omega arith
      go false h = omega arith

  below_mono : (k a b : ℕ) → a ≤ b → below k a ≤ below k b
  unfolding below
  below_mono zero a b h = omega arith
  below_mono (suc k) a b h = omega (arith, below_mono k a b h, bit_mono (H k) a b h)

  -- fewer rank below a row that ranks lower
  pub below_lt : (k d b : ℕ) → d < k → H d < b → below k (H d) < below k b
  unfolding below
  below_lt zero d b p h = omega arith
  below_lt (suc k) d b p h = go (ℕ_discrete d k) (λ q. below_lt k d b q h)
    where
      go : Dec (d ≡ k) → (d < k → below k (H d) < below k b) → bit (ltb (H k) (H d)) + below k (H d) < bit (ltb (H k) b) + below k b
      go (yes e) f = let e1 : bit (ltb (H k) (H d)) ≡ 0 = rw e (bit_false (H k)) in omega (arith, bit_true (H k) b (rw e at h), below_mono k (H d) b (omega arith))
      go (no n) f = omega (arith, f (omega arith), bit_mono (H k) (H d) b (omega arith))

-- ── sound bindings ──

-- the search found an end
abbrev pub Sure : Found → Type 0
Sure free = Unit {0}
Sure ring = Unit {0}
Sure inside = Unit {0}
Sure lost = ⊥

any_ext : (f g : ℕ → Bool) (l : List ℕ) → All (λ (y : ℕ). f y ≡ g y) l → any f l ≡ any g l
any_ext f g [] h = refl
any_ext f g (y ∷ ys) h = let t : any f ys ≡ any g ys = any_ext f g ys h.1 in rw (h.0, t)

any_false : (f : ℕ → Bool) (l : List ℕ) → any f l ≡ false → All (λ (y : ℕ). f y ≡ false) l
any_false f [] e = tt
any_false f (y ∷ ys) e = let h = or_neither (f y) (any f ys) e in (h.0, any_false f ys h.1)

module _ (rows : List Shape) (kinds : List Kind) where
  -- the bindings are sound: no cycle, all in range, each variable's kind is met
  pub record Good (b : List (Option ℕ)) : Type 0 where
    pub rank : ℕ → ℕ
    -- no cycle: the rank falls from a row to each row that it leads to
    pub falls : (x : ℕ) → All (λ (y : ℕ). rank y < rank x) (next rows b x)
    pub top : (x : ℕ) → rank x ≤ length rows
    pub within : (x : ℕ) → All (λ (y : ℕ). y < length rows) (next rows b x)
    pub meant : (x v : ℕ) → as_var (row rows x) ≡ some v → v < length b
    pub held : (v r : ℕ) → bound b v ≡ some r → r < length rows
    pub kept : (v r : ℕ) → bound b v ≡ some r → fits kinds (kind kinds v) (row rows r) ≡ true

  -- ── the search for a variable ──

  module _ (b : List (Option ℕ)) (good : Good b) (v : ℕ) where
    -- the row leads to v
    abbrev pub hit : ℕ → Bool
    hit x = leads rows b v (far rows b v) x

    -- one step asks of the rows that it leads to alone
    leads_local : (f g : ℕ → Bool) (x : ℕ) → All (λ (y : ℕ). f y ≡ g y) (next rows b x) → leads_at rows b v f x ≡ leads_at rows b v g x
    leads_local f g x h = ap (λ (c : Bool). is_same v (as_var (row rows x)) || c) (any_ext f g (next rows b x) h)

    -- a row leads to v exactly if it is v or one that it leads to does
    pub hit_fixed : (x : ℕ) → hit x ≡ leads_at rows b v hit x
    unfolding leads
    hit_fixed x = fixed (leads_at rows b v) (next rows b) good.rank good.falls leads_local false (far rows b v) x (omega (arith, good.top x))

    -- any two numbers of steps above the rank say the same
    pub leads_more : (n k x : ℕ) → good.rank x < n → good.rank x < k → leads rows b v n x ≡ leads rows b v k x
    unfolding leads
    leads_more = alike (leads_at rows b v) (next rows b) good.rank good.falls leads_local false false

    -- what does not lead to v leads to nothing that does
    pub hit_back : (x : ℕ) → hit x ≡ false → All (λ (y : ℕ). hit y ≡ false) (next rows b x)
    hit_back x e = any_false hit (next rows b x) (or_neither (is_same v (as_var (row rows x))) (any hit (next rows b x)) (sym (hit_fixed x) ∙ e)).1

    -- a row of v leads to v
    pub hit_self : (x : ℕ) → as_var (row rows x) ≡ some v → hit x ≡ true
    hit_self x e = rw (hit_fixed x, e, eqb_same v)

    -- the search always ends
    pub seek_sure : (n x : ℕ) → good.rank x < n → Sure (seek rows b v n x)
    unfolding seek
    seek_sure zero x h = absurd (omega arith)
    seek_sure (suc n) x h = by (as_var (row rows x)) (all_map (λ (y : ℕ). good.rank y < good.rank x) (λ (y : ℕ). Sure (seek rows b v n y)) (next rows b x) (λ y k. seek_sure n y (omega arith)) (good.falls x))
      where
        leaf : (c : Bool) → Sure (cond c inside free)
        leaf true = tt
        leaf false = tt

        on_var : (c : Bool) (o : Option ℕ) → All (λ (y : ℕ). Sure (seek rows b v n y)) (opt_list o) → Sure (cond c ring (follow rows b v (seek rows b v n) o))
        on_var true o k = tt
        on_var false none k = tt
        on_var false (some r) k = k.0

        by : (o : Option ℕ) → All (λ (y : ℕ). Sure (seek rows b v n y)) (succs b (row rows x) o) → Sure (seek_var rows b v (seek rows b v n) x o)
        by none k = leaf (hit x)
        by (some u) k = on_var (eqb u v) (bound b u) k

    -- what the search finds free does not lead to v
    pub seek_free : (n x : ℕ) → seek rows b v n x ≡ free → hit x ≡ false
    unfolding seek
    seek_free zero x e = clash (cc)
    seek_free (suc n) x e = by (λ r k. seek_free n r k) (as_var (row rows x)) refl e
      where
        leaf : (c : Bool) → cond c inside free ≡ free → c ≡ false
        leaf true k = clash (cc)
        leaf false k = refl

        on_var : ((r : ℕ) → seek rows b v n r ≡ free → hit r ≡ false) → (c : Bool) (o : Option ℕ) → cond c ring (follow rows b v (seek rows b v n) o) ≡ free → (c || any hit (opt_list o)) ≡ false
        on_var ih true o k = clash (cc)
        on_var ih false none k = refl
        on_var ih false (some r) k = rw (ih r k)

        by : ((r : ℕ) → seek rows b v n r ≡ free → hit r ≡ false) → (o : Option ℕ) → as_var (row rows x) ≡ o → seek_var rows b v (seek rows b v n) x o ≡ free → hit x ≡ false
        by ih none p k = leaf (hit x) k
        by ih (some u) p k = rw (hit_fixed x, p) (on_var ih (eqb u v) (bound b u) k)

  -- ── binding a variable that was not found ──

  module _ (b : List (Option ℕ)) (good : Good b) (v z : ℕ) (hv : v < length b) (clear : hit b good v z ≡ false) where
    -- the row leads to v
    abbrev pub found : ℕ → Bool
    found x = hit b good v x

    -- what leads to v is ranked above all else
    abbrev pub lifted : Bool → ℕ → ℕ
    lifted c k = cond c (k + suc (length rows)) k

    -- the rank after the binding
    abbrev pub rank' : ℕ → ℕ
    rank' x = lifted (found x) (good.rank x)

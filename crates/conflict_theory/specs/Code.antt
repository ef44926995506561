-- The scans of f) and the search of n) as the code does them: each equation is unified once on top of the bindings of those before it, and each subset is made of the one
-- before it. They give what Scan and Search say. Assumes the test of Scan (`good`, `bad`).
use Rattle.std.specs.Prelude.{◌≡◌, Bool, length}
use Rattle.std.proofs.Math.Path.{refl, ap}
use Rattle.std.proofs.Common.{sym, ◌∙◌, inl}
use mathlib.Core.List.{List, [], ◌∷◌, ◌++◌, map, append_assoc, append-nil}
use Rattle.std.proofs.Math.Option.{Option, none, some}
use Rattle.std.proofs.Math.Bool.{true, false}
use Prim.Native.Nat.{ℕ, suc, zero, ◌+◌, ◌-◌, ◌≤◌, ◌<◌}
use native.Mathlib.Omega.{arith}
use Rattle.theory.specs.Rules.{Shape, Kind, Out, success, mismatch, refused12, refused13, dry, Mem, Pair, Res, onward, and_then}
use Rattle.theory.specs.Program.{solve}
use Rattle.theory.specs.Basics.{All, clash}
use Rattle.theory.specs.Solve.{solves}
use Rattle.conflict_theory.specs.Sets.{In, Part, all_part, all_both, all_first, all_second, part_behind, part_later, part_first, part_on, in_right}
use Rattle.conflict_theory.specs.Deletion.{Solvable, Unsolvable}
use Rattle.conflict_theory.specs.Scan.{Cut, here, keep, back, scan, same_answer}
use Rattle.conflict_theory.specs.Subsets.{next}
use Rattle.conflict_theory.specs.Search.{Outcome, out, through, tested, onward_to}
use Rattle.conflict_theory.specs.Test.{is_success, blank, unified, ok}
use Rattle.conflict_theory.specs.Worked.{from}

-- ── definitions ──

-- the equation failed: at this number; else what comes of the others
abbrev pub fall_on : Bool → ℕ → Option ℕ → Option ℕ
fall_on true i o = o
fall_on false i o = some i

-- one more is kept, and the scan goes on behind it; if those kept have no common solution, it is done
abbrev pub keep_in : (List ℕ → ℕ → List ℕ) → List ℕ → Bool → Option ℕ → List ℕ
keep_in g kept false o = kept
keep_in g kept true none = kept
keep_in g kept true (some i) = g (kept ++ i ∷ []) (suc i)

module _ (rows : List Shape) (kinds : List Kind) (at : ℕ → Pair) where
  -- the equation of a number on top of these bindings
  abbrev pub added : Mem → ℕ → Res
  added m i = solve rows kinds m (at i).0 (at i).1

  -- adding the equations from lo + d - 1 down to lo: the first that fails
  unfoldable pub falls : Mem → ℕ → ℕ → Option ℕ
  falls m lo zero = none
  falls m lo (suc d) = let o = falls (added m (lo + d)).1 lo d in fall_on (is_success (added m (lo + d)).0) (lo + d) o

  -- scan by scan over the numbers from lo to n, at most f of them
  unfoldable pub scan_in : ℕ → ℕ → List ℕ → ℕ → List ℕ
  scan_in n zero kept lo = kept
  scan_in n (suc f) kept lo = let u = unified rows kinds at kept in let o = falls u.1 lo (n - lo) in keep_in (scan_in n f) kept (is_success u.0) o

-- the next subset, if there is one
abbrev pub on_next : (List ℕ → Outcome) → ℕ → Option (List ℕ) → Outcome
on_next g b none = through b
on_next g b (some d) = g d

module _ (ok : List ℕ → Bool) (n : ℕ) where
  -- from one subset to the next, with so many that may be tested
  unfoldable pub tries_in : ℕ → List ℕ → Outcome
  tries_in zero c = out
  tries_in (suc b) c = let r = on_next (tries_in b) b (next n c) in tested (ok c) c r

  -- k sizes from s on
  unfoldable pub search_in : ℕ → ℕ → ℕ → List ℕ → List ℕ × ℕ
  search_in s zero b f = (f, s)
  search_in s (suc k) b f = onward_to ok (λ c. search_in (suc s) k c f) s f (tries_in b (from 0 s))

-- ── proofs: the scans ──

map_both : {A B : Type 0} (f : A → B) (a b : List A) → map f (a ++ b) ≡ map f a ++ map f b
map_both f [] b = refl
map_both f (x ∷ a) b = ap (λ l. f x ∷ l) (map_both f a b)

onward_end : (o : Out) (m : Mem) → onward o m (λ m'. (success, m')) ≡ (o, m)
onward_end success m = refl
onward_end mismatch m = refl
onward_end refused12 m = refl
onward_end refused13 m = refl
onward_end dry m = refl

onward_on : (o : Out) (m : Mem) (f g : Mem → Res) → onward (onward o m f).0 (onward o m f).1 g ≡ onward o m (λ m'. onward (f m').0 (f m').1 g)
onward_on success m f g = refl
onward_on mismatch m f g = refl
onward_on refused12 m f g = refl
onward_on refused13 m f g = refl
onward_on dry m f g = refl

onward_same : (o : Out) (m : Mem) (f g : Mem → Res) → ((m' : Mem) → f m' ≡ g m') → onward o m f ≡ onward o m g
onward_same success m f g e = e m
onward_same mismatch m f g e = refl
onward_same refused12 m f g e = refl
onward_same refused13 m f g e = refl
onward_same dry m f g e = refl

-- what follows a success
pub onward_success : (o : Out) (m : Mem) (f : Mem → Res) → is_success o ≡ true → onward o m f ≡ f m
onward_success success m f e = refl
onward_success mismatch m f e = cc
onward_success refused12 m f e = cc
onward_success refused13 m f e = cc
onward_success dry m f e = cc

solves_last : (rows : List Shape) (kinds : List Kind) (ps : List Pair) (p : Pair) (m : Mem) → solves rows kinds (ps ++ p ∷ []) m ≡ and_then (solves rows kinds ps m) (λ m'. solve rows kinds m' p.0 p.1)
unfolding solves
solves_last rows kinds [] p m = onward_end (solve rows kinds m p.0 p.1).0 (solve rows kinds m p.0 p.1).1
solves_last rows kinds (q ∷ ps) p m =
    let r = solve rows kinds m q.0 q.1 in
    onward_same r.0 r.1 (λ m'. solves rows kinds (ps ++ p ∷ []) m') (λ m'. and_then (solves rows kinds ps m') (λ m''. solve rows kinds m'' p.0 p.1)) (λ m'. solves_last rows kinds ps p m')
    ∙ sym (onward_on r.0 r.1 (λ m'. solves rows kinds ps m') (λ m''. solve rows kinds m'' p.0 p.1))

module _ (rows : List Shape) (kinds : List Kind) (at : ℕ → Pair) where
  -- one more, on top of a set that passed the test
  pub unified_last : (l : List ℕ) (i : ℕ) → ok rows kinds at l ≡ true → unified rows kinds at (l ++ i ∷ []) ≡ added rows kinds at (unified rows kinds at l).1 i
  unfolding unified ok
  unified_last l i e =
      let u = solves rows kinds (map at l) (blank (length kinds)) in
      ap (λ ps. solves rows kinds ps (blank (length kinds))) (map_both at l (i ∷ []))
      ∙ solves_last rows kinds (map at l) (at i) (blank (length kinds))
      ∙ onward_success u.0 u.1 (λ m. added rows kinds at m i) e

  -- what has failed the test fails it with one more
  pub ok_stays : (l : List ℕ) (i : ℕ) → ok rows kinds at l ≡ false → ok rows kinds at (l ++ i ∷ []) ≡ false
  unfolding unified ok
  ok_stays l i e =
      let u = solves rows kinds (map at l) (blank (length kinds)) in
      ap (λ ps. is_success (solves rows kinds ps (blank (length kinds))).0) (map_both at l (i ∷ []))
      ∙ ap (λ (r : Res). is_success r.0) (solves_last rows kinds (map at l) (at i) (blank (length kinds)))
      ∙ by u.0 u.1 e
    where
      by : (o : Out) (m : Mem) → is_success o ≡ false → is_success (onward o m (λ m'. added rows kinds at m' i)).0 ≡ false
      by success m e = clash (cc)
      by mismatch m e = refl
      by refused12 m e = refl
      by refused13 m e = refl
      by dry m e = refl

from_both : (a d e n mid : ℕ) → n ≡ d + e → mid ≡ a + d → from a n ≡ from a d ++ from mid e
unfolding from
from_both a zero e n mid p q = let x : n ≡ e = omega arith in let y : mid ≡ a = omega arith in rw (x, y) refl
from_both a (suc d) e zero mid p q = absurd (omega arith)
from_both a (suc d) e (suc n) mid p q = ap (λ l. a ∷ l) (from_both (suc a) d e n mid (omega arith) (omega arith))

from_rest : (P : ℕ → Type 0) (lo n i : ℕ) → lo ≤ i → i < n → All P (from lo (n - lo)) → All P (i ∷ from (suc i) (n - suc i))
unfolding from
from_rest P lo n i a c h = all_second P (from lo (i - lo)) (from i (suc (n - suc i))) (rw (from_both lo (i - lo) (suc (n - suc i)) (n - lo) i (omega arith) (omega arith)) at h)

-- where a scan stopped, with those behind
abbrev cut_at : ℕ → Option ℕ → Option Cut
cut_at n none = none
cut_at n (some i) = some (i, from (suc i) (n - suc i))

module _ (rows : List Shape) (kinds : List Kind) (at : ℕ → Pair) {W : Type 0} (K : W → Type 0) (M : W → ℕ → Type 0) (R : ℕ → Type 0) (good : (l : List ℕ) → All R l → ok rows kinds at l ≡ true → Solvable K M l) (bad : (l : List ℕ) → All R l → ok rows kinds at l ≡ false → Unsolvable K M l) where
  -- the test
  abbrev test : List ℕ → Bool
  test = ok rows kinds at

  back_front : (kept xs rest : List ℕ) (c : Cut) → back test kept rest ≡ some c → back test kept (xs ++ rest) ≡ some c
  unfolding back
  back_front kept [] rest c e = e
  back_front kept (x ∷ xs) rest c e = rw (back_front kept xs rest c e) refl

  -- one equation more, of the number j, on top of those kept and more, which are those behind j
  module _ (kept : List ℕ) (j e : ℕ) (more : List ℕ) (fk : All R kept) (fj : All R (from j (suc e))) (o : test (kept ++ more) ≡ true) (p : Part more (from (suc j) e)) (q : Part (from (suc j) e) more) (k : back test kept (from (suc j) e) ≡ none) where
    -- with it
    abbrev more⁺ : List ℕ
    more⁺ = more ++ j ∷ []

    -- its result
    abbrev result : Res
    result = added rows kinds at (unified rows kinds at (kept ++ more)).1 j

    result-is : unified rows kinds at (kept ++ more⁺) ≡ result
    result-is = ap (unified rows kinds at) (sym (append_assoc kept more (j ∷ []))) ∙ unified_last rows kinds at (kept ++ more) j o

    test_is : test (kept ++ more⁺) ≡ is_success result.0
    unfolding ok
    test_is = ap (λ (r : Res). is_success r.0) result-is

    part_to : Part more⁺ (from j (suc e))
    unfolding from
    part_to = all_both (λ i. In i (j ∷ from (suc j) e)) more (j ∷ []) (part_later more (from (suc j) e) j p) (inl refl, tt)

    part_of : Part (from j (suc e)) more⁺
    unfolding from
    part_of = (in_right more (j ∷ []) j (inl refl), part_on (from (suc j) e) more more⁺ q (part_first more (j ∷ [])))

    test_same : test (kept ++ from j (suc e)) ≡ is_success result.0
    test_same =
        same_answer test K M R good bad (kept ++ from j (suc e)) (kept ++ more⁺) (all_both R kept (from j (suc e)) fk fj) (all_both R kept more⁺ fk (all_part R more⁺ (from j (suc e)) part_to fj)) (part_behind kept (from j (suc e)) more⁺ part_of) (part_behind kept more⁺ (from j (suc e)) part_to)
        ∙ test_is

    back_is : back test kept (from j (suc e)) ≡ here (is_success result.0) j (from (suc j) e)
    unfolding back from
    back_is = rw (k, test_same) refl

  module _ (kept : List ℕ) (lo : ℕ) where
    falls_back : (d e n mid : ℕ) (more : List ℕ) → n ≡ d + e → mid ≡ lo + d → All R (kept ++ from lo n) → test (kept ++ more) ≡ true → Part more (from mid e) → Part (from mid e) more → back test kept (from mid e) ≡ none
        → back test kept (from lo n) ≡ cut_at (lo + n) (falls rows kinds at (unified rows kinds at (kept ++ more)).1 lo d)
    unfolding falls
    falls_back zero e n mid more p q f o i j k = let x : n ≡ e = omega arith in let y : mid ≡ lo = omega arith in rw x (rw y at k)
    falls_back (suc d) e n mid more p q f o i j k =
        let y : mid ≡ suc (lo + d) = omega arith in
        let s = from_both lo d (suc e) n (lo + d) (omega arith) refl in
        let fk = all_first R kept (from lo n) f in
        let fj = all_second R (from lo d) (from (lo + d) (suc e)) (rw s at (all_second R kept (from lo n) f)) in
        let i' = rw y at i in
        let j' = rw y at j in
        let k' = rw y at k in
        let r = result kept (lo + d) e more fk fj o i' j' k' in
        let w = result-is kept (lo + d) e more fk fj o i' j' k' in
        let t = test_is kept (lo + d) e more fk fj o i' j' k' in
        let b = back_is kept (lo + d) e more fk fj o i' j' k' in
        by d e n fk (is_success r.0) (falls rows kinds at r.1 lo d) (omega arith) b
        (λ g. rw w at (falls_back d (suc e) n (lo + d) (more ++ (lo + d) ∷ []) (omega arith) refl f (t ∙ g) (part_to kept (lo + d) e more fk fj o i' j' k') (part_of kept (lo + d) e more fk fj o i' j' k') (b ∙ ap (λ x. here x (lo + d) (from (suc (lo + d)) e)) g)))
      where
        by : (d e n : ℕ) (fk : All R kept) (c : Bool) (rest : Option ℕ) → n ≡ d + suc e → back test kept (from (lo + d) (suc e)) ≡ here c (lo + d) (from (suc (lo + d)) e)
            → (c ≡ true → back test kept (from lo n) ≡ cut_at (lo + n) rest) → back test kept (from lo n) ≡ cut_at (lo + n) (fall_on c (lo + d) rest)
        by d e n fk true rest h b g = g refl
        by d e n fk false rest h b g =
            let s = from_both lo d (suc e) n (lo + d) h refl in
            let z : lo + n - suc (lo + d) ≡ e = omega arith in
            rw (z, s) (back_front kept (from lo d) (from (lo + d) (suc e)) (lo + d, from (suc (lo + d)) e) b)

    -- a scan of the code finds what a scan of the definition finds
    scan_finds : (n : ℕ) → All R (kept ++ from lo n) → test kept ≡ true → back test kept (from lo n) ≡ cut_at (lo + n) (falls rows kinds at (unified rows kinds at kept).1 lo n)
    unfolding from back
    scan_finds n f o =
        let a = append-nil kept in
        rw a at (falls_back n 0 n (lo + n) [] (omega arith) refl f (rw (← a) at o) tt tt refl)

  -- where a scan stops is one of the numbers that it goes through
  pub falls_in : (m : Mem) (lo d i : ℕ) → falls rows kinds at m lo d ≡ some i → (lo ≤ i) × (i < lo + d)
  unfolding falls
  falls_in m lo zero i e = clash (cc)
  falls_in m lo (suc d) i e = by (is_success (added rows kinds at m (lo + d)).0) (falls rows kinds at (added rows kinds at m (lo + d)).1 lo d) (falls_in (added rows kinds at m (lo + d)).1 lo d i) e
    where
      by : (c : Bool) (o : Option ℕ) → (o ≡ some i → (lo ≤ i) × (i < lo + d)) → fall_on c (lo + d) o ≡ some i → (lo ≤ i) × (i < lo + suc d)
      by true o f h = let g = f h in (g.0, omega (arith, g.1))
      by false o f h = let q : lo + d ≡ i = cc in (omega arith, omega arith)

  -- the scans of the code are those of the definition
  pub scan_same : (f n : ℕ) (kept : List ℕ) (lo : ℕ) → lo ≤ n → All R (kept ++ from lo (n - lo)) → scan_in rows kinds at n f kept lo ≡ scan test f kept (from lo (n - lo))
  unfolding scan_in scan ok
  scan_same zero n kept lo l r = refl
  scan_same (suc f) n kept lo l r = by (is_success (unified rows kinds at kept).0) refl (falls rows kinds at (unified rows kinds at kept).1 lo (n - lo)) refl (back test kept (from lo (n - lo))) (λ e. scan_finds kept lo (n - lo) r e) (λ k i h g. scan_same f n k i h g)
    where
      by : (c : Bool) → test kept ≡ c → (o : Option ℕ) → falls rows kinds at (unified rows kinds at kept).1 lo (n - lo) ≡ o → (b : Option Cut) → (test kept ≡ true → b ≡ cut_at (lo + (n - lo)) o)
          → ((k : List ℕ) (i : ℕ) → i ≤ n → All R (k ++ from i (n - i)) → scan_in rows kinds at n f k i ≡ scan test f k (from i (n - i))) → keep_in (scan_in rows kinds at n f) kept c o ≡ keep (scan test f) kept c b
      by false e o p b h g = refl
      by true e none p b h g = rw (h e) refl
      by true e (some i) p b h g =
          let w = falls_in (unified rows kinds at kept).1 lo (n - lo) i p in
          let z : lo + (n - lo) - suc i ≡ n - suc i = omega (arith, w.0, w.1) in
          rw (h e, z) (g (kept ++ i ∷ []) (suc i) (omega (arith, w.0, w.1)) (rw (append_assoc kept (i ∷ []) (from (suc i) (n - suc i))) (all_both R kept (i ∷ from (suc i) (n - suc i)) (all_first R kept (from lo (n - lo)) r) (from_rest R lo n i w.0 (omega (arith, w.0, w.1)) (all_second R kept (from lo (n - lo)) r)))))

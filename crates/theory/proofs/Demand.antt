-- Demand 3 for any program of the steps: one invariant of the tables and of the equations raised (`Track`), one induction over programs.
-- Assumes `Track` of the state that the program starts from (`Start.start_track`).
use Rattle.std.specs.Prelude.{◌≡◌, ◌↔◌, List, [], ◌∷◌, ◌++◌, Bool, min, ℕ, ◌≤◌, ◌<◌}
use Rattle.std.proofs.Math.Path.{refl, sym}
use Rattle.std.proofs.Common.{ap, ◌∙◌, inl, inr, arith}
use Rattle.std.proofs.Math.Option.{Option, none, some}
use Rattle.std.proofs.Math.Bool.{true, false}
use Rattle.std.proofs.Math.Decide.{dec_lt}
use Rattle.std.proofs.Math.ListN.{length, length-set, length-append, get_or-append, get_or-eq_default}
use Rattle.theory.specs.Rules.{nil, Shape, base, var, div, Kind, regular, Out, success, mismatch, refused12, refused13, dry, Mem, Res, row, kind, kids, as_var, bound, succs, next, act, unify}
use Rattle.theory.specs.Program.{Equation, St, Prog, done, refuse, draw, intern, equate, emit, mark, read, write, sane, first_equal, clip, drawn, appended, emitted, written, refused, marking, raised, pooled, intern_if, interned, solve, solved, react, run}
use Rattle.theory.specs.Basics.{All, all_map, all_map2, clash}
use Rattle.theory.specs.Ways.{Way, ty_fits, Kinded, Plain, plain_base, plain_var, plain_array, den, Agrees, PlainBound, Inside, Sided, Meets, Went, Failed}
use Rattle.theory.specs.Graph.{Lower}
use Rattle.theory.specs.Choice.{choose_diverges}
use Rattle.theory.specs.Sound.{Fair}
use Rattle.theory.proofs.Sound.{success_exact, failed_none}
use Rattle.theory.specs.Keep.{KeptBy}
use Rattle.theory.proofs.Keep.{solve_kept}
use Rattle.theory.specs.Exist.{regular_fits, way}
use Rattle.theory.proofs.Exist.{way_agrees, way_kinded}
use Rattle.theory.specs.Lift.{sided_back, meets_back, meets_on, noway_on, agrees_back, agrees_on, plains_on, row_old}
use Rattle.theory.proofs.Lift.{good_on}
use Rattle.theory.specs.Demand.{Exact, Claim, Tables, Track, read_past, sane_facts, clip_in, rows⁺ as rows⁺·S, lower' as lower'·S, answered as answered·S, logged as logged·S}

-- ── the tables grow ──

module _ (rows : List Shape) (t : Shape) (kinds kinds' : List Kind) (b b' : List (Option ℕ)) (log : List Equation) (claim : Claim rows kinds b log) (read_same : (v : ℕ) → bound b' v ≡ bound b v) (longer : length b ≤ length b')
    (kind-same : (v : ℕ) → v < length b → kind kinds' v ≡ kind kinds v) (new_var : (v : ℕ) → as_var t ≡ some v → v < length b') (new_low : All (λ (y : ℕ). y < length rows) (kids t)) (new_in : All (λ (y : ℕ). y < length rows) (succs b t (as_var t))) (sized' : length kinds' ≡ length b') where
  -- as specs/Demand has it
  abbrev rows⁺ : List Shape
  rows⁺ = rows⁺·S rows t kinds kinds' b b' log claim read_same longer kind-same new_var new_low new_in sized'

  -- as specs/Demand has it
  abbrev lower' : Lower rows⁺
  lower' = lower'·S rows t kinds kinds' b b' log claim read_same longer kind-same new_var new_low new_in sized'

  kinded_back : (w : Way) → Kinded kinds' w → Kinded kinds w
  kinded_back w k v = by (dec_lt v (length b))
    where
      by : Dec (v < length b) → ty_fits (kind kinds v) (w v) ≡ true
      by (yes h) = rw (kind-same v h) at (k v)
      by (no h) = rw (get_or-eq_default kinds regular {n = v} (omega (arith, claim.kinds_sized))) (regular_fits (w v))

  claim_on : Claim rows⁺ kinds' b' log
  claim_on =
      record {
        lower = lower';
        good = good_on rows t kinds kinds' b b' claim.good read_same longer kind-same new_var new_in;
        kinds_sized = sized';
        some_row = simp length-append (omega arith);
        inside = all_map (Inside rows) (Inside rows⁺) log (λ q i. simp length-append (omega arith)) claim.inside;
        holds = holds';
        noway = noway_on rows rows⁺ claim.lower lower' (row_old rows t) kinds kinds' kinded_back log claim.inside claim.noway;
        ended = claim.ended;
      }
    where
      holds' : All Went log → All (Sided rows⁺) log → Exact rows⁺ kinds' b' log
      holds' o s =
          let h = claim.holds o (all_map2 (Inside rows) (Sided rows⁺) (Sided rows) log (sided_back rows rows⁺ claim.lower lower' (row_old rows t)) claim.inside s) in (
            plains_on rows rows⁺ claim.lower lower' (row_old rows t) b b' read_same claim.good.held h.0,
            λ w k. (
              λ a. all_map2 (Inside rows) (Meets rows w) (Meets rows⁺ w) log (meets_on rows rows⁺ claim.lower lower' (row_old rows t) w) claim.inside ((h.1 w (kinded_back w k)).0 (agrees_back rows rows⁺ claim.lower lower' (row_old rows t) b b' read_same claim.good.held w a)),
              λ m. agrees_on rows rows⁺ claim.lower lower' (row_old rows t) b b' read_same claim.good.held w ((h.1 w (kinded_back w k)).1 (all_map2 (Inside rows) (Meets rows⁺ w) (Meets rows w) log (meets_back rows rows⁺ claim.lower lower' (row_old rows t) w) claim.inside m)),
            ),
          )

-- ── an equation is raised ──

-- got Diverges: success, and nothing changed
diverges_met : (rows : List Shape) (kinds : List Kind) (m : Mem) (x y : ℕ) → row rows y ≡ div → solve rows kinds m x y ≡ (success, m)
unfolding solve unify act
diverges_met rows kinds m x y e = rw (e, choose_diverges (row rows x))

not_diverges : (rows : List Shape) (x : ℕ) → Plain rows x → row rows x ≡ div → ⊥
not_diverges rows x (plain_base c p) d = clash (cc)
not_diverges rows x (plain_var v p) d = clash (cc)
not_diverges rows x (plain_array e p h) d = clash (cc)

module _ (rows : List Shape) (kinds : List Kind) (m : Mem) (log : List Equation) (claim : Claim rows kinds m.binds log) (p e g : ℕ) (he : e < length rows) (hg : g < length rows) where
  -- as specs/Demand has it
  abbrev answered : Res
  answered = answered·S rows kinds m log claim p e g he hg

  -- as specs/Demand has it
  abbrev logged : Equation
  logged = logged·S rows kinds m log claim p e g he hg

  fair : PlainBound rows m.binds → Fair rows m.binds
  fair p = record { plain = p; meant = λ x v q. claim.good.meant x v (ap as_var q) }

  same_of : (w : Way) → Plain rows e × Plain rows g → Meets rows w logged → den rows w e ≡ den rows w g
  same_of w p (inl d) = absurd (not_diverges rows g p.1 d)
  same_of w p (inr d) = d

  holds⁺ : answered.0 ≡ success → All Went log → All (Sided rows) (logged ∷ log) → Exact rows kinds answered.1.binds (logged ∷ log)
  holds⁺ q o s = by s.0
    where
      old : Exact rows kinds m.binds log
      old = claim.holds o s.1

      by : Sided rows logged → Exact rows kinds answered.1.binds (logged ∷ log)
      by (inl d) =
          let f : answered.1.binds ≡ m.binds = ap (λ (r : Res). r.1.binds) (diverges_met rows kinds m e g d) in
          rw f (old.0, λ w k. (λ a. (inl d, (old.1 w k).0 a), λ h. (old.1 w k).1 h.1))
      by (inr p) =
          let t = success_exact rows kinds claim.lower m e g p.0 p.1 (fair old.0) q in
          (t.0.plain, λ w k. (λ a. let h = (t.1 w k).0 a in (inr h.1, (old.1 w k).0 h.0), λ h. (t.1 w k).1 ((old.1 w k).1 h.1, same_of w p h.0)))

  none⁺ : Failed answered.0 → All Went log → All (Sided rows) (logged ∷ log) → (w : Way) → Kinded kinds w → All (Meets rows w) (logged ∷ log) → ⊥
  none⁺ f o s w k met = by s.0
    where
      old : Exact rows kinds m.binds log
      old = claim.holds o s.1

      by : Sided rows logged → ⊥
      by (inl d) = let q : answered.0 ≡ success = ap (λ (r : Res). r.0) (diverges_met rows kinds m e g d) in rw q at f
      by (inr p) = failed_none rows kinds claim.lower m e g p.0 p.1 (fair old.0) f w k ((old.1 w k).1 met.1) (same_of w p met.0)

  -- it makes no cycle and keeps the lengths
  pub answered_kept : KeptBy rows kinds m answered
  answered_kept = solve_kept rows kinds m e g claim.good he hg

  -- the claim with the equation raised
  pub claim⁺ : Claim rows kinds answered.1.binds (logged ∷ log)
  claim⁺ =
      record {
        lower = claim.lower;
        good = answered_kept.good;
        kinds_sized = claim.kinds_sized ∙ sym answered_kept.binds_length;
        some_row = claim.some_row;
        inside = ((he, hg), claim.inside);
        holds = λ o s. holds⁺ o.0 o.1 s;
        noway = (claim.noway, none⁺);
        ended = (answered_kept.ended, claim.ended);
      }

-- ── nothing is bound, and no equation raised ──

blank_next : (rows : List Shape) (b : List (Option ℕ)) → Lower rows → ((v : ℕ) → bound b v ≡ none) → (P : ℕ → Type 0) (x : ℕ) → (x < length rows → (y : ℕ) → y < x → P y) → All P (next rows b x)
blank_next rows b lower none-bound P x f = by (dec_lt x (length rows))
  where
    at_open : (s : Shape) (o : Option ℕ) → All P (kids s) → All P (succs b s o)
    at_open s none h = h
    at_open s (some u) h = rw (none-bound u) tt

    by : Dec (x < length rows) → All P (next rows b x)
    by (yes h) = at_open (row rows x) (as_var (row rows x)) (all_map (λ (y : ℕ). y < x) P (kids (row rows x)) (f h) (lower x))
    by (no h) = rw (get_or-eq_default rows (base nil) {n = x} (omega arith)) tt

-- the claim before the first equation
pub blank_claim : (rows : List Shape) (kinds : List Kind) (b : List (Option ℕ)) → Lower rows → 0 < length rows → length kinds ≡ length b → ((v : ℕ) → bound b v ≡ none) → ((x v : ℕ) → as_var (row rows x) ≡ some v → v < length b) → Claim rows kinds b []
blank_claim rows kinds b lower some_row sized none-bound meant =
    record {
      lower = lower;
      good = record {
        rank = λ y. min y (length rows);
        falls = λ y. blank_next rows b lower none-bound (λ z. min z (length rows) < min y (length rows)) y (λ h z k. omega arith);
        top = λ y. omega arith;
        within = λ y. blank_next rows b lower none-bound (λ z. z < length rows) y (λ h z k. omega arith);
        meant = meant;
        held = λ v r e. let q = none-bound v in clash (cc);
        kept = λ v r e. let q = none-bound v in cc;
      };
      kinds_sized = sized;
      some_row = some_row;
      inside = tt;
      holds = λ o s. (λ v r e. let q = none-bound v in clash (cc), λ w k. (λ a. tt, λ m v r e. let q = none-bound v in cc));
      noway = tt;
      ended = tt;
    }

-- ── programs ──

module _ {X Er : Type 0} where
  drawn_track : (k : Kind) (o : Option ℕ) (s : St X Er) → Track s → Track (drawn k o s)
  unfolding drawn
  drawn_track k o s t =
      record {
        tables = record {
          claim = claim_on s.rows (var (length s.mem.binds)) s.kinds (s.kinds ++ k ∷ []) s.mem.binds (s.mem.binds ++ none ∷ []) s.log t.tables.claim (read_past s.mem.binds)
              (simp length-append (omega arith)) (λ v h. get_or-append s.kinds (k ∷ []) regular v (omega (arith, t.tables.claim.kinds_sized)))
              (λ v e. let q : length s.mem.binds ≡ v = cc in simp length-append (omega arith)) tt (rw (get_or-eq_default s.mem.binds none {n = length s.mem.binds} (omega arith)) tt)
              (simp length-append (omega (arith, t.tables.claim.kinds_sized)));
          origins_sized = simp length-append (omega (arith, t.tables.origins_sized));
          marks_sized = simp length-append (omega (arith, t.tables.marks_sized));
        };
        clean = t.clean;
      }

  appended_track : (u : Shape) (s : St X Er) → sane (length s.rows) u ≡ true → Track s → Track (appended u s)
  unfolding appended
  appended_track u s e t =
      let h = sane_facts (length s.rows) u e in
      let q : as_var u ≡ none = h.0 in
      record {
        tables = record {
          claim = claim_on s.rows u s.kinds s.kinds s.mem.binds s.mem.binds s.log t.tables.claim (λ v. refl) (omega arith) (λ v i. refl) (λ v p. clash (cc)) h.1 (rw q h.1) t.tables.claim.kinds_sized;
          origins_sized = t.tables.origins_sized;
          marks_sized = t.tables.marks_sized;
        };
        clean = t.clean;
      }

  interned_track : (u : Shape) (s : St X Er) → Track s → Track (interned u s).1
  unfolding interned
  interned_track u s t = by (sane (length s.rows) u) refl
    where
      pooled_track : sane (length s.rows) u ≡ true → (o : Option ℕ) → Track (pooled u o s).1
      pooled_track e none = appended_track u s e t
      pooled_track e (some r) = t

      by : (c : Bool) → sane (length s.rows) u ≡ c → Track (intern_if c u s).1
      by true e = pooled_track e (first_equal 0 s.rows u)
      by false e = t

  raised_tables : (p e g : ℕ) (s : St X Er) → Tables s.rows s.kinds s.origins s.mem s.log → e < length s.rows → g < length s.rows → Tables s.rows s.kinds s.origins (solved e g s).1 (raised p e g (solved e g s) s).log
  unfolding raised
  raised_tables p e g s t he hg =
      let k = answered_kept s.rows s.kinds s.mem s.log t.claim p e g he hg in
      record {
        claim = claim⁺ s.rows s.kinds s.mem s.log t.claim p e g he hg;
        origins_sized = t.origins_sized ∙ sym k.binds_length;
        marks_sized = k.marks_length ∙ t.marks_sized ∙ sym k.binds_length;
      }

  -- the answer r that the equation had, and what comes after it
  react_track : {A : Type 0} (p e g : ℕ) (s : St X Er) (r : Res) → Track s → Tables s.rows s.kinds s.origins r.1 (raised p e g r s).log → (o : Out) → r.0 ≡ o → (f : Out → Er) (k : Bool → St X Er → Option A × St X Er)
      → ((c : Bool) (s' : St X Er) → Track s' → Track (k c s').1) → Track (react p o f k (raised p e g r s)).1
  unfolding raised emitted refused
  react_track p e g s r t d success q f k h = h true (raised p e g r s) (record { tables = d; clean = λ i j. (q, t.clean i j) })
  react_track p e g s r t d mismatch q f k h = h false (emitted (f mismatch) (raised p e g r s)) (record { tables = d; clean = λ i j. clash (cc) })
  react_track p e g s r t d refused12 q f k h = record { tables = d; clean = λ i j. clash (cc) }
  react_track p e g s r t d refused13 q f k h = record { tables = d; clean = λ i j. clash (cc) }
  react_track p e g s r t d dry q f k h = record { tables = d; clean = λ i j. clash (cc) }

  -- whatever the program, it keeps the invariant
  pub track : {A : Type 0} (p : Prog X Er A) (s : St X Er) → Track s → Track (run p s).1
  unfolding run refused emitted marking written
  track (done a) s t = t
  track (refuse n p) s t = record { tables = t.tables; clean = λ i j. clash (cc) }
  track (draw k o f) s t = track (f (length s.rows)) (drawn k o s) (drawn_track k o s t)
  track (intern u f) s t = track (f (interned u s).0) (interned u s).1 (interned_track u s t)
  track (equate p x y f k) s t =
      let e = clip (length s.rows) x in
      let g = clip (length s.rows) y in
      let he = clip_in (length s.rows) x t.tables.claim.some_row in
      let hg = clip_in (length s.rows) y t.tables.claim.some_row in
      react_track p e g s (solved e g s) t (raised_tables p e g s t.tables he hg) (solved e g s).0 refl f (λ c s'. run (k c) s') (λ c s' t'. track (k c) s' t')
  track (emit e p) s t = track p (emitted e s) (record { tables = t.tables; clean = λ i j. clash (cc) })
  track (mark v p) s t = track p (marking v s) (record { tables = record { claim = t.tables.claim; origins_sized = t.tables.origins_sized; marks_sized = length-set s.mem.marks v true ∙ t.tables.marks_sized }; clean = t.clean })
  track (read f) s t = track (f s) s t
  track (write x p) s t = track p (written x s) (record { tables = t.tables; clean = t.clean })

  -- ── demand 3 ──

  module _ (s : St X Er) (t : Track s) where
    -- without an error or refusal: a way meets all equations exactly when it agrees with the bindings, and there is one
    pub demand_yes : s.errs ≡ [] → s.stop ≡ none → All (Sided s.rows) s.log
        → ((w : Way) → Kinded s.kinds w → All (Meets s.rows w) s.log ↔ Agrees s.rows s.mem.binds w)
        × ((w : Way) × Kinded s.kinds w × All (Meets s.rows w) s.log)
    demand_yes i j sides =
        let c = t.tables.claim in
        let h = (c.holds (t.clean i j) sides).1 in
        let u = way s.rows s.kinds c.lower s.mem.binds c.good in
        let k = way_kinded s.rows s.kinds c.lower s.mem.binds c.good in
        (λ w l. ((h w l).1, (h w l).0), (u, k, (h u k).0 (way_agrees s.rows s.kinds c.lower s.mem.binds c.good)))

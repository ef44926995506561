-- One equation with plain sides: success keeps exactly the agreeing ways that meet it; a mismatch or a refusal 12 leaves none.
-- Assumes rows made of lower rows, plain bindings, and variables in range (`Fair`).
use Rattle.std.specs.Prelude.{◌≡◌, ◌↔◌, List, Bool, cond, not, ◌&&◌, length, set}
use Rattle.std.proofs.Math.Path.{refl, ap, sym}
use Rattle.std.proofs.Common.{◌∙◌, inl, inr, length-set, get_or-set_same, get_or-set_other}
use Rattle.std.proofs.Math.Option.{Option, none, some}
use Rattle.std.proofs.Math.Bool.{true, false}
use Prim.Native.Nat.{ℕ, suc, zero, ◌<◌}
use native.Mathlib.Omega.{arith}
use Rattle.theory.specs.Rules.{bool, nil, float, double, uint, int, inst, Shape, var, Kind, regular, integer, floating, Out, success, mismatch, refused12, refused13, dry, Mem, Res, Act, at, base_fits, kind_fits, is_regular, row, kind, fits, kinds_exchange, as_var, bound}
use Rattle.theory.specs.Rules.{Found, free, ring, inside, lost, seek, choose, split, at_var, act, left, right, pass, bind, is_same, settle, chase, heed, other, suits, perform, move, unify, marked, signed}
use Rattle.theory.specs.Program.{fuel, solve}
use Rattle.theory.specs.Basics.{clash, not_both, eqb-true, bound_after, last_success}
use Rattle.theory.specs.Ways.{Ty, basic, array_of, Way, ty_fits, Kinded, Plain, plain_base, plain_var, plain_array, den, Agrees, Failed}
use Rattle.theory.specs.Graph.{Lower}
use Rattle.theory.specs.Meaning.{size, den_base, den_var, den_array, as_var_lem, ring_same}
use Rattle.theory.proofs.Meaning.{inside_less}
use Rattle.theory.specs.Choice.{choose_base_var, choose_base_array, choose_var_base, choose_array_base, act_of_bases, ByEquality, act_bases}
use Rattle.theory.specs.Sound.{Fair, Says as Says·S, SaysOf as SaysOf·S, Same as Same·S, Met as Met·S, Told as Told·S, Tells as Tells·S}

-- no type is integer-like and float-like
integer_floating : (t : Ty) → ty_fits integer t ≡ true → ty_fits floating t ≡ true → ⊥
integer_floating (basic bool) p q = clash (cc)
integer_floating (basic nil) p q = clash (cc)
integer_floating (basic float) p q = clash (cc)
integer_floating (basic double) p q = clash (cc)
integer_floating (basic (uint k)) p q = clash (cc)
integer_floating (basic (int k)) p q = clash (cc)
integer_floating (basic (inst k)) p q = clash (cc)
integer_floating (array_of t) p q = clash (cc)

-- a kind that does not fit one with which it keeps its role has no type in common with it
kinds_apart : (k l : Kind) → kind_fits k l ≡ false → kinds_exchange k l ≡ false → (t : Ty) → ty_fits k t ≡ true → ty_fits l t ≡ true → ⊥
kinds_apart regular l e r t p q = not_both (kind_fits regular l) refl e
kinds_apart integer regular e r t p q = clash (cc)
kinds_apart integer integer e r t p q = not_both true refl e
kinds_apart integer floating e r t p q = integer_floating t p q
kinds_apart floating regular e r t p q = clash (cc)
kinds_apart floating integer e r t p q = integer_floating t q p
kinds_apart floating floating e r t p q = not_both true refl e

-- roles that are exchanged one way are kept the other way
exchanged_one_way : (k l : Kind) → kinds_exchange k l ≡ true → kinds_exchange l k ≡ false
exchanged_one_way regular l e = clash (cc)
exchanged_one_way integer regular e = refl
exchanged_one_way integer integer e = clash (cc)
exchanged_one_way integer floating e = clash (cc)
exchanged_one_way floating regular e = refl
exchanged_one_way floating integer e = clash (cc)
exchanged_one_way floating floating e = clash (cc)

module _ (rows : List Shape) (kinds : List Kind) (lower : Lower rows) where
  -- as specs/Sound has it
  abbrev Says : (Way → Type 0) → List (Option ℕ) → Out → List (Option ℕ) → Type 0
  Says = Says·S rows kinds lower

  -- as specs/Sound has it
  abbrev SaysOf : (Way → Type 0) → List (Option ℕ) → Res → Type 0
  SaysOf = SaysOf·S rows kinds lower

  says_iff : (E D : Way → Type 0) (b : List (Option ℕ)) (o : Out) (b' : List (Option ℕ)) → ((w : Way) → Agrees rows b w → E w ↔ D w) → Says E b o b' → Says D b o b'
  says_iff E D b success b' f h = (h.0, λ w k. (λ a. let r = (h.1 w k).0 a in (r.0, (f w r.0).0 r.1), λ r. (h.1 w k).1 (r.0, (f w r.0).1 r.1)))
  says_iff E D b mismatch b' f h = λ w k a d. h w k a ((f w a).1 d)
  says_iff E D b refused12 b' f h = λ w k a d. h w k a ((f w a).1 d)
  says_iff E D b refused13 b' f h = tt
  says_iff E D b dry b' f h = tt

  -- as specs/Sound has it
  abbrev Same : ℕ → ℕ → Way → Type 0
  Same = Same·S rows kinds lower

  -- step 3, a variable against a plain row
  module _ (rec : Mem → ℕ → ℕ → Res)
      (ih : (m : Mem) (x y : ℕ) → Plain rows x → Plain rows y → Fair rows m.binds → SaysOf (Same x y) m.binds (rec m x y))
      (m : Mem) (v z : ℕ) (hv : v < length m.binds) (plain : Plain rows z) (fair : Fair rows m.binds)
      (keeps : (u : ℕ) → row rows z ≡ var u → kinds_exchange (kind kinds v) (kind kinds u) ≡ false) where
    -- as specs/Sound has it
    abbrev Met : Way → Type 0
    Met = Met·S rows kinds lower rec ih m v z hv plain fair keeps

    -- as specs/Sound has it
    abbrev Told : Res → Type 0
    Told = Told·S rows kinds lower rec ih m v z hv plain fair keeps

    bind_agrees : bound m.binds v ≡ none → (w : Way) → Agrees rows (set m.binds v (some z)) w ↔ (Agrees rows m.binds w × Met w)
    bind_agrees e w = (λ a. (λ u r q. a u r (get_or-set_other m.binds v u (some z) none (λ p. clash (let h = rw p at q in cc)) ∙ q), a v z (get_or-set_same m.binds v (some z) none hv)), λ k. bound_after (λ (u r : ℕ). w u ≡ den rows w r) m.binds v z hv k.1 (λ u r n q. k.0 u r q))

    bind_fair : Fair rows (set m.binds v (some z))
    bind_fair = record { plain = bound_after (λ (u r : ℕ). Plain rows r) m.binds v z hv plain (λ u r n q. fair.plain u r q); meant = λ x u q. simp length-set (fair.meant x u q) }

    on_settle : bound m.binds v ≡ none → (f : Found) → seek rows m.binds v (suc (length rows)) z ≡ f → Told (settle (pass m v (row rows z)) v z f)
    unfolding pass bind
    on_settle e free q = (bind_fair, λ w k. bind_agrees e w)
    on_settle e ring q = (fair, λ w k. (λ a. (a, sym (ring_same rows lower m.binds w a v (suc (length rows)) z q)), λ r. r.0))
    on_settle e inside q = λ w k a d. let h = inside_less rows lower m.binds w a v fair.plain (suc (length rows)) z plain q in let g = ap size d in omega arith
    on_settle e lost q = tt

    on_chase : (o : Option ℕ) → bound m.binds v ≡ o → Told (chase rows kinds rec (pass m v (row rows z)) v z o)
    unfolding pass
    on_chase (some r) e = says_iff (Same r z) Met m.binds (rec (pass m v (row rows z)) r z).0 (rec (pass m v (row rows z)) r z).1.binds (λ w a. (λ d. a v r e ∙ d, λ d. sym (a v r e) ∙ d)) (ih (pass m v (row rows z)) r z (fair.plain v r e) plain fair)
    on_chase none e = on_settle e (seek rows m.binds v (suc (length rows)) z) refl

    on_heed : (c : Bool) → Told (heed rows kinds rec m v z c)
    on_heed true = tt
    on_heed false = on_chase (bound m.binds v) refl

    is_same_lem : (o : Option ℕ) → as_var (row rows z) ≡ o → is_same v o ≡ true → row rows z ≡ var v
    is_same_lem none e q = cc
    is_same_lem (some u) e q = as_var_lem (row rows z) v (e ∙ ap some (eqb-true u v q))

    on_other : (c : Bool) → is_same v (as_var (row rows z)) ≡ c → Told (other rows kinds rec m v z c)
    on_other true e = (fair, λ w k. (λ a. (a, sym (den_var rows lower w z v (is_same_lem (as_var (row rows z)) refl e))), λ r. r.0))
    on_other false e = on_heed (marked m v && not (signed (row rows z)))

    -- under a way that gives v the row's type, that type fits v's kind
    fits_met : (w : Way) → Kinded kinds w → Met w → ty_fits (kind kinds v) (den rows w z) ≡ true
    fits_met w k d = rw (← d) (k v)

    -- the kind test failed: no way gives both sides one type
    on_fail : Plain rows z → fits kinds (kind kinds v) (row rows z) ≡ false → Says Met m.binds mismatch m.binds
    on_fail (plain_base c p) e = (λ w k a d. not_both (base_fits (kind kinds v) c) (rw (den_base rows lower w z c p) at (fits_met w k d)) (rw p at e))
    on_fail (plain_array y p r) e = (λ w k a d. not_both (is_regular (kind kinds v)) (rw (den_array rows lower w z y p) at (fits_met w k d)) (rw p at e))
    on_fail (plain_var u p) e = λ w k a d. kinds_apart (kind kinds v) (kind kinds u) (rw p at e) (keeps u p) (w u) (rw (den_var rows lower w z u p) at (fits_met w k d)) (k u)

    on_suits : (c : Bool) → fits kinds (kind kinds v) (row rows z) ≡ c → Told (suits rows kinds rec m v z c)
    on_suits true e = on_other (is_same v (as_var (row rows z))) refl
    on_suits false e = on_fail plain e

  module _ (rec : Mem → ℕ → ℕ → Res)
      (ih : (m : Mem) (x y : ℕ) → Plain rows x → Plain rows y → Fair rows m.binds → SaysOf (Same x y) m.binds (rec m x y)) where
    -- as specs/Sound has it
    abbrev Tells : Mem → ℕ → ℕ → Act → Type 0
    Tells = Tells·S rows kinds lower rec ih

    -- the variable of the expected or of the got side
    meet_left : (m : Mem) (x y v : ℕ) → row rows x ≡ var v → Plain rows y → Fair rows m.binds → ((u : ℕ) → row rows y ≡ var u → kinds_exchange (kind kinds v) (kind kinds u) ≡ false) → Tells m x y (at v y)
    meet_left m x y v p q fair keeps = says_iff (λ (w : Way). w v ≡ den rows w y) (Same x y) m.binds (perform rows kinds rec m (at v y)).0 (perform rows kinds rec m (at v y)).1.binds (λ w a. (λ d. den_var rows lower w x v p ∙ d, λ d. sym (den_var rows lower w x v p) ∙ d)) (on_suits rec ih m v y (fair.meant x v p) q fair keeps (fits kinds (kind kinds v) (row rows y)) refl)

    meet_right : (m : Mem) (x y v : ℕ) → row rows y ≡ var v → Plain rows x → Fair rows m.binds → ((u : ℕ) → row rows x ≡ var u → kinds_exchange (kind kinds v) (kind kinds u) ≡ false) → Tells m x y (at v x)
    meet_right m x y v p q fair keeps = says_iff (λ (w : Way). w v ≡ den rows w x) (Same x y) m.binds (perform rows kinds rec m (at v x)).0 (perform rows kinds rec m (at v x)).1.binds (λ w a. (λ d. sym d ∙ sym (den_var rows lower w y v p), λ d. sym (d ∙ den_var rows lower w y v p))) (on_suits rec ih m v x (fair.meant y v p) q fair keeps (fits kinds (kind kinds v) (row rows x)) refl)

    step_sound : (m : Mem) (x y : ℕ) → Plain rows x → Plain rows y → Fair rows m.binds → Tells m x y (move rows kinds x y)
    unfolding choose act split at_var
    step_sound m x y (plain_base b p) (plain_base c q) fair = rw (p, q) (by (act_bases x y b c))
      where
        by : ByEquality b c (act_of_bases x y b c) → Tells m x y (act_of_bases x y b c)
        by (inl h) = rw h.1 (fair, λ w k. (λ a. (a, den_base rows lower w x b p ∙ ap basic h.0 ∙ sym (den_base rows lower w y c q)), λ r. r.0))
        by (inr h) = rw h.1 (λ w k a d. h.0 (let e = sym (den_base rows lower w x b p) ∙ d ∙ den_base rows lower w y c q in cc))
    step_sound m x y (plain_base b p) (plain_var u q) fair = rw (p, q, choose_base_var b) (meet_right m x y u q (plain_base b p) fair (λ a e. clash (cc)))
    step_sound m x y (plain_base b p) (plain_array f q k) fair = rw (p, q, choose_base_array b) (λ w l a d. let e = sym (den_base rows lower w x b p) ∙ d ∙ den_array rows lower w y f q in clash (cc))
    step_sound m x y (plain_var v p) (plain_base c q) fair = rw (p, q, choose_var_base c) (meet_left m x y v p (plain_base c q) fair (λ a e. clash (cc)))
    step_sound m x y (plain_var v p) (plain_var u q) fair = rw (p, q) (by (kinds_exchange (kind kinds v) (kind kinds u)) refl)
      where
        by : (c : Bool) → kinds_exchange (kind kinds v) (kind kinds u) ≡ c → Tells m x y (act x y (var v) (var u) (cond c right left))
        by true e = meet_right m x y u q (plain_var v p) fair (λ a f. let h : a ≡ v = cc in rw h (exchanged_one_way (kind kinds v) (kind kinds u) e))
        by false e = meet_left m x y v p (plain_var u q) fair (λ a f. let h : a ≡ u = cc in rw h e)
    step_sound m x y (plain_var v p) (plain_array f q k) fair = rw (p, q) (meet_left m x y v p (plain_array f q k) fair (λ a e. clash (cc)))
    step_sound m x y (plain_array e p h) (plain_base c q) fair = rw (p, q, choose_array_base c) (λ w l a d. let g = sym (den_array rows lower w x e p) ∙ d ∙ den_base rows lower w y c q in clash (cc))
    step_sound m x y (plain_array e p h) (plain_var u q) fair = rw (p, q) (meet_right m x y u q (plain_array e p h) fair (λ a r. clash (cc)))
    step_sound m x y (plain_array e p h) (plain_array f q k) fair = rw (p, q, last_success (rec m e f)) (says_iff (Same e f) (Same x y) m.binds (rec m e f).0 (rec m e f).1.binds (λ w a. (λ d. den_array rows lower w x e p ∙ ap array_of d ∙ sym (den_array rows lower w y f q), λ d. (let g = sym (den_array rows lower w x e p) ∙ d ∙ den_array rows lower w y f q in cc))) (ih m e f h k fair))

  -- one equation with plain sides, whatever its steps
  pub sound : (n : ℕ) (m : Mem) (x y : ℕ) → Plain rows x → Plain rows y → Fair rows m.binds → SaysOf (Same x y) m.binds (unify rows kinds n m x y)
  unfolding unify
  sound zero m x y p q fair = tt
  sound (suc n) m x y p q fair = step_sound (unify rows kinds n) (λ m' x' y' p' q' f'. sound n m' x' y' p' q' f') m x y p q fair

  -- ── the same by answer, with the steps that a program gives each equation ──

  module _ (m : Mem) (e g : ℕ) (pe : Plain rows e) (pg : Plain rows g) (fair : Fair rows m.binds) where
    said : (o : Out) → (solve rows kinds m e g).0 ≡ o → Says (Same e g) m.binds o (solve rows kinds m e g).1.binds
    unfolding solve
    said o q = rw (← q) (sound (fuel rows m) m e g pe pg fair)

    -- success: the ways that agree with the bindings after are those that agree with the bindings before and meet the equation
    pub success_exact : (solve rows kinds m e g).0 ≡ success → Fair rows (solve rows kinds m e g).1.binds × ((w : Way) → Kinded kinds w → Agrees rows (solve rows kinds m e g).1.binds w ↔ (Agrees rows m.binds w × Same e g w))
    success_exact q = said success q

    -- a mismatch, or 12: no way that agrees with the bindings before meets the equation
    pub failed_none : Failed (solve rows kinds m e g).0 → (w : Way) → Kinded kinds w → Agrees rows m.binds w → Same e g w → ⊥
    failed_none f = by (solve rows kinds m e g).0 refl f
      where
        by : (o : Out) → (solve rows kinds m e g).0 ≡ o → Failed o → (w : Way) → Kinded kinds w → Agrees rows m.binds w → Same e g w → ⊥
        by success q k = absurd k
        by mismatch q k = said mismatch q
        by refused12 q k = said refused12 q
        by refused13 q k = absurd k
        by dry q k = absurd k

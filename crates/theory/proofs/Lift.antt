-- The tables grow by one row, perhaps with a variable: what was said of the old rows stands. Assumes rows made of lower rows, and sound bindings.
use Rattle.std.specs.Prelude.{◌≡◌, refl, List, [], ◌∷◌, ◌++◌, Bool, true, false, cond, ℕ, suc, ◌≤◌, ◌<◌, length, ltb}
use Rattle.std.proofs.Common.{ap, sym, ◌∙◌, arith, length-append}
use Rattle.std.proofs.Math.Option.{Option, none, some}
use Rattle.theory.specs.Rules.{nil, Shape, base, var, arr, ref, fn, fun, lam, err, div, Kind, kind_fits, row, kind, fits, as_var, bound, opt_list, succs, next}
use Rattle.theory.specs.Basics.{All, all_map, all_map2, clash, ltb_yes, ltb_no, bound_in_lem}
use Rattle.theory.specs.Graph.{Good}
use Rattle.theory.specs.Lift.{row_old as row_old·S, row_cases as row_cases·S, rank⁺ as rank⁺·S}

-- ── a row is appended ──

fits_same : (kinds kinds' : List Kind) (k : Kind) (s : Shape) → ((u : ℕ) → as_var s ≡ some u → kind kinds' u ≡ kind kinds u) → fits kinds' k s ≡ fits kinds k s
fits_same kinds kinds' k (base c) f = refl
fits_same kinds kinds' k (var u) f = ap (kind_fits k) (f u refl)
fits_same kinds kinds' k (arr e) f = refl
fits_same kinds kinds' k (ref e) f = refl
fits_same kinds kinds' k (fn d) f = refl
fits_same kinds kinds' k (fun s o i) f = refl
fits_same kinds kinds' k (lam n o i) f = refl
fits_same kinds kinds' k err f = refl
fits_same kinds kinds' k div f = refl

module _ (rows : List Shape) (t : Shape) where
  -- as specs/Lift has it
  abbrev row_old : (x : ℕ) → x < length rows → row (rows ++ t ∷ []) x ≡ row rows x
  row_old = row_old·S rows t

  -- as specs/Lift has it
  abbrev row_cases : (P : ℕ → Shape → Type 0) (x : ℕ) → (x < length rows → P x (row rows x)) → (x ≡ length rows → P x t) → (length rows < x → P x (base nil)) → P x (row (rows ++ t ∷ []) x)
  row_cases = row_cases·S rows t

  module _ (kinds kinds' : List Kind) (b b' : List (Option ℕ)) (good : Good rows kinds b) (read_same : (v : ℕ) → bound b' v ≡ bound b v) (longer : length b ≤ length b')
      (kind-same : (v : ℕ) → v < length b → kind kinds' v ≡ kind kinds v) (new_var : (v : ℕ) → as_var t ≡ some v → v < length b') (new_in : All (λ (y : ℕ). y < length rows) (succs b t (as_var t))) where
    succs_same : (s : Shape) (o : Option ℕ) → succs b' s o ≡ succs b s o
    succs_same s none = refl
    succs_same s (some u) = ap opt_list (read_same u)

    next_cases : (P : ℕ → Type 0) (x : ℕ) → (x < length rows → All P (next rows b x)) → (x ≡ length rows → All P (succs b t (as_var t))) → All P (next (rows ++ t ∷ []) b' x)
    next_cases P x f g = row_cases (λ (z : ℕ) (s : Shape). All P (succs b' s (as_var s))) x (λ h. rw (succs_same (row rows x) (as_var (row rows x))) (f h)) (λ e. rw (succs_same t (as_var t)) (g e)) (λ h. tt)

    -- as specs/Lift has it
    abbrev rank⁺ : ℕ → ℕ
    rank⁺ = rank⁺·S rows t kinds kinds' b b' good read_same longer kind-same new_var new_in

    rank_old : (x : ℕ) → x < length rows → rank⁺ x ≡ good.rank x
    rank_old x h = rw (ltb_yes x (length rows) h)

    rank_new : (x : ℕ) → length rows ≤ x → rank⁺ x ≡ suc (length rows)
    rank_new x h = rw (ltb_no x (length rows) h)

    rank_top : (x : ℕ) → rank⁺ x ≤ suc (length rows)
    rank_top x = by (ltb x (length rows))
      where
        by : (c : Bool) → cond c (good.rank x) (suc (length rows)) ≤ suc (length rows)
        by true = omega (arith, good.top x)
        by false = omega arith

    -- the bindings stay sound
    pub good_on : Good (rows ++ t ∷ []) kinds' b'
    good_on =
        record {
          rank = rank⁺;
          falls = λ x. next_cases (λ (y : ℕ). rank⁺ y < rank⁺ x) x
              (λ h. all_map2 (λ (y : ℕ). good.rank y < good.rank x) (λ (y : ℕ). y < length rows) (λ (y : ℕ). rank⁺ y < rank⁺ x) (next rows b x) (λ y i j. omega (arith, rank_old y j, rank_old x h)) (good.falls x) (good.within x))
              (λ e. all_map (λ (y : ℕ). y < length rows) (λ (y : ℕ). rank⁺ y < rank⁺ x) (succs b t (as_var t)) (λ y j. omega (arith, rank_old y j, rank_new x (omega arith), good.top y)) new_in);
          top = λ x. simp length-append (omega (arith, rank_top x));
          within = λ x. next_cases (λ (y : ℕ). y < length (rows ++ t ∷ [])) x
              (λ h. all_map (λ (y : ℕ). y < length rows) (λ (y : ℕ). y < length (rows ++ t ∷ [])) (next rows b x) (λ y j. simp length-append (omega arith)) (good.within x))
              (λ e. all_map (λ (y : ℕ). y < length rows) (λ (y : ℕ). y < length (rows ++ t ∷ [])) (succs b t (as_var t)) (λ y j. simp length-append (omega arith)) new_in);
          meant = λ x v. row_cases (λ (z : ℕ) (s : Shape). as_var s ≡ some v → v < length b') x (λ h p. omega (arith, good.meant x v p)) (λ e p. new_var v p) (λ h p. clash (cc));
          held = λ v r e. simp length-append (omega (arith, good.held v r (sym (read_same v) ∙ e)));
          kept = kept';
        }
      where
        kept' : (v r : ℕ) → bound b' v ≡ some r → fits kinds' (kind kinds' v) (row (rows ++ t ∷ []) r) ≡ true
        kept' v r e =
            let q : bound b v ≡ some r = sym (read_same v) ∙ e in
            rw (row_old r (good.held v r q), kind-same v (bound_in_lem b v r q), fits_same kinds kinds' (kind kinds v) (row rows r) (λ u p. kind-same u (good.meant r u p))) (good.kept v r q)

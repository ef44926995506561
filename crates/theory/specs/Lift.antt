-- The tables grow by one row, perhaps with a variable: what was said of the old rows stands. Assumes rows made of lower rows, and sound bindings.
use Rattle.std.specs.Prelude.{◌≡◌, ◌⊎◌, List, [], ◌∷◌, ◌++◌, cond, ℕ, suc, zero, ◌≤◌, ◌<◌, length, ltb}
use Rattle.std.proofs.Common.{ap, sym, ◌∙◌, inl, inr, arith, length-append}
use Rattle.std.proofs.Math.Option.{Option, some}
use Rattle.std.proofs.Math.ListN.{get_or-append, get_or-eq_default}
use Rattle.std.proofs.Math.Seq.{get_or-append_seam}
use Rattle.theory.specs.Rules.{nil, Shape, base, arr, Kind, row, kind, kids, as_var, bound, succs}
use Rattle.theory.specs.Program.{Equation}
use Rattle.theory.specs.Basics.{All, all_map, all_map2, lt_case}
use Rattle.theory.specs.Ways.{Way, Kinded, den_of, Plain, plain_base, plain_var, plain_array, den, Agrees, PlainBound, Inside, Sided, Meets, NoWay}
use Rattle.theory.specs.Graph.{Lower, Good}
use Rattle.theory.specs.Meaning.{den_of_ext, den_eq}

-- ── the old rows mean what they meant ──

module _ (rows rows' : List Shape) (lower : Lower rows) (lower' : Lower rows') (keep : (x : ℕ) → x < length rows → row rows' x ≡ row rows x) where
  den_grow : (w : Way) (n x : ℕ) → x < n → x < length rows → den rows' w x ≡ den rows w x
  den_grow w zero x h l = absurd (omega arith)
  den_grow w (suc n) x h l =
      den_eq rows' lower' w x ∙ ap (den_of w (den rows' w)) (keep x l)
      ∙ den_of_ext w (den rows' w) (den rows w) (row rows x) (all_map (λ (y : ℕ). y < x) (λ (y : ℕ). den rows' w y ≡ den rows w y) (kids (row rows x)) (λ y k. den_grow w n y (omega arith) (omega arith)) (lower x))
      ∙ sym (den_eq rows lower w x)

  den_same : (w : Way) (x : ℕ) → x < length rows → den rows' w x ≡ den rows w x
  den_same w x l = den_grow w (suc x) x (omega arith) l

  element_low : (x e : ℕ) → row rows x ≡ arr e → e < x
  element_low x e p = let h = lower x in let g = rw p at h in g.0

  plain_back : (x : ℕ) → Plain rows' x → x < length rows → Plain rows x
  plain_back x (plain_base c p) l = plain_base c (sym (keep x l) ∙ p)
  plain_back x (plain_var v p) l = plain_var v (sym (keep x l) ∙ p)
  plain_back x (plain_array e p h) l = let q : row rows x ≡ arr e = sym (keep x l) ∙ p in plain_array e q (plain_back e h (omega (arith, element_low x e q)))

  plain_on : (x : ℕ) → Plain rows x → x < length rows → Plain rows' x
  plain_on x (plain_base c p) l = plain_base c (keep x l ∙ p)
  plain_on x (plain_var v p) l = plain_var v (keep x l ∙ p)
  plain_on x (plain_array e p h) l = plain_array e (keep x l ∙ p) (plain_on e h (omega (arith, element_low x e p)))

  -- sides plain in the larger table are plain in the smaller one
  pub sided_back : (q : Equation) → Inside rows q → Sided rows' q → Sided rows q
  sided_back q i (inl e) = inl (sym (keep q.got i.1) ∙ e)
  sided_back q i (inr p) = inr (plain_back q.expected p.0 i.0, plain_back q.got p.1 i.1)

  -- an equation met in the larger table is met in the smaller one
  pub meets_back : (w : Way) (q : Equation) → Inside rows q → Meets rows' w q → Meets rows w q
  meets_back w q i (inl e) = inl (sym (keep q.got i.1) ∙ e)
  meets_back w q i (inr p) = inr (sym (den_same w q.expected i.0) ∙ p ∙ den_same w q.got i.1)

  -- an equation met in the smaller table is met in the larger one
  pub meets_on : (w : Way) (q : Equation) → Inside rows q → Meets rows w q → Meets rows' w q
  meets_on w q i (inl e) = inl (keep q.got i.1 ∙ e)
  meets_on w q i (inr p) = inr (den_same w q.expected i.0 ∙ p ∙ sym (den_same w q.got i.1))

  module _ (kinds kinds' : List Kind) (kinded : (w : Way) → Kinded kinds' w → Kinded kinds w) where
    -- equations that no way meets stay so
    pub noway_on : (l : List Equation) → All (Inside rows) l → NoWay rows kinds l → NoWay rows' kinds' l
    noway_on [] i h = tt
    noway_on (q ∷ l) i h = (noway_on l i.1 h.0, λ f o s w k m. h.1 f o (all_map2 (Inside rows) (Sided rows') (Sided rows) (q ∷ l) sided_back i s) w (kinded w k) (all_map2 (Inside rows) (Meets rows' w) (Meets rows w) (q ∷ l) (meets_back w) i m))

  -- the bindings read as before
  module _ (b b' : List (Option ℕ)) (read_same : (v : ℕ) → bound b' v ≡ bound b v) (held : (v r : ℕ) → bound b v ≡ some r → r < length rows) where
    -- a way that agrees in the larger table agrees in the smaller one
    pub agrees_back : (w : Way) → Agrees rows' b' w → Agrees rows b w
    agrees_back w a v r e = a v r (read_same v ∙ e) ∙ den_same w r (held v r e)

    -- a way that agrees in the smaller table agrees in the larger one
    pub agrees_on : (w : Way) → Agrees rows b w → Agrees rows' b' w
    agrees_on w a v r e = let q : bound b v ≡ some r = sym (read_same v) ∙ e in a v r q ∙ sym (den_same w r (held v r q))

    -- plain bindings stay plain
    pub plains_on : PlainBound rows b → PlainBound rows' b'
    plains_on p v r e = let q : bound b v ≡ some r = sym (read_same v) ∙ e in plain_on r (p v r q) (held v r q)

-- ── a row is appended ──

module _ (rows : List Shape) (t : Shape) where
  -- the old rows stand
  pub row_old : (x : ℕ) → x < length rows → row (rows ++ t ∷ []) x ≡ row rows x
  row_old x h = get_or-append rows (t ∷ []) (base nil) x h

  -- the new row stands at the end
  pub row_new : (x : ℕ) → x ≡ length rows → row (rows ++ t ∷ []) x ≡ t
  row_new x e = rw e (get_or-append_seam rows t [] (base nil))

  row-past : (x : ℕ) → length rows < x → row (rows ++ t ∷ []) x ≡ base nil
  row-past x h = get_or-eq_default (rows ++ t ∷ []) (base nil) (simp length-append (omega arith))

  -- an old row, the new one, or none
  pub row_cases : (P : ℕ → Shape → Type 0) (x : ℕ) → (x < length rows → P x (row rows x)) → (x ≡ length rows → P x t) → (length rows < x → P x (base nil)) → P x (row (rows ++ t ∷ []) x)
  row_cases P x f g h = by (lt_case x (length rows))
    where
      by : (x < length rows) ⊎ ((x ≡ length rows) ⊎ (length rows < x)) → P x (row (rows ++ t ∷ []) x)
      by (inl l) = rw (row_old x l) (f l)
      by (inr (inl e)) = rw (row_new x e) (g e)
      by (inr (inr l)) = rw (row-past x l) (h l)

  -- rows are still made of lower rows
  pub lower_on : Lower rows → All (λ (y : ℕ). y < length rows) (kids t) → Lower (rows ++ t ∷ [])
  lower_on lower new_low x = row_cases (λ (z : ℕ) (s : Shape). All (λ (y : ℕ). y < z) (kids s)) x (λ h. lower x) (λ e. rw (← e) at new_low) (λ h. tt)

  module _ (kinds kinds' : List Kind) (b b' : List (Option ℕ)) (good : Good rows kinds b) (read_same : (v : ℕ) → bound b' v ≡ bound b v) (longer : length b ≤ length b')
      (kind-same : (v : ℕ) → v < length b → kind kinds' v ≡ kind kinds v) (new_var : (v : ℕ) → as_var t ≡ some v → v < length b') (new_in : All (λ (y : ℕ). y < length rows) (succs b t (as_var t))) where
    -- the new row ranks above all others
    abbrev pub rank⁺ : ℕ → ℕ
    rank⁺ x = cond (ltb x (length rows)) (good.rank x) (suc (length rows))

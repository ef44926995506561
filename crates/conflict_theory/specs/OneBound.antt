-- A plain equation that goes through binds at most one variable, an open one to which a side leads through arrays and bindings; opening that one again takes the equation
-- back. Assumes plain sides (`PlainPair`), plain bindings (`PlainBinds`) and no mark.
use Rattle.std.specs.Prelude.{◌≡◌, ◌⊎◌, Bool, cond, length, set}
use Rattle.std.proofs.Math.Path.{refl}
use Rattle.std.proofs.Common.{sym, ap, ◌∙◌, get_or-set_other}
use Rattle.std.proofs.Math.Logic.{inl, inr}
use mathlib.Core.List.{List, [], ◌∷◌, map}
use Rattle.std.proofs.Math.Option.{Option, none, some}
use Rattle.std.proofs.Math.Bool.{true, false}
use Prim.Native.Nat.{ℕ, suc, zero}
use Rattle.std.proofs.Math.Decide.{ℕ_discrete}
use Rattle.theory.specs.Rules.{Base, Shape, base, var, arr, ref, fn, fun, lam, err, div, Kind, Out, success, mismatch, refused12, refused13, dry, Mem, Pair, Res, go, at, as_var, row, kind, fits, bound, iter, split, at_var, act, choose, exchanged}
use Rattle.theory.specs.Rules.{Found, free, ring, inside, lost, seek, pass, bind, is_same, settle, chase, other, suits, move, unify, onward}
use Rattle.theory.specs.Program.{fuel, solve}
use Rattle.theory.specs.Basics.{All, all_map, clash}
use Rattle.theory.specs.Choice.{choose_base_var, choose_base_array, choose_var_base, choose_array_base, choose_diverges, act_of_bases, ByEquality, act_bases}
use Rattle.theory.specs.Ways.{Plain, plain_base, plain_var, plain_array}
use Rattle.theory.specs.Solve.{solves}
use Rattle.conflict_theory.specs.Marks.{Unmarked, solve_calm}
use Rattle.conflict_theory.specs.Test.{is_success, blank, unified, ok, replicate_at, mapped, success_yes, blank_unmarked}
use Rattle.conflict_theory.specs.Worked.{PlainPair}
use Rattle.conflict_theory.specs.Code.{added}

-- ── definitions ──

module _ (rows : List Shape) (b : List (Option ℕ)) where
  -- a variable that is open is the end, a bound one leads to its binding
  abbrev pub end_var : (ℕ → Option ℕ) → ℕ → Option ℕ → Option ℕ
  end_var f v none = some v
  end_var f v (some r) = f r

  -- an array leads to its element
  abbrev pub end_shape : (ℕ → Option ℕ) → Shape → Option ℕ
  end_shape f (base c) = none
  end_shape f (var v) = end_var f v (bound b v)
  end_shape f (arr e) = f e
  end_shape f (ref e) = none
  end_shape f (fn d) = none
  end_shape f (fun s o i) = none
  end_shape f (lam n o i) = none
  end_shape f err = none
  end_shape f div = none

  -- the open variable to which the row x leads through arrays and bindings, in fewer than n steps
  unfoldable pub open_end : ℕ → ℕ → Option ℕ
  open_end n x = iter (λ f y. end_shape f (row rows y)) none n x

-- a variable is opened again
abbrev pub opened : Option ℕ → Mem → Mem
opened none m = m
opened (some v) m = record { binds = set m.binds v none; marks = m.marks }

-- there is a binding
abbrev pub is_some : Option ℕ → Bool
is_some none = false
is_some (some r) = true

-- a variable, if there is one, is bound
abbrev pub is_bound : List (Option ℕ) → Option ℕ → Bool
is_bound b none = false
is_bound b (some v) = is_some (bound b v)

-- of the open ends of two sides before an equation, the one that it bound, if it bound one: the expected side's if that is bound now, else the got side's
abbrev pub bound_one : List (Option ℕ) → Option ℕ → Option ℕ → Option ℕ
bound_one b e g = cond (is_bound b e) e g

-- ── one binding more or less ──

-- an open variable opened
pub set_open : (b : List (Option ℕ)) (v : ℕ) → bound b v ≡ none → set b v none ≡ b
set_open [] v e = refl
set_open (o ∷ b) zero e = rw e refl
set_open (o ∷ b) (suc v) e = ap (λ l. o ∷ l) (set_open b v e)

set_back : (b : List (Option ℕ)) (v z : ℕ) → bound b v ≡ none → set (set b v (some z)) v none ≡ b
set_back [] v z e = refl
set_back (o ∷ b) zero z e = rw e refl
set_back (o ∷ b) (suc v) z e = ap (λ l. o ∷ l) (set_back b v z e)

set_look : (b : List (Option ℕ)) (v z : ℕ) → (bound (set b v (some z)) v ≡ some z) ⊎ (set b v (some z) ≡ b)
set_look [] v z = inr refl
set_look (o ∷ b) zero z = inl refl
set_look (o ∷ b) (suc v) z = by (set_look b v z)
  where
    by : (bound (set b v (some z)) v ≡ some z) ⊎ (set b v (some z) ≡ b) → (bound (set (o ∷ b) (suc v) (some z)) (suc v) ≡ some z) ⊎ (set (o ∷ b) (suc v) (some z) ≡ o ∷ b)
    by (inl e) = inl e
    by (inr e) = inr (ap (λ l. o ∷ l) e)

opened_none : (m : Mem) (v : ℕ) → bound m.binds v ≡ none → opened (some v) m ≡ m
opened_none m v e = rw (set_open m.binds v e) refl

opened_bind : (m : Mem) (v z : ℕ) → bound m.binds v ≡ none → opened (some v) (bind m v z) ≡ m
unfolding bind
opened_bind m v z e = rw (set_back m.binds v z e) refl

-- ── ends ──

module _ (rows : List Shape) (b : List (Option ℕ)) where
  -- one step more finds the same
  end_more : (n x v : ℕ) → open_end rows b n x ≡ some v → open_end rows b (suc n) x ≡ some v
  unfolding open_end
  end_more zero x v e = clash (cc)
  end_more (suc n) x v e = by (row rows x) (λ y. end_more n y v) e
    where
      at_var_lem : (u : ℕ) (o : Option ℕ) → ((y : ℕ) → open_end rows b n y ≡ some v → open_end rows b (suc n) y ≡ some v) → end_var rows b (open_end rows b n) u o ≡ some v → end_var rows b (open_end rows b (suc n)) u o ≡ some v
      at_var_lem u none f h = h
      at_var_lem u (some r) f h = f r h

      by : (s : Shape) → ((y : ℕ) → open_end rows b n y ≡ some v → open_end rows b (suc n) y ≡ some v) → end_shape rows b (open_end rows b n) s ≡ some v → end_shape rows b (open_end rows b (suc n)) s ≡ some v
      by (base c) f h = clash (cc)
      by (var u) f h = at_var_lem u (bound b u) f h
      by (arr y) f h = f y h
      by (ref y) f h = clash (cc)
      by (fn d) f h = clash (cc)
      by (fun s o i) f h = clash (cc)
      by (lam k o i) f h = clash (cc)
      by err f h = clash (cc)
      by div f h = clash (cc)

  -- an end is open
  pub end_open : (n x v : ℕ) → open_end rows b n x ≡ some v → bound b v ≡ none
  unfolding open_end
  end_open zero x v e = clash (cc)
  end_open (suc n) x v e = by (row rows x) (λ y. end_open n y v) e
    where
      at_var_lem : (u : ℕ) (o : Option ℕ) → bound b u ≡ o → ((y : ℕ) → open_end rows b n y ≡ some v → bound b v ≡ none) → end_var rows b (open_end rows b n) u o ≡ some v → bound b v ≡ none
      at_var_lem u none p f h = let q : u ≡ v = cc in rw (← q) p
      at_var_lem u (some r) p f h = f r h

      by : (s : Shape) → ((y : ℕ) → open_end rows b n y ≡ some v → bound b v ≡ none) → end_shape rows b (open_end rows b n) s ≡ some v → bound b v ≡ none
      by (base c) f h = clash (cc)
      by (var u) f h = at_var_lem u (bound b u) refl f h
      by (arr y) f h = f y h
      by (ref y) f h = clash (cc)
      by (fn d) f h = clash (cc)
      by (fun s o i) f h = clash (cc)
      by (lam k o i) f h = clash (cc)
      by err f h = clash (cc)
      by div f h = clash (cc)

  end_here : (n x v : ℕ) → row rows x ≡ var v → bound b v ≡ none → open_end rows b (suc n) x ≡ some v
  unfolding open_end
  end_here n x v e p = rw (e, p) refl

  end_bound : (n x v r w : ℕ) → row rows x ≡ var v → bound b v ≡ some r → open_end rows b n r ≡ some w → open_end rows b (suc n) x ≡ some w
  unfolding open_end
  end_bound n x v r w e p h = rw (e, p) h

  end_element : (n x y w : ℕ) → row rows x ≡ arr y → open_end rows b n y ≡ some w → open_end rows b (suc n) x ≡ some w
  unfolding open_end
  end_element n x y w e h = rw e h

-- ── one equation ──

module _ (rows : List Shape) (kinds : List Kind) where
  -- what is bound is plain
  abbrev pub PlainBinds : List (Option ℕ) → Type 0
  PlainBinds b = (v r : ℕ) → bound b v ≡ some r → Plain rows r

  -- a variable that is the open end of one of two rows
  abbrev EndOf : ℕ → List (Option ℕ) → ℕ → ℕ → ℕ → Type 0
  EndOf n b x y v = (open_end rows b n x ≡ some v) ⊎ (open_end rows b n y ≡ some v)

  -- from m to m' nothing was bound, or one variable: an open end of x or y, to a plain row
  abbrev pub OneBound : ℕ → Mem → ℕ → ℕ → Mem → Type 0
  OneBound n m x y m' = (m' ≡ m) ⊎ ((v z : ℕ) × (bound m.binds v ≡ none) × Plain rows z × EndOf n m.binds x y v × (m' ≡ bind m v z))

  -- where a result is success
  abbrev Binds : ℕ → Mem → ℕ → ℕ → Res → Type 0
  Binds n m x y r = r.0 ≡ success → OneBound n m x y r.1

  one_swap : (n : ℕ) (m : Mem) (x y : ℕ) (m' : Mem) → OneBound n m x y m' → OneBound n m y x m'
  one_swap n m x y m' (inl e) = inl e
  one_swap n m x y m' (inr (v, z, b, p, l, q)) = inr (v, z, b, p, by l, q)
    where
      by : EndOf n m.binds x y v → EndOf n m.binds y x v
      by (inl h) = inr h
      by (inr h) = inl h

  -- ends of other rows that are theirs one step further
  one_on : (n k : ℕ) (m : Mem) (x y a b : ℕ) (m' : Mem) → ((v : ℕ) → open_end rows m.binds n a ≡ some v → open_end rows m.binds k x ≡ some v) → ((v : ℕ) → open_end rows m.binds n b ≡ some v → open_end rows m.binds k y ≡ some v)
      → OneBound n m a b m' → OneBound k m x y m'
  one_on n k m x y a b m' f g (inl e) = inl e
  one_on n k m x y a b m' f g (inr (v, z, o, p, l, q)) = inr (v, z, o, p, by l, q)
    where
      by : EndOf n m.binds a b v → EndOf k m.binds x y v
      by (inl h) = inl (f v h)
      by (inr h) = inr (g v h)

  -- without a mark nothing is passed
  pub pass_none : (m : Mem) (v : ℕ) (s : Shape) → Unmarked m → pass m v s ≡ m
  unfolding pass
  pass_none m v s u = rw (u v) refl

  -- what plain rows ask for
  move_bases : (x y : ℕ) (b c : Base) → row rows x ≡ base b → row rows y ≡ base c → move rows kinds x y ≡ act_of_bases x y b c
  move_bases x y b c e d = rw (e, d) refl

  -- a base type expected, a variable got
  pub move_base_var : (x y v : ℕ) (b : Base) → row rows x ≡ base b → row rows y ≡ var v → move rows kinds x y ≡ at v x
  unfolding act at_var
  move_base_var x y v b e d = rw (e, d, choose_base_var b) refl

  move_base_array : (x y z : ℕ) (b : Base) → row rows x ≡ base b → row rows y ≡ arr z → move rows kinds x y ≡ go [] mismatch
  unfolding act
  move_base_array x y z b e d = rw (e, d, choose_base_array b) refl

  -- a variable expected, a base type got
  pub move_var_base : (x y v : ℕ) (b : Base) → row rows x ≡ var v → row rows y ≡ base b → move rows kinds x y ≡ at v y
  unfolding act at_var
  move_var_base x y v b e d = rw (e, d, choose_var_base b) refl

  move_vars : (x y v u : ℕ) → row rows x ≡ var v → row rows y ≡ var u → (move rows kinds x y ≡ at v y) ⊎ (move rows kinds x y ≡ at u x)
  unfolding choose act at_var
  move_vars x y v u e d = by (exchanged kinds (some v) (some u)) refl
    where
      by : (c : Bool) → exchanged kinds (some v) (some u) ≡ c → (move rows kinds x y ≡ at v y) ⊎ (move rows kinds x y ≡ at u x)
      by false p = inl (rw (e, d, p) refl)
      by true p = inr (rw (e, d, p) refl)

  move_var_array : (x y v z : ℕ) → row rows x ≡ var v → row rows y ≡ arr z → move rows kinds x y ≡ at v y
  unfolding choose act at_var
  move_var_array x y v z e d = rw (e, d) refl

  move_array_base : (x y z : ℕ) (b : Base) → row rows x ≡ arr z → row rows y ≡ base b → move rows kinds x y ≡ go [] mismatch
  unfolding act
  move_array_base x y z b e d = rw (e, d, choose_array_base b) refl

  move_array_var : (x y z v : ℕ) → row rows x ≡ arr z → row rows y ≡ var v → move rows kinds x y ≡ at v x
  unfolding choose act at_var
  move_array_var x y z v e d = rw (e, d) refl

  move_arrays : (x y z w : ℕ) → row rows x ≡ arr z → row rows y ≡ arr w → move rows kinds x y ≡ go ((z, w) ∷ []) success
  unfolding choose act split
  move_arrays x y z w e d = rw (e, d) refl

  -- Diverges got
  pub move_diverges : (x y : ℕ) → row rows y ≡ div → move rows kinds x y ≡ go [] success
  unfolding act
  move_diverges x y d = rw (d, choose_diverges (row rows x)) refl

  module _ (n : ℕ) (ih : (m : Mem) (x y : ℕ) → PlainBinds m.binds → Unmarked m → Plain rows x → Plain rows y → Binds n m x y (unify rows kinds n m x y)) (m : Mem) (plain : PlainBinds m.binds) (u : Unmarked m) where
    -- a variable, of the row x, against a plain row
    module _ (v x z : ℕ) (e : row rows x ≡ var v) (pz : Plain rows z) where
      settle_one : (f : Found) → bound m.binds v ≡ none → Binds (suc n) m x z (settle m v z f)
      settle_one free b s = inr (v, z, b, pz, inl (end_here rows m.binds n x v e b), refl)
      settle_one ring b s = inl refl
      settle_one inside b s = clash (cc)
      settle_one lost b s = clash (cc)

      chase_one : (o : Option ℕ) → bound m.binds v ≡ o → Binds (suc n) m x z (chase rows kinds (unify rows kinds n) m v z o)
      chase_one none b s = settle_one (seek rows m.binds v (suc (length rows)) z) b s
      chase_one (some r) b s =
          one_on n (suc n) m x z r z (unify rows kinds n m r z).1 (λ w. end_bound rows m.binds n x v r w e b) (λ w. end_more rows m.binds n z w)
          (ih m r z plain u (plain v r b) pz s)

      other_one : (c : Bool) → Binds (suc n) m x z (other rows kinds (unify rows kinds n) m v z c)
      other_one true = λ s. inl refl
      other_one false = rw (u v, pass_none m v (row rows z) u) (chase_one (bound m.binds v) refl)

      suits_one : (c : Bool) → Binds (suc n) m x z (suits rows kinds (unify rows kinds n) m v z c)
      suits_one true = other_one (is_same v (as_var (row rows z)))
      suits_one false = λ s. clash (cc)

    -- what is asked for
    module _ (x y : ℕ) where
      asked_left : (v : ℕ) → row rows x ≡ var v → Plain rows y → move rows kinds x y ≡ at v y → Binds (suc n) m x y (unify rows kinds (suc n) m x y)
      unfolding unify
      asked_left v e p q = rw q (suits_one v x y e p (fits kinds (kind kinds v) (row rows y)))

      asked_right : (v : ℕ) → row rows y ≡ var v → Plain rows x → move rows kinds x y ≡ at v x → Binds (suc n) m x y (unify rows kinds (suc n) m x y)
      unfolding unify
      asked_right v e p q = rw q (λ s. one_swap (suc n) m y x _ (suits_one v y x e p (fits kinds (kind kinds v) (row rows x)) s))

      asked_no : move rows kinds x y ≡ go [] mismatch → Binds (suc n) m x y (unify rows kinds (suc n) m x y)
      unfolding unify
      asked_no q = rw q (λ s. clash (cc))

      asked_yes : move rows kinds x y ≡ go [] success → Binds (suc n) m x y (unify rows kinds (suc n) m x y)
      unfolding unify
      asked_yes q = rw q (λ s. inl refl)

      asked_arrays : (z w : ℕ) → row rows x ≡ arr z → row rows y ≡ arr w → Plain rows z → Plain rows w → Binds (suc n) m x y (unify rows kinds (suc n) m x y)
      unfolding unify
      asked_arrays z w e d p q = rw (move_arrays x y z w e d) (by (unify rows kinds n m z w).0 (unify rows kinds n m z w).1 (λ s. one_on n (suc n) m x y z w (unify rows kinds n m z w).1 (λ v. end_element rows m.binds n x z v e) (λ v. end_element rows m.binds n y w v d) (ih m z w plain u p q s)))
        where
          by : (o : Out) (m' : Mem) → (o ≡ success → OneBound (suc n) m x y m') → Binds (suc n) m x y (onward o m' (λ m''. (success, m'')))
          by success m' f s = f refl
          by mismatch m' f s = clash (cc)
          by refused12 m' f s = clash (cc)
          by refused13 m' f s = clash (cc)
          by dry m' f s = clash (cc)

      asked : Plain rows x → Plain rows y → Binds (suc n) m x y (unify rows kinds (suc n) m x y)
      asked (plain_base b e) (plain_base c d) = by (act_bases x y b c)
        where
          by : ByEquality b c (act_of_bases x y b c) → Binds (suc n) m x y (unify rows kinds (suc n) m x y)
          by (inl h) = asked_yes (move_bases x y b c e d ∙ h.1)
          by (inr h) = asked_no (move_bases x y b c e d ∙ h.1)
      asked (plain_base b e) (plain_var v d) = asked_right v d (plain_base b e) (move_base_var x y v b e d)
      asked (plain_base b e) (plain_array z d p) = asked_no (move_base_array x y z b e d)
      asked (plain_var v e) (plain_base b d) = asked_left v e (plain_base b d) (move_var_base x y v b e d)
      asked (plain_var v e) (plain_var w d) = by (move_vars x y v w e d)
        where
          by : (move rows kinds x y ≡ at v y) ⊎ (move rows kinds x y ≡ at w x) → Binds (suc n) m x y (unify rows kinds (suc n) m x y)
          by (inl q) = asked_left v e (plain_var w d) q
          by (inr q) = asked_right w d (plain_var v e) q
      asked (plain_var v e) (plain_array z d p) = asked_left v e (plain_array z d p) (move_var_array x y v z e d)
      asked (plain_array z e p) (plain_base b d) = asked_no (move_array_base x y z b e d)
      asked (plain_array z e p) (plain_var v d) = asked_right v d (plain_array z e p) (move_array_var x y z v e d)
      asked (plain_array z e p) (plain_array w d q) = asked_arrays z w e d p q

  unify_one : (n : ℕ) (m : Mem) (x y : ℕ) → PlainBinds m.binds → Unmarked m → Plain rows x → Plain rows y → Binds n m x y (unify rows kinds n m x y)
  unfolding unify
  unify_one zero m x y b u p q = λ s. clash (cc)
  unify_one (suc n) m x y b u p q = asked n (unify_one n) m b u x y p q

  -- a plain equation that goes through binds at most one variable: the open end of one of its sides
  pub binds_one : (m : Mem) (p : Pair) → PlainBinds m.binds → Unmarked m → PlainPair rows p → (solve rows kinds m p.0 p.1).0 ≡ success → OneBound (fuel rows m) m p.0 p.1 (solve rows kinds m p.0 p.1).1
  unfolding solve unify
  binds_one m p b u (q, inl g) = unify_one (fuel rows m) m p.0 p.1 b u q g
  binds_one m p b u (q, inr d) = rw (move_diverges p.0 p.1 d) (λ s. inl refl)

  -- ── taken back ──

  not_bound : (n : ℕ) (b : List (Option ℕ)) (x : ℕ) (o : Option ℕ) → open_end rows b n x ≡ o → is_bound b o ≡ false
  not_bound n b x none e = refl
  not_bound n b x (some v) e = rw (end_open rows b n x v e) refl

  opened_end : (n : ℕ) (m : Mem) (x : ℕ) (o : Option ℕ) → open_end rows m.binds n x ≡ o → opened o m ≡ m
  opened_end n m x none e = refl
  opened_end n m x (some v) e = opened_none m v (end_open rows m.binds n x v e)

  module _ (n : ℕ) (m : Mem) (x y : ℕ) where
    -- the open ends before
    abbrev ends : List (Option ℕ) → Option ℕ
    ends b = bound_one b (open_end rows m.binds n x) (open_end rows m.binds n y)

    nothing_back : opened (ends m.binds) m ≡ m
    nothing_back = rw (not_bound n m.binds x (open_end rows m.binds n x) refl) (opened_end n m y (open_end rows m.binds n y) refl)

    bound_back : (v z : ℕ) → bound m.binds v ≡ none → bound (set m.binds v (some z)) v ≡ some z → EndOf n m.binds x y v → opened (ends (set m.binds v (some z))) (bind m v z) ≡ m
    bound_back v z b k (inl e) = rw (e, k) (opened_bind m v z b)
    bound_back v z b k (inr e) = by (open_end rows m.binds n x) refl
      where
        by : (o : Option ℕ) → open_end rows m.binds n x ≡ o → opened (ends (set m.binds v (some z))) (bind m v z) ≡ m
        by none p = rw (p, e) (opened_bind m v z b)
        by (some w) p = same (ℕ_discrete w v)
          where
            same : Dec (w ≡ v) → opened (ends (set m.binds v (some z))) (bind m v z) ≡ m
            same (yes q) = rw (p, q, k) (opened_bind m v z b)
            same (no q) = rw (p, e, get_or-set_other m.binds v w (some z) none q, end_open rows m.binds n x w p) (opened_bind m v z b)

    -- opening the one that was bound takes it back
    one_back : (m' : Mem) → OneBound n m x y m' → opened (ends m'.binds) m' ≡ m
    unfolding bind
    one_back m' (inl e) = rw e nothing_back
    one_back m' (inr (v, z, b, p, l, q)) = rw q (by (set_look m.binds v z))
      where
        by : (bound (set m.binds v (some z)) v ≡ some z) ⊎ (set m.binds v (some z) ≡ m.binds) → opened (ends (set m.binds v (some z))) (bind m v z) ≡ m
        by (inl k) = bound_back v z b k l
        by (inr k) = rw k nothing_back

  -- ── one after another ──

  one_plain : (n : ℕ) (m : Mem) (x y : ℕ) (m' : Mem) → PlainBinds m.binds → OneBound n m x y m' → PlainBinds m'.binds
  unfolding bind
  one_plain n m x y m' h (inl e) = rw e h
  one_plain n m x y m' h (inr (v, z, b, p, l, q)) = rw q (λ w r e. by w r e (ℕ_discrete w v) (set_look m.binds v z))
    where
      by : (w r : ℕ) → bound (set m.binds v (some z)) w ≡ some r → Dec (w ≡ v) → (bound (set m.binds v (some z)) v ≡ some z) ⊎ (set m.binds v (some z) ≡ m.binds) → Plain rows r
      by w r e d (inr k) = h w r (rw k at e)
      by w r e (yes q) (inl k) = let g : r ≡ z = cc in rw g p
      by w r e (no q) (inl k) = h w r (sym (get_or-set_other m.binds v w (some z) none q) ∙ e)

  -- after plain equations that go through, from plain bindings and no mark, bindings are plain and there is no mark
  pub solves_plain : (ps : List Pair) (m : Mem) → PlainBinds m.binds → Unmarked m → All (PlainPair rows) ps → (solves rows kinds ps m).0 ≡ success → PlainBinds (solves rows kinds ps m).1.binds × Unmarked (solves rows kinds ps m).1
  unfolding solves
  solves_plain [] m b u h s = (b, u)
  solves_plain (p ∷ ps) m b u h s = by (solve rows kinds m p.0 p.1).0 (solve rows kinds m p.0 p.1).1 (λ e. one_plain (fuel rows m) m p.0 p.1 _ b (binds_one m p b u h.0 e)) (solve_calm rows kinds m p.0 p.1 u).1 (λ m' f c. solves_plain ps m' f c h.1) s
    where
      by : (o : Out) (m' : Mem) → (o ≡ success → PlainBinds m'.binds) → Unmarked m' → ((m' : Mem) → PlainBinds m'.binds → Unmarked m' → (solves rows kinds ps m').0 ≡ success → PlainBinds (solves rows kinds ps m').1.binds × Unmarked (solves rows kinds ps m').1) → (onward o m' (λ m''. solves rows kinds ps m'')).0 ≡ success → PlainBinds (onward o m' (λ m''. solves rows kinds ps m'')).1.binds × Unmarked (onward o m' (λ m''. solves rows kinds ps m'')).1
      by success m' f c g s = g m' (f refl) c s
      by mismatch m' f c g s = clash (cc)
      by refused12 m' f c g s = clash (cc)
      by refused13 m' f c g s = clash (cc)
      by dry m' f c g s = clash (cc)

  module _ (at : ℕ → Pair) where
    -- the variable that the equation i bound on top of m, if it bound one
    unfoldable pub bound_by : Mem → ℕ → Option ℕ
    bound_by m i = bound_one (added rows kinds at m i).1.binds (open_end rows m.binds (fuel rows m) (at i).0) (open_end rows m.binds (fuel rows m) (at i).1)

  module _ (at : ℕ → Pair) (R : ℕ → Type 0) (plain : (i : ℕ) → R i → PlainPair rows (at i)) where
    blank_plain : (n : ℕ) → PlainBinds (blank n).binds
    unfolding blank
    blank_plain n v r e = let q = replicate_at {A = Option ℕ} n none v in clash (cc)

    -- of equations unified from nothing bound, if they pass the test
    pub unified_plain : (l : List ℕ) → All R l → ok rows kinds at l ≡ true → PlainBinds (unified rows kinds at l).1.binds × Unmarked (unified rows kinds at l).1
    unfolding ok unified
    unified_plain l h e = solves_plain (map at l) (blank (length kinds)) (blank_plain (length kinds)) (blank_unmarked (length kinds)) ((mapped (PlainPair rows) at l).1 (all_map R (λ i. PlainPair rows (at i)) l plain h)) (success_yes (solves rows kinds (map at l) (blank (length kinds))).0 e)

    -- opening it again takes the equation back
    pub added_back : (m : Mem) (i : ℕ) → PlainBinds m.binds → Unmarked m → R i → is_success (added rows kinds at m i).0 ≡ true → opened (bound_by at m i) (added rows kinds at m i).1 ≡ m
    unfolding bound_by
    added_back m i b u h e = one_back (fuel rows m) m (at i).0 (at i).1 (added rows kinds at m i).1 (binds_one m (at i) b u (plain i h) (success_yes (added rows kinds at m i).0 e))

-- How deep unification goes into the parts of functions against lambdas: no deeper than functions stand in one another. Assumes function
-- types made of rows without variables and lambdas (`Functions`), as declared ones are; nothing of bindings and lambdas.
use Rattle.std.specs.Prelude.{◌≡◌, ◌⊎◌, List, [], ◌∷◌, Bool, cond, not, ◌&&◌, ◌||◌, length, take, eqb}
use Rattle.std.proofs.Math.Path.{refl}
use Rattle.std.proofs.Common.{inl, inr, arith}
use Rattle.std.proofs.Math.Option.{Option, none, some}
use Rattle.std.proofs.Math.Bool.{true, false, and-false}
use Prim.Native.Nat.{ℕ, suc, zero, ◌≤◌}
use Rattle.theory.specs.Rules.{Base, bool, nil, float, double, uint, int, inst, Shape, base, var, arr, ref, fn, fun, lam, err, div, Kind, Out, success, mismatch, refused12, refused13, dry, Mem, Pair, Res, Step, same, compare, left, right, down, swap, differ, Act, go, at, head, base_head, as_var, row, kind, fits, exchanged, roles, bound, zip, split, at_var, act, choose, compared}
use Rattle.theory.specs.Rules.{param_head, array_head, error_head, diverges_head, infer_head, lambda_head, pass, is_same, chase, heed, other, suits, each, perform, move, unify, onward, marked, signed}
use Rattle.theory.specs.Basics.{All, all_map, clash, and_both}
use Rattle.theory.specs.Meaning.{as_var_lem}
use Rattle.theory.specs.Depth.{In, called, hand_on, Hands, Pure as Pure·S, Functions as Functions·S, bounded as bounded·S, Alike as Alike·S, Below as Below·S, Held as Held·S, Same as Same·S, Fine as Fine·S, pure_base, pure_ref, pure_fn, pure_err, pure_div, pure_array, pure_function}

-- ── functions in one another ──

module _ (rows : List Shape) where
  -- as specs/Depth has it
  abbrev Pure : ℕ → ℕ → Type 0
  Pure = Pure·S rows

  -- as specs/Depth has it
  abbrev Functions : ℕ → Type 0
  Functions = Functions·S rows

-- ── the rules with a level ──

module _ (rows : List Shape) (kinds : List Kind) where
  -- as specs/Depth has it
  abbrev bounded : ℕ → ℕ → Mem → ℕ → ℕ → Res
  bounded = bounded·S rows kinds

-- ── the pairs that a step hands on ──

all_of : (P : ℕ → Type 0) (l : List ℕ) → ((y : ℕ) → In y l → P y) → All P l
all_of P [] f = tt
all_of P (y ∷ ys) f = (f y (inl refl), all_of P ys (λ z i. f z (inr i)))

zip_left : (P : ℕ → ℕ → Type 0) (xs ys : List ℕ) → All (λ (x : ℕ). (y : ℕ) → P x y) xs → All (λ (p : Pair). P p.0 p.1) (zip xs ys)
zip_left P [] ys h = tt
zip_left P (x ∷ xs) [] h = tt
zip_left P (x ∷ xs) (y ∷ ys) h = (h.0 y, zip_left P xs ys h.1)

take_all : (P : Pair → Type 0) (n : ℕ) (l : List Pair) → All P l → All P (take n l)
take_all P zero l h = tt
take_all P (suc n) [] h = tt
take_all P (suc n) (p ∷ l) h = (h.0, take_all P n l h.1)

split_hands : (P : ℕ → ℕ → Type 0) (xs ys : List ℕ) → All (λ (p : Pair). P p.0 p.1) (zip xs ys) → Hands P (split xs ys)
unfolding split
split_hands P xs ys h = by (eqb (length xs) (length ys))
  where
    by : (c : Bool) → Hands P (cond c (go (zip xs ys) success) (go (take 1 (zip xs ys)) mismatch))
    by true = h
    by false = take_all (λ (p : Pair). P p.0 p.1) 1 (zip xs ys) h

module _ (rows : List Shape) (kinds : List Kind) (f g : Mem → ℕ → ℕ → Res) where
  -- as specs/Depth has it
  abbrev Alike : ℕ → ℕ → Type 0
  Alike = Alike·S rows kinds f g

  each_ext : (ps : List Pair) (o : Out) (m : Mem) → All (λ (p : Pair). Alike p.0 p.1) ps → each rows kinds f ps o m ≡ each rows kinds g ps o m
  each_ext [] o m h = refl
  each_ext (p ∷ ps) o m h = rw (h.0 m) (by (g m p.0 p.1).0 (g m p.0 p.1).1 (λ m'. each_ext ps o m' h.1))
    where
      by : (q : Out) (c : Mem) → ((m' : Mem) → each rows kinds f ps o m' ≡ each rows kinds g ps o m') → onward q c (λ m'. each rows kinds f ps o m') ≡ onward q c (λ m'. each rows kinds g ps o m')
      by success c k = k c
      by mismatch c k = refl
      by refused12 c k = refl
      by refused13 c k = refl
      by dry c k = refl

  module _ (v z : ℕ) (h : (r : ℕ) → Alike r z) where
    chase_ext : (m : Mem) (o : Option ℕ) → chase rows kinds f m v z o ≡ chase rows kinds g m v z o
    chase_ext m none = refl
    chase_ext m (some r) = h r m

    heed_ext : (m : Mem) (c : Bool) → heed rows kinds f m v z c ≡ heed rows kinds g m v z c
    heed_ext m true = refl
    heed_ext m false = chase_ext (pass m v (row rows z)) (bound m.binds v)

    other_ext : (m : Mem) (c : Bool) → other rows kinds f m v z c ≡ other rows kinds g m v z c
    other_ext m true = refl
    other_ext m false = heed_ext m (marked m v && not (signed (row rows z)))

    suits_ext : (m : Mem) (c : Bool) → suits rows kinds f m v z c ≡ suits rows kinds g m v z c
    suits_ext m true = other_ext m (is_same v (as_var (row rows z)))
    suits_ext m false = refl

  -- an action depends on the pairs that it may hand on alone
  perform_ext : (m : Mem) (a : Act) → Hands Alike a → perform rows kinds f m a ≡ perform rows kinds g m a
  perform_ext m (go ps o) h = each_ext ps o m h
  perform_ext m (at v z) h = suits_ext v z h m (fits kinds (kind kinds v) (row rows z))

-- ── which rows a step enters ──

base_head_lem : (b : Base) → (eqb (base_head b) param_head ≡ false) × (eqb (base_head b) array_head ≡ false) × (eqb (base_head b) lambda_head ≡ false)
base_head_lem bool = (refl, refl, refl)
base_head_lem nil = (refl, refl, refl)
base_head_lem float = (refl, refl, refl)
base_head_lem double = (refl, refl, refl)
base_head_lem (uint w) = (refl, refl, refl)
base_head_lem (int w) = (refl, refl, refl)
base_head_lem (inst k) = (refl, refl, refl)

head_array : (s : Shape) → eqb (head s) array_head ≡ true → (e : ℕ) × (s ≡ arr e)
head_array (base b) h = let p = base_head_lem b in clash (cc)
head_array (var v) h = clash (cc)
head_array (arr e) h = (e, refl)
head_array (ref e) h = clash (cc)
head_array (fn d) h = clash (cc)
head_array (fun s o i) h = clash (cc)
head_array (lam n o i) h = clash (cc)
head_array err h = clash (cc)
head_array div h = clash (cc)

head_function : (s : Shape) → eqb (head s) param_head ≡ true → (k o : ℕ) × (i : List ℕ) × (s ≡ fun k o i)
head_function (base b) h = let p = base_head_lem b in clash (cc)
head_function (var v) h = clash (cc)
head_function (arr e) h = clash (cc)
head_function (ref e) h = clash (cc)
head_function (fn d) h = clash (cc)
head_function (fun s o i) h = (s, o, i, refl)
head_function (lam n o i) h = clash (cc)
head_function err h = clash (cc)
head_function div h = clash (cc)

head_lambda : (s : Shape) → eqb (head s) lambda_head ≡ true → (k o : ℕ) × (i : List ℕ) × (s ≡ lam k o i)
head_lambda (base b) h = let p = base_head_lem b in clash (cc)
head_lambda (var v) h = clash (cc)
head_lambda (arr e) h = clash (cc)
head_lambda (ref e) h = clash (cc)
head_lambda (fn d) h = clash (cc)
head_lambda (fun s o i) h = clash (cc)
head_lambda (lam n o i) h = (n, o, i, refl)
head_lambda err h = clash (cc)
head_lambda div h = clash (cc)

-- parts against parts: two arrays, or a function and a lambda
choose_down : (e g : ℕ) → choose e g ≡ down → ((eqb e array_head && eqb g array_head) ≡ true) ⊎ ((eqb e param_head && eqb g lambda_head) ≡ true)
unfolding choose
choose_down e g h = by (compared e && eqb e g) (eqb g diverges_head) (eqb e array_head && eqb g array_head) (eqb e infer_head) (eqb g infer_head) (eqb e param_head && eqb g lambda_head) (eqb e lambda_head && eqb g param_head) (eqb e error_head || eqb g error_head) h
  where
    by : (b d a v u f l r : Bool) → cond b compare (cond d same (cond a down (cond v left (cond u right (cond f down (cond l swap (cond r same differ))))))) ≡ down → (a ≡ true) ⊎ (f ≡ true)
    by true d a v u f l r k = clash (cc)
    by false true a v u f l r k = clash (cc)
    by false false true v u f l r k = inl refl
    by false false false true u f l r k = clash (cc)
    by false false false false true f l r k = clash (cc)
    by false false false false false true l r k = inr refl
    by false false false false false false true r k = clash (cc)
    by false false false false false false false true k = clash (cc)
    by false false false false false false false false k = clash (cc)

-- the sides exchanged: a lambda and a function
choose_swap : (e g : ℕ) → choose e g ≡ swap → (eqb e lambda_head && eqb g param_head) ≡ true
unfolding choose
choose_swap e g h = by (compared e && eqb e g) (eqb g diverges_head) (eqb e array_head && eqb g array_head) (eqb e infer_head) (eqb g infer_head) (eqb e param_head && eqb g lambda_head) (eqb e lambda_head && eqb g param_head) (eqb e error_head || eqb g error_head) h
  where
    by : (b d a v u f l r : Bool) → cond b compare (cond d same (cond a down (cond v left (cond u right (cond f down (cond l swap (cond r same differ))))))) ≡ swap → l ≡ true
    by true d a v u f l r k = clash (cc)
    by false true a v u f l r k = clash (cc)
    by false false true v u f l r k = clash (cc)
    by false false false true u f l r k = clash (cc)
    by false false false false true f l r k = clash (cc)
    by false false false false false true l r k = clash (cc)
    by false false false false false false true r k = refl
    by false false false false false false false true k = clash (cc)
    by false false false false false false false false k = clash (cc)

-- a variable is no function against a lambda
called_var : (e : ℕ) → called e infer_head ≡ false
called_var e = rw (and-false (eqb e param_head), and-false (eqb e lambda_head))

-- ── what keeps a pair within its level ──

module _ (rows : List Shape) where
  -- as specs/Depth has it
  abbrev Below : ℕ → List ℕ → Type 0
  Below = Below·S rows

  -- as specs/Depth has it
  abbrev Held : ℕ → ℕ → ℕ → Type 0
  Held = Held·S rows

  held_sym : (l x y : ℕ) → Held l x y → Held l y x
  held_sym l x y (inl f) = inl f
  held_sym l x y (inr (inl p)) = inr (inr p)
  held_sym l x y (inr (inr p)) = inr (inl p)

  pure_not_var : (d x v : ℕ) → row rows x ≡ var v → Pure rows d x → ⊥
  pure_not_var d x v e (pure_base b q) = clash (cc)
  pure_not_var d x v e (pure_ref z q) = clash (cc)
  pure_not_var d x v e (pure_fn f q) = clash (cc)
  pure_not_var d x v e (pure_err q) = clash (cc)
  pure_not_var d x v e (pure_div q) = clash (cc)
  pure_not_var d x v e (pure_array z q p) = clash (cc)
  pure_not_var d x v e (pure_function s o i q p) = clash (cc)

  pure_not_lambda : (d x k t : ℕ) (j : List ℕ) → row rows x ≡ lam k t j → Pure rows d x → ⊥
  pure_not_lambda d x k t j e (pure_base b q) = clash (cc)
  pure_not_lambda d x k t j e (pure_ref z q) = clash (cc)
  pure_not_lambda d x k t j e (pure_fn f q) = clash (cc)
  pure_not_lambda d x k t j e (pure_err q) = clash (cc)
  pure_not_lambda d x k t j e (pure_div q) = clash (cc)
  pure_not_lambda d x k t j e (pure_array z q p) = clash (cc)
  pure_not_lambda d x k t j e (pure_function s o i q p) = clash (cc)

  pure_element : (d x a : ℕ) → row rows x ≡ arr a → Pure rows d x → Pure rows d a
  pure_element d x a e (pure_base b q) = clash (cc)
  pure_element d x a e (pure_ref z q) = clash (cc)
  pure_element d x a e (pure_fn f q) = clash (cc)
  pure_element d x a e (pure_err q) = clash (cc)
  pure_element d x a e (pure_div q) = clash (cc)
  pure_element d x a e (pure_array z q p) = let k : z ≡ a = cc in rw (← k) p
  pure_element d x a e (pure_function s o i q p) = clash (cc)

  pure_parts : (d x k t : ℕ) (j : List ℕ) → row rows x ≡ fun k t j → Pure rows d x → Below d (t ∷ j)
  pure_parts d x k t j e (pure_base b q) = clash (cc)
  pure_parts d x k t j e (pure_ref z q) = clash (cc)
  pure_parts d x k t j e (pure_fn f q) = clash (cc)
  pure_parts d x k t j e (pure_err q) = clash (cc)
  pure_parts d x k t j e (pure_div q) = clash (cc)
  pure_parts d x k t j e (pure_array z q p) = clash (cc)
  pure_parts (suc d) x k t j e (pure_function s o i q p) = let a : o ≡ t = cc in let b : i ≡ j = cc in rw (← a, ← b) (all_of (Pure rows d) (o ∷ i) p)

  held_element : (l x y a b : ℕ) → row rows x ≡ arr a → row rows y ≡ arr b → Held l x y → Held l a b
  held_element l x y a b e g (inl f) = inl f
  held_element l x y a b e g (inr (inl p)) = inr (inl (pure_element l x a e p))
  held_element l x y a b e g (inr (inr p)) = inr (inr (pure_element l y b g p))

  held_var : (l x y v : ℕ) → row rows x ≡ var v → Held l x y → (r : ℕ) → Held l r y
  held_var l x y v e (inl f) r = inl f
  held_var l x y v e (inr (inl p)) r = absurd (pure_not_var l x v e p)
  held_var l x y v e (inr (inr p)) r = inr (inr p)

  held_parts : (l x y s o k t : ℕ) (i j : List ℕ) → row rows x ≡ fun s o i → row rows y ≡ lam k t j → Held l x y → Below l (o ∷ i)
  held_parts l x y s o k t i j e g (inl f) = pure_parts l x s o i e (f x s o i e)
  held_parts l x y s o k t i j e g (inr (inl p)) = pure_parts l x s o i e p
  held_parts l x y s o k t i j e g (inr (inr p)) = absurd (pure_not_lambda l y k t j g p)

-- ── the level is enough ──

module _ (rows : List Shape) (kinds : List Kind) where
  module _ (n : ℕ) (ih : (l : ℕ) (m : Mem) (x y : ℕ) → Held rows l x y → bounded rows kinds l n m x y ≡ unify rows kinds n m x y) where
    -- as specs/Depth has it
    abbrev Same : ℕ → Bool → ℕ → ℕ → Type 0
    Same = Same·S rows kinds n ih

    below_same : (l : ℕ) (xs ys : List ℕ) → Below rows l xs → All (λ (p : Pair). Same l true p.0 p.1) (zip xs ys)
    below_same zero xs ys h = absurd h
    below_same (suc l) xs ys h = zip_left (Same (suc l) true) xs ys (all_map (Pure rows l) (λ (x : ℕ). (y : ℕ) → Same (suc l) true x y) xs (λ x p y m. ih l m x y (inr (inl p))) h)

    module _ (l x y : ℕ) (held : Held rows l x y) where
      -- as specs/Depth has it
      abbrev Fine : Step → Type 0
      Fine = Fine·S rows kinds n ih l x y held

      at_left : (o : Option ℕ) → as_var (row rows x) ≡ o → Hands (Same l (called (head (row rows x)) (head (row rows y)))) (at_var o y)
      unfolding at_var
      at_left none e = tt
      at_left (some v) e = let q = as_var_lem (row rows x) v e in rw q (λ r m. ih l m r y (held_var rows l x y v q held r))

      at_right : (o : Option ℕ) → as_var (row rows y) ≡ o → Hands (Same l (called (head (row rows x)) (head (row rows y)))) (at_var o x)
      unfolding at_var
      at_right none e = tt
      at_right (some v) e = let q = as_var_lem (row rows y) v e in rw (q, called_var (head (row rows x))) (λ r m. ih l m r x (held_var rows l y x v q (held_sym rows l x y held) r))

      -- whether the roles are exchanged or not
      step_fine : (c : Bool) (p : Step) → choose (head (row rows x)) (head (row rows y)) ≡ p → Fine (roles c p)
      unfolding act
      step_fine c same e = tt
      step_fine c compare e = tt
      step_fine true left e = at_right (as_var (row rows y)) refl
      step_fine false left e = at_left (as_var (row rows x)) refl
      step_fine c right e = at_right (as_var (row rows y)) refl
      step_fine c down e = by (choose_down (head (row rows x)) (head (row rows y)) e)
        where
          arrays : (a b : ℕ) → row rows x ≡ arr a → row rows y ≡ arr b → Fine down
          arrays a b p q = rw (p, q) (split_hands (Same l false) (a ∷ []) (b ∷ []) (λ m. ih l m a b (held_element rows l x y a b p q held), tt))

          parts : (s o k t : ℕ) (i j : List ℕ) → row rows x ≡ fun s o i → row rows y ≡ lam k t j → Fine down
          parts s o k t i j p q = rw (p, q) (split_hands (Same l true) (o ∷ i) (t ∷ j) (below_same l (o ∷ i) (t ∷ j) (held_parts rows l x y s o k t i j p q held)))

          by : ((eqb (head (row rows x)) array_head && eqb (head (row rows y)) array_head) ≡ true) ⊎ ((eqb (head (row rows x)) param_head && eqb (head (row rows y)) lambda_head) ≡ true) → Fine down
          by (inl h) =
              let b = and_both (eqb (head (row rows x)) array_head) (eqb (head (row rows y)) array_head) h in
              let p = head_array (row rows x) b.0 in
              let q = head_array (row rows y) b.1 in
              arrays p.0 q.0 p.1 q.1
          by (inr h) =
              let b = and_both (eqb (head (row rows x)) param_head) (eqb (head (row rows y)) lambda_head) h in
              let p = head_function (row rows x) b.0 in
              let q = head_lambda (row rows y) b.1 in
              parts p.0 p.1 q.0 q.1 p.2 q.2 p.3 q.3
      step_fine c swap e =
          let b = and_both (eqb (head (row rows x)) lambda_head) (eqb (head (row rows y)) param_head) (choose_swap (head (row rows x)) (head (row rows y)) e) in
          let p = head_function (row rows y) b.1 in
          let q = head_lambda (row rows x) b.0 in
          parts p.0 p.1 q.0 q.1 p.2 q.2 p.3 q.3
        where
          parts : (s o k t : ℕ) (i j : List ℕ) → row rows y ≡ fun s o i → row rows x ≡ lam k t j → Fine swap
          parts s o k t i j p q = rw (p, q) (split_hands (Same l true) (o ∷ i) (t ∷ j) (below_same l (o ∷ i) (t ∷ j) (held_parts rows l y x s o k t i j p q (held_sym rows l x y held))))
      step_fine c differ e = tt

  -- a level that is enough for a pair changes nothing, whatever the bindings and marks
  held_enough : (n l : ℕ) (m : Mem) (x y : ℕ) → Held rows l x y → bounded rows kinds l n m x y ≡ unify rows kinds n m x y
  unfolding bounded·S unify
  held_enough zero l m x y h = refl
  held_enough (suc n) l m x y h =
      perform_ext rows kinds (hand_on (λ k. bounded rows kinds k n) l (called (head (row rows x)) (head (row rows y)))) (unify rows kinds n) m (move rows kinds x y)
      (step_fine n (λ l' m' x' y' h'. held_enough n l' m' x' y' h') l x y h (exchanged kinds (as_var (row rows x)) (as_var (row rows y))) (choose (head (row rows x)) (head (row rows y))) refl)

  -- functions at most d deep: with d levels the answer, the bindings and the marks are those of `unify`, whatever the bindings and marks before, the
  -- lambdas and the number of steps
  pub level_enough : (d : ℕ) → Functions rows d → (n : ℕ) (m : Mem) (x y : ℕ) → bounded rows kinds d n m x y ≡ unify rows kinds n m x y
  level_enough d f n m x y = held_enough n d m x y (inl f)

  -- functions at most 4 deep, a function of no functions being 1 deep: 4 levels are enough
  pub four_enough : Functions rows 4 → (n : ℕ) (m : Mem) (x y : ℕ) → bounded rows kinds 4 n m x y ≡ unify rows kinds n m x y
  four_enough f n m x y = level_enough 4 f n m x y

  -- what is at most d deep is at most e deep, for each e not below d
  pure_more : (d e x : ℕ) → d ≤ e → Pure rows d x → Pure rows e x
  pure_more d e x h (pure_base b q) = pure_base b q
  pure_more d e x h (pure_ref z q) = pure_ref z q
  pure_more d e x h (pure_fn f q) = pure_fn f q
  pure_more d e x h (pure_err q) = pure_err q
  pure_more d e x h (pure_div q) = pure_div q
  pure_more d e x h (pure_array z q p) = pure_array z q (pure_more d e z h p)
  pure_more (suc d) zero x h (pure_function s o i q p) = absurd (omega arith)
  pure_more (suc d) (suc e) x h (pure_function s o i q p) = pure_function s o i q (λ y j. pure_more d e y (omega arith) (p y j))

  -- each higher level is enough too
  pub more_enough : (d l : ℕ) → d ≤ l → Functions rows d → (n : ℕ) (m : Mem) (x y : ℕ) → bounded rows kinds l n m x y ≡ unify rows kinds n m x y
  more_enough d l h f = level_enough l (λ x s o i e. pure_more d l x h (f x s o i e))

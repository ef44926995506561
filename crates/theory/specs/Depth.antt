-- How deep unification goes into the parts of functions against lambdas: no deeper than functions stand in one another. Assumes function
-- types made of rows without variables and lambdas (`Functions`), as declared ones are; nothing of bindings and lambdas.
use Rattle.std.specs.Prelude.{◌≡◌, ◌⊎◌, List, [], ◌∷◌, Bool, ◌&&◌, ◌||◌, eqb}
use Rattle.std.proofs.Math.Path.{refl}
use Rattle.std.proofs.Common.{inl, inr}
use Rattle.std.proofs.Math.Bool.{true, false}
use Prim.Native.Nat.{ℕ, suc, zero}
use Rattle.theory.specs.Rules.{Base, nil, Shape, base, arr, ref, fn, fun, lam, err, div, Kind, success, dry, Mem, Pair, Res, Step, Act, go, at, head, row, split, act, choose}
use Rattle.theory.specs.Rules.{param_head, lambda_head, perform, move, unify}
use Rattle.theory.specs.Basics.{All, clash}

-- a row of a list
abbrev pub In : ℕ → List ℕ → Type 0
In y [] = ⊥
In y (z ∷ l) = (z ≡ y) ⊎ In y l

-- ── functions in one another ──

module _ (rows : List Shape) where
  -- a row without variables and lambdas, as far as unification enters it, in which functions stand at most d deep in one another: a
  -- function of no functions is 1 deep, its parts are 0 deep. A reference is never entered
  pub data Pure : ℕ → ℕ → Type 0 where
    pure_base : {d x : ℕ} (b : Base) → row rows x ≡ base b → Pure d x
    pure_ref : {d x : ℕ} (e : ℕ) → row rows x ≡ ref e → Pure d x
    pure_fn : {d x : ℕ} (f : ℕ) → row rows x ≡ fn f → Pure d x
    pure_err : {d x : ℕ} → row rows x ≡ err → Pure d x
    pure_div : {d x : ℕ} → row rows x ≡ div → Pure d x
    pure_array : {d x : ℕ} (e : ℕ) → row rows x ≡ arr e → Pure d e → Pure d x
    pure_function : {d x : ℕ} (s o : ℕ) (i : List ℕ) → row rows x ≡ fun s o i → ((y : ℕ) → In y (o ∷ i) → Pure d y) → Pure (suc d) x

  -- each function of the table is pure and at most d deep
  abbrev pub Functions : ℕ → Type 0
  Functions d = (x s o : ℕ) (i : List ℕ) → row rows x ≡ fun s o i → Pure d x

-- ── the rules with a level ──

-- a function against a lambda, by the heads of the two sides
abbrev pub called : ℕ → ℕ → Bool
called e g = (eqb e param_head && eqb g lambda_head) || (eqb e lambda_head && eqb g param_head)

-- one level down, out of steps at level 0
abbrev pub deeper : (ℕ → Mem → ℕ → ℕ → Res) → ℕ → Mem → ℕ → ℕ → Res
deeper f zero m x y = (dry, m)
deeper f (suc l) m x y = f l m x y

-- the level falls where a function is against a lambda, and nowhere else
abbrev pub hand_on : (ℕ → Mem → ℕ → ℕ → Res) → ℕ → Bool → Mem → ℕ → ℕ → Res
hand_on f l true = deeper f l
hand_on f l false = f l

module _ (rows : List Shape) (kinds : List Kind) where
  -- `unify` with a level that falls where the parts of a function against a lambda are entered: out of steps where that is at level 0
  unfoldable pub bounded : ℕ → ℕ → Mem → ℕ → ℕ → Res
  bounded l zero m x y = (dry, m)
  bounded l (suc n) m x y = perform rows kinds (hand_on (λ k. bounded k n) l (called (head (row rows x)) (head (row rows y)))) m (move rows kinds x y)

-- ── the pairs that a step hands on ──

-- each pair that an action may hand on has the property
abbrev pub Hands : (ℕ → ℕ → Type 0) → Act → Type 0
Hands P (go ps o) = All (λ (p : Pair). P p.0 p.1) ps
Hands P (at v z) = (r : ℕ) → P r z

module _ (rows : List Shape) (kinds : List Kind) (f g : Mem → ℕ → ℕ → Res) where
  -- f and g answer alike, whatever the bindings and marks
  abbrev pub Alike : ℕ → ℕ → Type 0
  Alike x y = (m : Mem) → f m x y ≡ g m x y

-- ── what keeps a pair within its level ──

module _ (rows : List Shape) where
  -- each of the rows is pure and one level less deep
  abbrev pub Below : ℕ → List ℕ → Type 0
  Below zero l = ⊥
  Below (suc d) l = All (Pure rows d) l

  -- the level is enough for the pair: for each function of the table, or for one of the two
  abbrev pub Held : ℕ → ℕ → ℕ → Type 0
  Held l x y = Functions rows l ⊎ (Pure rows l x ⊎ Pure rows l y)

-- ── the level is enough ──

module _ (rows : List Shape) (kinds : List Kind) where
  module _ (n : ℕ) (ih : (l : ℕ) (m : Mem) (x y : ℕ) → Held rows l x y → bounded rows kinds l n m x y ≡ unify rows kinds n m x y) where
    -- with the level l, or one less, the answer is that of `unify`
    abbrev pub Same : ℕ → Bool → ℕ → ℕ → Type 0
    Same l c x y = Alike rows kinds (hand_on (λ k. bounded rows kinds k n) l c) (unify rows kinds n) x y

    module _ (l x y : ℕ) (held : Held rows l x y) where
      -- each pair that the step p may hand on
      abbrev pub Fine : Step → Type 0
      Fine p = Hands (Same l (called (head (row rows x)) (head (row rows y)))) (act x y (row rows x) (row rows y) p)

-- ── a table that needs its level ──

-- Nil; functions 1 to 4 deep, each the output of the next; lambdas alike
abbrev pub nested : List Shape
nested = base nil ∷ fun 0 0 [] ∷ fun 0 1 [] ∷ fun 0 2 [] ∷ fun 0 3 [] ∷ lam 0 0 [] ∷ lam 0 5 [] ∷ lam 0 6 [] ∷ lam 0 7 [] ∷ []

-- a function of one output is one deeper than that
above : (d x o : ℕ) → row nested x ≡ fun 0 o [] → Pure nested d o → Pure nested (suc d) x
above d x o e p = pure_function 0 o [] e part
  where
    part : (y : ℕ) → In y (o ∷ []) → Pure nested d y
    part y (inl q) = rw (← q) p
    part y (inr q) = absurd q

-- its functions are at most 4 deep
pub nested_functions : Functions nested 4
nested_functions zero s o i e = clash (cc)
nested_functions (suc zero) s o i e = above 3 1 0 refl (pure_base nil refl)
nested_functions (suc (suc zero)) s o i e = above 3 2 1 refl (above 2 1 0 refl (pure_base nil refl))
nested_functions (suc (suc (suc zero))) s o i e = above 3 3 2 refl (above 2 2 1 refl (above 1 1 0 refl (pure_base nil refl)))
nested_functions (suc (suc (suc (suc zero)))) s o i e = above 3 4 3 refl (above 2 3 2 refl (above 1 2 1 refl (above 0 1 0 refl (pure_base nil refl))))
nested_functions (suc (suc (suc (suc (suc zero))))) s o i e = clash (cc)
nested_functions (suc (suc (suc (suc (suc (suc zero)))))) s o i e = clash (cc)
nested_functions (suc (suc (suc (suc (suc (suc (suc zero))))))) s o i e = clash (cc)
nested_functions (suc (suc (suc (suc (suc (suc (suc (suc zero)))))))) s o i e = clash (cc)
nested_functions (suc (suc (suc (suc (suc (suc (suc (suc (suc x))))))))) s o i e = clash (cc)

-- the outermost function against the outermost lambda: a success in 5 steps, and 3 levels are not enough
pub four_needed : (kinds : List Kind) (m : Mem) → (unify nested kinds 5 m 4 8 ≡ (success, m)) × (bounded nested kinds 4 5 m 4 8 ≡ (success, m)) × (bounded nested kinds 3 5 m 4 8 ≡ (dry, m))
unfolding unify bounded choose split act
four_needed kinds m = (refl, refl, refl)

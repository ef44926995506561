-- What the proofs share: a property of all members of a list, tests on numbers as facts, contradiction, the end of a list of equations.
-- Assumes nothing.
use Rattle.std.specs.Prelude.{◌≡◌, refl, ◌≢◌, ◌⊎◌, List, [], ◌∷◌, Bool, true, false, ◌&&◌, ◌||◌, ℕ, ◌≤◌, ◌<◌, length, get_or, set, T, eqb, ltb}
use Rattle.std.proofs.Common.{sym, ◌∙◌, inl, inr, arith, get_or-set_same, get_or-set_other, eqb→eq, ltb→lt, lt→ltb}
use Rattle.std.proofs.Math.Option.{Option, none, some}
use Rattle.std.proofs.Math.Decide.{ℕ_discrete, dec_lt}
use Rattle.std.proofs.Math.ListN.{get_or-eq_default}
use Rattle.std.proofs.Math.Dec.{eqb_refl}
use Rattle.theory.specs.Rules.{Out, success, mismatch, refused12, refused13, dry, Mem, Res, onward, and_then}

-- each member of the list has the property
abbrev pub All {ℓ} : {A : Type ℓ} → (A → Type 0) → List A → Type 0
All P [] = Unit {0}
All P (y ∷ ys) = P y × All P ys

-- what each member gives
pub all_map {ℓ} : {A : Type ℓ} (P Q : A → Type 0) (l : List A) → ((y : A) → P y → Q y) → All P l → All Q l
all_map P Q [] f h = tt
all_map P Q (y ∷ ys) f h = (f y h.0, all_map P Q ys f h.1)

-- what two properties of each member give
pub all_map2 {ℓ} : {A : Type ℓ} (P Q S : A → Type 0) (l : List A) → ((y : A) → P y → Q y → S y) → All P l → All Q l → All S l
all_map2 P Q S [] f h k = tt
all_map2 P Q S (y ∷ ys) f h k = (f y h.0 k.0, all_map2 P Q S ys f h.1 k.1)

-- from a contradiction, anything
pub clash : {A : Type 0} → ◌≡◌ {A = ℕ} 0 1 → A
clash e = absurd (omega arith)

-- a test that passes is true
pub true_of : (b : Bool) → T b → b ≡ true
true_of true t = refl
true_of false t = absurd t

-- a test that does not pass is false
pub false_of : (b : Bool) → ¬ (T b) → b ≡ false
false_of true f = absurd (f tt)
false_of false f = refl

-- no test is true and false
pub not_both : (b : Bool) → b ≡ true → b ≡ false → ⊥
not_both b p q = clash (cc)

-- both tests of a conjunction that holds
pub and_both : (a c : Bool) → (a && c) ≡ true → (a ≡ true) × (c ≡ true)
and_both true c e = (refl, e)
and_both false c e = (cc, cc)

-- neither test of a disjunction that fails
pub or_neither : (a c : Bool) → (a || c) ≡ false → (a ≡ false) × (c ≡ false)
or_neither true c e = (cc, cc)
or_neither false c e = (refl, e)

-- numbers found equal are equal
pub eqb-true : (u v : ℕ) → eqb u v ≡ true → u ≡ v
eqb-true u v e = eqb→eq u v (rw e tt)

-- a number is found equal to itself
pub eqb_same : (u : ℕ) → eqb u u ≡ true
eqb_same u = true_of (eqb u u) (eqb_refl u)

-- a number found below is below
pub ltb-true : (x n : ℕ) → ltb x n ≡ true → x < n
ltb-true x n e = ltb→lt x n (rw e tt)

-- a number below is found below
pub ltb_yes : (x n : ℕ) → x < n → ltb x n ≡ true
ltb_yes x n h = true_of (ltb x n) (lt→ltb x n h)

-- a number not below is not found below
pub ltb_no : (x n : ℕ) → n ≤ x → ltb x n ≡ false
ltb_no x n h = false_of (ltb x n) (λ t. omega (arith, ltb→lt x n t))

-- a number below, at or above another
pub lt_case : (x n : ℕ) → (x < n) ⊎ ((x ≡ n) ⊎ (n < x))
lt_case x n = by (dec_lt x n) (ℕ_discrete x n)
  where
    by : Dec (x < n) → Dec (x ≡ n) → (x < n) ⊎ ((x ≡ n) ⊎ (n < x))
    by (yes h) d = inl h
    by (no h) (yes e) = inr (inl e)
    by (no h) (no k) = inr (inr (omega arith))

-- what is bound after v has been bound to z: z at v, and what was bound before elsewhere
pub bound_after : (P : ℕ → ℕ → Type 0) (b : List (Option ℕ)) (v z : ℕ) → v < length b → P v z → ((u r : ℕ) → u ≢ v → get_or b u none ≡ some r → P u r) → (u r : ℕ) → get_or (set b v (some z)) u none ≡ some r → P u r
bound_after P b v z hv new old u r e = by (ℕ_discrete u v)
  where
    by : Dec (u ≡ v) → P u r
    by (yes p) = let g = get_or-set_same b v (some z) none hv in let h = rw p at e in let q : z ≡ r = cc in rw (p, ← q) new
    by (no n) = old u r n (sym (get_or-set_other b v u (some z) none n) ∙ e)

-- a bound variable is one of the list
pub bound_in_lem : (b : List (Option ℕ)) (v r : ℕ) → get_or b v none ≡ some r → v < length b
bound_in_lem b v r e = by (dec_lt v (length b))
  where
    by : Dec (v < length b) → v < length b
    by (yes h) = h
    by (no h) = let q = get_or-eq_default b none {n = v} (omega arith) in clash (cc)

-- an answer after which nothing comes is the answer
pub last_success : (r : Res) → and_then r (λ m. (success, m)) ≡ r
last_success r = by r.0 r.1
  where
    by : (o : Out) (m : Mem) → onward o m (λ n. (success, n)) ≡ (o, m)
    by success m = refl
    by mismatch m = refl
    by refused12 m = refl
    by refused13 m = refl
    by dry m = refl

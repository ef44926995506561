-- The pool's cells: each type that has one has its own. And the first row equal to a type, when a row is appended.
use Rattle.std.specs.Prelude.{◌≡◌, refl, ◌≢◌, List, [], ◌∷◌, ◌++◌, Bool, true, false, cond, ◌&&◌, ℕ, suc, ◌+◌, ◌≤◌, ◌<◌, length, eqb, ltb}
use Rattle.std.proofs.Math.Option.{Option, none, some}
use Rattle.std.proofs.Common.{arith, eqb-true, ltb-true}
use Rattle.theory.specs.Rules.{Shape, head}
use Rattle.theory.specs.Program.{made_of, equal_numbers, equal_rows, first_equal}
use Rattle.type_table.specs.Memory.{pick, most_types, arrays_at, refs_at, defs_at, instances_at, cells, shape_of}
use Rattle.type_table.specs.Made.{pool_cell}

-- ── definitions ──

-- p is the cell of the type of head h and number a: an array, a reference, a definition or an instance
pub data InPool (h a p : ℕ) : Type 0 where
  array : h ≡ 8 → a < most_types → p ≡ arrays_at + a → InPool h a p
  reference : h ≡ 14 → a < most_types → p ≡ refs_at + a → InPool h a p
  definition : h ≡ 7 → a < 256 → p ≡ defs_at + a → InPool h a p
  «instance» : h ≡ 5 → a < 64 → p ≡ instances_at + a → InPool h a p

-- the first answer if there is one, else the second
abbrev or_else : Option ℕ → Option ℕ → Option ℕ
or_else none p = p
or_else (some r) p = some r

-- ── cells ──

-- what has a cell is one of the four
pub in_pool : (h a : ℕ) → pool_cell h a ≢ 0 → InPool h a (pool_cell h a)
unfolding pool_cell
in_pool h a n = at_8 (eqb h 8) refl n
  where
    leaf : (k lo : ℕ) (c : Bool) → ltb a k ≡ c → pick c (lo + a) 0 ≢ 0 → (a < k) × (pick c (lo + a) 0 ≡ lo + a)
    leaf k lo true e q = (ltb-true a k e, refl)
    leaf k lo false e q = absurd (q refl)

    at_5 : (c : Bool) → eqb h 5 ≡ c → pick c (pick (ltb a 64) (instances_at + a) 0) 0 ≢ 0 → InPool h a (pick c (pick (ltb a 64) (instances_at + a) 0) 0)
    at_5 true e q = let l = leaf 64 instances_at (ltb a 64) refl q in «instance» (eqb-true h 5 e) l.0 l.1
    at_5 false e q = absurd (q refl)

    at_7 : (c : Bool) → eqb h 7 ≡ c → let r = pick c (pick (ltb a 256) (defs_at + a) 0) (pick (eqb h 5) (pick (ltb a 64) (instances_at + a) 0) 0) in r ≢ 0 → InPool h a r
    at_7 true e q = let l = leaf 256 defs_at (ltb a 256) refl q in definition (eqb-true h 7 e) l.0 l.1
    at_7 false e q = at_5 (eqb h 5) refl q

    at_14 : (c : Bool) → eqb h 14 ≡ c → let r = pick c (pick (ltb a most_types) (refs_at + a) 0) (pick (eqb h 7) (pick (ltb a 256) (defs_at + a) 0) (pick (eqb h 5) (pick (ltb a 64) (instances_at + a) 0) 0)) in r ≢ 0 → InPool h a r
    at_14 true e q = let l = leaf most_types refs_at (ltb a most_types) refl q in reference (eqb-true h 14 e) l.0 l.1
    at_14 false e q = at_7 (eqb h 7) refl q

    at_8 : (c : Bool) → eqb h 8 ≡ c
        → let r = pick c (pick (ltb a most_types) (arrays_at + a) 0) (pick (eqb h 14) (pick (ltb a most_types) (refs_at + a) 0) (pick (eqb h 7) (pick (ltb a 256) (defs_at + a) 0) (pick (eqb h 5) (pick (ltb a 64) (instances_at + a) 0) 0))) in
        r ≢ 0 → InPool h a r
    at_8 true e q = let l = leaf most_types arrays_at (ltb a most_types) refl q in array (eqb-true h 8 e) l.0 l.1
    at_8 false e q = at_14 (eqb h 14) refl q

module _ (h a p : ℕ) where
  -- the cells of the pool lie behind the inputs
  pub pool_range : InPool h a p → (arrays_at ≤ p) × (p < cells)
  pool_range (array e l q) = omega arith
  pool_range (reference e l q) = omega arith
  pool_range (definition e l q) = omega arith
  pool_range («instance» e l q) = omega arith

  -- a type with a cell of the pool is made of its number
  pub pool_type : InPool h a p → (head (shape_of h a 0 []) ≡ h) × (made_of (shape_of h a 0 []) ≡ some a)
  unfolding shape_of
  pool_type (array e l q) = rw e (refl, refl)
  pool_type (reference e l q) = rw e (refl, refl)
  pool_type (definition e l q) = rw e (refl, refl)
  pool_type («instance» e l q) = rw e (refl, refl)

  -- its head is one of `TyKind`
  pub pool_head : InPool h a p → h < 15
  pool_head (array e l q) = omega arith
  pool_head (reference e l q) = omega arith
  pool_head (definition e l q) = omega arith
  pool_head («instance» e l q) = omega arith

-- two types of one cell are the same
pub pool_own : (h a k b p : ℕ) → InPool h a p → InPool k b p → (h ≡ k) × (a ≡ b)
pool_own h a k b p (array e l q) (array e' l' q') = omega arith
pool_own h a k b p (array e l q) (reference e' l' q') = omega arith
pool_own h a k b p (array e l q) (definition e' l' q') = omega arith
pool_own h a k b p (array e l q) («instance» e' l' q') = omega arith
pool_own h a k b p (reference e l q) (array e' l' q') = omega arith
pool_own h a k b p (reference e l q) (reference e' l' q') = omega arith
pool_own h a k b p (reference e l q) (definition e' l' q') = omega arith
pool_own h a k b p (reference e l q) («instance» e' l' q') = omega arith
pool_own h a k b p (definition e l q) (array e' l' q') = omega arith
pool_own h a k b p (definition e l q) (reference e' l' q') = omega arith
pool_own h a k b p (definition e l q) (definition e' l' q') = omega arith
pool_own h a k b p (definition e l q) («instance» e' l' q') = omega arith
pool_own h a k b p («instance» e l q) (array e' l' q') = omega arith
pool_own h a k b p («instance» e l q) (reference e' l' q') = omega arith
pool_own h a k b p («instance» e l q) (definition e' l' q') = omega arith
pool_own h a k b p («instance» e l q) («instance» e' l' q') = omega arith

-- types with cells of the pool are equal by value where head and number are
pub pool_equal : (h a k b p q : ℕ) → InPool h a p → InPool k b q → equal_rows (shape_of h a 0 []) (shape_of k b 0 []) ≡ (eqb h k && eqb a b)
pool_equal h a k b p q i j = let s = pool_type h a p i in let t = pool_type k b q j in rw (s.0, s.1, t.0, t.1)

-- ── the first equal row ──

-- a row that is made of no number is equal by value to none
pub unequal : (t s : Shape) → made_of t ≡ none → equal_rows t s ≡ false
unequal t s e = rw e (by (eqb (head t) (head s)))
  where
    by : (c : Bool) → (c && false) ≡ false
    by true = refl
    by false = refl

-- no row is equal by value to a type that is made of no number
pub first-none : (n : ℕ) (rows : List Shape) (s : Shape) → made_of s ≡ none → first_equal n rows s ≡ none
first-none n [] s e = refl
first-none n (t ∷ l) s e = rw (first-none (suc n) l s e, e) (by (eqb (head t) (head s)) (made_of t))
  where
    by : (c : Bool) (o : Option ℕ) → cond (c && equal_numbers o none) (some n) none ≡ none
    by true none = refl
    by true (some a) = refl
    by false o = refl

first_snoc : (n : ℕ) (rows : List Shape) (t s : Shape) → first_equal n (rows ++ t ∷ []) s ≡ or_else (first_equal n rows s) (cond (equal_rows t s) (some (n + length rows)) none)
first_snoc n [] t s = let z : n + 0 ≡ n = omega arith in rw z
first_snoc n (u ∷ l) t s = let e : suc n + length l ≡ n + suc (length l) = omega arith in rw (first_snoc (suc n) l t s, e) (by (equal_rows u s))
  where
    by : (c : Bool) → cond c (some n) (or_else (first_equal (suc n) l s) (cond (equal_rows t s) (some (n + suc (length l))) none)) ≡ or_else (cond c (some n) (first_equal (suc n) l s)) (cond (equal_rows t s) (some (n + suc (length l))) none)
    by true = refl
    by false = refl

-- a row unequal to s changes nothing
pub first_other : (rows : List Shape) (t s : Shape) → equal_rows t s ≡ false → first_equal 0 (rows ++ t ∷ []) s ≡ first_equal 0 rows s
first_other rows t s e = rw (first_snoc 0 rows t s, e) (by (first_equal 0 rows s))
  where
    by : (o : Option ℕ) → or_else o none ≡ o
    by none = refl
    by (some r) = refl

-- a row equal to s, where none was, is the first
pub first_new : (rows : List Shape) (t s : Shape) → equal_rows t s ≡ true → first_equal 0 rows s ≡ none → first_equal 0 (rows ++ t ∷ []) s ≡ some (length rows)
first_new rows t s e f = let z : 0 + length rows ≡ length rows = omega arith in rw (first_snoc 0 rows t s, e, f, z)

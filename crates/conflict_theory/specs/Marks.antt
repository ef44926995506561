-- Without a negation mark no equation is refused 13, and no mark is set. Assumes nothing of the rows.
use Rattle.std.specs.Prelude.{◌≡◌, Bool, true, false, cond, length, take, eqb}
use mathlib.Core.List.{List, [], ◌∷◌}
use Rattle.std.proofs.Math.Option.{Option, none, some}
use Prim.Native.Nat.{ℕ, suc, zero}
use Rattle.theory.specs.Rules.{Shape, Kind, Out, success, mismatch, refused12, refused13, dry, Mem, Pair, Res, Step, same, compare, left, right, down, swap, differ, Act, go, at, kids, as_var, row, kind, fits, bound, alike, zip, split, at_var, act, head, choose, exchanged, roles}
use Rattle.theory.specs.Rules.{Found, free, ring, inside, lost, seek, pass, bind, is_same, settle, chase, other, suits, each, perform, move, unify, onward, marked}
use Rattle.theory.specs.Program.{fuel, solve}
use Rattle.theory.specs.Solve.{solves}

-- no variable is marked
abbrev pub Unmarked : Mem → Type 0
Unmarked m = (v : ℕ) → marked m v ≡ false

-- it is not 13
abbrev pub Not13 : Out → Type 0
Not13 success = Unit {0}
Not13 mismatch = Unit {0}
Not13 refused12 = Unit {0}
Not13 refused13 = ⊥
Not13 dry = Unit {0}

-- a result that is not 13, with no mark
abbrev pub Calm : Res → Type 0
Calm r = Not13 r.0 × Unmarked r.1

-- what a step asks for ends in no 13
abbrev ActCalm : Act → Type 0
ActCalm (go ps o) = Not13 o
ActCalm (at v z) = Unit {0}

split_calm : (xs ys : List ℕ) → ActCalm (split xs ys)
unfolding split
split_calm xs ys = by (eqb (length xs) (length ys))
  where
    by : (c : Bool) → ActCalm (cond c (go (zip xs ys) success) (go (take 1 (zip xs ys)) mismatch))
    by true = tt
    by false = tt

var_calm : (o : Option ℕ) (z : ℕ) → ActCalm (at_var o z)
unfolding at_var
var_calm none z = tt
var_calm (some v) z = tt

act_calm : (x y : ℕ) (s t : Shape) (c : Step) → ActCalm (act x y s t c)
unfolding act
act_calm x y s t same = tt
act_calm x y s t compare = by (alike s t)
  where
    by : (b : Bool) → Not13 (cond b success mismatch)
    by true = tt
    by false = tt
act_calm x y s t left = var_calm (as_var s) y
act_calm x y s t right = var_calm (as_var t) x
act_calm x y s t down = split_calm (kids s) (kids t)
act_calm x y s t swap = split_calm (kids t) (kids s)
act_calm x y s t differ = tt

onward_calm : (o : Out) (m : Mem) (k : Mem → Res) → Not13 o → Unmarked m → ((m' : Mem) → Unmarked m' → Calm (k m')) → Calm (onward o m k)
onward_calm success m k s u f = f m u
onward_calm mismatch m k s u f = (tt, u)
onward_calm refused12 m k s u f = (tt, u)
onward_calm refused13 m k s u f = absurd s
onward_calm dry m k s u f = (tt, u)

settle_calm : (m : Mem) (v z : ℕ) (f : Found) → Unmarked m → Calm (settle m v z f)
unfolding bind
settle_calm m v z free u = (tt, u)
settle_calm m v z ring u = (tt, u)
settle_calm m v z inside u = (tt, u)
settle_calm m v z lost u = (tt, u)

pass_calm : (m : Mem) (v : ℕ) (s : Shape) → Unmarked m → Unmarked (pass m v s)
unfolding pass
pass_calm m v s u = rw (u v) u

module _ (rows : List Shape) (kinds : List Kind) where
  module _ (rec : Mem → ℕ → ℕ → Res) (calm : (m : Mem) (x y : ℕ) → Unmarked m → Calm (rec m x y)) where
    each_calm : (ps : List Pair) (o : Out) (m : Mem) → Not13 o → Unmarked m → Calm (each rows kinds rec ps o m)
    each_calm [] o m s u = (s, u)
    each_calm (p ∷ ps) o m s u = let c = calm m p.0 p.1 u in onward_calm (rec m p.0 p.1).0 (rec m p.0 p.1).1 (λ m'. each rows kinds rec ps o m') c.0 c.1 (λ m' h. each_calm ps o m' s h)

    chase_calm : (m : Mem) (v z : ℕ) (o : Option ℕ) → Unmarked m → Calm (chase rows kinds rec m v z o)
    chase_calm m v z none u = settle_calm m v z (seek rows m.binds v (suc (length rows)) z) u
    chase_calm m v z (some r) u = calm m r z u

    other_calm : (m : Mem) (v z : ℕ) (c : Bool) → Unmarked m → Calm (other rows kinds rec m v z c)
    other_calm m v z true u = (tt, u)
    other_calm m v z false u = rw (u v) (chase_calm (pass m v (row rows z)) v z (bound m.binds v) (pass_calm m v (row rows z) u))

    suits_calm : (m : Mem) (v z : ℕ) (c : Bool) → Unmarked m → Calm (suits rows kinds rec m v z c)
    suits_calm m v z true u = other_calm m v z (is_same v (as_var (row rows z))) u
    suits_calm m v z false u = (tt, u)

    perform_calm : (m : Mem) (a : Act) → ActCalm a → Unmarked m → Calm (perform rows kinds rec m a)
    perform_calm m (go ps o) s u = each_calm ps o m s u
    perform_calm m (at v z) s u = suits_calm m v z (fits kinds (kind kinds v) (row rows z)) u

  unify_calm : (n : ℕ) (m : Mem) (x y : ℕ) → Unmarked m → Calm (unify rows kinds n m x y)
  unfolding unify
  unify_calm zero m x y u = (tt, u)
  unify_calm (suc n) m x y u = perform_calm (unify rows kinds n) (unify_calm n) m (move rows kinds x y) (act_calm x y (row rows x) (row rows y) (roles (exchanged kinds (as_var (row rows x)) (as_var (row rows y))) (choose (head (row rows x)) (head (row rows y))))) u

  -- one equation
  pub solve_calm : (m : Mem) (e g : ℕ) → Unmarked m → Calm (solve rows kinds m e g)
  unfolding solve
  solve_calm m e g u = unify_calm (fuel rows m) m e g u

  -- a list of them
  pub solves_calm : (ps : List Pair) (m : Mem) → Unmarked m → Calm (solves rows kinds ps m)
  unfolding solves
  solves_calm [] m u = (tt, u)
  solves_calm (p ∷ ps) m u = let c = solve_calm m p.0 p.1 u in onward_calm (solve rows kinds m p.0 p.1).0 (solve rows kinds m p.0 p.1).1 (λ m'. solves rows kinds ps m') c.0 c.1 (λ m' h. solves_calm ps m' h)

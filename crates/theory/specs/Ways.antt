-- Ways, and what an equation asks of them, in document 01's words. Definitions alone: nothing is proved or assumed here.
use Rattle.std.specs.Prelude.{◌≡◌, ◌⊎◌, List, [], ◌∷◌, Bool, true, ℕ, ◌<◌, length}
use Rattle.std.proofs.Math.Option.{Option, some}
use Rattle.theory.specs.Rules.{Base, nil, Shape, base, var, arr, ref, fn, fun, lam, err, div, Kind, Out, success, mismatch, refused12, refused13, dry, base_fits, is_regular, row, kind, bound, iter}
use Rattle.theory.specs.Program.{Equation}
use Rattle.theory.specs.Basics.{All}

-- ── ways ──

-- "closed means without variables": Bool, integers, Float, Double, Nil, instances, and arrays of closed plain types
pub data Ty : Type 0 where
  basic : Base → Ty
  array_of : Ty → Ty

-- "A way gives a type to each variable"
abbrev pub Way : Type 0
Way = ℕ → Ty

-- the types that a variable of a kind may be given
abbrev pub ty_fits : Kind → Ty → Bool
ty_fits k (basic b) = base_fits k b
ty_fits k (array_of t) = is_regular k

-- demand 3: "integer variables sized integers and float variables f32 or f64"
abbrev pub Kinded : List Kind → Way → Type 0
Kinded kinds w = (v : ℕ) → ty_fits (kind kinds v) (w v) ≡ true

-- ── what a row means ──

-- what a row becomes, by what its parts become; a row that is not plain counts as Nil, and no statement reads it
abbrev pub den_of : Way → (ℕ → Ty) → Shape → Ty
den_of w f (base b) = basic b
den_of w f (var v) = w v
den_of w f (arr e) = array_of (f e)
den_of w f (ref e) = basic nil
den_of w f (fn d) = basic nil
den_of w f (fun s o i) = basic nil
den_of w f (lam n o i) = basic nil
den_of w f err = basic nil
den_of w f div = basic nil

module _ (rows : List Shape) where
  -- "Plain types are Bool, integers, Float, Double, Nil, instances, variables, and arrays of plain types"
  pub data Plain : ℕ → Type 0 where
    plain_base : {x : ℕ} (b : Base) → row rows x ≡ base b → Plain x
    plain_var : {x : ℕ} (v : ℕ) → row rows x ≡ var v → Plain x
    plain_array : {x : ℕ} (e : ℕ) → row rows x ≡ arr e → Plain e → Plain x

  -- what the row x becomes, by what the rows become
  abbrev pub den_at : Way → (ℕ → Ty) → ℕ → Ty
  den_at w f x = den_of w f (row rows x)

  -- the type that a plain row becomes under a way: "under it each variable stands for that type, and types compare by structure"
  unfoldable pub den : Way → ℕ → Ty
  den w x = iter (den_at w) (basic nil) (length rows) x

  -- "agrees with the bindings if each bound variable and the type it is bound to become the same type under it"
  abbrev pub Agrees : List (Option ℕ) → Way → Type 0
  Agrees b w = (v r : ℕ) → bound b v ≡ some r → w v ≡ den w r

  -- each bound variable is bound to a plain type
  abbrev pub PlainBound : List (Option ℕ) → Type 0
  PlainBound b = (v r : ℕ) → bound b v ≡ some r → Plain r

  -- ── equations ──

  -- the sides of an equation are rows of the table
  abbrev pub Inside : Equation → Type 0
  Inside q = (q.expected < length rows) × (q.got < length rows)

  -- of an expected and a got row: "plain sides or Diverges as its got side"
  abbrev pub PlainSides : ℕ → ℕ → Type 0
  PlainSides e g = (row rows g ≡ div) ⊎ (Plain e × Plain g)

  -- of an expected and a got row: "both sides become the same type under it, or the got side is Diverges"
  abbrev pub MeetsSides : Way → ℕ → ℕ → Type 0
  MeetsSides w e g = (row rows g ≡ div) ⊎ (den w e ≡ den w g)

  -- an equation that "has plain sides or Diverges as its got side"
  abbrev pub Sided : Equation → Type 0
  Sided q = PlainSides q.expected q.got

  -- "A way meets an equation if both sides become the same type under it, or if the got side is Diverges"
  abbrev pub Meets : Way → Equation → Type 0
  Meets w q = MeetsSides w q.expected q.got

-- the equation ended in success
abbrev pub Went : Equation → Type 0
Went q = q.answer ≡ success

-- the equation "fails or is refused 12"
abbrev pub Failed : Out → Type 0
Failed success = ⊥
Failed mismatch = Unit {0}
Failed refused12 = Unit {0}
Failed refused13 = ⊥
Failed dry = ⊥

-- of equations, newest first: "no way meets all the equations up to and including" the first that failed
abbrev pub NoWay : List Shape → List Kind → List Equation → Type 0
NoWay rows kinds [] = Unit {0}
NoWay rows kinds (q ∷ l) = NoWay rows kinds l × (Failed q.answer → All Went l → All (Sided rows) (q ∷ l) → (w : Way) → Kinded kinds w → All (Meets rows w) (q ∷ l) → ⊥)

-- Which step the heads of plain rows and a got Diverges call for, and where the roles of two variables are exchanged. Assumes nothing.
use Rattle.std.specs.Prelude.{◌≡◌, refl, ◌≢◌, ◌⊎◌, Bool, true, false, cond, ℕ, eqb, List, []}
use Rattle.std.proofs.Common.{ap, inl, inr}
use Rattle.std.proofs.Math.Decide.{ℕ_discrete}
use Rattle.std.proofs.Math.Option.{Option, none, some}
use Rattle.theory.specs.Rules.{Base, bool, nil, float, double, uint, int, inst, Shape, base, var, arr, ref, fn, fun, lam, err, div, base_discrete, width_discrete, success, mismatch, same, compare, left, right, differ, head, base_head, compared, choose, roles, Act, act, go, Kind, regular, integer, floating, kind_fits, fits, is_regular, kinds_exchange, exchanged, param_head, array_head, error_head, diverges_head, infer_head, lambda_head}
use Rattle.theory.specs.Basics.{eqb_same, clash}

-- a head that step 1 compares is none that another step names
abbrev Compared : ℕ → Type 0
Compared h = (compared h ≡ true) × (eqb h param_head ≡ false) × (eqb h array_head ≡ false) × (eqb h error_head ≡ false) × (eqb h diverges_head ≡ false) × (eqb h infer_head ≡ false) × (eqb h lambda_head ≡ false)

base_compared : (b : Base) → Compared (base_head b)
base_compared bool = (refl, refl, refl, refl, refl, refl, refl)
base_compared nil = (refl, refl, refl, refl, refl, refl, refl)
base_compared float = (refl, refl, refl, refl, refl, refl, refl)
base_compared double = (refl, refl, refl, refl, refl, refl, refl)
base_compared (uint w) = (refl, refl, refl, refl, refl, refl, refl)
base_compared (int w) = (refl, refl, refl, refl, refl, refl, refl)
base_compared (inst k) = (refl, refl, refl, refl, refl, refl, refl)

choose_bases : (e g : ℕ) → Compared e → Compared g → choose e g ≡ cond (eqb e g) compare differ
unfolding choose
choose_bases e g p q = by (eqb e g) refl
  where
    by : (c : Bool) → eqb e g ≡ c → choose e g ≡ cond c compare differ
    by true k = rw (p.0, k)
    by false k = rw (p.0, k, q.4, p.2, p.5, q.5, p.1, p.6, p.3, q.3)

-- a base type expected, a variable got: the variable
pub choose_base_var : (b : Base) → choose (base_head b) infer_head ≡ right
unfolding choose
choose_base_var b = let p = base_compared b in rw (p.0, p.5, p.2)

-- a base type expected, an array got: mismatch
pub choose_base_array : (b : Base) → choose (base_head b) array_head ≡ differ
unfolding choose
choose_base_array b = let p = base_compared b in rw (p.0, p.2, p.5, p.1, p.6, p.3)

-- a variable expected, a base type got: the variable
pub choose_var_base : (b : Base) → choose infer_head (base_head b) ≡ left
unfolding choose
choose_var_base b = let p = base_compared b in rw p.4

-- an array expected, a base type got: mismatch
pub choose_array_base : (b : Base) → choose array_head (base_head b) ≡ differ
unfolding choose
choose_array_base b = let p = base_compared b in rw (p.4, p.2, p.5, p.3)

-- what two base types ask for, the roles as they are
abbrev pub act_of_bases : ℕ → ℕ → Base → Base → Act
act_of_bases x y b c = act x y (base b) (base c) (roles false (choose (base_head b) (base_head c)))

-- success where they are equal, else mismatch
abbrev pub ByEquality : Base → Base → Act → Type 0
ByEquality b c a = ((b ≡ c) × (a ≡ go [] success)) ⊎ ((b ≢ c) × (a ≡ go [] mismatch))

-- two base types go by equality
pub act_bases : (x y : ℕ) (b c : Base) → ByEquality b c (act_of_bases x y b c)
unfolding act
act_bases x y b c = rw (choose_bases (base_head b) (base_head c) (base_compared b) (base_compared c)) (by (base_discrete width_discrete ℕ_discrete b c) refl)
  where
    by : (d : Dec (b ≡ c)) → base_discrete width_discrete ℕ_discrete b c ≡ d → ByEquality b c (act x y (base b) (base c) (roles false (cond (eqb (base_head b) (base_head c)) compare differ)))
    by (yes e) p = inl (e, rw (ap base_head e, eqb_same (base_head c), p))
    by (no n) p = inr (n, by' (eqb (base_head b) (base_head c)))
      where
        by' : (k : Bool) → act x y (base b) (base c) (roles false (cond k compare differ)) ≡ go [] mismatch
        by' true = rw p
        by' false = refl

-- got Diverges: success
pub choose_diverges : (s : Shape) → choose (head s) diverges_head ≡ same
unfolding choose
choose_diverges (base c) = let p = base_compared c in rw (p.0, p.4)
choose_diverges (var v) = refl
choose_diverges (arr z) = refl
choose_diverges (ref z) = refl
choose_diverges (fn d) = refl
choose_diverges (fun s o i) = refl
choose_diverges (lam k o i) = refl
choose_diverges err = refl
choose_diverges div = refl

-- ── the roles ──

-- a Regular variable passes every kind test
pub regular_fits : (kinds : List Kind) (s : Shape) → fits kinds regular s ≡ true
regular_fits kinds (base b) = refl
regular_fits kinds (var u) = refl
regular_fits kinds (arr y) = refl
regular_fits kinds (ref y) = refl
regular_fits kinds (fn d) = refl
regular_fits kinds (fun n o i) = refl
regular_fits kinds (lam n o i) = refl
regular_fits kinds err = refl
regular_fits kinds div = refl

-- a kind that a Regular variable does not fit exchanges its role with it
pub unfit_exchanged : (k : Kind) → kind_fits k regular ≡ false → kinds_exchange k regular ≡ true
unfit_exchanged regular e = clash (cc)
unfit_exchanged integer e = refl
unfit_exchanged floating e = refl

-- against a number variable the roles are kept
pub number_kept : (k l : Kind) → is_regular l ≡ false → kinds_exchange k l ≡ false
number_kept regular l e = refl
number_kept integer l e = e
number_kept floating l e = e

-- and against what is no variable
pub none_kept : (kinds : List Kind) (o : Option ℕ) → exchanged kinds o none ≡ false
none_kept kinds none = refl
none_kept kinds (some v) = refl

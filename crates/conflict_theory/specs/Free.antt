-- Equations that are met whatever else is bound: two open variables whose kinds can be one, or an open Regular variable and a type without parts. Assumes no mark.
use Rattle.std.specs.Prelude.{◌≡◌, ◌⊎◌, List, Bool, true, false, cond, ℕ, suc, ◌+◌, ◌*◌, eqb}
use Rattle.std.proofs.Math.Path.{refl}
use Rattle.std.proofs.Common.{inl, inr}
use Rattle.std.proofs.Math.Option.{none, some}
use Rattle.std.proofs.Math.Decide.{ℕ_discrete}
use Rattle.std.proofs.Math.ListN.{length}
use borrow.Author.Tests.{ne_eqb}
use Rattle.theory.specs.Rules.{Base, Shape, base, var, div, Kind, regular, integer, floating, success, free, Mem, at, as_var, row, kind, kind_fits, is_regular, kinds_exchange, exchanged, fits, bound, leads, seek, is_same, perform, move, unify, choose, act, at_var}
use Rattle.theory.specs.Program.{solve, fuel}
use Rattle.theory.specs.Basics.{clash, eqb_same}
use Rattle.theory.specs.Choice.{regular_fits}
use Rattle.conflict_theory.specs.Marks.{Unmarked}
use Rattle.conflict_theory.specs.OneBound.{pass_none, move_var_base, move_base_var, move_diverges}

-- variables of these kinds can be one
abbrev pub kinds_meet : Kind → Kind → Bool
kinds_meet regular l = true
kinds_meet integer regular = true
kinds_meet integer integer = true
kinds_meet integer floating = false
kinds_meet floating regular = true
kinds_meet floating integer = false
kinds_meet floating floating = true

-- two variables are two, and can be one
abbrev pub can_meet : List Kind → ℕ → ℕ → Bool
can_meet kinds a b = cond (eqb a b) false (kinds_meet (kind kinds a) (kind kinds b))

meet_fits : (k l : Kind) → kinds_meet k l ≡ true → kinds_exchange k l ≡ false → kind_fits k l ≡ true
meet_fits regular l m e = refl
meet_fits integer regular m e = clash (cc)
meet_fits integer integer m e = refl
meet_fits integer floating m e = clash (cc)
meet_fits floating regular m e = clash (cc)
meet_fits floating integer m e = clash (cc)
meet_fits floating floating m e = refl

exchange_fits : (k l : Kind) → kinds_exchange k l ≡ true → kind_fits l k ≡ true
exchange_fits regular l e = clash (cc)
exchange_fits integer regular e = refl
exchange_fits integer integer e = clash (cc)
exchange_fits integer floating e = clash (cc)
exchange_fits floating regular e = refl
exchange_fits floating integer e = clash (cc)
exchange_fits floating floating e = clash (cc)

regular_is : (k : Kind) → is_regular k ≡ true → k ≡ regular
regular_is regular e = refl
regular_is integer e = clash (cc)
regular_is floating e = clash (cc)

apart_of : (kinds : List Kind) (a b : ℕ) → can_meet kinds a b ≡ true → (a ≡ b → ⊥) × (kinds_meet (kind kinds a) (kind kinds b) ≡ true)
apart_of kinds a b e = by (ℕ_discrete a b)
  where
    by : Dec (a ≡ b) → (a ≡ b → ⊥) × (kinds_meet (kind kinds a) (kind kinds b) ≡ true)
    by (yes q) = let y = rw (q, eqb_same b) at e in clash (cc)
    by (no q) = (q, rw (ne_eqb a b q) at e)

module _ (rows : List Shape) (kinds : List Kind) (m : Mem) (u : Unmarked m) where
  -- an open variable against a row in which it does not stand
  open_met : (n v z : ℕ) → bound m.binds v ≡ none → fits kinds (kind kinds v) (row rows z) ≡ true → is_same v (as_var (row rows z)) ≡ false → seek rows m.binds v (suc (length rows)) z ≡ free → (perform rows kinds (unify rows kinds n) m (at v z)).0 ≡ success
  open_met n v z b f s k = rw (f, s, u v, pass_none rows kinds m v (row rows z) u, b, k) refl

  seek_open : (n v z w : ℕ) → row rows z ≡ var w → (w ≡ v → ⊥) → bound m.binds w ≡ none → seek rows m.binds v (suc n) z ≡ free
  unfolding seek
  seek_open n v z w e d b = rw (e, ne_eqb w v d, b) refl

  leads_base : (n v z : ℕ) (c : Base) → row rows z ≡ base c → leads rows m.binds v (suc n) z ≡ false
  unfolding leads
  leads_base n v z c e = rw e refl

  seek_base : (n v z : ℕ) (c : Base) → row rows z ≡ base c → seek rows m.binds v (suc n) z ≡ free
  unfolding seek
  seek_base n v z c e = rw (e, leads_base (length rows + length rows) v z c e) refl

  -- the steps behind the first
  abbrev left : ℕ
  left = length m.binds * suc (length rows + length rows) + (length rows + length rows)

  module _ (x y : ℕ) where
    -- two open variables
    pub free_vars : (a b : ℕ) → row rows x ≡ var a → row rows y ≡ var b → bound m.binds a ≡ none → bound m.binds b ≡ none → can_meet kinds a b ≡ true → (solve rows kinds m x y).0 ≡ success
    unfolding solve unify choose act at_var
    free_vars a b e d p q t = by (exchanged kinds (some a) (some b)) refl
      where
        apart : (a ≡ b → ⊥) × (kinds_meet (kind kinds a) (kind kinds b) ≡ true)
        apart = apart_of kinds a b t

        back : b ≡ a → ⊥
        back z = apart.0 (rw z refl)

        by : (c : Bool) → exchanged kinds (some a) (some b) ≡ c → (unify rows kinds (fuel rows m) m x y).0 ≡ success
        by false g = let z : move rows kinds x y ≡ at a y = rw (e, d, g) refl in rw z (open_met left a y p (rw d (meet_fits (kind kinds a) (kind kinds b) apart.1 g)) (rw (d, ne_eqb b a back) refl) (seek_open (length rows) a y b d back q))
        by true g = let z : move rows kinds x y ≡ at b x = rw (e, d, g) refl in rw z (open_met left b x q (rw e (exchange_fits (kind kinds a) (kind kinds b) g)) (rw (e, ne_eqb a b apart.0) refl) (seek_open (length rows) b x a e apart.0 p))

    -- an open Regular variable expected
    pub free_expected : (a : ℕ) → row rows x ≡ var a → bound m.binds a ≡ none → is_regular (kind kinds a) ≡ true → ((c : Base) × (row rows y ≡ base c)) ⊎ (row rows y ≡ div) → (solve rows kinds m x y).0 ≡ success
    unfolding solve unify
    free_expected a e p r (inl (c, d)) = rw (move_var_base rows kinds x y a c e d) (open_met left a y p (rw (regular_is (kind kinds a) r) (regular_fits kinds (row rows y))) (rw d refl) (seek_base (length rows) a y c d))
    free_expected a e p r (inr d) = rw (move_diverges rows kinds x y d) refl

    -- an open Regular variable got
    pub free_got : (b : ℕ) (c : Base) → row rows x ≡ base c → row rows y ≡ var b → bound m.binds b ≡ none → is_regular (kind kinds b) ≡ true → (solve rows kinds m x y).0 ≡ success
    unfolding solve unify
    free_got b c e d p r = rw (move_base_var rows kinds x y b c e d) (open_met left b x p (rw (regular_is (kind kinds b) r) (regular_fits kinds (row rows x))) (rw e refl) (seek_base (length rows) b x c e))

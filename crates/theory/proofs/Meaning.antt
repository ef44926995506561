-- What the rows mean under a way, and what the search's answers say of every way that agrees with the bindings. Assumes rows made of lower rows (`Lower`).
use Rattle.std.specs.Prelude.{◌≡◌, List, Bool, ◌||◌}
use Rattle.std.proofs.Math.Path.{refl}
use Rattle.std.proofs.Common.{sym, ◌∙◌, arith}
use Rattle.std.proofs.Math.Option.{Option, none, some}
use Rattle.std.proofs.Math.Bool.{true, false, cond, or-false}
use Prim.Native.Nat.{ℕ, suc, zero, ◌+◌, ◌≤◌, ◌<◌}
use Rattle.std.proofs.Math.ListN.{length}
use Rattle.std.proofs.Math.Dec.{eqb}
use Rattle.theory.specs.Rules.{Shape, var, arr, bound, row, any, opt_list, ring, inside, free, leads, far, follow, seek}
use Rattle.theory.specs.Basics.{clash, eqb-true}
use Rattle.theory.specs.Ways.{array_of, Way, Plain, plain_base, plain_var, plain_array, den, Agrees, PlainBound}
use Rattle.theory.specs.Graph.{Lower}
use Rattle.theory.specs.Meaning.{size, den_var as den_var·S, den_array as den_array·S}

module _ (rows : List Shape) where
  module _ (lower : Lower rows) (w : Way) where
    -- as specs/Meaning has it
    abbrev den_var : (x v : ℕ) → row rows x ≡ var v → den rows w x ≡ w v
    den_var = den_var·S rows lower w

    -- as specs/Meaning has it
    abbrev den_array : (x y : ℕ) → row rows x ≡ arr y → den rows w x ≡ array_of (den rows w y)
    den_array = den_array·S rows lower w

  -- ── what the search's answers say ──

  module _ (lower : Lower rows) (b : List (Option ℕ)) (w : Way) (agrees : Agrees rows b w) (v : ℕ) where
    module _ (plains : PlainBound rows b) where
      -- a plain row that leads to v becomes a type at least as large as v's
      leads_le : (n x : ℕ) → Plain rows x → leads rows b v n x ≡ true → size (w v) ≤ size (den rows w x)
      unfolding leads
      leads_le zero x p e = clash (cc)
      leads_le (suc n) x (plain_base c q) e = clash (let h = rw q at e in cc)
      leads_le (suc n) x (plain_var u q) e = by (λ r k h. leads_le n r (plains u r k) h) (eqb u v) refl (bound b u) refl (rw q at e)
        where
          by : ((r : ℕ) → bound b u ≡ some r → leads rows b v n r ≡ true → size (w v) ≤ size (den rows w r)) → (c : Bool) → eqb u v ≡ c → (o : Option ℕ) → bound b u ≡ o → (c || any (leads rows b v n) (opt_list o)) ≡ true → size (w v) ≤ size (den rows w x)
          by ih true i o k h = rw (den_var lower w x u q, eqb-true u v i) (omega arith)
          by ih false i none k h = clash (cc)
          by ih false i (some r) k h = rw (den_var lower w x u q, agrees u r k) (ih r k (sym (or-false (leads rows b v n r)) ∙ h))
      leads_le (suc n) x (plain_array y q p) e = rw (den_array lower w x y q) (omega (arith, leads_le n y p (sym (or-false (leads rows b v n y)) ∙ (rw q at e))))

      -- v inside a plain row: the row becomes a larger type than v does
      pub inside_less : (n x : ℕ) → Plain rows x → seek rows b v n x ≡ inside → size (w v) < size (den rows w x)
      unfolding seek leads
      inside_less zero x p e = clash (cc)
      inside_less (suc n) x (plain_base c q) e = clash (let h = rw q at e in cc)
      inside_less (suc n) x (plain_var u q) e = by (λ r k h. inside_less n r (plains u r k) h) (eqb u v) (bound b u) refl (rw q at e)
        where
          by : ((r : ℕ) → bound b u ≡ some r → seek rows b v n r ≡ inside → size (w v) < size (den rows w r)) → (c : Bool) (o : Option ℕ) → bound b u ≡ o → cond c ring (follow rows b v (seek rows b v n) o) ≡ inside → size (w v) < size (den rows w x)
          by ih true o k h = clash (cc)
          by ih false none k h = clash (cc)
          by ih false (some r) k h = rw (den_var lower w x u q, agrees u r k) (ih r k h)
      inside_less (suc n) x (plain_array y q p) e = by (leads rows b v (far rows b v) x) refl (rw q at e)
        where
          part : leads rows b v (far rows b v) x ≡ leads rows b v (length rows + length rows) y
          part = rw q (or-false (leads rows b v (length rows + length rows) y))

          by : (c : Bool) → leads rows b v (far rows b v) x ≡ c → cond c inside free ≡ inside → size (w v) < size (den rows w x)
          by true k h = rw (den_array lower w x y q) (omega (arith, leads_le (length rows + length rows) y p (sym part ∙ k)))
          by false k h = clash (cc)

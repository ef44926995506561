-- The end of a row's bindings: every way that agrees with the bindings gives a row and its end one type.
use Rattle.std.specs.Prelude.{◌≡◌, refl, List, ℕ, suc, zero, ◌+◌, ◌<◌, None, Option, Some}
use Rattle.std.proofs.Common.{sym, ◌∙◌, arith, eq-eqb, ne_eqb}
use Rattle.std.proofs.Math.Option.{some}
use Rattle.std.proofs.Math.Decide.{ℕ_discrete}
use Rattle.theory.specs.Rules.{var, row, bound}
use Rattle.theory.specs.Ways.{Way, den, Agrees}
use Rattle.theory.specs.Meaning.{den_var}
use Rattle.type_table.specs.declared.Counts.{Counts}
use Rattle.type_table.specs.declared.TypeId.{TypeId}
use Rattle.type_table.specs.Memory.{head_at, number_at}
use Rattle.type_table.specs.View.{type, variable, onward_in, end_by, end_from, end_in}
use Rattle.type_table.specs.Tables.{length-rows}
use Rattle.type_table.specs.Sound.{Sound}
use Rattle.search.specs.Search.{binds_in}
use Rattle.type_table.specs.Heads.{var_row_lem}
use Rattle.search.specs.Bridge.{bound_some}
use Rattle.unify.specs.Promise.{rows_in}

-- a row that is bound is that of a variable, and its binding stands in the tables
pub record Onward (m : List ℕ) (c : Counts) (x y : ℕ) : Type 0 where
  pub var_of : ℕ
  pub is_var : row (rows_in m c) x ≡ var var_of
  pub bound_to_lem : bound (binds_in m c) var_of ≡ some y

pub onward_bound : (m : List ℕ) (c : Counts) (x : ℕ) (y : TypeId) → onward_in m c (type x) ≡ Some y → Onward m c x y.0
unfolding onward_in
onward_bound m c x y e = by (ℕ_discrete (head_at m c.types x) 12)
  where
    by : Dec (head_at m c.types x ≡ 12) → Onward m c x y.0
    by (yes h) =
        record {
          var_of = number_at m c.types x;
          is_var = var_row_lem m c.types x h;
          bound_to_lem = bound_some m c (variable (number_at m c.types x)) (Some y) (sym (rw (eq-eqb (head_at m c.types x) 12 h) at e)) y refl;
        }
    by (no n) = let g : None ≡ Some y = rw (ne_eqb (head_at m c.types x) 12 n) at e in absurd (let z : ◌≡◌ {A = ℕ} 0 1 = cc in omega arith)

module _ (m : List ℕ) (c : Counts) (sound : Sound m c) where
  falls_on : (x : ℕ) (y : TypeId) → onward_in m c (type x) ≡ Some y → sound.good.rank y.0 < sound.good.rank x
  falls_on x y e = let o = onward_bound m c x y e in let f = sound.good.falls x in let g = rw (o.is_var, o.bound_to_lem) at f in g.0

  means : (f : Way) → Agrees (rows_in m c) (binds_in m c) f → (n x : ℕ) → sound.good.rank x < n → den (rows_in m c) f (end_from m c n x) ≡ den (rows_in m c) f x
  means f a zero x h = absurd (omega arith)
  means f a (suc n) x h = by (λ y e. means f a n y.0 (omega (arith, falls_on x y e))) (onward_in m c (type x)) refl
    where
      by : ((y : TypeId) → onward_in m c (type x) ≡ Some y → den (rows_in m c) f (end_from m c n y.0) ≡ den (rows_in m c) f y.0) → (b : Option TypeId) → onward_in m c (type x) ≡ b → den (rows_in m c) f (end_by (end_from m c n) x b) ≡ den (rows_in m c) f x
      by ih None e = refl
      by ih (Some y) e = let o = onward_bound m c x y e in ih y e ∙ sym (den_var (rows_in m c) sound.lower f x o.var_of o.is_var ∙ a o.var_of y.0 o.bound_to_lem)

  -- under a way that agrees with the bindings, a row and the end of its bindings become the same type
  pub follow_same : (f : Way) → Agrees (rows_in m c) (binds_in m c) f → (x : ℕ) → den (rows_in m c) f (end_in m c x) ≡ den (rows_in m c) f x
  unfolding end_in
  follow_same f a x = means f a (c.types + 1) x (omega (arith, sound.good.top x, length-rows m c.types))

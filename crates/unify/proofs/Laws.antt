-- What each return of a leaf shows, over plain variables.
use mathlib.Core.Path.{◌≡◌, refl, sym, ap, ◌∙◌}
use mathlib.Core.Logic.{◌≢◌, ◌⊎◌, inl, inr}
use mathlib.Core.List.{List}
use mathlib.Core.Bool.{Bool, true, false}
use Prim.Native.Nat.{ℕ}
use lib.Dec.{eqb}
use native.Mathlib.Omega.{arith}
use borrow.Author.Tests.{eq-eqb, ne_eqb}
use Rattle.theory.specs.Rules.{same, compare, left, right, down, swap, differ, compared, choose, var, row, kind, fits, kind_fits, regular, integer, floating}
use Rattle.type_table.specs.declared.Counts.{Counts}
use Rattle.type_table.specs.declared.TypeId.{TypeId}
use Rattle.type_table.specs.declared.VarId.{VarId}
use Rattle.type_table.specs.declared.Kind.{Kind}
use Rattle.type_table.specs.declared.Kind.TheVariants.{Regular, Integer, Float}
use Rattle.type_table.specs.Memory.{pick, head_at, number_at, var_cell, kind_of, kind_at, rows_of, kinds_of}
use Rattle.type_table.specs.View.{variable, kind_code, kind_in}
use Rattle.unify.specs.declared.Reply.TheVariants.{Mismatch, Success}
use Rattle.unify.specs.Leaf.{kind_k, Classed, Signed, SameVar, Compared, code}
use Rattle.type_table.specs.Tables.{kind_at_lem}
use Rattle.type_table.specs.Heads.{var_row_lem}
use Rattle.search.specs.Bridge.{no_var_row}
use Rattle.unify.specs.Bridge.{signed_row, fits_row, alike_row}

-- ── kinds ──

kind_code_lem : (k : ℕ) → kind_k (kind_code k) ≡ kind_of k
unfolding kind_code
kind_code_lem k = by (eqb k 1) (eqb k 2)
  where
    by : (a b : Bool) → kind_k (pick a Integer (pick b Float Regular)) ≡ pick a integer (pick b floating regular)
    by true b = refl
    by false true = refl
    by false false = refl

-- a variable's kind, as the rules read it
pub kind_in_lem : (m : List ℕ) (c : Counts) (u : ℕ) (r : Kind) → r ≡ kind_in m c (variable u) → kind_k r ≡ kind (kinds_of m c.vars) u
unfolding kind_in kind_at
kind_in_lem m c u r p = rw p (kind_code_lem (var_cell m c.vars u 0)) ∙ sym (kind_at_lem m c.vars u)

module _ (m : List ℕ) (c : Counts) (z : TypeId) (h : ℕ) (p : h ≡ head_at m c.types z.0) where
  pub class_at : (r : Kind) → h ≢ 12 → kind_k r ≡ pick (eqb h 1) integer (pick (eqb h 2) integer (pick (eqb h 3) floating (pick (eqb h 4) floating regular))) → Classed m c z r
  class_at r d q k = fits_row m c.types z.0 (kinds_of m c.vars) k (rw p at d) ∙ rw (← p, ← q)

  pub class_integer : (h ≡ 1) ⊎ (h ≡ 2) → Classed m c z Integer
  class_integer (inl e) = class_at Integer (λ q. omega arith) (rw e)
  class_integer (inr e) = class_at Integer (λ q. omega arith) (rw e)

  pub class_floating : (h ≡ 3) ⊎ (h ≡ 4) → Classed m c z Float
  class_floating (inl e) = class_at Float (λ q. omega arith) (rw e)
  class_floating (inr e) = class_at Float (λ q. omega arith) (rw e)

  pub class_other : h ≢ 1 → h ≢ 2 → h ≢ 3 → h ≢ 4 → h ≢ 12 → Classed m c z Regular
  class_other n1 n2 n3 n4 n12 = class_at Regular n12 (simp (ne_eqb h 1 n1, ne_eqb h 2 n2, ne_eqb h 3 n3, ne_eqb h 4 n4))

  pub row_var : (u : ℕ) → h ≡ 12 → u ≡ number_at m c.types z.0 → row (rows_of m c.types) z.0 ≡ var u
  row_var u e q = var_row_lem m c.types z.0 (sym p ∙ e) ∙ ap var (sym q)

  pub class_var : (u : ℕ) (r : Kind) → h ≡ 12 → u ≡ number_at m c.types z.0 → r ≡ kind_in m c (variable u) → Classed m c z r
  class_var u r e q s k = ap (fits (kinds_of m c.vars) k) (row_var u e q) ∙ ap (kind_fits k) (sym (kind_in_lem m c u r s))

  pub signed_int : h ≡ 2 → Signed m c z (eqb h 2)
  signed_int e = sym (signed_row m c.types z.0 ∙ rw (← p, e))

  pub signed_other : h ≢ 2 → Signed m c z (eqb h 12)
  signed_other d = sym (signed_row m c.types z.0 ∙ rw (← p, ne_eqb h 2 d))

  pub same_yes : (v : VarId) (u : ℕ) → h ≡ 12 → u ≡ number_at m c.types z.0 → SameVar m c v z (eqb u v.0)
  same_yes v u e q = rw (row_var u e q)

  pub same_no : (v : VarId) → h ≢ 12 → SameVar m c v z (eqb h 12)
  same_no v d = rw (ne_eqb h 12 d, no_var_row m c.types z.0 (rw p at d))

-- ── step 1's comparison ──

module _ (m : List ℕ) (c : Counts) (x y : TypeId) (h a i k b j : ℕ) (ph : h ≡ head_at m c.types x.0) (pa : a ≡ number_at m c.types x.0) (pi : i ≡ code h a)
    (pk : k ≡ head_at m c.types y.0) (pb : b ≡ number_at m c.types y.0) (pj : j ≡ code k b) where
  alike_codes : Rattle.theory.specs.Rules.alike (row (rows_of m c.types) x.0) (row (rows_of m c.types) y.0) ≡ pick (eqb i 0) false (eqb i j)
  alike_codes = alike_row m c.types x.0 y.0 ∙ rw (← ph, ← pa, ← pk, ← pb, ← pi, ← pj)

  pub compare_none : i ≡ 0 → Compared m c x y Mismatch
  compare_none e = rw (alike_codes, e)

  pub compare_same : i ≢ 0 → i ≡ j → Compared m c x y Success
  compare_same d e = rw (alike_codes, ne_eqb i 0 d, eq-eqb i j e)

  pub compare_differ : i ≢ 0 → i ≢ j → Compared m c x y Mismatch
  compare_differ d e = rw (alike_codes, ne_eqb i 0 d, ne_eqb i j e)

-- What the reading operations answer is what the tables of the memory hold; and `follow` reaches an end, where `Sound` holds.
use Rattle.std.specs.Prelude.{◌≡◌, List, Bool, true, false, get_or, eqb, None, Option as Option·R, Some}
use Rattle.std.proofs.Math.Path.{refl, sym}
use Rattle.std.proofs.Common.{ap, ◌∙◌, arith, eqb-true, ne_eqb}
use Rattle.std.proofs.Math.Option.{Option, none, some}
use Prim.Native.Nat.{ℕ, suc, zero, ◌+◌, ◌<◌}
use Rattle.theory.specs.Rules.{Width as Width-as-T, w8, w16, w32, w64, bool, nil, float, double, uint, int, inst, Shape, base, var, arr, ref, fn, fun, lam, err, div, row, kind, bound, opt_list, next}
use Rattle.theory.specs.Basics.{All}
use Rattle.theory.specs.Graph.{alike}
use Rattle.type_table.specs.declared.Counts.{Counts}
use Rattle.type_table.specs.declared.TypeId.{TypeId}
use Rattle.type_table.specs.declared.VarId.{VarId}
use Rattle.type_table.specs.declared.InputRange.{InputRange}
use Rattle.type_table.specs.declared.Width.{Width}
use Rattle.type_table.specs.declared.Width.TheVariants.{W8, W16, W32, W64}
use Rattle.type_table.specs.declared.Row.{Row}
use Rattle.type_table.specs.declared.Row.TheVariants.{Bool as Bool-as-R, Uint, Int, Float, Double, Instance, Param, FnDef, Array, Nil, Error, Diverges, InferTy, Lambda, Ref}
use Rattle.type_table.specs.Memory.{pick, var_cell, head_at, number_at, inputs_from, width_of, shape_of, shape_at, rows_of, kind_of, kind_at, kinds_of, numbered, origin_at, origins_of, binding_at, binds_of}
use Rattle.type_table.specs.View.{type, variable, kind_code, kind_in, origin_code, origin_in, bound_code, bound_in, width_code, view_of, view_in, onward_in, end_by, end_or, end_from, end_in}
use Rattle.type_table.specs.Made.{kind_number}
use Rattle.type_table.specs.Tables.{row_at, kind_at_lem, origin_at_lem, bound_at, length-rows}
use Rattle.type_table.specs.Sound.{Sound}
use Rattle.type_table.specs.declared.NodeId.{NodeId}

-- ── definitions ──

-- the width of the theory
abbrev pub width_meant : Width → Width-as-T
width_meant W8 = w8
width_meant W16 = w16
width_meant W32 = w32
width_meant W64 = w64

-- the type of the theory, with the inputs that stand in a memory
abbrev pub row_meant : List ℕ → Row → Shape
row_meant m Bool-as-R = base bool
row_meant m (Uint w) = base (uint (width_meant w))
row_meant m (Int w) = base (int (width_meant w))
row_meant m Float = base float
row_meant m Double = base double
row_meant m (Instance k) = base (inst k.0)
row_meant m (Param s o i) = fun s o.0 (inputs_from m i.first i.count)
row_meant m (FnDef d) = fn d.0
row_meant m (Array e) = arr e.0
row_meant m Nil = base nil
row_meant m Error = err
row_meant m Diverges = div
row_meant m (InferTy v) = var v.0
row_meant m (Lambda n o i) = lam n.0 o.0 (inputs_from m i.first i.count)
row_meant m (Ref e) = ref e.0

-- the node, none for a literal
abbrev pub origin_meant : Option·R NodeId → Option ℕ
origin_meant None = none
origin_meant (Some n) = some n.0

-- the row that is bound, none for an open variable
abbrev pub bound_meant : Option·R TypeId → Option ℕ
bound_meant None = none
bound_meant (Some x) = some x.0

-- ── laws ──

pick_map : {A B : Type 0} (f : A → B) (b : Bool) (x y : A) (v w : B) → f x ≡ v → f y ≡ w → f (pick b x y) ≡ pick b v w
pick_map f true x y v w p q = p
pick_map f false x y v w p q = q

width_meant_lem : (a : ℕ) → width_meant (width_code a) ≡ width_of a
unfolding width_code
width_meant_lem zero = refl
width_meant_lem (suc zero) = refl
width_meant_lem (suc (suc zero)) = refl
width_meant_lem (suc (suc (suc n))) = let a = suc (suc (suc n)) in rw (ne_eqb a 0 (λ e. omega arith), ne_eqb a 1 (λ e. omega arith), ne_eqb a 2 (λ e. omega arith))

view_meant : (m : List ℕ) (h a : ℕ) (o : TypeId) (i : InputRange) → row_meant m (view_of h a o i) ≡ shape_of h a o.0 (inputs_from m i.first i.count)
unfolding view_of shape_of
view_meant m h a o i =
    pick_map (row_meant m) (eqb h 0) _ _ _ _ refl
    (pick_map (row_meant m) (eqb h 1) _ _ _ _ (ap (λ (w : Width-as-T). base (uint w)) (width_meant_lem a))
    (pick_map (row_meant m) (eqb h 2) _ _ _ _ (ap (λ (w : Width-as-T). base (int w)) (width_meant_lem a))
    (pick_map (row_meant m) (eqb h 3) _ _ _ _ refl
    (pick_map (row_meant m) (eqb h 4) _ _ _ _ refl
    (pick_map (row_meant m) (eqb h 5) _ _ _ _ refl
    (pick_map (row_meant m) (eqb h 6) _ _ _ _ refl
    (pick_map (row_meant m) (eqb h 7) _ _ _ _ refl
    (pick_map (row_meant m) (eqb h 8) _ _ _ _ refl
    (pick_map (row_meant m) (eqb h 10) _ _ _ _ refl
    (pick_map (row_meant m) (eqb h 11) _ _ _ _ refl
    (pick_map (row_meant m) (eqb h 12) _ _ _ _ refl
    (pick_map (row_meant m) (eqb h 13) _ _ _ _ refl
    (pick_map (row_meant m) (eqb h 14) _ _ _ _ refl refl)))))))))))))

module _ (m : List ℕ) (c : Counts) where
  -- a row as `view` answers it is the row of the table
  pub view_row : (x : TypeId) → row_meant m (view_in m c x) ≡ row (rows_of m c.types) x.0
  unfolding view_in shape_at
  view_row x = view_meant m _ _ _ _ ∙ sym (row_at m c.types x.0)

  -- a variable's kind as `kind_of` answers it is the kind of the table
  pub kind_read : (v : VarId) → kind_of (kind_number (kind_in m c v)) ≡ kind (kinds_of m c.vars) v.0
  unfolding kind_in kind_code kind_at
  kind_read v =
      let k = var_cell m c.vars v.0 0 in
      pick_map (λ r. kind_of (kind_number r)) (eqb k 1) _ _ _ _ refl (pick_map (λ r. kind_of (kind_number r)) (eqb k 2) _ _ _ _ refl refl) ∙ sym (kind_at_lem m c.vars v.0)

  -- a variable's origin as `origin_of` answers it is the origin of the table
  pub origin_read : (v : VarId) → origin_meant (origin_in m c v) ≡ get_or (origins_of m c.vars) v.0 none
  unfolding origin_in origin_at
  origin_read v = by (var_cell m c.vars v.0 1) ∙ sym (origin_at_lem m c.vars v.0)
    where
      by : (n : ℕ) → origin_meant (origin_code n) ≡ numbered n
      by zero = refl
      by (suc n) = refl

  -- a variable's binding as `bound_to` answers it is the binding of the table
  pub bound_read : (v : VarId) → bound_meant (bound_in m c v) ≡ bound (binds_of m c.vars) v.0
  unfolding bound_in
  bound_read v = by (binding_at m c.vars v.0) ∙ sym (bound_at m c.vars v.0)
    where
      by : (o : Option ℕ) → bound_meant (bound_code o) ≡ o
      by none = refl
      by (some x) = refl

-- ── the end of the bindings ──

-- what a row is bound to, if it is bound, has the property
abbrev Onward : (ℕ → Type 0) → Option·R TypeId → Type 0
Onward P None = Unit {0}
Onward P (Some y) = P y.0

module _ (m : List ℕ) (c : Counts) where
  -- what a row is bound to is where the row leads
  onward_next : (P : ℕ → Type 0) (x : ℕ) → All P (next (rows_of m c.types) (binds_of m c.vars) x) → Onward P (onward_in m c (type x))
  unfolding onward_in bound_in shape_at shape_of
  onward_next P x h = by (eqb (head_at m c.types x) 12) refl
    where
      bound_onward : (o : Option ℕ) → All P (opt_list o) → Onward P (bound_code o)
      bound_onward none k = tt
      bound_onward (some r) k = k.0

      variable_row : head_at m c.types x ≡ 12 → row (rows_of m c.types) x ≡ var (number_at m c.types x)
      variable_row e = rw (row_at m c.types x, e)

      by : (b : Bool) → eqb (head_at m c.types x) 12 ≡ b → Onward P (pick b (bound_in m c (variable (number_at m c.types x))) None)
      by true e = bound_onward (binding_at m c.vars (number_at m c.types x)) (rw (variable_row (eqb-true (head_at m c.types x) 12 e), bound_at m c.vars (number_at m c.types x)) at h)
      by false e = tt

  end_open : (rank : ℕ → ℕ) → ((x : ℕ) → All (λ (y : ℕ). rank y < rank x) (next (rows_of m c.types) (binds_of m c.vars) x)) → (n x : ℕ) → rank x < n → onward_in m c (type (end_from m c n x)) ≡ None
  end_open rank falls zero x h = absurd (omega arith)
  end_open rank falls (suc n) x h = by (λ y k. end_open rank falls n y k) (onward_in m c (type x)) refl (onward_next (λ (y : ℕ). rank y < rank x) x (falls x))
    where
      by : ((y : ℕ) → rank y < n → onward_in m c (type (end_from m c n y)) ≡ None) → (r : Option·R TypeId) → onward_in m c (type x) ≡ r → Onward (λ (y : ℕ). rank y < rank x) r → onward_in m c (type (end_by (end_from m c n) x r)) ≡ None
      by ih None e k = e
      by ih (Some y) e k = ih y.0 (omega arith)

  -- the end of a row's bindings asks of the row that it is bound to alone
  end_local : (f g : ℕ → ℕ) (x : ℕ) → All (λ (y : ℕ). f y ≡ g y) (next (rows_of m c.types) (binds_of m c.vars) x) → end_by f x (onward_in m c (type x)) ≡ end_by g x (onward_in m c (type x))
  end_local f g x h = by (onward_in m c (type x)) (onward_next (λ (y : ℕ). f y ≡ g y) x h)
    where
      by : (r : Option·R TypeId) → Onward (λ (y : ℕ). f y ≡ g y) r → end_by f x r ≡ end_by g x r
      by None k = refl
      by (Some y) k = k

-- the row that `follow` answers is bound to nothing
pub follow_open : {m : List ℕ} {c : Counts} → Sound m c → (x : ℕ) → onward_in m c (type (end_in m c x)) ≡ None
unfolding end_in
follow_open {m} {c} sound x = end_open m c sound.good.rank sound.good.falls (c.types + 1) x (omega (arith, sound.good.top x, length-rows m c.types))

-- and the steps never run out: whatever row stands for that, and with any more steps, it answers the same
pub follow_same : {m : List ℕ} {c : Counts} → Sound m c → (x d k : ℕ) → c.types < k → end_or m c d k x ≡ end_in m c x
unfolding end_in
follow_same {m} {c} sound x d k h =
    let l = length-rows m c.types in
    let t = sound.good.top x in
    alike (λ (f : ℕ → ℕ) (y : ℕ). end_by f y (onward_in m c (type y))) (next (rows_of m c.types) (binds_of m c.vars)) sound.good.rank sound.good.falls (end_local m c) d 12 k (c.types + 1) x (omega arith) (omega arith)

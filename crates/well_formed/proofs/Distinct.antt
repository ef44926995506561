-- Of Distinct: the theorems that rest on a declaration which an edit of a definition in specs/ refuses. The definitions and the other theorems stand in
-- specs/Distinct.antt. Assumes nothing.
use Rattle.std.specs.Prelude.{ℕ, ◌+◌, ◌<◌, ◌≡◌, List, Bool, true, false, ltb}
use Rattle.std.proofs.Common.{add-zero, arith, sym, ◌∙◌, ltb-true, ltb-false}
use Rattle.std.proofs.Math.Path.{refl}
use Rattle.forms.specs.Form.{forms, form_at}
use Rattle.refs.specs.declared.Counts.{Counts}
use Rattle.refs.specs.Refs.{form_in, first_in, count_in, value_in}
use Rattle.well_formed.specs.Good.{WellFormed}
use Rattle.well_formed.specs.Distinct.{not-before, one_field}

module _ (n : Counts) (rows cells : List ℕ) (w : WellFormed n rows cells) where
  -- two type rows of one form, one number of fields and equal values are one row
  pub type_once : (i j : ℕ) → i < n.types → j < n.types → form_in rows i ≡ form_in rows j → count_in rows i ≡ count_in rows j
      → ((c : ℕ) → c < count_in rows i → value_in cells (first_in rows i + c) ≡ value_in cells (first_in rows j + c)) → i ≡ j
  type_once i j hi hj form count v = by (ltb i j) refl (ltb j i) refl
    where
      by : (a : Bool) → ltb i j ≡ a → (b : Bool) → ltb j i ≡ b → i ≡ j
      by true p b q = absurd (not-before n rows cells w i j (ltb-true i j p) hj form count v)
      by false p true q = absurd (not-before n rows cells w j i (ltb-true j i q) hi (sym form) (sym count) (λ c l. sym (v c (omega (arith, count)))))
      by false p false q = omega (arith, ltb-false i j p, ltb-false j i q)

  -- two type rows of a form with one field and equal values are one row
  form_once : (f i j : ℕ) → (form_at f).4 ≡ 1 → (form_at f).5 ≡ 1 → i < n.types → j < n.types → form_in rows i ≡ f → form_in rows j ≡ f
      → value_in cells (first_in rows i) ≡ value_in cells (first_in rows j) → i ≡ j
  form_once f i j least most hi hj fi fj v =
      let ci : count_in rows i ≡ 1 = one_field n rows cells w i f hi fi least most in
      let cj : count_in rows j ≡ 1 = one_field n rows cells w j f hj fj least most in
      type_once i j hi hj (fi ∙ sym fj) (ci ∙ sym cj) (λ c l. let z : c ≡ 0 = omega arith in rw (z, add-zero (first_in rows i), add-zero (first_in rows j)) v)

  -- two array rows with equal elements are one row,
  pub array_once : (i j : ℕ) → i < n.types → j < n.types → form_in rows i ≡ 0 → form_in rows j ≡ 0
      → value_in cells (first_in rows i) ≡ value_in cells (first_in rows j) → i ≡ j
  unfolding form_at forms
  array_once i j = form_once 0 i j refl refl

  -- two inst rows with equal K are one row,
  pub inst_once : (i j : ℕ) → i < n.types → j < n.types → form_in rows i ≡ 2 → form_in rows j ≡ 2
      → value_in cells (first_in rows i) ≡ value_in cells (first_in rows j) → i ≡ j
  unfolding form_at forms
  inst_once i j = form_once 2 i j refl refl

  -- and two fn rows with equal D
  pub fn_once : (i j : ℕ) → i < n.types → j < n.types → form_in rows i ≡ 3 → form_in rows j ≡ 3
      → value_in cells (first_in rows i) ≡ value_in cells (first_in rows j) → i ≡ j
  unfolding form_at forms
  fn_once i j = form_once 3 i j refl refl

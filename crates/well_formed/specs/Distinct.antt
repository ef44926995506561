-- Two type rows of one form with equal values are one row.
-- Assumes nothing.
use Rattle.std.specs.Prelude.{ℕ, zero, suc, ◌+◌, ◌<◌, ◌≡◌, List, true}
use Rattle.std.proofs.Common.{add-zero, arith, sym, ap, ◌∙◌, true≢false, eq-eqb}
use Rattle.std.proofs.Math.Path.{refl}
use Rattle.forms.specs.Form.{form_at}
use Rattle.refs.specs.declared.Counts.{Counts}
use Rattle.refs.specs.Refs.{form_in, first_in, count_in, value_in, same_values, is_same}
use Rattle.well_formed.specs.Good.{behind, RowGood, WellFormed}
use Rattle.well_formed.specs.Levels.{type_good}

-- m values from a on are those from b on, where each is
each_same : (m a b : ℕ) (cells : List ℕ) → ((c : ℕ) → c < m → value_in cells (a + c) ≡ value_in cells (b + c)) → same_values m a b cells ≡ true
unfolding same_values
each_same zero a b cells h = refl
each_same (suc m) a b cells h =
    let now : value_in cells a ≡ value_in cells b = rw (add-zero a, add-zero b) at (h 0 (omega arith)) in
    rw (eq-eqb (value_in cells a) (value_in cells b) now)
    (each_same m (a + 1) (b + 1) cells
    (λ c l. ap (value_in cells) (omega arith) ∙ h (suc c) (omega arith) ∙ ap (value_in cells) (omega arith)))

-- a row is the same as one of its form, its number of fields and its values
row_same : (rows cells : List ℕ) (i j : ℕ) → form_in rows i ≡ form_in rows j → count_in rows i ≡ count_in rows j
    → ((c : ℕ) → c < count_in rows i → value_in cells (first_in rows i + c) ≡ value_in cells (first_in rows j + c))
    → is_same rows cells i (form_in rows j) (first_in rows j) (count_in rows j) ≡ true
unfolding is_same
row_same rows cells i j form count h =
    rw (eq-eqb (form_in rows i) (form_in rows j) form, eq-eqb (count_in rows i) (count_in rows j) count)
    (each_same (count_in rows j) (first_in rows i) (first_in rows j) cells (λ c l. h c (omega (arith, count))))

module _ (n : Counts) (rows cells : List ℕ) (w : WellFormed n rows cells) where
  -- a type row differs from each later one in its form, its number of fields or a value
  pub not-before : (i j : ℕ) → i < j → j < n.types → form_in rows i ≡ form_in rows j → count_in rows i ≡ count_in rows j
      → ((c : ℕ) → c < count_in rows i → value_in cells (first_in rows i + c) ≡ value_in cells (first_in rows j + c)) → ⊥
  not-before i j h l form count v = true≢false (sym (row_same rows cells i j form count v) ∙ w.distinct i j h l)

  -- an array, an inst and a fn have one field
  pub one_field : (i f : ℕ) → i < n.types → form_in rows i ≡ f → (form_at f).4 ≡ 1 → (form_at f).5 ≡ 1 → count_in rows i ≡ 1
  one_field i f h e least most =
      let g : RowGood (behind n 0 i) n.fields 0 i rows cells = type_good n rows cells w i h in
      omega (arith, rw (e, least) at g.least, rw (e, most) at g.most)

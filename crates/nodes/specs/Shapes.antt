-- What a row of a memory is, by its head: its shape, its inputs, its element, and whether it is a function type.
use Rattle.std.specs.Prelude.{◌≡◌, refl, List, [], ◌||◌, ℕ, ◌<◌, eqb}
use Rattle.std.proofs.Common.{sym, ap, ◌∙◌}
use Rattle.std.proofs.Math.Option.{none, some}
use Rattle.theory.specs.Rules.{inst, Shape, base, var, arr, ref, fn, fun, lam, err, div, row, head, as_var, array_head, infer_head}
use Rattle.type_table.specs.Memory.{pick, head_at, number_at, output_at, first_at, count_at, inputs_from, shape_of, rows_of}
use Rattle.type_table.specs.Heads.{head_low, shape_cases, row_by, head_row, var_row_lem}
use Rattle.nodes.specs.Nodes.{shape_inputs, as_arr, is_fun}

-- ── a shape by its head ──

module _ (h a o : ℕ) (i : List ℕ) (l : h < 15) where
  -- function types and lambdas alone have inputs
  pub shape_inputs_lem : shape_inputs (shape_of h a o i) ≡ pick (eqb h 6 || eqb h 13) i []
  shape_inputs_lem = shape_cases h a o i l (λ s. shape_inputs s ≡ pick (eqb h 6 || eqb h 13) i []) (λ e. rw e) (λ e. rw e) (λ e. rw e) (λ e. rw e) (λ e. rw e) (λ e. rw e) (λ e. rw e) (λ e. rw e) (λ e. rw e) (λ e. rw e) (λ e. rw e) (λ e. rw e) (λ e. rw e) (λ e. rw e) (λ e. rw e)

  -- arrays alone have an element
  pub shape_element : as_arr (shape_of h a o i) ≡ pick (eqb h 8) (some a) none
  shape_element = shape_cases h a o i l (λ s. as_arr s ≡ pick (eqb h 8) (some a) none) (λ e. rw e) (λ e. rw e) (λ e. rw e) (λ e. rw e) (λ e. rw e) (λ e. rw e) (λ e. rw e) (λ e. rw e) (λ e. rw e) (λ e. rw e) (λ e. rw e) (λ e. rw e) (λ e. rw e) (λ e. rw e) (λ e. rw e)

  -- a function type is what has its head
  pub shape_is_fun : is_fun (shape_of h a o i) ≡ eqb h 6
  shape_is_fun = shape_cases h a o i l (λ s. is_fun s ≡ eqb h 6) (λ e. rw e) (λ e. rw e) (λ e. rw e) (λ e. rw e) (λ e. rw e) (λ e. rw e) (λ e. rw e) (λ e. rw e) (λ e. rw e) (λ e. rw e) (λ e. rw e) (λ e. rw e) (λ e. rw e) (λ e. rw e) (λ e. rw e)

-- ── the row x, of n rows of the memory m ──

module _ (m : List ℕ) (n x : ℕ) where
  -- the inputs of a row are those of its places, where it is a function type or a lambda
  pub row_inputs : shape_inputs (row (rows_of m n) x) ≡ pick (eqb (head_at m n x) 6 || eqb (head_at m n x) 13) (inputs_from m (first_at m n x) (count_at m n x)) []
  row_inputs = ap shape_inputs (row_by m n x) ∙ shape_inputs_lem (head_at m n x) (number_at m n x) (output_at m n x) (inputs_from m (first_at m n x) (count_at m n x)) (head_low m n x)

  -- the element of a row is its number, where it is an array
  pub row_element : as_arr (row (rows_of m n) x) ≡ pick (eqb (head_at m n x) 8) (some (number_at m n x)) none
  row_element = ap as_arr (row_by m n x) ∙ shape_element (head_at m n x) (number_at m n x) (output_at m n x) (inputs_from m (first_at m n x) (count_at m n x)) (head_low m n x)

  -- a row is a function type where it has that head
  pub row_is_fun : is_fun (row (rows_of m n) x) ≡ eqb (head_at m n x) 6
  row_is_fun = ap is_fun (row_by m n x) ∙ shape_is_fun (head_at m n x) (number_at m n x) (output_at m n x) (inputs_from m (first_at m n x) (count_at m n x)) (head_low m n x)

  -- the head of a row is that of its cells
  pub row_head : head (row (rows_of m n) x) ≡ head_at m n x
  row_head = head_row m n x

  -- a row with the head of an instance
  pub row_inst : head_at m n x ≡ 5 → row (rows_of m n) x ≡ base (inst (number_at m n x))
  unfolding shape_of
  row_inst e = row_by m n x ∙ rw e

  -- a row with the head of a function type
  pub row_fun : head_at m n x ≡ 6 → row (rows_of m n) x ≡ fun (number_at m n x) (output_at m n x) (inputs_from m (first_at m n x) (count_at m n x))
  unfolding shape_of
  row_fun e = row_by m n x ∙ rw e

  -- a row with the head of a definition
  pub row_fn : head_at m n x ≡ 7 → row (rows_of m n) x ≡ fn (number_at m n x)
  unfolding shape_of
  row_fn e = row_by m n x ∙ rw e

  -- a row with the head of an array
  pub row_arr : head_at m n x ≡ 8 → row (rows_of m n) x ≡ arr (number_at m n x)
  unfolding shape_of
  row_arr e = row_by m n x ∙ rw e

  -- a row with the head of an error
  pub row_err : head_at m n x ≡ 10 → row (rows_of m n) x ≡ err
  unfolding shape_of
  row_err e = row_by m n x ∙ rw e

  -- a row with the head of a variable
  pub row_var : head_at m n x ≡ 12 → row (rows_of m n) x ≡ var (number_at m n x)
  row_var = var_row_lem m n x

  -- a row with the head of a lambda
  pub row_lam : head_at m n x ≡ 13 → row (rows_of m n) x ≡ lam (number_at m n x) (output_at m n x) (inputs_from m (first_at m n x) (count_at m n x))
  unfolding shape_of
  row_lam e = row_by m n x ∙ rw e

  -- a row with the head of a reference
  pub row_ref : head_at m n x ≡ 14 → row (rows_of m n) x ≡ ref (number_at m n x)
  unfolding shape_of
  row_ref e = row_by m n x ∙ rw e

-- ── what a head excludes ──

-- no variable
pub not_var : (s : Shape) → (head s ≡ infer_head → ⊥) → as_var s ≡ none
not_var (base b) h = refl
not_var (var v) h = absurd (h refl)
not_var (arr e) h = refl
not_var (ref e) h = refl
not_var (fn d) h = refl
not_var (fun a o i) h = refl
not_var (lam n o i) h = refl
not_var err h = refl
not_var div h = refl

-- no array
pub not_arr : (s : Shape) → (head s ≡ array_head → ⊥) → as_arr s ≡ none
not_arr (base b) h = refl
not_arr (var v) h = refl
not_arr (arr e) h = absurd (h refl)
not_arr (ref e) h = refl
not_arr (fn d) h = refl
not_arr (fun a o i) h = refl
not_arr (lam n o i) h = refl
not_arr err h = refl
not_arr div h = refl

module _ (m : List ℕ) (n x h : ℕ) (is : h ≡ head_at m n x) where
  -- the head of a row is not what the code's test excludes
  pub head_not : (k : ℕ) → (h ≡ k → ⊥) → head (row (rows_of m n) x) ≡ k → ⊥
  head_not k other p = other (is ∙ sym (row_head m n x) ∙ p)

  -- a row that is no variable
  pub row_not_var : (h ≡ 12 → ⊥) → as_var (row (rows_of m n) x) ≡ none
  row_not_var other = not_var (row (rows_of m n) x) (head_not 12 other)

  -- a row that is no array
  pub row_not_arr : (h ≡ 8 → ⊥) → as_arr (row (rows_of m n) x) ≡ none
  row_not_arr other = not_arr (row (rows_of m n) x) (head_not 8 other)

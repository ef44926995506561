-- A line that was read stays good where the tables change around it.
-- Assumes nothing.
use Rattle.std.specs.Prelude.{ℕ, zero, suc, ◌+◌, ◌/◌, ◌-◌, ◌<◌, ◌≤◌, ◌≡◌, refl, List, [], ◌∷◌, Bool, true, false, cond, leb, eqb, get_or}
use Rattle.std.proofs.Common.{arith, sym, ap, ◌∙◌, inl, inr, leb-true, eqb-true}
use Rattle.std.proofs.lemmas.Bool.{false≢true, eqb-false}
use Rattle.forms.specs.declared.Form.{Form}
use Rattle.forms.specs.Form.{LineForm, forms, no_form, form_at, kind_at, key_fn, LowType, Body}
use Rattle.refs.specs.declared.Counts.{Counts}
use Rattle.refs.specs.Refs.{nodes_at, fixed_types, form_param, form_in, first_in, count_in, levels_in, user_in, tag_in, value_in, refers_to, is_child, levels_of}
use Rattle.body.specs.Body.{levels_over}
use Rattle.well_formed.specs.Good.{written_as, FieldGood, Attained, RowGood}
use Rattle.well_formed.specs.Counting.{Within}
use Rattle.well_formed.specs.Kept.{field_kept}

-- the rows and cells that a line behind n with fields below m can refer to are the same in rows' and cells'
pub record Frame (n : Counts) (m : ℕ) (rows cells rows' cells' : List ℕ) : Type 0 where
  pub type_levels : (x : ℕ) → x < n.types → levels_in rows' x ≡ levels_in rows x
  pub forms : (x : ℕ) → x < n.nodes → form_in rows' (nodes_at + x) ≡ form_in rows (nodes_at + x)
  pub firsts : (x : ℕ) → x < n.nodes → first_in rows' (nodes_at + x) ≡ first_in rows (nodes_at + x)
  pub levels : (x : ℕ) → x < n.nodes → levels_in rows' (nodes_at + x) ≡ levels_in rows (nodes_at + x)
  pub users : (x : ℕ) → x < n.nodes → (user_in rows (nodes_at + x) ≡ 0 → ⊥) → user_in rows' (nodes_at + x) ≡ user_in rows (nodes_at + x)
  pub params : (x : ℕ) → x < n.nodes → form_in rows (nodes_at + x) ≡ form_param → tag_in cells' (first_in rows (nodes_at + x)) ≡ tag_in cells (first_in rows (nodes_at + x))
  pub tags : (j : ℕ) → j < m → tag_in cells' j ≡ tag_in cells j
  pub values : (j : ℕ) → j < m → value_in cells' j ≡ value_in cells j

-- what is the same behind n is the same behind less
pub frame_less : (n n' : Counts) (m : ℕ) (rows cells rows' cells' : List ℕ) → Within n n' → Frame n' m rows cells rows' cells' → Frame n m rows cells rows' cells'
frame_less n n' m rows cells rows' cells' w f = record {
  type_levels = λ x h. f.type_levels x (omega (arith, w.types));
  forms = λ x h. f.forms x (omega (arith, w.nodes));
  firsts = λ x h. f.firsts x (omega (arith, w.nodes));
  levels = λ x h. f.levels x (omega (arith, w.nodes));
  users = λ x h. f.users x (omega (arith, w.nodes));
  params = λ x h. f.params x (omega (arith, w.nodes));
  tags = f.tags;
  values = f.values;
}

-- none of the kinds of a form passes the test p
unfoldable pub without : (ℕ → Bool) → Form → Bool
without p f = cond (p f.0) false (cond (p f.1) false (cond (p f.2) false (cond (p f.3) false true)))

-- none of the kinds of a form is Body
no_body : Form → Bool
no_body f = without (λ (k : ℕ). eqb k Body) f

-- each form of a list is of the key `fn`, or none of its kinds is Body
bodyless : List LineForm → Bool
bodyless [] = true
bodyless (f ∷ fs) = cond (cond (eqb f.key key_fn) true (no_body f.fields)) (bodyless fs) false

-- a test that refuses, and what stands behind it
refusing : (b c : Bool) → cond b false c ≡ true → (b ≡ false) × (c ≡ true)
refusing true c e = absurd (false≢true e)
refusing false c e = (refl, e)

-- no field of such a form is of a kind that passes
pub without_kind : (p : ℕ → Bool) (f : Form) (i : ℕ) → without p f ≡ true → p (kind_at f i) ≡ false
unfolding without kind_at
without_kind p f i e =
    let a : (p f.0 ≡ false) × _ = refusing (p f.0) _ e in
    let b : (p f.1 ≡ false) × _ = refusing (p f.1) _ a.1 in
    let c : (p f.2 ≡ false) × _ = refusing (p f.2) _ b.1 in
    let d : (p f.3 ≡ false) × _ = refusing (p f.3) _ c.1 in
    by (eqb i 0) (eqb i 1) (eqb i 2) a.0 b.0 c.0 d.0
  where
    by : (x y z : Bool) → p f.0 ≡ false → p f.1 ≡ false → p f.2 ≡ false → p f.3 ≡ false
        → p (cond x f.0 (cond y f.1 (cond z f.2 f.3))) ≡ false
    by true y z a b c d = a
    by false true z a b c d = b
    by false false true a b c d = c
    by false false false a b c d = d

-- no field of a form without Body is of that kind
no_body_lem : (f : Form) (i : ℕ) → no_body f ≡ true → kind_at f i ≡ Body → ⊥
unfolding no_body
no_body_lem f i e = eqb-false (kind_at f i) Body (without_kind (λ (k : ℕ). eqb k Body) f i e)

-- of such forms only that of `fn` has a field of the kind Body
body_among : (fs : List LineForm) (f i : ℕ) → bodyless fs ≡ true → kind_at (get_or fs f no_form).fields i ≡ Body → (get_or fs f no_form).key ≡ key_fn
unfolding bodyless no_body without
body_among [] f i e q = absurd (no_body_lem no_form.fields i refl q)
body_among (g ∷ gs) f i e q = by f (eqb g.key key_fn) refl (no_body g.fields) refl e q (λ f. body_among gs f i)
  where
    by : (f : ℕ) (b : Bool) → eqb g.key key_fn ≡ b → (c : Bool) → no_body g.fields ≡ c → cond (cond b true c) (bodyless gs) false ≡ true
        → kind_at (get_or (g ∷ gs) f no_form).fields i ≡ Body
        → ((f : ℕ) → bodyless gs ≡ true → kind_at (get_or gs f no_form).fields i ≡ Body → (get_or gs f no_form).key ≡ key_fn)
        → (get_or (g ∷ gs) f no_form).key ≡ key_fn
    by zero true p c r e q again = eqb-true g.key key_fn p
    by zero false p true r e q again = absurd (no_body_lem g.fields i r q)
    by zero false p false r e q again = absurd (false≢true e)
    by (suc f) true p c r e q again = again f e q
    by (suc f) false p true r e q again = again f e q
    by (suc f) false p false r e q again = absurd (false≢true e)

-- only `fn` has a field of the kind Body
body_kind : (f i : ℕ) → kind_at (form_at f) i ≡ Body → (get_or forms f no_form).key ≡ key_fn
unfolding form_at forms bodyless no_body without
body_kind f i e = body_among forms f i refl e

-- a field that is good stays so
field_framed : (n n' : Counts) (k j m : ℕ) (rows cells rows' cells' : List ℕ) → Frame n m rows cells rows' cells' → Within n n'
    → (k ≡ Body → n.nodes ≡ n'.nodes) → j < m → FieldGood n k j rows cells → FieldGood n' k j rows' cells'
field_framed n n' k j m rows cells rows' cells' f w b h g =
    field_kept n n' k j rows rows' cells cells' g w.types w.defs w.insts w.nodes b f.forms f.firsts f.users (f.tags j h) (f.values j h) f.params

-- a type in a type is a number
pub low_type_tag : (k tag x : ℕ) → k ≡ LowType → written_as (k / 16) tag x ≡ true → tag ≡ 1
unfolding written_as
low_type_tag k tag x e w = eqb-true tag 1 (rw e at w)

-- and is there
low_type_there : (n : Counts) (k j : ℕ) (rows cells : List ℕ) → FieldGood n k j rows cells → k ≡ LowType → value_in cells j < n.types + fixed_types
unfolding refers_to
low_type_there n k j rows cells g e = g.type (ap refers_to e) (λ z. omega (arith, z, low_type_tag k (tag_in cells j) (value_in cells j) e g.written))

-- the levels that a good field refers to stay as they are
pub levels_framed : (n : Counts) (k j : ℕ) (rows₀ rows rows' cells : List ℕ) → FieldGood n k j rows₀ cells
    → ((x : ℕ) → x < n.types → levels_in rows' x ≡ levels_in rows x)
    → ((x : ℕ) → x < n.nodes → levels_in rows' (nodes_at + x) ≡ levels_in rows (nodes_at + x))
    → levels_of k (tag_in cells j) (value_in cells j) rows' ≡ levels_of k (tag_in cells j) (value_in cells j) rows
unfolding levels_of
levels_framed n k j rows₀ rows rows' cells g t o = by (is_child k (tag_in cells j)) refl (eqb k LowType) refl (leb fixed_types (value_in cells j)) refl
  where
    x : ℕ
    x = value_in cells j

    by : (b : Bool) → is_child k (tag_in cells j) ≡ b → (c : Bool) → eqb k LowType ≡ c → (d : Bool) → leb fixed_types x ≡ d
        → cond b (levels_in rows' (nodes_at + x)) (cond c (cond d (levels_in rows' (x - fixed_types)) 0) 0)
        ≡ cond b (levels_in rows (nodes_at + x)) (cond c (cond d (levels_in rows (x - fixed_types)) 0) 0)
    by true p c q d r = o x (g.child p).lower
    by false p true q true r = t (x - fixed_types) (omega (arith, low_type_there n k j rows₀ cells g (eqb-true k LowType q), leb-true fixed_types x r))
    by false p true q false r = refl
    by false p false q d r = refl

-- a line of the key k that was read behind n: its form f, its first field a, the number c of its fields, its levels d
pub record LineGood (n : Counts) (m k f a c d : ℕ) (rows cells : List ℕ) : Type 0 where
  pub form : f < 30
  pub key : (get_or forms f no_form).key ≡ k
  pub least : (form_at f).4 ≤ c
  pub most : c ≤ (form_at f).5
  pub inside : a + c ≤ m
  pub fields : (i : ℕ) → i < c → FieldGood n (kind_at (form_at f) i) (a + i) rows cells
  pub level : levels_over f 0 ≤ d
  pub levels : (i : ℕ) → i < c → levels_over f (levels_of (kind_at (form_at f) i) (tag_in cells (a + i)) (value_in cells (a + i)) rows) ≤ d
  pub attained : Attained f a c d rows cells

-- the line of a good row
line_of : (n : Counts) (m k r : ℕ) (rows cells : List ℕ) → RowGood n m k r rows cells
    → LineGood n m k (form_in rows r) (first_in rows r) (count_in rows r) (levels_in rows r) rows cells
line_of n m k r rows cells g = record {
  form = g.form;
  key = g.key;
  least = g.least;
  most = g.most;
  inside = g.inside;
  fields = g.fields;
  level = g.level;
  levels = g.levels;
  attained = g.attained;
}

-- the row of a good line
pub row_of_lem : (n : Counts) (m k r f a c d : ℕ) (rows cells : List ℕ) → LineGood n m k f a c d rows cells
    → form_in rows r ≡ f → first_in rows r ≡ a → count_in rows r ≡ c → levels_in rows r ≡ d → RowGood n m k r rows cells
row_of_lem n m k r f a c d rows cells g ef ea ec ed = record {
  form = rw ef g.form;
  key = rw ef g.key;
  least = rw (ef, ec) g.least;
  most = rw (ef, ec) g.most;
  inside = rw (ea, ec) g.inside;
  fields = λ i h. rw (ef, ea) (g.fields i (rw ec at h));
  level = rw (ef, ed) g.level;
  levels = λ i h. rw (ef, ea, ed) (g.levels i (rw ec at h));
  attained = rw (ef, ea, ec, ed) g.attained;
}

-- levels that are those over a part stay so while the levels of each part do
attained_kept : (f a c d : ℕ) (rows cells rows' cells' : List ℕ)
    → ((i : ℕ) → i < c → levels_of (kind_at (form_at f) i) (tag_in cells' (a + i)) (value_in cells' (a + i)) rows'
    ≡ levels_of (kind_at (form_at f) i) (tag_in cells (a + i)) (value_in cells (a + i)) rows)
    → Attained f a c d rows cells → Attained f a c d rows' cells'
attained_kept f a c d rows cells rows' cells' h (inl e) = inl e
attained_kept f a c d rows cells rows' cells' h (inr (i, b, e)) = inr (i, b, e ∙ ap (levels_over f) (sym (h i b)))

-- the levels of each part of a good line stay
parts_framed : (n : Counts) (m k f a c d : ℕ) (rows cells rows' cells' : List ℕ) → Frame n m rows cells rows' cells' → LineGood n m k f a c d rows cells
    → (i : ℕ) → i < c → levels_of (kind_at (form_at f) i) (tag_in cells' (a + i)) (value_in cells' (a + i)) rows'
    ≡ levels_of (kind_at (form_at f) i) (tag_in cells (a + i)) (value_in cells (a + i)) rows
parts_framed n m k f a c d rows cells rows' cells' fr g i h =
    let within : a + i < m = omega (arith, g.inside) in
    rw (fr.tags (a + i) within, fr.values (a + i) within)
    (levels_framed n (kind_at (form_at f) i) (a + i) rows rows rows' cells (g.fields i h) fr.type_levels fr.levels)

-- a line that is good stays so
pub line_framed : (n n' : Counts) (m m' k f a c d : ℕ) (rows cells rows' cells' : List ℕ) → Frame n m rows cells rows' cells' → Within n n'
    → (k ≡ key_fn → n.nodes ≡ n'.nodes) → m ≤ m' → LineGood n m k f a c d rows cells → LineGood n' m' k f a c d rows' cells'
line_framed n n' m m' k f a c d rows cells rows' cells' fr w b l g = record {
  form = g.form;
  key = g.key;
  least = g.least;
  most = g.most;
  inside = omega (arith, g.inside);
  fields = λ i h.
      field_framed n n' (kind_at (form_at f) i) (a + i) m rows cells rows' cells' fr w (λ e. b (sym g.key ∙ body_kind f i e)) (omega (arith, g.inside)) (g.fields i h);
  level = g.level;
  levels = λ i h. rw (parts_framed n m k f a c d rows cells rows' cells' fr g i h) (g.levels i h);
  attained = attained_kept f a c d rows cells rows' cells' (parts_framed n m k f a c d rows cells rows' cells' fr g) g.attained;
}

-- a row that is good stays so
pub row_framed : (n n' : Counts) (m m' k r : ℕ) (rows cells rows' cells' : List ℕ) → Frame n m rows cells rows' cells' → Within n n'
    → (k ≡ key_fn → n.nodes ≡ n'.nodes) → m ≤ m'
    → form_in rows' r ≡ form_in rows r → first_in rows' r ≡ first_in rows r → count_in rows' r ≡ count_in rows r → levels_in rows' r ≡ levels_in rows r
    → RowGood n m k r rows cells → RowGood n' m' k r rows' cells'
row_framed n n' m m' k r rows cells rows' cells' fr w b l ef ea ec ed g =
    row_of_lem n' m' k r (form_in rows r) (first_in rows r) (count_in rows r) (levels_in rows r) rows' cells'
    (line_framed n n' m m' k (form_in rows r) (first_in rows r) (count_in rows r) (levels_in rows r) rows cells rows' cells' fr w b l (line_of n m k r rows cells g))
    ef ea ec ed

-- A good field stays good when the tables grow.
-- Assumes nothing.
use Rattle.std.specs.Prelude.{ℕ, ◌+◌, ◌<◌, ◌≤◌, ◌≡◌, refl, List, Bool, true, false, cond, eqb}
use Rattle.std.proofs.Common.{◌∙◌, arith, eqb-true}
use Rattle.forms.specs.Form.{Body}
use Rattle.refs.specs.declared.Counts.{Counts}
use Rattle.refs.specs.Refs.{nodes_at, form_param, form_in, first_in, user_in, tag_in, value_in, is_typed, is_last, is_expr, stands}
use Rattle.well_formed.specs.Good.{ChildGood, FieldGood}

-- two tests that differ only in what follows where the first passes
cond_same : (c x x' y : Bool) → (c ≡ true → x' ≡ x) → cond c x' y ≡ cond c x y
cond_same true x x' y h = h refl
cond_same false x x' y h = refl

-- a typed `param` is one in rows and cells that keep its form, its first field and the tag there
typed_same : (r : ℕ) (rows rows' cells cells' : List ℕ) → form_in rows' r ≡ form_in rows r → first_in rows' r ≡ first_in rows r
    → (form_in rows r ≡ form_param → tag_in cells' (first_in rows r) ≡ tag_in cells (first_in rows r))
    → is_typed r rows' cells' ≡ is_typed r rows cells
unfolding is_typed
typed_same r rows rows' cells cells' form first tag =
    rw (form, first) (cond_same (eqb (form_in rows r) form_param) _ _ false (λ h. rw (tag (eqb-true _ _ h))))

-- the last node is the last while the number of nodes is kept
last_same : (n n' : Counts) (k x f : ℕ) (y : Bool) → (k ≡ Body → n.nodes ≡ n'.nodes)
    → cond (eqb k Body) (is_last n' x f) y ≡ cond (eqb k Body) (is_last n x f) y
unfolding is_last
last_same n n' k x f y body = cond_same (eqb k Body) _ _ y (λ h. rw (body (eqb-true _ _ h)))

-- a node that may stand as a child may stand there in tables that grew
pub stands_same : (n n' : Counts) (k x : ℕ) (rows rows' cells cells' : List ℕ) → (k ≡ Body → n.nodes ≡ n'.nodes)
    → form_in rows' (nodes_at + x) ≡ form_in rows (nodes_at + x) → first_in rows' (nodes_at + x) ≡ first_in rows (nodes_at + x)
    → (form_in rows (nodes_at + x) ≡ form_param → tag_in cells' (first_in rows (nodes_at + x)) ≡ tag_in cells (first_in rows (nodes_at + x)))
    → stands n' k x rows' cells' ≡ stands n k x rows cells
unfolding stands
stands_same n n' k x rows rows' cells cells' body form first tag =
    rw (typed_same (nodes_at + x) rows rows' cells cells' form first tag, form, last_same n n' k x (form_in rows (nodes_at + x)) (is_expr (form_in rows (nodes_at + x))) body)

-- a good child stays good
child_kept : (n n' : Counts) (k j x : ℕ) (rows rows' cells cells' : List ℕ) → ChildGood n k j x rows cells
    → n.nodes ≤ n'.nodes → (k ≡ Body → n.nodes ≡ n'.nodes)
    → ((x : ℕ) → x < n.nodes → form_in rows' (nodes_at + x) ≡ form_in rows (nodes_at + x))
    → ((x : ℕ) → x < n.nodes → first_in rows' (nodes_at + x) ≡ first_in rows (nodes_at + x))
    → ((x : ℕ) → x < n.nodes → (user_in rows (nodes_at + x) ≡ 0 → ⊥) → user_in rows' (nodes_at + x) ≡ user_in rows (nodes_at + x))
    → ((x : ℕ) → x < n.nodes → form_in rows (nodes_at + x) ≡ form_param → tag_in cells' (first_in rows (nodes_at + x)) ≡ tag_in cells (first_in rows (nodes_at + x)))
    → ChildGood n' k j x rows' cells'
child_kept n n' k j x rows rows' cells cells' g nodes body form first user param = record {
  lower = omega arith;
  used = user x g.lower (λ z. omega arith) ∙ g.used;
  stands_there =
      stands_same n n' k x rows rows' cells cells' body (form x g.lower) (first x g.lower) (param x g.lower) ∙ g.stands_there;
}

-- a good field stays good when the tables grow
pub field_kept : (n n' : Counts) (k j : ℕ) (rows rows' cells cells' : List ℕ) → FieldGood n k j rows cells
    → n.types ≤ n'.types → n.defs ≤ n'.defs → n.insts ≤ n'.insts → n.nodes ≤ n'.nodes → (k ≡ Body → n.nodes ≡ n'.nodes)
    → ((x : ℕ) → x < n.nodes → form_in rows' (nodes_at + x) ≡ form_in rows (nodes_at + x))
    → ((x : ℕ) → x < n.nodes → first_in rows' (nodes_at + x) ≡ first_in rows (nodes_at + x))
    → ((x : ℕ) → x < n.nodes → (user_in rows (nodes_at + x) ≡ 0 → ⊥) → user_in rows' (nodes_at + x) ≡ user_in rows (nodes_at + x))
    → tag_in cells' j ≡ tag_in cells j → value_in cells' j ≡ value_in cells j
    → ((x : ℕ) → x < n.nodes → form_in rows (nodes_at + x) ≡ form_param → tag_in cells' (first_in rows (nodes_at + x)) ≡ tag_in cells (first_in rows (nodes_at + x)))
    → FieldGood n' k j rows' cells'
field_kept n n' k j rows rows' cells cells' g types defs insts nodes body form first user tag value param = record {
  written = rw (tag, value) g.written;
  type = λ q z. omega (arith, g.type q (λ e. z (tag ∙ e)));
  undiverging = λ q z. rw value (g.undiverging q (λ e. z (tag ∙ e)));
  def = λ q. omega (arith, g.def q);
  child = rw (tag, value) (λ h. child_kept n n' k j (value_in cells j) rows rows' cells cells' (g.child h) nodes body form first user param);
  local_lower = rw (tag, value) (λ q t. omega (arith, g.local_lower q t));
  local = rw (tag, value) (λ q t. rw (form (value_in cells j) (g.local_lower q t)) (g.local q t));
  res_fn = rw (tag, value) (λ q t. omega (arith, g.res_fn q t));
  res_constructor = rw (tag, value) (λ q t. omega (arith, g.res_constructor q t));
  res_inst = rw (tag, value) (λ q t. omega (arith, g.res_inst q t));
}

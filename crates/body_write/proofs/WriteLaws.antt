-- What each return and turn of a function that writes a line shows, over plain variables. Assumes nothing.
use Rattle.std.specs.Prelude.{Option}
use native.Mathlib.Omega.{arith}
use mathlib.Core.Path.{◌≡◌, refl, sym, ap, subst, ◌∙◌}
use mathlib.Core.List.{List, [], ◌∷◌, ◌++◌, append_assoc}
use mathlib.Core.Bool.{Bool, true, false}
use Prim.Native.Nat.{ℕ, suc, ◌+◌, ◌-◌, ◌/◌, ◌≤◌}
use lib.Dec.{ltb}
use lib.ListN.{get_or, get_or-eq_default}
use borrow.Author.Tests.{ltb-true, ltb-false}
use Rattle.lex.specs.Text.{text}
use Rattle.forms.specs.declared.Form.{Form}
use Rattle.forms.specs.Form.{cell, kind_at, form_at, forms, no_form}
use Rattle.refs.specs.declared.Counts.{Counts}
use Rattle.refs.specs.Refs.{nodes_at, fn_at, name_in, tag_in, value_in, form_in, first_in, count_in}
use Rattle.table_cells.specs.Rows.{cells_to}
use Rattle.output.specs.Output.{Appends, Finishes, output, ended, newline}
use Rattle.output.specs.Appending.{append_none, then, appends_as, whole}
use Rattle.body_rows.specs.Text.{field_text, row, key_at, word_at, key_text, line_text, cells_at, row_at, file_text_in}
use Rattle.body_write.specs.Writing.{field_text_at, behind_comma, bare_fields, is_worded, head_text, values_text, row_line, row_lines, declaration_lines, body_lines, line_parts, text_lines}

-- ── fields ──

-- a name, a colon and what stands behind them
pub pair_as : {c d e : ℕ} {x y z : List ℕ} (u v : List ℕ) → Appends (u ++ (58 ∷ [])) c x d y → Appends v d y e z → Appends (u ++ 58 ∷ v) c x e z
pair_as u v p q = appends_as (append_assoc u (58 ∷ []) v) (then p q)

-- a field, by what was read of it
pub cell_as : {c d : ℕ} {x y : List ℕ} (f : Form) (cells : List ℕ) (j h k w a t v : ℕ) → k ≡ kind_at f h → w ≡ k / 16 → a ≡ name_in cells (j + h) → t ≡ tag_in cells (j + h) → v ≡ value_in cells (j + h)
    → Appends (field_text w (cell a t v)) c x d y → Appends (field_text_at f cells j h) c x d y
unfolding field_text_at
cell_as f cells j h k w a t v p q r s u g = rw (← p, ← q, ← r, ← s, ← u) g

-- ── the head of a line ──

-- what is past the forms with a word, or with another key, is `fn`
pub head_other : (f : ℕ) → 29 ≤ f → text "fn=" ≡ head_text f
unfolding head_text key_at word_at key_text forms
head_other f h = by (ltb f 30) refl
  where
    by : (b : Bool) → ltb f 30 ≡ b → text "fn=" ≡ key_text (key_at f) ++ 61 ∷ word_at f
    by true p = let e : f ≡ 29 = omega (arith, h, ltb-true f 30 p) in rw e
    by false p = let e : get_or forms f no_form ≡ no_form = get_or-eq_default forms no_form {n = f} (ltb-false f 30 p) in rw e

-- ── the fields of a row ──

module _ (f : ℕ) (cells : List ℕ) (j m : ℕ) (g : Form) (w : Bool) (p : g ≡ form_at f) (q : w ≡ is_worded f) where
  -- behind a word
  pub values_worded : {c d : ℕ} {x y : List ℕ} → w ≡ true → Appends (cells_to (behind_comma g cells j 0) m) c x d y → Appends (values_text f cells j m) c x d y
  unfolding values_text
  values_worded t a = rw (← q, t, ← p) a

  -- none
  pub values_none : {c : ℕ} {x : List ℕ} → w ≡ false → m ≡ 0 → Appends (values_text f cells j m) c x c x
  unfolding values_text bare_fields
  values_none {c = c} {x = x} t e = rw (← q, t, e) (append_none c x)

  -- one, and others
  pub values_bare : {c d : ℕ} {x y : List ℕ} {b : ℕ} {z : List ℕ} → w ≡ false → (m ≡ 0 → ⊥) → Appends (field_text_at g cells j 0) c x b z → Appends (cells_to (behind_comma g cells j 1) (m - 1)) b z d y → Appends (values_text f cells j m) c x d y
  unfolding values_text bare_fields
  values_bare {c = c} {d = d} {x = x} {y = y} t n a r = let e : m ≡ suc (m - 1) = omega (arith, n) in rw (← q, t, ← p) (subst (λ (k : ℕ). Appends (bare_fields g cells j k) c x d y) (sym e) (then a r))

-- the line of a row
pub row_as : {c d e : ℕ} {x y z : List ℕ} {b : ℕ} {u : List ℕ} (f : ℕ) (cells : List ℕ) (j m : ℕ) → Appends (head_text f) c x d y → Appends (values_text f cells j m) d y e z → Appends newline e z b u
    → Appends (line_text (row f (cells_at cells j m)) ++ newline) c x b u
row_as f cells j m p q r = appends_as (ap (λ (t : List ℕ). t ++ newline) (line_parts f cells j m)) (then (then p q) r)

-- the line of the row at a place
pub at_as : {c d : ℕ} {x y : List ℕ} (rows cells : List ℕ) (p f j m : ℕ) → f ≡ form_in rows p → j ≡ first_in rows p → m ≡ count_in rows p
    → Appends (line_text (row f (cells_at cells j m)) ++ newline) c x d y → Appends (row_line rows cells p) c x d y
unfolding row_line row_at
at_as rows cells p f j m u v w a = rw (← u, ← v, ← w) a

-- the whole text
pub body_as : {c d e : ℕ} {x y z : List ℕ} {u : List ℕ} {r : Option ℕ} (n : Counts) (rows cells : List ℕ) → Appends (declaration_lines n rows cells) 0 x c y → Appends (row_lines rows cells nodes_at n.nodes) c y d z
    → Appends (row_line rows cells fn_at) d z e u → {v : List ℕ} → Finishes e u r v → output r v ≡ ended (file_text_in n rows cells) x
unfolding body_lines
body_as {x = x} n rows cells p q r f = whole (then (then p q) r) f ∙ ap (λ (t : List ℕ). ended t x) (text_lines n rows cells)

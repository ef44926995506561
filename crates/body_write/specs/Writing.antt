-- The text of a row as the code writes it, and that this is the row's line.
-- Assumes nothing.
use Rattle.std.specs.Prelude.{ℕ, zero, suc, ◌+◌, ◌/◌, ◌≤◌, ◌≡◌, List, [], ◌∷◌, ◌++◌, Bool, true, false, cond, ltb, eqb}
use Prim.Native.Char.{code}
use Rattle.std.proofs.Common.{zero-add, arith, sym, ap, ◌∙◌, append_assoc, append-nil, ltb-true, ltb-false, le-ltb}
use Rattle.std.proofs.Math.Path.{refl}
use Rattle.std.proofs.Math.ListN.{get_or-eq_default}
use Rattle.forms.specs.declared.Form.{Form}
use Rattle.forms.specs.Form.{LineForm, cell, form_at, kind_at, forms, no_form}
use Rattle.refs.specs.declared.Counts.{Counts}
use Rattle.refs.specs.Refs.{types_at, defs_at, insts_at, binds_at, nodes_at, fn_at, name_in, tag_in, value_in}
use Rattle.table_cells.specs.Rows.{cells_to, cells_ext}
use Rattle.output.specs.Output.{number_text, newline}
use Rattle.well_formed.specs.Counting.{each, each_at}
use Rattle.body_rows.specs.Text.{field_text, join, Row, row, key_at, word_at, field_texts, lead, value_text, key_text, line_text, file_text, listed, keys_from, body_rows, cells_at, row_at, lookup_in, file_text_in}
use Rattle.body_rows.specs.Lines.{has_word, agree, agree_eq}
use Rattle.body.specs.Body.{count_of, base_of}

-- a number, or `-`
unfoldable pub optional_text : ℕ → ℕ → List ℕ
optional_text tag v = cond (eqb tag 0) (code "-" ∷ []) (number_text v)

-- a form has a word
unfoldable pub is_worded : ℕ → Bool
is_worded f = cond (ltb f 4) true (cond (ltb f 7) false (ltb f 29))

-- the key of a form, the equals sign, and its word
unfoldable pub head_text : ℕ → List ℕ
head_text f = key_text (key_at f) ++ 61 ∷ word_at f

-- the field i of a row of the form f whose fields stand from j on
unfoldable pub field_text_at : Form → List ℕ → ℕ → ℕ → List ℕ
field_text_at f cells j i = field_text (kind_at f i / 16) (cell (name_in cells (j + i)) (tag_in cells (j + i)) (value_in cells (j + i)))

-- the field a + i behind a comma
unfoldable pub behind_comma : Form → List ℕ → ℕ → ℕ → ℕ → List ℕ
behind_comma f cells j a i = 44 ∷ field_text_at f cells j (a + i)

-- the fields of a row without a word
unfoldable pub bare_fields : Form → List ℕ → ℕ → ℕ → List ℕ
bare_fields f cells j zero = []
bare_fields f cells j (suc m) = field_text_at f cells j 0 ++ cells_to (behind_comma f cells j 1) m

-- the fields of a row
unfoldable pub values_text : ℕ → List ℕ → ℕ → ℕ → List ℕ
values_text f cells j m = cond (is_worded f) (cells_to (behind_comma (form_at f) cells j 0) m) (bare_fields (form_at f) cells j m)

-- the line of the row at a place
unfoldable pub row_line : List ℕ → List ℕ → ℕ → List ℕ
row_line rows cells p = line_text (row_at rows cells p) ++ newline

-- ── laws ──

-- the first of some texts
rows_cons : (g : ℕ → List ℕ) (n : ℕ) → cells_to g (suc n) ≡ g 0 ++ cells_to (λ i. g (i + 1)) n
unfolding cells_to
rows_cons g zero = sym (append-nil (g 0))
rows_cons g (suc n) =
    ap (λ (t : List ℕ). t ++ g (suc n)) (rows_cons g n)
    ∙ append_assoc (g 0) (cells_to (λ i. g (i + 1)) n) (g (suc n))
    ∙ ap (λ (x : ℕ). g 0 ++ (cells_to (λ i. g (i + 1)) n ++ g x)) {x = suc n} {y = n + 1} (omega arith)

-- parts each behind a comma
unfoldable commas : List (List ℕ) → List ℕ
commas [] = []
commas (s ∷ ss) = (44 ∷ s) ++ commas ss

-- parts with commas between them
join_commas : (s : List ℕ) (ss : List (List ℕ)) → join 44 (s ∷ ss) ≡ s ++ commas ss
unfolding join commas
join_commas s [] = sym (append-nil s)
join_commas s (t ∷ ts) = ap (λ (u : List ℕ). s ++ 44 ∷ u) (join_commas t ts)

-- the fields of cells, each behind a comma
commas_rows : (f : Form) (cells : List ℕ) (j a n : ℕ) → commas (field_texts f a (cells_at cells (j + a) n)) ≡ cells_to (behind_comma f cells j a) n
unfolding commas field_texts cells_at
commas_rows f cells j a zero = none
  where
    none : [] ≡ cells_to (behind_comma f cells j a) zero
    none = unfold cells_to in refl
commas_rows f cells j a (suc n) =
    ap (λ (t : List ℕ). (44 ∷ field_text (kind_at f a / 16) (cell (name_in cells (j + a)) (tag_in cells (j + a)) (value_in cells (j + a)))) ++ t)
    (ap (λ (x : ℕ). commas (field_texts f (a + 1) (cells_at cells x n))) {x = j + a + 1} {y = j + (a + 1)} (omega arith) ∙ commas_rows f cells j (a + 1) n
    ∙ cells_ext (behind_comma f cells j (a + 1)) (λ i. behind_comma f cells j a (i + 1)) n (λ i l. shift i))
    ∙ ap (λ (t : List ℕ). t ++ cells_to (λ i. behind_comma f cells j a (i + 1)) n) first
    ∙ sym (rows_cons (behind_comma f cells j a) n)
  where
    shift : (i : ℕ) → behind_comma f cells j (a + 1) i ≡ behind_comma f cells j a (i + 1)
    shift i = unfold behind_comma in (ap (λ (x : ℕ). 44 ∷ field_text_at f cells j x) {x = a + 1 + i} {y = a + (i + 1)} (omega arith))

    first : 44 ∷ field_text (kind_at f a / 16) (cell (name_in cells (j + a)) (tag_in cells (j + a)) (value_in cells (j + a))) ≡ behind_comma f cells j a 0
    first = unfold behind_comma field_text_at in (ap (λ (x : ℕ). 44 ∷ field_text (kind_at f x / 16) (cell (name_in cells (j + x)) (tag_in cells (j + x)) (value_in cells (j + x)))) {x = a} {y = a + 0} (omega arith))

-- the fields of a row without a word
bare_join : (f : Form) (cells : List ℕ) (j m : ℕ) → join 44 (field_texts f 0 (cells_at cells j m)) ≡ bare_fields f cells j m
unfolding field_texts cells_at bare_fields
bare_join f cells j zero = none
  where
    none : join 44 [] ≡ []
    none = unfold join in refl
bare_join f cells j (suc m) =
    join_commas (field_text (kind_at f 0 / 16) (cell (name_in cells j) (tag_in cells j) (value_in cells j))) (field_texts f (0 + 1) (cells_at cells (j + 1) m))
    ∙ ap (λ (t : List ℕ). field_text (kind_at f 0 / 16) (cell (name_in cells j) (tag_in cells j) (value_in cells j)) ++ t) (commas_rows f cells j 1 m)
    ∙ ap (λ (t : List ℕ). t ++ cells_to (behind_comma f cells j 1) m) first
  where
    first : field_text (kind_at f 0 / 16) (cell (name_in cells j) (tag_in cells j) (value_in cells j)) ≡ field_text_at f cells j 0
    first = unfold field_text_at in (ap (λ (x : ℕ). field_text (kind_at f 0 / 16) (cell (name_in cells x) (tag_in cells x) (value_in cells x))) {x = j} {y = j + 0} (omega arith))

-- ── the words of forms ──

-- what is past the forms has no word
past_word : (f : ℕ) → 30 ≤ f → word_at f ≡ []
unfolding word_at forms
past_word f h = ap (λ (x : LineForm). x.word) (get_or-eq_default forms no_form {n = f} h)

-- the code's test of a form's word is right
word-is : (f : ℕ) → is_worded f ≡ has_word (word_at f)
unfolding each forms word_at has_word is_worded agree
word-is f = by (ltb f 30) refl
  where
    by : (c : Bool) → ltb f 30 ≡ c → is_worded f ≡ has_word (word_at f)
    by true p = agree_eq (is_worded f) (has_word (word_at f)) (each_at 30 (λ (x : ℕ). agree (is_worded x) (has_word (word_at x))) f refl (ltb-true f 30 p))
    by false p =
        let h : 30 ≤ f = ltb-false f 30 p in
        rw (le-ltb f 4 (omega (arith, h)), le-ltb f 7 (omega (arith, h)), le-ltb f 29 (omega (arith, h)), past_word f h)

-- the value of a row
value_parts : (f : ℕ) (u cells : List ℕ) (j m : ℕ) → is_worded f ≡ has_word u → join 44 (lead u (field_texts (form_at f) 0 (cells_at cells j m))) ≡ u ++ values_text f cells j m
unfolding lead has_word values_text
value_parts f [] cells j m e = rw e (bare_join (form_at f) cells j m)
value_parts f (x ∷ u) cells j m e =
    join_commas (x ∷ u) (field_texts (form_at f) 0 (cells_at cells j m))
    ∙ ap (λ (t : List ℕ). (x ∷ u) ++ t) (ap (λ (y : ℕ). commas (field_texts (form_at f) 0 (cells_at cells y m))) {x = j} {y = j + 0} (omega arith) ∙ commas_rows (form_at f) cells j 0 m ∙ rw e)

-- the line of a row
pub line_parts : (f : ℕ) (cells : List ℕ) (j m : ℕ) → head_text f ++ values_text f cells j m ≡ line_text (row f (cells_at cells j m))
unfolding head_text line_text value_text
line_parts f cells j m =
    append_assoc (key_text (key_at f)) (61 ∷ word_at f) (values_text f cells j m)
    ∙ ap (λ (t : List ℕ). key_text (key_at f) ++ 61 ∷ t) (sym (value_parts f (word_at f) cells j m (word-is f)))

-- ── a body ──

-- n rows from the place p on
abbrev pub row_lines : List ℕ → List ℕ → ℕ → ℕ → List ℕ
row_lines rows cells p n = cells_to (λ i. row_line rows cells (p + i)) n

-- the declarations
unfoldable pub declaration_lines : Counts → List ℕ → List ℕ → List ℕ
declaration_lines n rows cells = row_lines rows cells types_at n.types ++ row_lines rows cells defs_at n.defs ++ row_lines rows cells insts_at n.insts ++ row_lines rows cells binds_at n.binds

-- the whole
unfoldable pub body_lines : Counts → List ℕ → List ℕ → List ℕ
body_lines n rows cells = declaration_lines n rows cells ++ row_lines rows cells nodes_at n.nodes ++ row_line rows cells fn_at

-- the text of rows and other rows
file_append : (rs ss : List Row) → file_text (rs ++ ss) ≡ file_text rs ++ file_text ss
unfolding file_text
file_append [] ss = refl
file_append (r ∷ rs) ss = ap (λ (t : List ℕ). line_text r ++ 10 ∷ t) (file_append rs ss) ∙ sym (append_assoc (line_text r) (10 ∷ file_text rs) (file_text ss))

-- the text of listed rows
file_listed : (f : ℕ → Row) (i m : ℕ) → file_text (listed f i m) ≡ cells_to (λ x. line_text (f (i + x)) ++ newline) m
unfolding file_text listed cells_to
file_listed f i zero = refl
file_listed f i (suc m) =
    ap (λ (t : List ℕ). line_text (f i) ++ 10 ∷ t) (file_listed f (i + 1) m ∙ cells_ext (λ x. line_text (f (i + 1 + x)) ++ newline) (λ x. line_text (f (i + (x + 1))) ++ newline) m (λ x l. shift x))
    ∙ sym (append_assoc (line_text (f i)) newline (cells_to (λ x. line_text (f (i + (x + 1))) ++ newline) m))
    ∙ ap (λ (y : ℕ). (line_text (f y) ++ newline) ++ cells_to (λ x. line_text (f (i + (x + 1))) ++ newline) m) {x = i} {y = i + 0} (omega arith)
    ∙ sym (rows_cons (λ x. line_text (f (i + x)) ++ newline) m)
  where
    shift : (x : ℕ) → line_text (f (i + 1 + x)) ++ newline ≡ line_text (f (i + (x + 1))) ++ newline
    shift x = ap (λ (y : ℕ). line_text (f y) ++ newline) {x = i + 1 + x} {y = i + (x + 1)} (omega arith)

-- the rows of a key
key_lines : (rows cells : List ℕ) (k m : ℕ) → file_text (listed (lookup_in rows cells k) 0 m) ≡ row_lines rows cells (base_of k) m
unfolding row_line
key_lines rows cells k m =
    file_listed (lookup_in rows cells k) 0 m
    ∙ cells_ext (λ x. line_text (row_at rows cells (base_of k + (0 + x))) ++ newline) (λ x. line_text (row_at rows cells (base_of k + x)) ++ newline) m
    (λ x l. ap (λ (y : ℕ). line_text (row_at rows cells (base_of k + y)) ++ newline) (zero-add x))

-- what the code writes is the text of the tables
pub text_lines : (n : Counts) (rows cells : List ℕ) → body_lines n rows cells ≡ file_text_in n rows cells
unfolding body_lines declaration_lines file_text_in body_rows keys_from base_of count_of
text_lines n rows cells = sym (
    file_append (keys_from n (lookup_in rows cells) 0 5) (lookup_in rows cells 5 0 ∷ [])
    ∙ rw (
      file_append (K 0 n.types) (K 1 n.defs ++ (K 2 n.insts ++ (K 3 n.binds ++ (K 4 n.nodes ++ [])))),
      file_append (K 1 n.defs) (K 2 n.insts ++ (K 3 n.binds ++ (K 4 n.nodes ++ []))),
      file_append (K 2 n.insts) (K 3 n.binds ++ (K 4 n.nodes ++ [])),
      file_append (K 3 n.binds) (K 4 n.nodes ++ []),
      append-nil (K 4 n.nodes),
      key_lines rows cells 0 n.types,
      key_lines rows cells 1 n.defs,
      key_lines rows cells 2 n.insts,
      key_lines rows cells 3 n.binds,
      key_lines rows cells 4 n.nodes,
      last,
    )
    (simp append_assoc))
  where
    K : ℕ → ℕ → List Row
    K k m = listed (lookup_in rows cells k) 0 m

    last : file_text (lookup_in rows cells 5 0 ∷ []) ≡ row_line rows cells fn_at
    last = unfold file_text row_line in refl

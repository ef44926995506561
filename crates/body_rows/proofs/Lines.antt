-- Of Lines: the theorems that rest on a declaration which an edit of a definition in specs/ refuses. The definitions and the other theorems stand in
-- specs/Lines.antt. Assumes nothing.
use Rattle.std.specs.Prelude.{ℕ, ◌+◌, ◌/◌, ◌<◌, ◌≡◌, refl, List, [], ◌∷◌, Bool, true, false, cond, ltb, length, take}
use Rattle.std.proofs.Common.{arith, sym, ap, ◌∙◌, ltb-true, lt-ltb, le-ltb}
use Rattle.lex.specs.Text.{before, fields_from}
use Rattle.forms.specs.declared.Form.{Form}
use Rattle.forms.specs.declared.Cell.{Cell}
use Rattle.forms.specs.declared.Fault.TheVariants as fault
use Rattle.forms.specs.Form.{worded, form_of, form_at, kind_at, read_of, cells, cells_from, wrong, parsed, start_of, count_of, counted, parse_line}
use Rattle.forms.specs.Words.{form_fits}
use Rattle.well_formed.specs.Parsed.{ParsedGood, parsed_good}
use Rattle.body_rows.specs.Text.{join, Row, row, key_at, word_at, field_texts, lead, value_text, key_text, line_text, WritableFrom, WritableRow}
use Rattle.body_rows.specs.Joined.{Over, over-append, over_less, Without, over_without}
use Rattle.body_rows.proofs.Fields.{field_read, field_only, field_filled}
use Rattle.body_rows.specs.Lines.{Filled, ReadAs, counted_only, fits_word, form_is, key_low, key_over, lead_back, lead_fields, lead_over, lead_word, over_join, prepend_only, start_for, start_is, texts_over, texts_without, word_over}

-- ── cells ──

-- none of them is empty
texts_filled : (f : Form) (i : ℕ) (l : List Cell) → WritableFrom f i l → Filled (field_texts f i l)
unfolding Filled field_texts WritableFrom
texts_filled f i [] w = tt
texts_filled f i (x ∷ l) w = field_filled (kind_at f i / 16) x w.0

-- the cells of their texts
cells_read : (f : Form) (i : ℕ) (l : List Cell) → WritableFrom f i l → cells_from f i (field_texts f i l) ≡ cells l
unfolding cells_from field_texts WritableFrom
cells_read f i [] w = refl
cells_read f i (x ∷ l) w = rw (field_read (kind_at f i / 16) x w.0, cells_read f (i + 1) l w.1)

-- fields that read as cells are the texts of those cells
cells_only : (f : Form) (i : ℕ) (ss : List (List ℕ)) (l : List Cell) → cells_from f i ss ≡ cells l → WritableFrom f i l × (field_texts f i l ≡ ss)
unfolding cells_from field_texts WritableFrom
cells_only f i [] l e = let q : [] ≡ l = cc in rw (← q) (tt, refl)
cells_only f i (s ∷ ss) l e =
    let p = prepend_only (read_of (kind_at f i) s) (cells_from f (i + 1) ss) l e in
    let a = field_only (kind_at f i / 16) s p.0 p.2 in
    let b = cells_only f (i + 1) ss p.1 p.3 in
    rw (← p.4) ((a.0, b.0), rw (a.1, b.1))

-- ── a value ──

-- a row's value is read as the row
pub value_read : (r : Row) → WritableRow r → parse_line (key_at r.form) (value_text r) ≡ parsed r.form r.cells
unfolding parse_line value_text count_of
value_read r w =
    rw (
      form_is f v w.form (lead_word (word_at f) ss words),
      lt-ltb f 30 w.form,
      start_is f v w.form,
      lead_fields (word_at f) ss words (texts_without (form_at f) 0 r.cells) (texts_filled (form_at f) 0 r.cells w.fields),
      cells_read (form_at f) 0 r.cells w.fields,
      le-ltb (length r.cells) (form_at f).4 w.least,
      le-ltb (form_at f).5 (length r.cells) w.most,
    )
  where
    f : ℕ
    f = r.form

    ss : List (List ℕ)
    ss = field_texts (form_at f) 0 r.cells

    v : List ℕ
    v = join 44 (lead (word_at f) ss)

    words : Without 44 (word_at f)
    words = over_without 61 44 (word_at f) (omega arith) (word_over f w.form)

-- a value that reads as a row is what the row is written as
pub value_only : (k : ℕ) (v : List ℕ) (f : ℕ) (l : List Cell) → parse_line k v ≡ parsed f l → ReadAs k v (row f l)
unfolding parse_line key_at value_text
value_only k v f l e = by (ltb (form_of k v) 30) refl e
  where
    good : ParsedGood k v f l
    good = parsed_good k v f l e

    own : key_at f ≡ k
    own = good.key

    made : form_of k v ≡ f → form_of k v < 30 → cells_from (form_at f) 0 (fields_from (start_of k (length v) (before 44 v)) v) ≡ cells l → ReadAs k v (row f l)
    made q h c =
        let w : worded (word_at f) (take (before 44 v) v) ≡ true = fits_word k (take (before 44 v) v) f (rw q at (form_fits k v h)) in
        let s : start_of k (length v) (before 44 v) ≡ start_for (word_at f) v = ap (λ (j : ℕ). start_of j (length v) (before 44 v)) (sym own) ∙ start_is f v good.form in
        let r = cells_only (form_at f) 0 (fields_from (start_of k (length v) (before 44 v)) v) l c in
        record {
          writable = record { form = good.form; least = good.least; most = good.most; fields = r.0 };
          key = own;
          value = text_back (rw s at r.1) w;
        }
      where
        text_back : field_texts (form_at f) 0 l ≡ fields_from (start_for (word_at f) v) v → worded (word_at f) (take (before 44 v) v) ≡ true → value_text (row f l) ≡ v
        text_back q w = lead_back (word_at f) v (field_texts (form_at f) 0 l) w (sym q)

    by : (b : Bool) → ltb (form_of k v) 30 ≡ b
        → cond b (counted (form_of k v) (form_at (form_of k v)) (cells_from (form_at (form_of k v)) 0 (fields_from (start_of k (length v) (before 44 v)) v))) (wrong fault.Form []) ≡ parsed f l
        → ReadAs k v (row f l)
    by true p e =
        let c = counted_only (form_of k v) (form_at (form_of k v)) (cells_from (form_at (form_of k v)) 0 (fields_from (start_of k (length v) (before 44 v)) v)) f l e in
        made c.1 (ltb-true (form_of k v) 30 p) (rw c.1 at c.0)
    by false p e = let z : ◌≡◌ {A = ℕ} 0 1 = cc in absurd (omega arith)

-- ── a line ──

-- so none has a line
pub line_over : (r : Row) → r.form < 30 → Over 43 (line_text r)
unfolding line_text value_text Over
line_over r h =
    over-append 43 (key_text (key_at r.form)) (61 ∷ value_text r) (over_less 43 61 (key_text (key_at r.form)) (omega arith) (key_over (key_at r.form) (key_low r.form h))) (
      omega arith,
      over_join (lead (word_at r.form) (field_texts (form_at r.form) 0 r.cells)) 43 (omega arith)
          (lead_over (word_at r.form) (field_texts (form_at r.form) 0 r.cells) (over_less 43 61 (word_at r.form) (omega arith) (word_over r.form h)) (texts_over (form_at r.form) 0 r.cells)),
    )

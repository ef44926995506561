-- The text of a body: its rows, their lines, and the file; and which rows have a text. Definitions alone.
use Rattle.std.specs.Prelude.{ℕ, zero, suc, ◌+◌, ◌/◌, ◌<◌, ◌≤◌, ◌≡◌, ◌⊎◌, List, [], ◌∷◌, ◌++◌, cond, leb, eqb, length, get_or}
use Prim.Native.Char.{code}
use Rattle.lex.specs.Text.{text}
use Rattle.forms.specs.declared.Form.{Form}
use Rattle.forms.specs.declared.Cell.{Cell}
use Rattle.forms.specs.Form.{key_type, key_def, key_inst, key_bind, key_node, key_fn, forms, no_form, form_at, kind_at, cell}
use Rattle.refs.specs.declared.Counts.{Counts}
use Rattle.refs.specs.Refs.{form_in, first_in, count_in, name_in, tag_in, value_in}
use Rattle.body.specs.Body.{count_of, base_of}
use Rattle.output.specs.Output.{number_text}

-- ── fields ──

-- the letter of an operator of `bin`
unfoldable pub binary_letter : ℕ → ℕ
binary_letter v = cond (eqb v 0) (code "b") (cond (eqb v 1) (code "c") (code "a"))

-- and of `un`
unfoldable pub unary_letter : ℕ → ℕ
unary_letter v = cond (eqb v 0) (code "d") (cond (eqb v 1) (code "r") (cond (eqb v 2) (code "n") (code "t")))

-- the letter of a tag of RES
unfoldable pub tag_letter : ℕ → ℕ
tag_letter b =
    cond (eqb b 1) (code "l") (cond (eqb b 2) (code "f") (cond (eqb b 3) (code "c") (cond (eqb b 4) (code "i") (cond (eqb b 5) (code "e") (code "o")))))

-- RES: the letter of its tag, and a number behind l f c i
unfoldable pub resolution_text : ℕ → ℕ → List ℕ
resolution_text tag v = tag_letter tag ∷ cond (leb tag 4) (number_text v) []

-- a field, by the way in which it is written: a number; a number or `-`; NAME:NUMBER; an operator; RES; NAME:RES
unfoldable pub field_text : ℕ → Cell → List ℕ
field_text c x =
    cond (eqb c 1) (number_text x.value)
    (cond (eqb c 2) (cond (eqb x.tag 0) (code "-" ∷ []) (number_text x.value))
    (cond (eqb c 3) (number_text x.name ++ 58 ∷ number_text x.value)
    (cond (eqb c 4) (binary_letter x.value ∷ [])
    (cond (eqb c 5) (unary_letter x.value ∷ [])
    (cond (eqb c 6) (resolution_text x.tag x.value) (cond (eqb c 7) (number_text x.name ++ 58 ∷ resolution_text x.tag x.value) []))))))

-- parts with c between them
unfoldable pub join : ℕ → List (List ℕ) → List ℕ
join c [] = []
join c (s ∷ []) = s
join c (s ∷ t ∷ ts) = s ++ c ∷ join c (t ∷ ts)

-- ── lines ──

-- a line that was read: its form, and the cells of its fields
pub record Row : Type 0 where
  pub form : ℕ
  pub cells : List Cell

-- the row of a form and cells
abbrev pub row : ℕ → List Cell → Row
row f l = record { form = f; cells = l }

-- the key of a form
unfoldable pub key_at : ℕ → ℕ
key_at f = (get_or forms f no_form).key

-- its word, empty where it has none
unfoldable pub word_at : ℕ → List ℕ
word_at f = (get_or forms f no_form).word

-- the texts of fields of the form f, from its field i on
unfoldable pub field_texts : Form → ℕ → List Cell → List (List ℕ)
field_texts f i [] = []
field_texts f i (x ∷ xs) = field_text (kind_at f i / 16) x ∷ field_texts f (i + 1) xs

-- the word before the fields, where there is one
unfoldable pub lead : List ℕ → List (List ℕ) → List (List ℕ)
lead [] ss = ss
lead (x ∷ u) ss = (x ∷ u) ∷ ss

-- a line's value: its word and its fields, with commas between them
unfoldable pub value_text : Row → List ℕ
value_text r = join 44 (lead (word_at r.form) (field_texts (form_at r.form) 0 r.cells))

-- the text of a key
unfoldable pub key_text : ℕ → List ℕ
key_text k =
    cond (eqb k key_type) (text "type")
    (cond (eqb k key_def) (text "def") (cond (eqb k key_inst) (text "inst") (cond (eqb k key_bind) (text "bind") (cond (eqb k key_node) (text "node") (text "fn")))))

-- a line, without its line feed
unfoldable pub line_text : Row → List ℕ
line_text r = key_text (key_at r.form) ++ 61 ∷ value_text r

-- ── files ──

-- the text of rows, one line for each
unfoldable pub file_text : List Row → List ℕ
file_text [] = []
file_text (r ∷ rs) = line_text r ++ 10 ∷ file_text rs

-- the rows of a body, by key and number
abbrev pub Lookup : Type 0
Lookup = ℕ → ℕ → Row

-- m rows from the number i on
unfoldable pub listed : (ℕ → Row) → ℕ → ℕ → List Row
listed f i zero = []
listed f i (suc m) = f i ∷ listed f (i + 1) m

-- the rows of m keys from k on
unfoldable pub keys_from : Counts → Lookup → ℕ → ℕ → List Row
keys_from n look k zero = []
keys_from n look k (suc m) = listed (look k) 0 (count_of n k) ++ keys_from n look (k + 1) m

-- the rows of a body in the order of the file: those of the five keys, then `fn`
unfoldable pub body_rows : Counts → Lookup → List Row
body_rows n look = keys_from n look 0 5 ++ (look key_fn 0 ∷ [])

-- ── the rows of tables ──

-- the cells of m fields from the field j on
unfoldable pub cells_at : List ℕ → ℕ → ℕ → List Cell
cells_at cells j zero = []
cells_at cells j (suc m) = cell (name_in cells j) (tag_in cells j) (value_in cells j) ∷ cells_at cells (j + 1) m

-- the row at the place r
unfoldable pub row_at : List ℕ → List ℕ → ℕ → Row
row_at rows cells r = row (form_in rows r) (cells_at cells (first_in rows r) (count_in rows r))

-- the rows of tables, by key and number
abbrev pub lookup_in : List ℕ → List ℕ → Lookup
lookup_in rows cells k i = row_at rows cells (base_of k + i)

-- the text of the file whose tables these are
unfoldable pub file_text_in : Counts → List ℕ → List ℕ → List ℕ
file_text_in n rows cells = file_text (body_rows n (lookup_in rows cells))

-- ── which rows have a text ──

-- the largest number that a body may have
abbrev pub most_number : ℕ
most_number = 65535

-- the tag and the value of RES: a number behind one of l f c i, none behind e and o
abbrev pub IsRes : ℕ → ℕ → Type 0
IsRes tag v = ((0 < tag) × (tag ≤ 4) × (v ≤ most_number)) ⊎ ((4 < tag) × (tag < 7) × (v ≡ 0))

-- `-`, or a number
abbrev pub IsOptional : ℕ → ℕ → Type 0
IsOptional tag v = ((tag ≡ 0) × (v ≡ 0)) ⊎ ((tag ≡ 1) × (v ≤ most_number))

-- the cells that a field written in the way c can have
unfoldable pub Writable : ℕ → Cell → Type 0
Writable c x =
    cond (eqb c 1) ((x.name ≡ 0) × (x.tag ≡ 1) × (x.value ≤ most_number))
    (cond (eqb c 2) ((x.name ≡ 0) × IsOptional x.tag x.value)
    (cond (eqb c 3) ((x.name ≤ most_number) × (x.tag ≡ 1) × (x.value ≤ most_number))
    (cond (eqb c 4) ((x.name ≡ 0) × (x.tag ≡ 1) × (x.value < 3))
    (cond (eqb c 5) ((x.name ≡ 0) × (x.tag ≡ 1) × (x.value < 4))
    (cond (eqb c 6) ((x.name ≡ 0) × IsRes x.tag x.value)
    (cond (eqb c 7) ((x.name ≤ most_number) × IsRes x.tag x.value) ⊥))))))

-- each cell is one that its field can have
unfoldable pub WritableFrom : Form → ℕ → List Cell → Type 0
WritableFrom f i [] = Unit {0}
WritableFrom f i (x ∷ xs) = Writable (kind_at f i / 16) x × WritableFrom f (i + 1) xs

-- a row of a form, with as many fields as the form has, each with a cell that it can have
pub record WritableRow (r : Row) : Type 0 where
  pub form : r.form < 30
  pub least : (form_at r.form).4 ≤ length r.cells
  pub most : length r.cells ≤ (form_at r.form).5
  pub fields : WritableFrom (form_at r.form) 0 r.cells

-- each row has a text
unfoldable pub WritableRows : List Row → Type 0
WritableRows [] = Unit {0}
WritableRows (r ∷ rs) = WritableRow r × WritableRows rs

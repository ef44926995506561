-- The text of a line: its value is read as the form and the cells that it was written for, and no other value is.
-- Assumes nothing.
use Rattle.std.specs.Prelude.{ℕ, zero, suc, ◌+◌, ◌/◌, ◌<◌, ◌≤◌, ◌≡◌, refl, List, [], ◌∷◌, ◌++◌, Bool, true, false, cond, ltb, eqb, length, get_or, take, drop, Err, None, Ok, Option, Some}
use Rattle.std.proofs.Common.{arith, sym, ap, ◌∙◌, length-append, take_all, ltb-true, ltb-false, eqb-true, eq-eqb, ne_eqb, le-leb}
use Rattle.std.proofs.lemmas.Bool.{false≢true, lt-leb}
use Rattle.std.proofs.Math.Seq.{take-length, take-append_seam, drop-append-add}
use Rattle.lex.specs.Text.{before, split, parts_from, fields_from, text, same}
use Rattle.lex.specs.Words.{same_eq, same_refl}
use Rattle.forms.specs.declared.Form.{Form}
use Rattle.forms.specs.declared.Cell.{Cell}
use Rattle.forms.specs.declared.Fault.TheVariants as fault
use Rattle.forms.specs.Form.{key_type, key_def, key_inst, key_bind, key_node, key_fn, no_key, key_of, LineForm, forms, no_form, worded, fits, index_of, form_of, kind_at, Cells, refused, cells, prepend, parsed, start_of, count_of, with_cells, counted}
use Rattle.forms.specs.Words.{both, form_fits, words_apart}
use Rattle.well_formed.specs.Counting.{each, each_at}
use Rattle.body_rows.specs.Text.{field_text, join, Row, row, key_at, word_at, field_texts, lead, value_text, key_text, line_text, WritableRow}
use Rattle.body_rows.specs.Joined.{Over, over-append, over_less, Without, WithoutAll, over_without, before_part, before_all, before_parts, split_some, join-split, split-join}
use Rattle.body_rows.specs.Fields.{field_over}

-- ── the table of forms ──

-- each byte is above n, as a test
unfoldable over_test : ℕ → List ℕ → Bool
over_test n [] = true
over_test n (x ∷ xs) = cond (ltb n x) (over_test n xs) false

-- the test shows it
over_true : (n : ℕ) (s : List ℕ) → over_test n s ≡ true → Over n s
unfolding over_test Over
over_true n [] e = tt
over_true n (x ∷ s) e = by (ltb n x) refl e (over_true n s)
  where
    by : (b : Bool) → ltb n x ≡ b → cond b (over_test n s) false ≡ true → (over_test n s ≡ true → Over n s) → (n < x) × Over n s
    by true p e ih = (ltb-true n x p, ih e)
    by false p e ih = absurd (false≢true e)

-- the words of forms are letters
pub word_over : (f : ℕ) → f < 30 → Over 61 (word_at f)
unfolding each forms word_at over_test
word_over f h = over_true 61 (word_at f) (each_at 30 (λ (x : ℕ). over_test 61 (word_at x)) f refl h)

-- a form's key is one
pub key_low : (f : ℕ) → f < 30 → key_at f < 6
unfolding each forms key_at
key_low f h = ltb-true (key_at f) 6 (each_at 30 (λ (x : ℕ). ltb (key_at x) 6) f refl h)

-- where the fields of a value begin, by the word of its form
unfoldable pub start_for : List ℕ → List ℕ → ℕ
start_for [] v = cond (eqb (length v) 0) 1 0
start_for (x ∷ u) v = before 44 v + 1

-- a word that is there
unfoldable pub has_word : List ℕ → Bool
has_word [] = false
has_word (x ∷ u) = true

-- a key whose lines have a word
unfoldable word_key : ℕ → Bool
word_key k = cond (eqb k key_type) true (eqb k key_node)

-- two tests that agree
unfoldable pub agree : Bool → Bool → Bool
agree true b = b
agree false true = false
agree false false = true

-- tests that agree are the same
pub agree_eq : (a b : Bool) → agree a b ≡ true → a ≡ b
unfolding agree
agree_eq true b e = sym e
agree_eq false true e = e
agree_eq false false e = refl

-- the forms of the keys with words have words, and no others
word_key_lem : (f : ℕ) → f < 30 → word_key (key_at f) ≡ has_word (word_at f)
unfolding each forms key_at word_at has_word word_key agree
word_key_lem f h =
    agree_eq (word_key (key_at f)) (has_word (word_at f)) (each_at 30 (λ (x : ℕ). agree (word_key (key_at x)) (has_word (word_at x))) f refl h)

-- by the key the fields begin where they do by the word
start_by : (k : ℕ) (u v : List ℕ) → word_key k ≡ has_word u → start_of k (length v) (before 44 v) ≡ start_for u v
unfolding start_of start_for word_key has_word
start_by k [] v = by (eqb k key_type) (eqb k key_node)
  where
    by : (a b : Bool) → cond a true b ≡ false → cond a (before 44 v + 1) (cond b (before 44 v + 1) (cond (eqb (length v) 0) 1 0)) ≡ cond (eqb (length v) 0) 1 0
    by true b e = absurd (false≢true (sym e))
    by false true e = absurd (false≢true (sym e))
    by false false e = refl
start_by k (x ∷ u) v = by (eqb k key_type) (eqb k key_node)
  where
    by : (a b : Bool) → cond a true b ≡ true → cond a (before 44 v + 1) (cond b (before 44 v + 1) (cond (eqb (length v) 0) 1 0)) ≡ before 44 v + 1
    by true b e = refl
    by false true e = refl
    by false false e = absurd (false≢true e)

-- where the fields of a form's value begin
pub start_is : (f : ℕ) (v : List ℕ) → f < 30 → start_of (key_at f) (length v) (before 44 v) ≡ start_for (word_at f) v
start_is f v h = start_by (key_at f) (word_at f) v (word_key_lem f h)

-- ── words and fields of a value ──

-- the first part is not empty, where there is one
unfoldable pub Filled : List (List ℕ) → Type 0
Filled [] = Unit {0}
Filled (s ∷ ss) = 0 < length s

-- the word of a value is the form's
pub lead_word : (u : List ℕ) (ss : List (List ℕ)) → Without 44 u
    → worded u (take (before 44 (join 44 (lead u ss))) (join 44 (lead u ss))) ≡ true
unfolding worded lead join
lead_word [] ss p = refl
lead_word (x ∷ u) [] p = rw (before_all 44 (x ∷ u) p, take-length (x ∷ u)) (same_refl (x ∷ u))
lead_word (x ∷ u) (s ∷ ss) p = rw (before_part 44 (x ∷ u) (join 44 (s ∷ ss)) p, take-append_seam (x ∷ u) (44 ∷ join 44 (s ∷ ss))) (same_refl (x ∷ u))

-- a text of parts of which the first is not empty is not
join_filled : (s : List ℕ) (ss : List (List ℕ)) → 0 < length s → 0 < length (join 44 (s ∷ ss))
unfolding join
join_filled s [] h = h
join_filled s (t ∷ ts) h = omega (arith, length-append s (44 ∷ join 44 (t ∷ ts)))

-- the fields of a value are those that it was written with
pub lead_fields : (u : List ℕ) (ss : List (List ℕ)) → Without 44 u → WithoutAll 44 ss → Filled ss
    → fields_from (start_for u (join 44 (lead u ss))) (join 44 (lead u ss)) ≡ ss
unfolding start_for lead parts_from WithoutAll Filled join
lead_fields [] [] p q h = refl
lead_fields [] (s ∷ ss) p q h =
    rw (ne_eqb (length (join 44 (s ∷ ss))) 0 (λ e. omega (arith, e, join_filled s ss h)), le-leb 0 (length (join 44 (s ∷ ss))) (omega arith)) (split-join 44 s ss q.0 q.1)
lead_fields (x ∷ u) [] p q h = rw (before_all 44 (x ∷ u) p, lt-leb (length (x ∷ u) + 1) (length (x ∷ u)) (omega arith))
lead_fields (x ∷ u) (s ∷ ss) p q h =
    rw (
      before_part 44 (x ∷ u) (join 44 (s ∷ ss)) p,
      le-leb (length (x ∷ u) + 1) (length ((x ∷ u) ++ 44 ∷ join 44 (s ∷ ss))) (omega (arith, length-append (x ∷ u) (44 ∷ join 44 (s ∷ ss)))),
      drop-append-add (x ∷ u) (44 ∷ join 44 (s ∷ ss)) 1,
    )
    (split-join 44 s ss q.0 q.1)

-- parts of which there is one
join_lead : (u : List ℕ) (ss : List (List ℕ)) → 0 < length ss → join 44 (u ∷ ss) ≡ u ++ 44 ∷ join 44 ss
unfolding join
join_lead u [] h = absurd (omega arith)
join_lead u (s ∷ ss) h = refl

-- a value with the word u and the fields ss is what they are written as
pub lead_back : (u v : List ℕ) (ss : List (List ℕ)) → worded u (take (before 44 v) v) ≡ true → fields_from (start_for u v) v ≡ ss → join 44 (lead u ss) ≡ v
unfolding worded lead start_for parts_from join
lead_back [] [] ss p q = rw (← q)
lead_back [] (y ∷ v) ss p q =
    let r : split 44 (y ∷ v) ≡ ss = rw (ne_eqb (suc (length v)) 0 (λ e. omega (arith, e)), le-leb 0 (suc (length v)) (omega arith)) at q in
    rw (← r) (join-split 44 (y ∷ v))
lead_back (x ∷ u) v ss p q = by (ltb (before 44 v) (length v)) refl
  where
    word : x ∷ u ≡ take (before 44 v) v
    word = same_eq (x ∷ u) (take (before 44 v) v) p

    by : (b : Bool) → ltb (before 44 v) (length v) ≡ b → join 44 ((x ∷ u) ∷ ss) ≡ v
    by true h =
        let l : before 44 v < length v = ltb-true (before 44 v) (length v) h in
        let r : split 44 (drop (before 44 v + 1) v) ≡ ss = rw (le-leb (before 44 v + 1) (length v) (omega arith)) at q in
        rw (← r) (join_lead (x ∷ u) (split 44 (drop (before 44 v + 1) v)) (split_some 44 (drop (before 44 v + 1) v))
        ∙ ap (λ (t : List ℕ). (x ∷ u) ++ 44 ∷ t) (join-split 44 (drop (before 44 v + 1) v))
        ∙ ap (λ (t : List ℕ). t ++ 44 ∷ drop (before 44 v + 1) v) word ∙ before_parts 44 v l)
    by false h =
        let l : length v ≤ before 44 v = ltb-false (before 44 v) (length v) h in
        let r : [] ≡ ss = rw (lt-leb (before 44 v + 1) (length v) (omega arith)) at q in
        rw (← r) (word ∙ take_all (before 44 v) v l)

-- ── cells ──

-- the texts of cells are fields of their bytes
pub texts_without : (f : Form) (i : ℕ) (l : List Cell) → WithoutAll 44 (field_texts f i l)
unfolding WithoutAll field_texts
texts_without f i [] = tt
texts_without f i (x ∷ l) = (over_without 44 44 (field_text (kind_at f i / 16) x) (omega arith) (field_over (kind_at f i / 16) x), texts_without f (i + 1) l)

-- a cell before others, where all were read
pub prepend_only : (r : Option Cell) (q : Cells) (l : List Cell) → prepend r q ≡ cells l
    → (x : Cell) × (t : List Cell) × (r ≡ Some x) × (q ≡ cells t) × (x ∷ t ≡ l)
prepend_only None q l e = let z : ◌≡◌ {A = ℕ} 0 1 = cc in absurd (omega arith)
prepend_only (Some x) (refused l') l e = let z : ◌≡◌ {A = ℕ} 0 1 = cc in absurd (omega arith)
prepend_only (Some x) (cells t) l e = (x, t, refl, refl, cc)

-- ── a value ──

-- a form that fits stands behind no other that does
index_low : (k : ℕ) (w : List ℕ) (fs : List LineForm) (i : ℕ) → i < length fs → fits k w (get_or fs i no_form) ≡ true → index_of k w fs < length fs
unfolding index_of
index_low k w [] i h p = absurd (omega arith)
index_low k w (f ∷ fs) zero h p = rw p (omega arith)
index_low k w (f ∷ fs) (suc i) h p = by (fits k w f) (index_low k w fs i (omega arith) p)
  where
    by : (b : Bool) → index_of k w fs < length fs → cond b 0 (suc (index_of k w fs)) < suc (length fs)
    by true h = omega arith
    by false h = omega arith

-- the form of a value whose word is a form's
pub form_is : (f : ℕ) (v : List ℕ) → f < 30 → worded (word_at f) (take (before 44 v) v) ≡ true → form_of (key_at f) v ≡ f
unfolding fits key_at word_at form_of forms
form_is f v h p =
    words_apart (key_at f) (take (before 44 v) v) (form_of (key_at f) v) f low h (form_fits (key_at f) v low) own
  where
    own : fits (key_at f) (take (before 44 v) v) (get_or forms f no_form) ≡ true
    own = rw (eq-eqb (key_at f) (key_at f) refl) p

    low : form_of (key_at f) v < 30
    low = index_low (key_at f) (take (before 44 v) v) forms f h own

-- the cells of a value that has as many as the form
pub counted_only : (i : ℕ) (g : Form) (c : Cells) (f : ℕ) (l : List Cell) → counted i g c ≡ parsed f l → (c ≡ cells l) × (i ≡ f)
unfolding count_of
counted_only i g (refused l') f l e = let z : ◌≡◌ {A = ℕ} 0 1 = cc in absurd (omega arith)
counted_only i g (cells t) f l e = by (ltb (length t) g.4) (ltb g.5 (length t)) e
  where
    by : (a b : Bool) → with_cells (cond a (Err fault.Form) (cond b (Err fault.Limit) (Ok (i, (length t))))) t ≡ parsed f l → (cells t ≡ cells l) × (i ≡ f)
    by true b e = let z : ◌≡◌ {A = ℕ} 0 1 = cc in absurd (omega arith)
    by false true e = let z : ◌≡◌ {A = ℕ} 0 1 = cc in absurd (omega arith)
    by false false e = let q : t ≡ l = cc in (ap cells q, cc)

-- the form that a value fits has its word
pub fits_word : (k : ℕ) (w : List ℕ) (f : ℕ) → fits k w (get_or forms f no_form) ≡ true → worded (word_at f) w ≡ true
unfolding fits word_at
fits_word k w f p = (both (eqb (get_or forms f no_form).key k) (worded (get_or forms f no_form).word w) p).1

-- a value of the key k is the row r, and is written as it stands
pub record ReadAs (k : ℕ) (v : List ℕ) (r : Row) : Type 0 where
  pub writable : WritableRow r
  pub key : key_at r.form ≡ k
  pub value : value_text r ≡ v

-- ── a line ──

-- the letters of keys are above the equals sign
pub key_over : (k : ℕ) → k < 6 → Over 61 (key_text k)
unfolding each key_text over_test
key_over k h = over_true 61 (key_text k) (each_at 6 (λ (x : ℕ). over_test 61 (key_text x)) k refl h)

-- a key's text is that key
pub key_read : (k : ℕ) → k < 6 → key_of (key_text k) ≡ k
unfolding each key_text key_of same
key_read k h = eqb-true (key_of (key_text k)) k (each_at 6 (λ (x : ℕ). eqb (key_of (key_text x)) x) k refl h)

-- no other text is
pub key_only : (w : List ℕ) → key_of w < 6 → key_text (key_of w) ≡ w
unfolding key_of key_text
key_only w =
    at (text "type") key_type _ refl
    (at (text "def") key_def _ refl
    (at (text "inst") key_inst _ refl
    (at (text "bind") key_bind _ refl
    (at (text "node") key_node _ refl
    (at (text "fn") key_fn no_key refl (λ l. absurd (omega arith)))))))
  where
    at : (u : List ℕ) (k n : ℕ) → key_text k ≡ u → (n < 6 → key_text n ≡ w) → cond (same u w) k n < 6 → key_text (cond (same u w) k n) ≡ w
    at u k n q g = by (same u w) refl
      where
        by : (b : Bool) → same u w ≡ b → cond b k n < 6 → key_text (cond b k n) ≡ w
        by true e l = q ∙ same_eq u w e
        by false e l = g l

-- where the first equals sign of a line stands
pub line_sign : (r : Row) → r.form < 30 → before 61 (line_text r) ≡ length (key_text (key_at r.form))
unfolding line_text
line_sign r h = before_part 61 (key_text (key_at r.form)) (value_text r) (over_without 61 61 (key_text (key_at r.form)) (omega arith) (key_over (key_at r.form) (key_low r.form h)))

-- each part has only bytes above n
unfoldable pub OverAll : ℕ → List (List ℕ) → Type 0
OverAll n [] = Unit {0}
OverAll n (s ∷ ss) = Over n s × OverAll n ss

-- no line has a line feed: its bytes are above 43
pub over_join : (ss : List (List ℕ)) → (n : ℕ) → n < 44 → OverAll n ss → Over n (join 44 ss)
unfolding join OverAll Over
over_join [] n h p = tt
over_join (s ∷ []) n h p = p.0
over_join (s ∷ t ∷ ts) n h p = over-append n s (44 ∷ join 44 (t ∷ ts)) p.0 (h, over_join (t ∷ ts) n h p.1)

-- nor has a field
pub texts_over : (f : Form) (i : ℕ) (l : List Cell) → OverAll 43 (field_texts f i l)
unfolding OverAll field_texts
texts_over f i [] = tt
texts_over f i (x ∷ l) = (over_less 43 44 (field_text (kind_at f i / 16) x) (omega arith) (field_over (kind_at f i / 16) x), texts_over f (i + 1) l)

-- nor has a word before them
pub lead_over : (u : List ℕ) (ss : List (List ℕ)) → Over 43 u → OverAll 43 ss → OverAll 43 (lead u ss)
unfolding lead OverAll
lead_over [] ss p q = q
lead_over (x ∷ u) ss p q = (p, q)

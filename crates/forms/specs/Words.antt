-- A word looked up by its number, and that no two forms are those of one line.
-- Assumes nothing.
use Rattle.std.specs.Prelude.{ℕ, zero, suc, ◌<◌, ◌≡◌, refl, List, [], ◌∷◌, Bool, true, false, cond, eqb, length, get_or, take}
use Rattle.std.proofs.Common.{ap, sym, ◌∙◌, arith, eq-eqb, eqb-true}
use Rattle.std.proofs.lemmas.Bool.{false≢true, eqb-false}
use Rattle.lex.specs.Text.{text, pack, pack_from, letter, same, before}
use Rattle.lex.specs.Words.{pack_same, eq-same, same_eq}
use Rattle.forms.specs.Form.{LineForm, forms, no_form, worded, fits, index_of, form_of, key_of, key_type, key_def, key_inst, key_bind, key_node, key_fn, no_key}

-- the key whose number this is
unfoldable pub key_numbered : ℕ → ℕ
key_numbered n =
    cond (eqb (pack (text "type")) n) key_type
    (cond (eqb (pack (text "def")) n) key_def
    (cond (eqb (pack (text "inst")) n) key_inst
    (cond (eqb (pack (text "bind")) n) key_bind
    (cond (eqb (pack (text "node")) n) key_node
    (cond (eqb (pack (text "fn")) n) key_fn no_key)))))

-- the word of a form with none is any
unfoldable pub numbered : List ℕ → ℕ → Bool
numbered [] n = true
numbered (x ∷ xs) n = eqb (pack (x ∷ xs)) n

-- how many forms stand before the first of a key and a word's number
unfoldable pub index_numbered : ℕ → ℕ → List LineForm → ℕ
index_numbered k n [] = 0
index_numbered k n (f ∷ fs) = cond (cond (eqb f.key k) (numbered f.word n) false) 0 (suc (index_numbered k n fs))

-- one test of a word u by its number, where that is not 0
by_word : (u w : List ℕ) (a b c : ℕ) → eqb (pack u) 0 ≡ false → b ≡ c → cond (eqb (pack u) (pack w)) a b ≡ cond (same u w) a c
by_word u w a b c h q = rw (pack_same u w (eqb-false (pack u) 0 h), q)

-- the key of a word's number is the word's key
pub key_by_number : (w : List ℕ) → key_numbered (pack w) ≡ key_of w
unfolding key_numbered key_of pack_from letter
key_by_number w =
    by_word (text "type") w _ _ _ refl
    (by_word (text "def") w _ _ _ refl
    (by_word (text "inst") w _ _ _ refl
    (by_word (text "bind") w _ _ _ refl
    (by_word (text "node") w _ _ _ refl
    (by_word (text "fn") w _ _ _ refl refl)))))

-- a form's word has a number other than 0, or is none
unfoldable has_number : List ℕ → Bool
has_number [] = true
has_number (x ∷ xs) = cond (eqb (pack (x ∷ xs)) 0) false true

-- the words of all of some forms have numbers
unfoldable have_numbers : List LineForm → Bool
have_numbers [] = true
have_numbers (f ∷ fs) = cond (has_number f.word) (have_numbers fs) false

-- two tests, where both hold
pub both : (b c : Bool) → cond b c false ≡ true → (b ≡ true) × (c ≡ true)
both true c h = (refl, h)
both false c h = absurd (false≢true h)

-- the test of a form's word by its number
word_by_number : (u w : List ℕ) → has_number u ≡ true → numbered u (pack w) ≡ worded u w
unfolding has_number numbered worded
word_by_number [] w h = refl
word_by_number (x ∷ xs) w h = pack_same (x ∷ xs) w (eqb-false (pack (x ∷ xs)) 0 (no (eqb (pack (x ∷ xs)) 0) h))
  where
    no : (b : Bool) → cond b false true ≡ true → b ≡ false
    no true e = sym e
    no false e = refl

-- the form found by a word's number is the one found by the word, among forms whose words have numbers
index_by_number : (k : ℕ) (w : List ℕ) (fs : List LineForm) → have_numbers fs ≡ true → index_numbered k (pack w) fs ≡ index_of k w fs
unfolding index_numbered index_of fits have_numbers
index_by_number k w [] h = refl
index_by_number k w (f ∷ fs) h =
    let p : (has_number f.word ≡ true) × (have_numbers fs ≡ true) = both (has_number f.word) (have_numbers fs) h in
    rw (word_by_number f.word w p.0, index_by_number k w fs p.1)

-- the form found by a word's number is the one found by the word
pub form_by_number : (k : ℕ) (w : List ℕ) → index_numbered k (pack w) forms ≡ index_of k w forms
unfolding forms have_numbers has_number pack_from letter
form_by_number k w = index_by_number k w forms refl

-- the first form that fits, fits
first_fits : (k : ℕ) (w : List ℕ) (fs : List LineForm) → index_of k w fs < length fs → fits k w (get_or fs (index_of k w fs) no_form) ≡ true
unfolding index_of
first_fits k w [] h = absurd (omega arith)
first_fits k w (f ∷ fs) h = by (fits k w f) refl h (first_fits k w fs)
  where
    by : (b : Bool) → fits k w f ≡ b → cond b 0 (suc (index_of k w fs)) < suc (length fs)
        → (index_of k w fs < length fs → fits k w (get_or fs (index_of k w fs) no_form) ≡ true)
        → fits k w (get_or (f ∷ fs) (cond b 0 (suc (index_of k w fs))) no_form) ≡ true
    by true p h ih = p
    by false p h ih = ih (omega arith)

-- the form of a line is of its key and its word
pub form_fits : (k : ℕ) (v : List ℕ) → form_of k v < 30 → fits k (take (before 44 v) v) (get_or forms (form_of k v) no_form) ≡ true
unfolding form_of forms
form_fits k v h = first_fits k (take (before 44 v) v) forms h

-- two forms have the same key, and the same word or one of them none
unfoldable meet : LineForm → LineForm → Bool
meet f g = cond (eqb f.key g.key) (cond (worded f.word g.word) true (worded g.word f.word)) false

-- a form meets none of some others
unfoldable apart_from : LineForm → List LineForm → Bool
apart_from f [] = true
apart_from f (g ∷ gs) = cond (meet f g) false (apart_from f gs)

-- no two of some forms meet
unfoldable apart : List LineForm → Bool
apart [] = true
apart (f ∷ fs) = cond (apart_from f fs) (apart fs) false

-- the words of two forms that are both those of w
words_meet : (u v w : List ℕ) → worded u w ≡ true → worded v w ≡ true → cond (worded u v) true (worded v u) ≡ true
unfolding worded same
words_meet [] v w p q = refl
words_meet (x ∷ xs) [] w p q = refl
words_meet (x ∷ xs) (y ∷ ys) w p q = rw (eq-same (x ∷ xs) (y ∷ ys) (same_eq (x ∷ xs) w p ∙ sym (same_eq (y ∷ ys) w q)))

-- two forms of one key and word meet
forms_meet : (k : ℕ) (w : List ℕ) (f g : LineForm) → fits k w f ≡ true → fits k w g ≡ true → meet f g ≡ true
unfolding fits meet
forms_meet k w f g p q =
    let a : (eqb f.key k ≡ true) × (worded f.word w ≡ true) = both (eqb f.key k) (worded f.word w) p in
    let b : (eqb g.key k ≡ true) × (worded g.word w ≡ true) = both (eqb g.key k) (worded g.word w) q in
    rw (eq-eqb f.key g.key (eqb-true f.key k a.0 ∙ sym (eqb-true g.key k b.0))) (words_meet f.word g.word w a.1 b.1)

-- a form that meets none of some others does not meet the one of number j
not_met : (f : LineForm) (fs : List LineForm) (j : ℕ) → apart_from f fs ≡ true → j < length fs → meet f (get_or fs j no_form) ≡ true → ⊥
unfolding apart_from
not_met f [] j a h m = absurd (omega arith)
not_met f (g ∷ gs) zero a h m = false≢true (rw m at a)
not_met f (g ∷ gs) (suc j) a h m = not_met f gs j (rest (meet f g) a) (omega arith) m
  where
    rest : (b : Bool) → cond b false (apart_from f gs) ≡ true → apart_from f gs ≡ true
    rest true e = absurd (false≢true e)
    rest false e = e

-- only one form fits, among forms of which no two meet
one_fits : (k : ℕ) (w : List ℕ) (fs : List LineForm) (i j : ℕ) → apart fs ≡ true → i < length fs → j < length fs → fits k w (get_or fs i no_form) ≡ true
    → fits k w (get_or fs j no_form) ≡ true → i ≡ j
unfolding apart
one_fits k w [] i j a h l p q = absurd (omega arith)
one_fits k w (f ∷ fs) zero zero a h l p q = refl
one_fits k w (f ∷ fs) zero (suc j) a h l p q =
    absurd (not_met f fs j (both (apart_from f fs) (apart fs) a).0 (omega arith) (forms_meet k w f (get_or fs j no_form) p q))
one_fits k w (f ∷ fs) (suc i) zero a h l p q =
    absurd (not_met f fs i (both (apart_from f fs) (apart fs) a).0 (omega arith) (forms_meet k w f (get_or fs i no_form) q p))
one_fits k w (f ∷ fs) (suc i) (suc j) a h l p q =
    ap suc (one_fits k w fs i j (both (apart_from f fs) (apart fs) a).1 (omega arith) (omega arith) p q)

-- no two forms fit one key and one word
pub words_apart : (k : ℕ) (w : List ℕ) (i j : ℕ) → i < 30 → j < 30 → fits k w (get_or forms i no_form) ≡ true → fits k w (get_or forms j no_form) ≡ true
    → i ≡ j
unfolding forms apart apart_from meet worded same
words_apart k w i j h l p q = one_fits k w forms i j refl h l p q

-- How many bytes a line has for its fields: with its line feed at least 137 for 66 of them, which is the most that a line has.
-- Assumes nothing.
use Rattle.std.specs.Prelude.{ℕ, ◌+◌, ◌*◌, ◌<◌, ◌≤◌, ◌≡◌, refl, List, Bool, true, false, cond, leb, eqb, length, get_or}
use Rattle.std.proofs.Common.{arith, ap, leb-true}
use Rattle.lex.specs.Text.{text, same}
use Rattle.lex.specs.Words.{same_eq}
use Rattle.forms.specs.declared.Cell.{Cell}
use Rattle.forms.specs.Form.{key_type, key_def, key_inst, key_bind, key_node, key_fn, no_key, key_of, forms, no_form, form_at}
use Rattle.well_formed.specs.Parsed.{ParsedGood}
use Rattle.well_formed.specs.Counting.{each, each_at}

-- b bytes are enough for m fields, with 137 for 66
abbrev pub Enough : ℕ → ℕ → Type 0
Enough b m = m * 137 ≤ b * 66

-- how many letters a key has
unfoldable pub letters : ℕ → ℕ
letters k = cond (eqb k key_def) 3 (cond (eqb k key_fn) 2 4)

-- a word has the letters of k where it is u, and else those of n
word_letters : (u w : List ℕ) (k n : ℕ) → letters k ≤ length u → (n < no_key → letters n ≤ length w)
    → cond (same u w) k n < no_key → letters (cond (same u w) k n) ≤ length w
word_letters u w k n h g = by (same u w) refl
  where
    by : (b : Bool) → same u w ≡ b → cond b k n < no_key → letters (cond b k n) ≤ length w
    by true e l = omega (arith, h, ap length (same_eq u w e))
    by false e l = g l

-- so a word that is a key has the letters of the key
pub key_letters : (w : List ℕ) → key_of w < no_key → letters (key_of w) ≤ length w
unfolding key_of letters
key_letters w =
    word_letters (text "type") w key_type _ (omega arith)
    (word_letters (text "def") w key_def _ (omega arith)
    (word_letters (text "inst") w key_inst _ (omega arith)
    (word_letters (text "bind") w key_bind _ (omega arith)
    (word_letters (text "node") w key_node _ (omega arith)
    (word_letters (text "fn") w key_fn no_key (omega arith) (λ l. absurd (omega arith)))))))

-- the most fields of a form, against the letters of its key
form_most : (f : ℕ) → f < 30 → (form_at f).5 * 5 ≤ (letters (get_or forms f no_form).key + 1) * 66
unfolding each forms form_at letters
form_most f h =
    leb-true ((form_at f).5 * 5) ((letters (get_or forms f no_form).key + 1) * 66)
    (each_at 30 (λ (x : ℕ). leb ((form_at x).5 * 5) ((letters (get_or forms x no_form).key + 1) * 66)) f refl h)

-- the bytes of a line's key and value, with an equals sign and a line feed, are enough for its fields
pub line_enough : (k f : ℕ) (v : List ℕ) (l : List Cell) → ParsedGood k v f l → Enough (letters k + length v + 2) (length l)
line_enough k f v l g = omega (arith, g.bytes, g.most, form_most f g.form, ap letters g.key)

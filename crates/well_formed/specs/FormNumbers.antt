-- The numbers of the forms, by which rows and rules name them, each with its key and its word.
-- Assumes nothing.
use Rattle.std.specs.Prelude.{ℕ, ◌≡◌, refl, List, [], ◌∷◌, Bool, true, false, cond, eqb, length}
use Prim.Native.String.{String}
use Rattle.lex.specs.Text.{text, same}
use Rattle.forms.specs.Form.{key_type, key_def, key_inst, key_bind, key_node, key_fn, forms, fits, worded, index_of}
use Rattle.refs.specs.Refs.{form_fun, form_inst, form_fn, form_bool, form_block, form_let, form_param, form_path}

-- a number, and the key and the word that it stands for
pub record Numbered : Type 0 where
  pub number : ℕ
  pub key : ℕ
  pub word : String

abbrev stands_for : ℕ → ℕ → String → Numbered
stands_for n k w = record { number = n; key = k; word = w }

-- what each number stands for; `refs` names those that its rules ask for, `nodes` writes them as they are
unfoldable pub numbers : List Numbered
numbers =
    stands_for 0 key_type "array" ∷
    stands_for form_fun key_type "fun" ∷
    stands_for form_inst key_type "inst" ∷
    stands_for form_fn key_type "fn" ∷
    stands_for 4 key_def "" ∷
    stands_for 5 key_inst "" ∷
    stands_for 6 key_bind "" ∷
    stands_for form_bool key_node "bool" ∷
    stands_for 8 key_node "int" ∷
    stands_for 9 key_node "float" ∷
    stands_for 10 key_node "str" ∷
    stands_for 11 key_node "bin" ∷
    stands_for 12 key_node "un" ∷
    stands_for 13 key_node "field" ∷
    stands_for 14 key_node "list" ∷
    stands_for 15 key_node "index" ∷
    stands_for 16 key_node "assign" ∷
    stands_for 17 key_node "opassign" ∷
    stands_for 18 key_node "if" ∷
    stands_for 19 key_node "loop" ∷
    stands_for 20 key_node "break" ∷
    stands_for 21 key_node "call" ∷
    stands_for 22 key_node "mcall" ∷
    stands_for 23 key_node "return" ∷
    stands_for form_block key_node "block" ∷
    stands_for form_let key_node "let" ∷
    stands_for form_param key_node "param" ∷
    stands_for 27 key_node "lambda" ∷
    stands_for form_path key_node "path" ∷
    stands_for 29 key_fn "" ∷
    []

-- each number is that of the form of its key and word
unfoldable pub all_right : List Numbered → Bool
all_right [] = true
all_right (x ∷ xs) = cond (eqb (index_of x.key (text x.word) forms) x.number) (all_right xs) false

-- every number is, and there are as many as forms
pub numbers_right : (all_right numbers ≡ true) × (length numbers ≡ length forms)
unfolding numbers all_right forms index_of fits worded same
numbers_right = (refl, refl)

-- A file as the list of its parsed lines: to read it is to run the rules of the reader on that list.
-- Assumes nothing.
use Rattle.std.specs.Prelude.{ℕ, ◌+◌, ◌≡◌, refl, List, [], ◌∷◌, Bool, true, false, cond, ltb, eqb, length, take, drop}
use Rattle.std.proofs.Common.{ap, ◌∙◌}
use Rattle.lex.specs.Text.{before, parts_from}
use Rattle.forms.specs.declared.Fault.TheVariants as fault
use Rattle.forms.specs.Form.{key_of, Parsed, parse_line, lay}
use Rattle.body.specs.declared.State.{State}
use Rattle.body.specs.declared.Answer.TheVariants as answer
use Rattle.body.specs.Body.{most_bytes, rows_length, cells_length, first, in_order, Stepped, bad, next, valued, step_of, Ended, refused, finish_of, proceed, lines_from, Held, held, zeros, settle, body_of}

-- ── definitions ──

-- a line as the rules of the reader see it: one without an equals sign or without a line feed; or its key, and what its value is
pub data ParsedLine : Type 0 where
  unkeyed : ParsedLine
  keyed : ℕ → Parsed → ParsedLine

-- a line, without its line feed
unfoldable pub parsed_line : List ℕ → ParsedLine
parsed_line l =
    cond (ltb (before 61 l) (length l)) (keyed (key_of (take (before 61 l) l)) (parse_line (key_of (take (before 61 l) l)) (drop (before 61 l + 1) l))) unkeyed

-- the lines of the parts between line feeds; the last part is what stands behind the last line feed, and is no line where it is empty
unfoldable pub parsed_parts : List (List ℕ) → List ParsedLine
parsed_parts [] = unkeyed ∷ []
parsed_parts (s ∷ []) = cond (eqb (length s) 0) [] (unkeyed ∷ [])
parsed_parts (s ∷ t ∷ ts) = parsed_line s ∷ parsed_parts (t ∷ ts)

-- the parsed lines of a file
abbrev pub parsed_lines : List ℕ → List ParsedLine
parsed_lines s = parsed_parts (parts_from 10 0 s)

-- the rules of the reader on a parsed line: 3 without a key or with one out of order, else what its value gives
unfoldable pub step_parsed : ParsedLine → State → List ℕ → List ℕ → Stepped
step_parsed unkeyed st cells rows = bad fault.Form
step_parsed (keyed k p) st cells rows = cond (in_order st.key k) (valued st k (lay p cells st.counts.fields) rows) (bad fault.Form)

-- and on parsed lines from the line l on, with what is judged behind the last
unfoldable pub parsed_from : List ParsedLine → ℕ → State → List ℕ → List ℕ → Ended
parsed_from [] l st cells rows = finish_of st l cells rows
parsed_from (p ∷ ps) l st cells rows = proceed (step_parsed p st cells rows) l (parsed_from ps (l + 1))

-- a file of b bytes by its parsed lines, and the tables lent for it
unfoldable pub body_of_parsed : ℕ → List ParsedLine → List ℕ → List ℕ → Held
body_of_parsed b ps rows cells =
    cond (ltb most_bytes b) (held answer.TooLong rows cells)
    (cond (ltb (length rows) rows_length) (held answer.ShortTable rows cells)
    (cond (ltb (length cells) cells_length) (held answer.ShortTable rows cells)
    (settle (parsed_from ps 1 first (zeros cells) (zeros rows)) rows cells)))

-- ── reading is running the rules on parsed lines ──

-- a line's step is that of the parsed line
pub step_parsed_lem : (s : List ℕ) (st : State) (cells rows : List ℕ) → step_of s st cells rows ≡ step_parsed (parsed_line s) st cells rows
unfolding step_of step_parsed parsed_line
step_parsed_lem s st cells rows = by (ltb (before 61 s) (length s))
  where
    k : ℕ
    k = key_of (take (before 61 s) s)

    v : List ℕ
    v = drop (before 61 s + 1) s

    by : (b : Bool)
        → cond b (cond (in_order st.key k) (valued st k (lay (parse_line k v) cells st.counts.fields) rows) (bad fault.Form)) (bad fault.Form)
        ≡ step_parsed (cond b (keyed k (parse_line k v)) unkeyed) st cells rows
    by true = refl
    by false = refl

-- two ways to go on that agree
pub proceed_same : (x : Stepped) (l : ℕ) (k k' : State → List ℕ → List ℕ → Ended)
    → ((st : State) (cells rows : List ℕ) → k st cells rows ≡ k' st cells rows) → proceed x l k ≡ proceed x l k'
proceed_same (bad x) l k k' h = refl
proceed_same (next st cells rows) l k k' h = h st cells rows

-- lines are read as the parsed lines
lines_parsed : (ss : List (List ℕ)) (l : ℕ) (st : State) (cells rows : List ℕ) → lines_from ss l st cells rows ≡ parsed_from (parsed_parts ss) l st cells rows
unfolding lines_from parsed_parts parsed_from step_parsed
lines_parsed [] l st cells rows = refl
lines_parsed (s ∷ []) l st cells rows = by (eqb (length s) 0)
  where
    by : (b : Bool) → cond b (finish_of st l cells rows) (refused fault.Form l) ≡ parsed_from (cond b [] (unkeyed ∷ [])) l st cells rows
    by true = refl
    by false = refl
lines_parsed (s ∷ t ∷ ts) l st cells rows =
    ap (λ (x : Stepped). proceed x l (lines_from (t ∷ ts) (l + 1))) (step_parsed_lem s st cells rows)
    ∙ proceed_same (step_parsed (parsed_line s) st cells rows) l (lines_from (t ∷ ts) (l + 1)) (parsed_from (parsed_parts (t ∷ ts)) (l + 1)) (lines_parsed (t ∷ ts) (l + 1))

-- a file is read as its parsed lines
pub file_parsed : (s rows cells : List ℕ) → body_of s rows cells ≡ body_of_parsed (length s) (parsed_lines s) rows cells
unfolding body_of body_of_parsed
file_parsed s rows cells = rw (lines_parsed (parts_from 10 0 s) 1 first (zeros cells) (zeros rows))

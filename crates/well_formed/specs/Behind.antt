-- The state and the tables behind the last line of a file, before the file is judged as a whole.
-- Assumes nothing.
use Rattle.std.specs.Prelude.{ℕ, ◌+◌, ◌-◌, ◌≡◌, refl, List, [], ◌∷◌, Bool, true, false, cond, ltb, eqb, length}
use Rattle.std.proofs.Common.{arith}
use Rattle.lex.specs.Text.{parts_from}
use Rattle.forms.specs.declared.Fault.TheVariants as fault
use Rattle.forms.specs.Form.{key_fn}
use Rattle.refs.specs.declared.Counts.{Counts}
use Rattle.body.specs.declared.State.{State}
use Rattle.body.specs.declared.Answer.TheVariants as answer
use Rattle.body.specs.Body.{most_bytes, rows_length, cells_length, first, Stepped, bad, next, step_of, first_ahead, Ended, refused, read, finish_of, proceed, lines_from, Held, held, zeros, settle, body_of}

-- a fault, or the lines that follow
abbrev pub onwards : Stepped → (State → List ℕ → List ℕ → Stepped) → Stepped
onwards (bad x) k = bad x
onwards (next st cells rows) k = k st cells rows

-- the first fault of a line, or the state and the tables behind the last
unfoldable pub behind_lines : List (List ℕ) → State → List ℕ → List ℕ → Stepped
behind_lines [] st cells rows = bad fault.Form
behind_lines (s ∷ []) st cells rows = next st cells rows
behind_lines (s ∷ t ∷ ts) st cells rows = onwards (step_of s st cells rows) (behind_lines (t ∷ ts))

-- those of a file
abbrev pub behind_file : List ℕ → List ℕ → List ℕ → Stepped
behind_file s rows cells = behind_lines (parts_from 10 0 s) first (zeros cells) (zeros rows)

-- the counts and the tables of a body are those behind its last line
abbrev pub Leaves : Counts → List ℕ → List ℕ → Stepped → Type 0
Leaves n rows cells (bad x) = ⊥
Leaves n rows cells (next st cells' rows') = (st.counts ≡ n) × (rows' ≡ rows) × (cells' ≡ cells)

-- those of an end, where it is a body
abbrev Left : Ended → Stepped → Type 0
Left (refused x l) y = Unit {0}
Left (read n cells rows) y = Leaves n rows cells y

-- a file that is judged as a whole keeps its tables
finish_left : (st : State) (l : ℕ) (cells rows : List ℕ) → Left (finish_of st l cells rows) (next st cells rows)
unfolding finish_of
finish_left st l cells rows = by (eqb st.key key_fn) (ltb ahead st.counts.types) st.deep
  where
    ahead : ℕ
    ahead = first_ahead st.counts.types 0 st.counts cells rows

    by : (x y z : Bool)
        → Left (cond x (cond y (refused fault.Reference (ahead + 1)) (cond z (refused fault.Levels (l - 1)) (read st.counts cells rows))) (refused fault.Form l)) (next st cells rows)
    by false y z = tt
    by true true z = tt
    by true false true = tt
    by true false false = (refl, refl, refl)

-- a line and those that follow
proceed_left : (l : ℕ) (x : Stepped) (k : State → List ℕ → List ℕ → Ended) (k' : State → List ℕ → List ℕ → Stepped)
    → ((st : State) (cells rows : List ℕ) → Left (k st cells rows) (k' st cells rows)) → Left (proceed x l k) (onwards x k')
proceed_left l (bad x) k k' h = tt
proceed_left l (next st cells rows) k k' h = h st cells rows

-- the lines of a file
lines_left : (ss : List (List ℕ)) (l : ℕ) (st : State) (cells rows : List ℕ) → Left (lines_from ss l st cells rows) (behind_lines ss st cells rows)
unfolding lines_from behind_lines
lines_left [] l st cells rows = tt
lines_left (s ∷ []) l st cells rows = by (eqb (length s) 0)
  where
    by : (x : Bool) → Left (cond x (finish_of st l cells rows) (refused fault.Form l)) (next st cells rows)
    by true = finish_left st l cells rows
    by false = tt
lines_left (s ∷ t ∷ ts) l st cells rows =
    proceed_left l (step_of s st cells rows) (lines_from (t ∷ ts) (l + 1)) (behind_lines (t ∷ ts)) (lines_left (t ∷ ts) (l + 1))

-- the tables that an outcome of a body leaves are those of its end
settle_left : (x : Ended) (y : Stepped) (rows cells : List ℕ) (n : Counts) → Left x y → (settle x rows cells).answer ≡ answer.Body n
    → Leaves n (settle x rows cells).rows (settle x rows cells).cells y
settle_left (refused x l) y rows cells n h e = let z : ◌≡◌ {A = ℕ} 0 1 = cc in absurd (omega arith)
settle_left (read n' cells' rows') y rows cells n h e = let same : n' ≡ n = cc in rw same at h

-- a body that was read leaves the tables behind its last line
pub read_left : (s rows cells : List ℕ) (n : Counts) → (body_of s rows cells).answer ≡ answer.Body n
    → Leaves n (body_of s rows cells).rows (body_of s rows cells).cells (behind_file s rows cells)
unfolding body_of
read_left s rows cells n = by (ltb most_bytes (length s)) (ltb (length rows) rows_length) (ltb (length cells) cells_length)
  where
    whole : Ended
    whole = lines_from (parts_from 10 0 s) 1 first (zeros cells) (zeros rows)

    file : (a b c : Bool) → Held
    file a b c = cond a (held answer.TooLong rows cells) (cond b (held answer.ShortTable rows cells) (cond c (held answer.ShortTable rows cells) (settle whole rows cells)))

    by : (a b c : Bool) → (file a b c).answer ≡ answer.Body n → Leaves n (file a b c).rows (file a b c).cells (behind_file s rows cells)
    by true b c e = let z : ◌≡◌ {A = ℕ} 0 1 = cc in absurd (omega arith)
    by false true c e = let z : ◌≡◌ {A = ℕ} 0 1 = cc in absurd (omega arith)
    by false false true e = let z : ◌≡◌ {A = ℕ} 0 1 = cc in absurd (omega arith)
    by false false false e =
        settle_left whole (behind_file s rows cells) rows cells n (lines_left (parts_from 10 0 s) 1 first (zeros cells) (zeros rows)) e

-- Of WellFormed: the theorems that rest on a declaration which an edit of a definition in specs/ refuses. The definitions and the other theorems stand in
-- specs/WellFormed.antt. Assumes nothing.
use Rattle.std.specs.Prelude.{ℕ, zero, ◌+◌, ◌-◌, ◌≤◌, ◌≡◌, refl, List, [], ◌∷◌, Bool, true, false, cond, ltb, eqb, length}
use Rattle.std.proofs.Common.{arith, ltb-false, eqb-true}
use Rattle.lex.specs.Text.{parts_from}
use Rattle.forms.specs.declared.Fault.TheVariants as fault
use Rattle.forms.specs.Form.{key_fn}
use Rattle.refs.specs.declared.Counts.{Counts}
use Rattle.body.specs.declared.State.{State}
use Rattle.body.specs.declared.Answer.TheVariants as answer
use Rattle.body.specs.Body.{most_bytes, rows_length, cells_length, first, step_of, first_ahead, Ended, refused, read, finish_of, lines_from, held, zeros, settle, body_of}
use Rattle.well_formed.specs.Good.{WellFormed}
use Rattle.well_formed.specs.Parsed.{size, parts_size}
use Rattle.well_formed.specs.Bytes.{Enough}
use Rattle.well_formed.specs.Zeros.{ZeroBehind}
use Rattle.well_formed.specs.Reading.{Reading}
use Rattle.well_formed.proofs.Step.{step_good}
use Rattle.well_formed.specs.WellFormed.{Fine, HeldGood, ending, proceed_good, settle_good, start_reading}

-- what is judged behind the last line
finish_good : (st : State) (l : ℕ) (cells rows : List ℕ) → Reading st cells rows → Enough most_bytes st.counts.fields → Fine (finish_of st l cells rows)
unfolding finish_of
finish_good st l cells rows r b = by (eqb st.key key_fn) refl (ltb ahead st.counts.types) refl st.deep refl
  where
    ahead : ℕ
    ahead = first_ahead st.counts.types 0 st.counts cells rows

    by : (x : Bool) → eqb st.key key_fn ≡ x → (y : Bool) → ltb ahead st.counts.types ≡ y → (z : Bool) → st.deep ≡ z
        → Fine (cond x (cond y (refused fault.Reference (ahead + 1)) (cond z (refused fault.Levels (l - 1)) (read st.counts cells rows))) (refused fault.Form l))
    by false p y q z s = tt
    by true p true q z s = tt
    by true p false q true s = tt
    by true p false q false s = (ending st cells rows r b (eqb-true st.key key_fn p) (ltb-false ahead st.counts.types q) s, r.zero)

-- the lines of a file behind b bytes of it
lines_good : (ss : List (List ℕ)) (l b : ℕ) (st : State) (cells rows : List ℕ) → Reading st cells rows → Enough b st.counts.fields → b + size ss ≤ most_bytes + 1
    → Fine (lines_from ss l st cells rows)
unfolding lines_from size
lines_good [] l b st cells rows r e h = tt
lines_good (s ∷ []) l b st cells rows r e h = by (eqb (length s) 0)
  where
    by : (x : Bool) → Fine (cond x (finish_of st l cells rows) (refused fault.Form l))
    by true = finish_good st l cells rows r (omega arith)
    by false = tt
lines_good (s ∷ t ∷ ts) l b st cells rows r e h =
    proceed_good (b + length s + 1) l (step_of s st cells rows) (lines_from (t ∷ ts) (l + 1)) (step_good s b st cells rows r e (omega arith))
    (λ st' cells' rows' r' e'. lines_good (t ∷ ts) (l + 1) (b + length s + 1) st' cells' rows' r' e' (omega arith))

-- a file of at most 65,536 bytes over tables that are long enough
file_good : (s rows cells : List ℕ) → length s ≤ most_bytes → rows_length ≤ length rows → cells_length ≤ length cells
    → Fine (lines_from (parts_from 10 0 s) 1 first (zeros cells) (zeros rows))
file_good s rows cells h hr hc =
    lines_good (parts_from 10 0 s) 1 0 first (zeros cells) (zeros rows) (start_reading rows cells hr hc) (omega arith) (omega (arith, parts_size 10 0 s))

-- so are those of a body that was read
read_good : (s rows cells : List ℕ) (n : Counts) → HeldGood n (body_of s rows cells)
unfolding body_of
read_good s rows cells n = by (ltb most_bytes (length s)) refl (ltb (length rows) rows_length) refl (ltb (length cells) cells_length) refl
  where
    whole : Ended
    whole = lines_from (parts_from 10 0 s) 1 first (zeros cells) (zeros rows)

    by : (a : Bool) → ltb most_bytes (length s) ≡ a → (b : Bool) → ltb (length rows) rows_length ≡ b → (c : Bool) → ltb (length cells) cells_length ≡ c
        → HeldGood n (cond a (held answer.TooLong rows cells) (cond b (held answer.ShortTable rows cells) (cond c (held answer.ShortTable rows cells) (settle whole rows cells))))
    by true p b q c r = λ e. let z : ◌≡◌ {A = ℕ} 0 1 = cc in absurd (omega arith)
    by false p true q c r = λ e. let z : ◌≡◌ {A = ℕ} 0 1 = cc in absurd (omega arith)
    by false p false q true r = λ e. let z : ◌≡◌ {A = ℕ} 0 1 = cc in absurd (omega arith)
    by false p false q false r =
        settle_good whole rows cells n
        (file_good s rows cells (ltb-false most_bytes (length s) p) (ltb-false (length rows) rows_length q) (ltb-false (length cells) cells_length r))

-- a body that was read has well-formed tables
pub read_well_formed : (s rows cells : List ℕ) (n : Counts) → (body_of s rows cells).answer ≡ answer.Body n
    → WellFormed n (body_of s rows cells).rows (body_of s rows cells).cells
read_well_formed s rows cells n e = (read_good s rows cells n e).0

-- and all of them past the used rows is zero
pub read_zero_behind : (s rows cells : List ℕ) (n : Counts) → (body_of s rows cells).answer ≡ answer.Body n
    → ZeroBehind n (body_of s rows cells).rows (body_of s rows cells).cells
read_zero_behind s rows cells n e = (read_good s rows cells n e).1

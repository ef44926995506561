-- When each answer of the reader is given, and what it leaves in the tables.
-- Assumes nothing.
use Rattle.std.specs.Prelude.{ℕ, ◌<◌, ◌≤◌, ◌≡◌, ◌⊎◌, ◌↔◌, List, Bool, cond, ltb, length}
use Rattle.std.proofs.Common.{arith, sym, ap, ◌∙◌, inl, inr}
use Rattle.std.proofs.Math.Path.{refl}
use Rattle.std.proofs.Math.Bool.{true, false}
use borrow.Author.Tests.{ltb-true, ltb-false, lt-ltb, le-ltb}
use Rattle.lex.specs.Text.{parts_from}
use Rattle.forms.specs.declared.Fault.{Fault}
use Rattle.refs.specs.declared.Counts.{Counts}
use Rattle.body.specs.declared.Answer.{Answer}
use Rattle.body.specs.declared.Answer.TheVariants as answer
use Rattle.body.specs.Body.{most_bytes, rows_length, cells_length, first, Ended, refused, read, lines_from, answer_number, answer_place, Held, held, zeros, settle, body_of}

-- a table is below its length
abbrev Short : List ℕ → List ℕ → Type 0
Short rows cells = (length rows < rows_length) ⊎ (length cells < cells_length)

-- the tables of an outcome are these
abbrev TablesAre : Held → List ℕ → List ℕ → Type 0
TablesAre h rows cells = (h.rows ≡ rows) × (h.cells ≡ cells)

-- a number for each sort of answer
abbrev sort : Answer → ℕ
sort (answer.Body n) = 0
sort answer.TooLong = 1
sort answer.ShortTable = 2
sort (answer.Refused x l) = 3

-- what holds of each outcome that a file can have holds of a file's
outcome : (s rows cells : List ℕ) (P : Held → Type 0) → (most_bytes < length s → P (held answer.TooLong rows cells))
    → (length s ≤ most_bytes → Short rows cells → P (held answer.ShortTable rows cells))
    → ((x : Fault) (l : ℕ) → P (held (answer.Refused x l) (zeros rows) (zeros cells)))
    → ((n : Counts) (rows' cells' : List ℕ) → P (held (answer.Body n) rows' cells')) → P (body_of s rows cells)
unfolding body_of
outcome s rows cells P long short fault body = by (ltb most_bytes (length s)) refl (ltb (length rows) rows_length) refl (ltb (length cells) cells_length) refl
  where
    end : (x : Ended) → P (settle x rows cells)
    end (refused x l) = fault x l
    end (read n cells' rows') = body n rows' cells'

    by : (a : Bool) → ltb most_bytes (length s) ≡ a → (b : Bool) → ltb (length rows) rows_length ≡ b → (c : Bool) → ltb (length cells) cells_length ≡ c
        → P (cond a (held answer.TooLong rows cells) (cond b (held answer.ShortTable rows cells) (cond c (held answer.ShortTable rows cells)
        (settle (lines_from (parts_from 10 0 s) 1 first (zeros cells) (zeros rows)) rows cells))))
    by true p b q c r = long (ltb-true most_bytes (length s) p)
    by false p true q c r = short (ltb-false most_bytes (length s) p) (inl (ltb-true (length rows) rows_length q))
    by false p false q true r = short (ltb-false most_bytes (length s) p) (inr (ltb-true (length cells) cells_length r))
    by false p false q false r = end (lines_from (parts_from 10 0 s) 1 first (zeros cells) (zeros rows))

module _ (s rows cells : List ℕ) where
  -- a file that is too long is answered so,
  long_given : most_bytes < length s → (body_of s rows cells).answer ≡ answer.TooLong
  unfolding body_of
  long_given h = rw (lt-ltb most_bytes (length s) h)

  -- and no other
  pub too_long : ((body_of s rows cells).answer ≡ answer.TooLong) ↔ (most_bytes < length s)
  too_long = (
    outcome s rows cells (λ h. h.answer ≡ answer.TooLong → most_bytes < length s) (λ h e. h) (λ h g e. absurd (omega (arith, ap sort e)))
        (λ x l e. absurd (omega (arith, ap sort e))) (λ n rows' cells' e. absurd (omega (arith, ap sort e))),
    long_given,
  )

  -- a file that is not too long, with a table below its length, is answered so,
  short_given : length s ≤ most_bytes → Short rows cells → (body_of s rows cells).answer ≡ answer.ShortTable
  unfolding body_of
  short_given h (inl g) = rw (le-ltb most_bytes (length s) h, lt-ltb (length rows) rows_length g)
  short_given h (inr g) = rw (le-ltb most_bytes (length s) h, lt-ltb (length cells) cells_length g) (by (ltb (length rows) rows_length))
    where
      by : (b : Bool) → (cond b (held answer.ShortTable rows cells) (held answer.ShortTable rows cells)).answer ≡ answer.ShortTable
      by true = refl
      by false = refl

  -- and no other
  pub short_table : ((body_of s rows cells).answer ≡ answer.ShortTable) ↔ ((length s ≤ most_bytes) × Short rows cells)
  short_table = (
    outcome s rows cells (λ h. h.answer ≡ answer.ShortTable → (length s ≤ most_bytes) × Short rows cells) (λ h e. absurd (omega (arith, ap sort e)))
        (λ h g e. (h, g)) (λ x l e. absurd (omega (arith, ap sort e))) (λ n rows' cells' e. absurd (omega (arith, ap sort e))),
    λ p. short_given p.0 p.1,
  )

  -- 1 leaves both tables as lent,
  pub unchanged_long : (body_of s rows cells).answer ≡ answer.TooLong → TablesAre (body_of s rows cells) rows cells
  unchanged_long =
      outcome s rows cells (λ h. h.answer ≡ answer.TooLong → TablesAre h rows cells) (λ h e. (refl, refl)) (λ h g e. (refl, refl))
      (λ x l e. absurd (omega (arith, ap sort e))) (λ n rows' cells' e. absurd (omega (arith, ap sort e)))

  -- so does 2
  pub unchanged_short : (body_of s rows cells).answer ≡ answer.ShortTable → TablesAre (body_of s rows cells) rows cells
  unchanged_short =
      outcome s rows cells (λ h. h.answer ≡ answer.ShortTable → TablesAre h rows cells) (λ h e. (refl, refl)) (λ h g e. (refl, refl))
      (λ x l e. absurd (omega (arith, ap sort e))) (λ n rows' cells' e. absurd (omega (arith, ap sort e)))

  -- on 3 to 6 both are zero throughout
  pub refused_zero : (x : Fault) (l : ℕ) → (body_of s rows cells).answer ≡ answer.Refused x l → TablesAre (body_of s rows cells) (zeros rows) (zeros cells)
  refused_zero x l =
      outcome s rows cells (λ h. h.answer ≡ answer.Refused x l → TablesAre h (zeros rows) (zeros cells)) (λ h e. absurd (omega (arith, ap sort e)))
      (λ h g e. absurd (omega (arith, ap sort e))) (λ y i e. (refl, refl)) (λ n rows' cells' e. absurd (omega (arith, ap sort e)))

  -- two outcomes that are a file's are one
  pub determined : (a b : Answer) (rows' cells' rows'' cells'' : List ℕ) → held a rows' cells' ≡ body_of s rows cells → held b rows'' cells'' ≡ body_of s rows cells
      → (a ≡ b) × (rows' ≡ rows'') × (cells' ≡ cells'')
  determined a b rows' cells' rows'' cells'' p q =
      let e : held a rows' cells' ≡ held b rows'' cells'' = p ∙ sym q in
      (ap (λ (h : Held). h.answer) e, ap (λ (h : Held). h.rows) e, ap (λ (h : Held). h.cells) e)

-- a file's outcome has the number and the PLACE of its answer
pub numbered : (s rows cells : List ℕ) → ((body_of s rows cells).number ≡ answer_number (body_of s rows cells).answer) × ((body_of s rows cells).place ≡ answer_place (body_of s rows cells).answer)
numbered s rows cells =
    outcome s rows cells (λ (h : Held). (h.number ≡ answer_number h.answer) × (h.place ≡ answer_place h.answer))
    (λ l. (refl, refl))
    (λ l h. (refl, refl))
    (λ x l. (refl, refl))
    (λ n r c. (refl, refl))

-- A refusal 3, 4 or 5 at a line, but for that of a forward reference, depends on the lines up to that one alone.
-- Assumes nothing.
use Rattle.std.specs.Prelude.{ℕ, zero, suc, ◌+◌, ◌-◌, ◌<◌, ◌≤◌, ◌≡◌, refl, ◌⊎◌, List, [], ◌∷◌, Bool, true, false, cond, ltb, eqb, length}
use Rattle.std.proofs.Common.{zero-le, arith, sym, ap, inl, inr, le-leb, le-ltb, ltb-true}
use Rattle.lex.specs.Text.{onto, split, parts_from}
use Rattle.forms.specs.declared.Fault.{Fault}
use Rattle.forms.specs.declared.Fault.TheVariants as fault
use Rattle.forms.specs.Form.{key_fn}
use Rattle.body.specs.declared.State.{State}
use Rattle.body.specs.declared.Answer.TheVariants as answer
use Rattle.body.specs.Body.{most_bytes, rows_length, cells_length, first, Stepped, bad, next, step_of, first_ahead, Ended, refused, read, finish_of, proceed, lines_from, held, zeros, settle, body_of, fault_number}
use Rattle.well_formed.specs.Behind.{onwards, behind_lines, behind_file}

-- the first l lines of a file, each with its line feed; the whole file where it has fewer
unfoldable pub first_lines : ℕ → List ℕ → List ℕ
first_lines l [] = []
first_lines zero (x ∷ xs) = []
first_lines (suc l) (x ∷ xs) = x ∷ first_lines (cond (eqb x 10) l (suc l)) xs

-- the fault x at the line l is that of a forward reference: 5, where no line is at fault and l is the first type line whose K or D the body does not have
abbrev pub Forward : Fault → ℕ → Stepped → Type 0
Forward x l (bad y) = ⊥
Forward x l (next st cells rows) =
    let r = first_ahead st.counts.types 0 st.counts cells rows in
    (x ≡ fault.Reference) × (r < st.counts.types) × (l ≡ r + 1)

-- two files, by the parts between their line feeds, have the same first l lines
unfoldable Alike : ℕ → List (List ℕ) → List (List ℕ) → Type 0
Alike zero ss ts = Unit {0}
Alike (suc l) [] ts = ts ≡ []
Alike (suc l) (s ∷ []) ts = ts ≡ s ∷ []
Alike (suc l) (s ∷ u ∷ ss) ts = (v : List ℕ) × (vs : List (List ℕ)) × (ts ≡ s ∷ v ∷ vs) × Alike l (u ∷ ss) (v ∷ vs)

-- one byte more before each of two
alike_onto : (l x : ℕ) (ss ts : List (List ℕ)) → Alike (suc l) ss ts → Alike (suc l) (onto x ss) (onto x ts)
unfolding Alike
alike_onto l x [] ts e = ap (onto x) e
alike_onto l x (s ∷ []) ts e = ap (onto x) e
alike_onto l x (s ∷ u ∷ ss) ts (v, vs, e, a) = (v, vs, ap (onto x) e, a)

-- a file has a part
abbrev Parted : List (List ℕ) → Type 0
Parted [] = ⊥
Parted (s ∷ ss) = Unit {0}

parted : (s : List ℕ) → Parted (split 10 s)
unfolding split
parted [] = tt
parted (x ∷ xs) = by (eqb x 10) (split 10 xs)
  where
    by : (b : Bool) (ss : List (List ℕ)) → Parted (cond b ([] ∷ ss) (onto x ss))
    by true ss = tt
    by false [] = tt
    by false (s ∷ ss) = tt

-- a line feed before each of two
alike_feed : (l : ℕ) (ss ts : List (List ℕ)) → Parted ss → Parted ts → Alike l ss ts → Alike (suc l) ([] ∷ ss) ([] ∷ ts)
unfolding Alike
alike_feed l [] ts p q a = absurd p
alike_feed l (u ∷ ss) [] p q a = absurd q
alike_feed l (u ∷ ss) (v ∷ ts) p q a = (v, ts, refl, a)

-- the parts of two files whose first l lines are equal
alike : (l : ℕ) (s t : List ℕ) → first_lines l t ≡ first_lines l s → Alike l (split 10 s) (split 10 t)
unfolding Alike first_lines split
alike zero s t e = tt
alike (suc l) [] [] e = refl
alike (suc l) [] (y ∷ ys) e = let z : ◌≡◌ {A = ℕ} 0 1 = cc in absurd (omega arith)
alike (suc l) (x ∷ xs) [] e = let z : ◌≡◌ {A = ℕ} 0 1 = cc in absurd (omega arith)
alike (suc l) (x ∷ xs) (y ∷ ys) e =
    let same : y ≡ x = cc in
    let rest : first_lines (cond (eqb y 10) l (suc l)) ys ≡ first_lines (cond (eqb x 10) l (suc l)) xs = cc in
    rw same (by (eqb x 10) (rw same at rest) (alike l xs ys) (alike (suc l) xs ys))
  where
    by : (b : Bool) → first_lines (cond b l (suc l)) ys ≡ first_lines (cond b l (suc l)) xs
        → (first_lines l ys ≡ first_lines l xs → Alike l (split 10 xs) (split 10 ys))
        → (first_lines (suc l) ys ≡ first_lines (suc l) xs → Alike (suc l) (split 10 xs) (split 10 ys))
        → Alike (suc l) (cond b ([] ∷ split 10 xs) (onto x (split 10 xs))) (cond b ([] ∷ split 10 ys) (onto x (split 10 ys)))
    by true h f g = alike_feed l (split 10 xs) (split 10 ys) (parted xs) (parted ys) (f h)
    by false h f g = alike_onto l x (split 10 xs) (split 10 ys) (g h)

-- the fault of an end that is refused, and its line
end_line : (x y : Fault) (l n : ℕ) → refused y n ≡ refused x l → (y ≡ x) × (n ≡ l)
end_line x y l n e = ((cc), (cc))

-- a fault below 6 that is judged behind the last line, and stands before the line n, is that of a forward reference
finish_forward : (st : State) (n : ℕ) (cells rows : List ℕ) (x : Fault) (l : ℕ) → finish_of st n cells rows ≡ refused x l → l < n → fault_number x ≤ 5
    → Forward x l (next st cells rows)
unfolding finish_of
finish_forward st n cells rows x l = by (eqb st.key key_fn) (ltb ahead st.counts.types) refl st.deep
  where
    ahead : ℕ
    ahead = first_ahead st.counts.types 0 st.counts cells rows

    by : (a b : Bool) → ltb ahead st.counts.types ≡ b → (c : Bool)
        → cond a (cond b (refused fault.Reference (ahead + 1)) (cond c (refused fault.Levels (n - 1)) (read st.counts cells rows))) (refused fault.Form n) ≡ refused x l
        → l < n → fault_number x ≤ 5 → Forward x l (next st cells rows)
    by false b q c e h f = absurd (omega (arith, h, (end_line x fault.Form l n e).1))
    by true true q c e h f = let s = end_line x fault.Reference l (ahead + 1) e in (sym s.0, ltb-true ahead st.counts.types q, sym s.1)
    by true false q true e h f = absurd (omega (arith, f, ap fault_number (end_line x fault.Levels l (n - 1) e).0))
    by true false q false e h f = let z : ◌≡◌ {A = ℕ} 0 1 = cc in absurd (omega arith)

-- a fault of lines from n on that stands before the line n is that of a forward reference
proceed_forward : (n l : ℕ) (x : Fault) (y : Stepped) (k : State → List ℕ → List ℕ → Ended) (k' : State → List ℕ → List ℕ → Stepped)
    → ((st : State) (cells rows : List ℕ) → k st cells rows ≡ refused x l → Forward x l (k' st cells rows)) → proceed y n k ≡ refused x l → l < n
    → Forward x l (onwards y k')
proceed_forward n l x (bad y) k k' f e h = omega (arith, h, (end_line x y l n e).1)
proceed_forward n l x (next st cells rows) k k' f e h = f st cells rows e

lines_forward : (ss : List (List ℕ)) (n : ℕ) (st : State) (cells rows : List ℕ) (x : Fault) (l : ℕ) → lines_from ss n st cells rows ≡ refused x l → l < n
    → fault_number x ≤ 5 → Forward x l (behind_lines ss st cells rows)
unfolding lines_from behind_lines
lines_forward [] n st cells rows x l e h f = omega (arith, h, (end_line x fault.Form l n e).1)
lines_forward (s ∷ []) n st cells rows x l e h f = by (eqb (length s) 0) e
  where
    by : (b : Bool) → cond b (finish_of st n cells rows) (refused fault.Form n) ≡ refused x l → Forward x l (next st cells rows)
    by true e = finish_forward st n cells rows x l e h f
    by false e = absurd (omega (arith, h, (end_line x fault.Form l n e).1))
lines_forward (s ∷ t ∷ ts) n st cells rows x l e h f =
    proceed_forward n l x (step_of s st cells rows) (lines_from (t ∷ ts) (n + 1)) (behind_lines (t ∷ ts))
    (λ st' cells' rows' e'. lines_forward (t ∷ ts) (n + 1) st' cells' rows' x l e' (omega arith) f) e h

-- a fault of the first k of two files' lines from n on that have them alike: that of a forward reference, or one of both
proceed_alike : (n l : ℕ) (x : Fault) (y : Stepped) (k k₁ : State → List ℕ → List ℕ → Ended) (k' : State → List ℕ → List ℕ → Stepped)
    → ((st : State) (cells rows : List ℕ) → k st cells rows ≡ refused x l → Forward x l (k' st cells rows) ⊎ (k₁ st cells rows ≡ refused x l))
    → proceed y n k ≡ refused x l → Forward x l (onwards y k') ⊎ (proceed y n k₁ ≡ refused x l)
proceed_alike n l x (bad y) k k₁ k' f e = inr e
proceed_alike n l x (next st cells rows) k k₁ k' f e = f st cells rows e

lines_alike : (k : ℕ) (ss ts : List (List ℕ)) (n : ℕ) (st : State) (cells rows : List ℕ) (x : Fault) (l : ℕ) → Alike k ss ts
    → lines_from ss n st cells rows ≡ refused x l → l < n + k → fault_number x ≤ 5
    → Forward x l (behind_lines ss st cells rows) ⊎ (lines_from ts n st cells rows ≡ refused x l)
unfolding Alike lines_from behind_lines
lines_alike zero ss ts n st cells rows x l a e h f = inl (lines_forward ss n st cells rows x l e (omega arith) f)
lines_alike (suc k) [] ts n st cells rows x l a e h f = inr (rw a e)
lines_alike (suc k) (s ∷ []) ts n st cells rows x l a e h f = inr (rw a e)
lines_alike (suc k) (s ∷ u ∷ ss) ts n st cells rows x l (v, vs, q, a) e h f =
    rw q (proceed_alike n l x (step_of s st cells rows) (lines_from (u ∷ ss) (n + 1)) (lines_from (v ∷ vs) (n + 1)) (behind_lines (u ∷ ss))
    (λ st' cells' rows' e'. lines_alike k (u ∷ ss) (v ∷ vs) (n + 1) st' cells' rows' x l a e' (omega arith) f) e)

-- one of two, where the first does not hold
or_else_lem : {A B : Type 0} → A ⊎ B → (A → ⊥) → B
or_else_lem (inl a) n = absurd (n a)
or_else_lem (inr b) n = b

-- the parts of a file from its start on
whole : (s : List ℕ) → parts_from 10 0 s ≡ split 10 s
unfolding parts_from
whole s = rw (le-leb 0 (length s) zero-le)

-- an end whose answer is a refusal is that refusal
settle_refused : (y : Ended) (rows cells : List ℕ) (x : Fault) (l : ℕ) → (settle y rows cells).answer ≡ answer.Refused x l → y ≡ refused x l
settle_refused (refused y n) rows cells x l e = (cc)
settle_refused (read n cells' rows') rows cells x l e = let z : ◌≡◌ {A = ℕ} 0 1 = cc in absurd (omega arith)

-- a file refused 3, 4 or 5 at the line l, not for a forward reference: every file with the same first l lines is refused alike
pub first_lines_lem : (s t rows cells : List ℕ) (x : Fault) (l : ℕ) → (body_of s rows cells).answer ≡ answer.Refused x l → fault_number x ≤ 5
    → (Forward x l (behind_file s rows cells) → ⊥) → length t ≤ most_bytes → first_lines l t ≡ first_lines l s → (body_of t rows cells).answer ≡ answer.Refused x l
unfolding body_of
first_lines_lem s t rows cells x l e f w h q =
    rw (le-ltb most_bytes (length t) h) (by (ltb most_bytes (length s)) (ltb (length rows) rows_length) (ltb (length cells) cells_length) e)
  where
    ended : List ℕ → Ended
    ended u = lines_from (parts_from 10 0 u) 1 first (zeros cells) (zeros rows)

    same : ended s ≡ refused x l → ended t ≡ refused x l
    same e =
        or_else_lem (lines_alike l (parts_from 10 0 s) (parts_from 10 0 t) 1 first (zeros cells) (zeros rows) x l (rw (whole s, whole t) (alike l s t q)) e (omega arith) f) w

    by : (a b c : Bool)
        → (cond a (held answer.TooLong rows cells) (cond b (held answer.ShortTable rows cells) (cond c (held answer.ShortTable rows cells) (settle (ended s) rows cells)))).answer ≡ answer.Refused x l
        → (cond b (held answer.ShortTable rows cells) (cond c (held answer.ShortTable rows cells) (settle (ended t) rows cells))).answer ≡ answer.Refused x l
    by true b c e = let z : ◌≡◌ {A = ℕ} 0 1 = cc in absurd (omega arith)
    by false true c e = e
    by false false true e = e
    by false false false e = ap (λ (y : Ended). (settle y rows cells).answer) (same (settle_refused (ended s) rows cells x l e))

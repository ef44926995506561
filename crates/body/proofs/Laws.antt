-- Laws of the definitions of a line and of a file, one for each way in which the code returns or goes on.
-- Assumes nothing.
use Rattle.std.specs.Prelude.{Err, None, Ok, Option, Result, Some}
use Prim.Native.Nat.{ℕ, suc, ◌+◌, ◌*◌, ◌-◌, ◌<◌, ◌≤◌}
use mathlib.Core.Path.{◌≡◌, refl, ap, sym, ◌∙◌}
use mathlib.Core.List.{List}
use mathlib.Core.Bool.{Bool, true, false}
use native.Mathlib.Numerals.{add-one, add-two}
use native.Mathlib.Omega.{arith}
use lib.ListN.{length, take, drop, set, length-drop, drop_of_length-le}
use lib.Seq.{length-take-le}
use borrow.Author.Tests.{lt-ltb, le-ltb, eq-eqb, ne_eqb}
use Rattle.lex.specs.Text.{before, parts_from}
use Rattle.lex.proofs.Laws.{first_part, no_part}
use Rattle.forms.proofs.Laws.{rest, short_line}
use Rattle.forms.specs.declared.Fault.{Fault}
use Rattle.forms.specs.declared.Fault.TheVariants as fault
use Rattle.forms.specs.declared.Form.{Form}
use Rattle.forms.specs.Form.{key_fn, key_of, form_at, most_value, line_of, lay, shown, width_of}
use Rattle.refs.specs.declared.Counts.{Counts}
use Rattle.refs.specs.Refs.{most_fields, links_of, linking}
use Rattle.refs.proofs.Laws.{links_all}
use Rattle.body.specs.declared.State.{State}
use Rattle.body.specs.declared.Answer.TheVariants as answer
use Rattle.body.specs.Body.{first, in_order, limit_of, count_of, base_of, levels_over, advance, put_row, repeats, bad, next, placed, judged, valued, step_of, is_ahead, first_ahead, Ended, refused, read, finish_of, lines_from, zeros, held, settle, body_of, stepped, ended, fields_in}

-- a row's four numbers, one after the other
pub row_written_lem : (t : List ℕ) (r f a m d : ℕ) → set (set (set (set t (r * 5) f) (r * 5 + 1) a) (r * 5 + 2) m) (r * 5 + 3) d ≡ put_row t r f a m d
unfolding put_row
row_written_lem t r f a m d = simp (add-one, add-two, add-three)
  where
    add-three : (n : ℕ) → n + 3 ≡ suc (suc (suc n))
    add-three n = omega arith

-- a line of the form f with m fields
module _ (st : State) (k f m : ℕ) (cells rows : List ℕ) (j l : ℕ) (jq : j ≡ count_of st.counts k) (lq : l ≡ limit_of k) where
  pub over_limit : l ≤ j → judged st k f m cells rows ≡ bad fault.Limit
  unfolding judged
  over_limit h = rw (← jq, ← lq, le-ltb j l h)

  module _ (h : j < l) (b : Bool) (bq : b ≡ repeats k f m st.counts cells rows) where
    pub repeated : b ≡ true → judged st k f m cells rows ≡ bad fault.Reference
    unfolding judged
    repeated t = rw (← jq, ← lq, lt-ltb j l h, ← bq, t)

    module _ (t : b ≡ false) (g : Form) (gq : g ≡ form_at f) (room : st.counts.fields + m ≤ most_fields) (r : Option ℕ) (rows' : List ℕ) (rq : linking r rows' ≡ links_of st.counts g m cells rows) where
      linked_so : judged st k f m cells rows ≡ placed st k f m cells (linking r rows')
      unfolding judged
      linked_so = rw (← jq, ← lq, lt-ltb j l h, ← bq, t, ← gq, rq, links_all st.counts g m cells rows room)

      pub unlinked_line : r ≡ None → judged st k f m cells rows ≡ bad fault.Reference
      unfolding placed
      unlinked_line e = linked_so ∙ ap (λ (x : Option ℕ). placed st k f m cells (linking x rows')) e

      pub linked_line : (d e a : ℕ) (rows'' : List ℕ) (st' : State) → r ≡ Some d → e ≡ levels_over f d → a ≡ base_of k → rows'' ≡ put_row rows' (a + j) f st.counts.fields m e → st' ≡ advance st k m e → judged st k f m cells rows ≡ next st' cells rows''
      unfolding placed
      linked_line d e a rows'' st' p eq aq wq sq = linked_so ∙ ap (λ (x : Option ℕ). placed st k f m cells (linking x rows')) p ∙ rw (sq, wq, aq, ← jq, eq)

-- a state behind a line has that line's fields more
pub advanced_fields : (st : State) (k m d : ℕ) (st' : State) → st' ≡ advance st k m d → st'.counts.fields ≤ st.counts.fields + m
unfolding advance Rattle.body.specs.Body.counted
advanced_fields st k m d st' p = rw p (omega arith)

-- a value's width, where it is a row
pub width : (r : Result (ℕ × ℕ) Fault) (i n m : ℕ) → r ≡ Ok (i, n) → width_of r ≤ m → n ≤ m
width r i n m p h = rw p at h

-- the length of the part from a on
pub rest_length : (s : List ℕ) (a : ℕ) → length (take (length s - a) (drop a s)) ≡ length s - a
rest_length s a = ap length (rest s a) ∙ length-drop a s

-- the part from p to e
pub part_length : (s : List ℕ) (p e : ℕ) → e - p ≤ length s - p → length (take (e - p) (drop p s)) ≡ e - p
part_length s p e h = length-take-le (e - p) (drop p s) (rw length-drop h)

-- the fields behind a step that goes on
pub fields_next : (r : Result State Fault) (x : State) (m : ℕ) → r ≡ Ok x → fields_in r ≤ m → x.counts.fields ≤ m
fields_next r x m p h = rw p at h

-- a line l, with its first equals sign at q
module _ (l : List ℕ) (st : State) (cells rows : List ℕ) (q : ℕ) (e : q ≡ before 61 l) where
  at_q : before 61 l ≡ q
  at_q = sym e

  pub no_equals : length l ≤ q → step_of l st cells rows ≡ bad fault.Form
  unfolding step_of
  no_equals h = rw (at_q, le-ltb q (length l) h)

  module _ (h : q < length l) (k : ℕ) (kq : k ≡ key_of (take q l)) (b : Bool) (bq : b ≡ in_order st.key k) where
    the_key : key_of (take q l) ≡ k
    the_key = sym kq

    pub out_of_order : b ≡ false → step_of l st cells rows ≡ bad fault.Form
    unfolding step_of
    out_of_order f = rw (at_q, lt-ltb q (length l) h, the_key, ← bq, f)

    module _ (t : b ≡ true) (g : Result (ℕ × ℕ) Fault) (cs : List ℕ) (short : length l ≤ most_value) (gq : shown g cs ≡ lay (line_of k (take (length l - (q + 1)) (drop (q + 1) l))) cells st.counts.fields) where
      value_so : step_of l st cells rows ≡ valued st k (shown g cs) rows
      unfolding step_of
      value_so = rw (at_q, lt-ltb q (length l) h, the_key, ← bq, t, gq, rest l (q + 1), short_line k (drop (q + 1) l) (rw length-drop (omega arith)))

      pub bad_value : (x : Fault) → g ≡ Err x → step_of l st cells rows ≡ bad x
      bad_value x f = value_so ∙ ap (λ (y : Result (ℕ × ℕ) Fault). valued st k (shown y cs) rows) f

      pub good_value : (i n : ℕ) (r : Result State Fault) (rs : List ℕ) → g ≡ Ok (i, n) → stepped r cs rs ≡ judged st k i n cs rows → step_of l st cells rows ≡ stepped r cs rs
      good_value i n r rs f s = value_so ∙ ap (λ (y : Result (ℕ × ℕ) Fault). valued st k (shown y cs) rows) f ∙ sym s

-- the first row ahead, w, where it comes down to the rows from r on
module _ (w t r : ℕ) (n : Counts) (cells rows : List ℕ) (inv : w ≡ first_ahead (t - r) r n cells rows) where
  more : r < t → t - r ≡ suc (t - (r + 1))
  more h = omega arith

  pub ahead_here : (b : Bool) → r < t → b ≡ is_ahead r n cells rows → b ≡ true → r ≡ w
  unfolding first_ahead
  ahead_here b h p q = sym (inv ∙ rw (more h, ← p, q))

  pub ahead_later : (b : Bool) → r < t → b ≡ is_ahead r n cells rows → b ≡ false → w ≡ first_ahead (t - (r + 1)) (r + 1) n cells rows
  unfolding first_ahead
  ahead_later b h p q = inv ∙ rw (more h, ← p, q)

  pub none_ahead : t ≤ r → r ≤ t → t ≡ w
  unfolding first_ahead
  none_ahead h l = let none : t - r ≡ 0 = omega arith in let same : r ≡ t = omega arith in sym (inv ∙ rw (none, same))

-- what is judged behind the last line
module _ (st : State) (l : ℕ) (cells rows : List ℕ) where
  pub no_fn : (st.key ≡ key_fn → ⊥) → finish_of st l cells rows ≡ refused fault.Form l
  unfolding finish_of
  no_fn h = rw (ne_eqb st.key key_fn h)

  module _ (h : st.key ≡ key_fn) (r : ℕ) (rq : r ≡ first_ahead st.counts.types 0 st.counts cells rows) where
    pub ahead : r < st.counts.types → finish_of st l cells rows ≡ refused fault.Reference (r + 1)
    unfolding finish_of
    ahead i = rw (eq-eqb st.key key_fn h, ← rq, lt-ltb r st.counts.types i)

    pub too_deep : st.counts.types ≤ r → st.deep ≡ true → finish_of st l cells rows ≡ refused fault.Levels (l - 1)
    unfolding finish_of
    too_deep i d = rw (eq-eqb st.key key_fn h, ← rq, le-ltb r st.counts.types i, d)

    pub all_there : st.counts.types ≤ r → st.deep ≡ false → finish_of st l cells rows ≡ read st.counts cells rows
    unfolding finish_of
    all_there i d = rw (eq-eqb st.key key_fn h, ← rq, le-ltb r st.counts.types i, d)

-- a file: what is asked (w) comes down to the lines from p on
module _ (w : Ended) (s : List ℕ) (p n : ℕ) (st : State) (cells rows : List ℕ) (inv : w ≡ lines_from (parts_from 10 p s) n st cells rows) where
  pub at-end : p ≤ length s → length s ≤ p → (r : Result Counts (Fault × ℕ)) → ended r cells rows ≡ finish_of st n cells rows → w ≡ ended r cells rows
  unfolding lines_from before
  at-end h l r f =
      inv
      ∙ rw (first_part 10 s p (p + 0) h (rw (drop_of_length-le s l)), no_part 10 s (p + 0 + 1) (omega arith), part_length s p (p + 0) (omega arith), same, f)
    where
      same : p + 0 - p ≡ 0
      same = omega arith

  module _ (e : ℕ) (h : p < length s) (q : e ≡ p + before 10 (drop p s)) where
    pub unended : e - p ≤ length s - p → length s ≤ e → w ≡ refused fault.Form n
    unfolding lines_from
    unended b l =
        inv
        ∙ rw (first_part 10 s p e (omega arith) q, no_part 10 s (e + 1) (omega arith), part_length s p e b, ne_eqb (e - p) 0 (λ z. omega (arith, z)))

    module _ (l : e < length s) (r : Result State Fault) (cs rs : List ℕ) (g : stepped r cs rs ≡ step_of (take (e - p) (drop p s)) st cells rows) where
      pub bad_line : (x : Fault) → r ≡ Err x → w ≡ refused x n
      unfolding lines_from
      bad_line x f = inv ∙ rw (first_part 10 s p e (omega arith) q, first_part 10 s (e + 1) (e + 1 + before 10 (drop (e + 1) s)) (omega arith) refl, ← g, f)

      pub next_line : (x : State) → r ≡ Ok x → w ≡ lines_from (parts_from 10 (e + 1) s) (n + 1) x cs rs
      unfolding lines_from
      next_line x f = inv ∙ rw (first_part 10 s p e (omega arith) q, first_part 10 s (e + 1) (e + 1 + before 10 (drop (e + 1) s)) (omega arith) refl, ← g, f)

-- a file and its tables
module _ (s r c : List ℕ) where
  pub too_long : 65536 < length s → body_of s r c ≡ held answer.TooLong r c
  unfolding body_of
  too_long h = rw (lt-ltb 65536 (length s) h)

  module _ (h : length s ≤ 65536) where
    pub short_rows : length r < 9605 → body_of s r c ≡ held answer.ShortTable r c
    unfolding body_of
    short_rows k = rw (le-ltb 65536 (length s) h, lt-ltb (length r) 9605 k)

    module _ (k : 9605 ≤ length r) where
      pub short_cells : length c < 94716 → body_of s r c ≡ held answer.ShortTable r c
      unfolding body_of
      short_cells l = rw (le-ltb 65536 (length s) h, le-ltb (length r) 9605 k, lt-ltb (length c) 94716 l)

      module _ (l : 94716 ≤ length c) (e : Result Counts (Fault × ℕ)) (r₀ c₀ r₁ c₁ : List ℕ) (rz : r₀ ≡ zeros r) (cz : c₀ ≡ zeros c) (q : ended e c₁ r₁ ≡ lines_from (parts_from 10 0 s) 1 first c₀ r₀) where
        settled : body_of s r c ≡ settle (ended e c₁ r₁) r c
        unfolding body_of
        settled = rw (le-ltb 65536 (length s) h, le-ltb (length r) 9605 k, le-ltb (length c) 94716 l, ← cz, ← rz, q)

        pub good_body : (n : Counts) → e ≡ Ok n → body_of s r c ≡ held (answer.Body n) r₁ c₁
        good_body n f = settled ∙ ap (λ (x : Result Counts (Fault × ℕ)). settle (ended x c₁ r₁) r c) f

        pub bad_body : (x : Fault) (p : ℕ) (r₂ c₂ : List ℕ) → e ≡ Err (x, p) → r₂ ≡ zeros r → c₂ ≡ zeros c → body_of s r c ≡ held (answer.Refused x p) r₂ c₂
        bad_body x p r₂ c₂ f a b = settled ∙ ap (λ (y : Result Counts (Fault × ℕ)). settle (ended y c₁ r₁) r c) f ∙ rw (a, b)

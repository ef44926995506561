-- Laws of the definitions in specs/Form.antt: each way of writing a field, a cell in the table, one turn of the loop over a line's fields, and a line.
-- Assumes nothing.
use Rattle.std.specs.Prelude.{Err, None, Ok, Option, Result, Some}
use Prim.Native.Nat.{ℕ, ◌+◌, ◌*◌, ◌-◌, ◌/◌, ◌<◌, ◌≤◌, zero-le}
use mathlib.Core.Path.{◌≡◌, refl, ap, ap₂, sym, ◌∙◌}
use mathlib.Core.Bool.{Bool, true, false, cond}
use mathlib.Core.Logic.{◌⊎◌, inl, inr}
use mathlib.Core.List.{List, [], ◌∷◌}
use native.Mathlib.Nat.{zero-add, add-zero, add-sub_cancel_left}
use native.Mathlib.Numerals.{add-one, add-two}
use native.Mathlib.Omega.{arith}
use lib.Dec.{eqb, ltb}
use lib.ListN.{length, get_or, take, drop, set, drop_of_length-le, length-drop, get_or-eq_default}
use lib.Seq.{take_all}
use borrow.Author.Tests.{lt-ltb, le-ltb, lt-leb, le-leb, ne_eqb, eqb-true, eqb-false}
use Rattle.lex.specs.Text.{number_of, digits_from, before, fields_from, same, pack, scan_of}
use Rattle.lex.proofs.Laws.{first_part, no_part, scan_number}
use Rattle.forms.specs.declared.Form.{Form}
use Rattle.forms.specs.declared.Fault.TheVariants as fault
use Rattle.forms.specs.declared.Cell.{Cell}
use Rattle.forms.specs.Form.{key_of, LineForm, forms, no_form, form_at, read_as, read_of, cell, ending, field_at, valued, named, letter_of, optional_of, tag_of, tagged_of, resolution_of, behind_of, pair_of, kind_at, Cells, refused, cells, prepend, cells_from, store, store_from, Filled, unfilled, filled, fill, form_of, counted, with_cells, parse_line, most_value, line_of, start_of, count_of, Laid, faulty, lay, shown, outcome, count_in, width_of}
use Rattle.forms.specs.Words.{key_numbered, key_by_number, index_numbered, form_by_number}
use Rattle.forms.specs.declared.Fault.{Fault}

-- a part to the end of a list
pub rest : (s : List ℕ) (a : ℕ) → take (length s - a) (drop a s) ≡ drop a s
rest s a = take_all (length s - a) (drop a s) (rw (length-drop a s) (omega arith))

-- a resolution with no bytes
pub no_tag : (s : List ℕ) → length s ≡ 0 → None ≡ resolution_of s
unfolding tag_of tagged_of
no_tag [] h = refl
no_tag (x ∷ xs) h = absurd (omega arith)

-- a resolution with a number behind its letter
pub tag_number : (r : Option Cell) (b : ℕ) (s : List ℕ) → r ≡ valued b (number_of (take (length s - 1) (drop 1 s))) → 1 ≤ b → b ≤ 4 → r ≡ tagged_of b s
unfolding tagged_of
tag_number r b s p n l = p ∙ rw (rest s 1, ne_eqb b 0 (λ e. omega (arith, e)), le-leb b 4 l)

-- a pair whose name ends at e
module _ (b : Bool) (s : List ℕ) (e : ℕ) (h : e ≡ 0 + before 58 s) where
  -- the end of the name
  at_e : before 58 s ≡ e
  at_e = sym (h ∙ zero-add (before 58 s))

  -- no name and colon
  pub no_colon : length s ≤ e → None ≡ pair_of b s
  unfolding pair_of tag_of tagged_of number_of
  no_colon l = rw (at_e, drop_of_length-le s {i = e + 1} (omega arith)) (go b (number_of (take e s)))
    where
      go : (b : Bool) (n : Option ℕ) → None ≡ named n (behind_of b [])
      go true (Some a) = refl
      go true None = refl
      go false (Some a) = refl
      go false None = refl

  -- what stands before the colon is no number
  pub no_name : None ≡ number_of (take e s) → None ≡ pair_of b s
  unfolding pair_of
  no_name p = rw (at_e, ← p)

  module _ (a : ℕ) (p : Some a ≡ number_of (take e s)) where
    -- a name, and what stands behind the colon is not of its kind
    pub no_value : None ≡ behind_of b (take (length s - (e + 1)) (drop (e + 1) s)) → None ≡ pair_of b s
    unfolding pair_of
    no_value q = rw (at_e, ← p, ← rest s (e + 1), ← q)

    -- or it is
    pub at_colon : (c : Cell) → Some c ≡ behind_of b (take (length s - (e + 1)) (drop (e + 1) s)) → Some (cell a c.tag c.value) ≡ pair_of b s
    unfolding pair_of
    at_colon c q = rw (at_e, ← p, ← rest s (e + 1), ← q)

-- the test of two numbers that differ
pub other : (a b : ℕ) → (b ≡ a → ⊥) → eqb a b ≡ false
other a b n = ne_eqb a b (λ e. n (sym e))

-- a line that begins with `node=`
pub node_key : (l : List ℕ) → 5 ≤ length l → get_or l 0 0 ≡ 110 → get_or l 1 0 ≡ 111 → get_or l 2 0 ≡ 100 → get_or l 3 0 ≡ 101 → get_or l 4 0 ≡ 61
    → (4 ≡ before 61 l) × (4 ≡ key_of (take 4 l))
unfolding before key_of same
node_key [] h a b c d e = absurd (omega arith)
node_key (x ∷ []) h a b c d e = absurd (omega arith)
node_key (x ∷ y ∷ []) h a b c d e = absurd (omega arith)
node_key (x ∷ y ∷ z ∷ []) h a b c d e = absurd (omega arith)
node_key (x ∷ y ∷ z ∷ u ∷ []) h a b c d e = absurd (omega arith)
node_key (x ∷ y ∷ z ∷ u ∷ v ∷ vs) h a b c d e = (rw (a, b, c, d, e), rw (a, b, c, d))

-- a line's key by its word
module _ (l : List ℕ) (e k : ℕ) (q : e ≡ before 61 l) (r : k ≡ key_numbered (pack (take e l))) where
  pub key_word : (e ≡ before 61 l) × (k ≡ key_of (take e l))
  key_word = (q, r ∙ key_by_number (take e l))

-- a cell that is in the table
pub stored : (t : List ℕ) (j : ℕ) (c : Cell) → j * 3 + 3 ≤ length t → set (set (set t (j * 3) c.name) (j * 3 + 1) c.tag) (j * 3 + 2) c.value ≡ store t j c
unfolding store
stored t j c h = simp (le-leb (j * 3 + 3) (length t) h, add-one, add-two)

-- a cell that is not in the table
pub not_stored : (t : List ℕ) (j : ℕ) (c : Cell) → length t < j * 3 + 3 → t ≡ store t j c
unfolding store
not_stored t j c h = simp (lt-leb (j * 3 + 3) (length t) h)

-- a number is not `-`
no_dash : (s : List ℕ) (n : ℕ) → number_of s ≡ Some n → letter_of s ≡ 45 → ⊥
unfolding number_of digits_from letter_of
no_dash [] n h e = omega (arith, e)
no_dash (x ∷ []) n h e = let y : None ≡ Some n = rw e at h in let z : ◌≡◌ {A = ℕ} 0 1 = cc in omega arith
no_dash (x ∷ y ∷ ys) n h e = omega (arith, rw (ne_eqb (length (x ∷ y ∷ ys)) 1 (λ z. omega (arith, z))) at e)

-- a number is read by the first two classes
number_class : (c n : ℕ) (s : List ℕ) → (c ≡ 1) ⊎ (c ≡ 2) → number_of s ≡ Some n → read_as c s ≡ Some (cell 0 1 n)
unfolding read_as optional_of
number_class c n s (inl q) h = rw (q, h)
number_class c n s (inr q) h = rw (q, ne_eqb (letter_of s) 45 (no_dash s n h), h)

number_read : (k n : ℕ) (s : List ℕ) → 16 ≤ k → k < 48 → number_of s ≡ Some n → read_of k s ≡ Some (cell 0 1 n)
number_read k n s l u h = number_class (k / 16) n s (by (eqb (k / 16) 1) refl) h
  where
    by : (b : Bool) → eqb (k / 16) 1 ≡ b → (k / 16 ≡ 1) ⊎ (k / 16 ≡ 2)
    by true q = inl (eqb-true (k / 16) 1 q)
    by false q = inr (omega (arith, eqb-false (k / 16) 1 q))

-- the field of the kind k from the place p on
module _ (k p : ℕ) (v : List ℕ) where
  -- by its end
  field_to : (e : ℕ) → e ≡ p + before 44 (drop p v) → field_at k v p ≡ ending e (read_of k (take (e - p) (drop p v)))
  unfolding field_at
  field_to e q = rw (q, add-sub_cancel_left p (before 44 (drop p v)))

  -- a number that was found in one pass
  pub scanned : (n e : ℕ) → p ≤ length v → 16 ≤ k → k < 48 → Some (n, e) ≡ scan_of v p
      → ((p ≤ e) × (e ≤ length v)) × (Some (cell 0 1 n, e) ≡ field_at k v p)
  scanned n e h l u d =
      let t = scan_number v p n e h (sym d) in
      (t.0, sym (field_to e t.1 ∙ rw (number_read k n (take (e - p) (drop p v)) l u t.2)))

  module _ (e : ℕ) (q : e ≡ p + before 44 (drop p v)) where
    -- a field of its kind
    pub taken_is : (c : Cell) → Some c ≡ read_of k (take (e - p) (drop p v)) → Some (c, e) ≡ field_at k v p
    taken_is c d = sym (field_to e q ∙ rw (← d))

    -- a field that is not
    pub taken_bad : None ≡ read_of k (take (e - p) (drop p v)) → None ≡ field_at k v p
    taken_bad d = sym (field_to e q ∙ rw (← d))

-- what was read, by the field and its end
ending_bad : (e : ℕ) (r : Option Cell) → None ≡ ending e r → r ≡ None
ending_bad e (Some c) q = let z : ◌≡◌ {A = ℕ} 0 1 = cc in absurd (omega arith)
ending_bad e None q = refl

ending_is : (e n : ℕ) (r : Option Cell) (c : Cell) → Some (c, n) ≡ ending e r → (r ≡ Some c) × (n ≡ e)
ending_is e n (Some d) c q = let pair : ◌≡◌ {A = Cell × ℕ} (d, e) (c, n) = cc in (ap (λ (z : Cell × ℕ). Some z.0) pair, sym (ap (λ (z : Cell × ℕ). z.1) pair))
ending_is e n None c q = let z : ◌≡◌ {A = ℕ} 0 1 = cc in absurd (omega arith)

-- one turn of the loop over the fields, where the fields from p on are still to be read and w is the whole answer
module _ (w : Filled) (v : List ℕ) (f : Form) (i p at : ℕ) (t : List ℕ) (inv : w ≡ fill i t (at + i) (cells_from f i (fields_from p v))) where
  module _ (k : ℕ) (h : p ≤ length v) (kq : k ≡ kind_at f i) where
    -- a field that is not of its kind
    pub turn_bad : None ≡ field_at k v p → unfilled t ≡ w
    unfolding fill cells_from store_from
    turn_bad b =
        let e : ℕ = p + before 44 (drop p v) in
        let d : read_of k (take (e - p) (drop p v)) ≡ None = ending_bad e _ (b ∙ field_to k p v e refl) in
        sym (inv ∙ rw (first_part 44 v p e h refl, ← kq, d))

    -- a field of its kind, stored
    pub turn : (c : Cell) (e : ℕ) (u : List ℕ) → Some (c, e) ≡ field_at k v p → u ≡ store t (at + i) c → w ≡ fill (i + 1) u (at + (i + 1)) (cells_from f (i + 1) (fields_from (e + 1) v))
    unfolding fill cells_from store_from
    turn c n u b s =
        let e : ℕ = p + before 44 (drop p v) in
        let d : (read_of k (take (e - p) (drop p v)) ≡ Some c) × (n ≡ e) = ending_is e n _ c (b ∙ field_to k p v e refl) in
        inv ∙ rw (first_part 44 v p e h refl, ← kq, d.0, s, d.1) (go (cells_from f (i + 1) (fields_from (e + 1) v)))
      where
        go : (l : Cells) → fill i t (at + i) (prepend (Some c) l) ≡ fill (i + 1) (store t (at + i) c) (at + (i + 1)) l
        go (refused l) = ap (λ j. unfilled (store_from (store t (at + i) c) j l)) (omega arith)
        go (cells l) = ap₂ (λ n j. filled n (store_from (store t (at + i) c) j l)) (omega arith) (omega arith)

  -- no field is left
  pub turned : length v < p → filled i t ≡ w
  unfolding fill cells_from store_from
  turned h = sym (inv ∙ rw (no_part 44 v p h, add-zero i))

-- what was read of a line, by the cells that were stored
unfoldable judge : ℕ → Form → Filled → Laid
judge i f (unfilled t) = faulty fault.Form t
judge i f (filled n t) = shown (count_of i f n) t

-- that is the line laid in the table
judged : (i : ℕ) (f : Form) (t : List ℕ) (at : ℕ) (l : Cells) → judge i f (fill 0 t at l) ≡ lay (counted i f l) t at
unfolding judge fill count_of
judged i f t at (refused l) = refl
judged i f t at (cells l) = rw (zero-add (length l)) (go (ltb (length l) f.4) (ltb f.5 (length l)))
  where
    go : (a b : Bool) → shown (cond a (Err fault.Form) (cond b (Err fault.Limit) (Ok (i, (length l))))) (store_from t at l)
        ≡ lay (with_cells (cond a (Err fault.Form) (cond b (Err fault.Limit) (Ok (i, (length l))))) l) t at
    go true b = refl
    go false true = refl
    go false false = refl

-- a value that is too long
pub long_line : (k at : ℕ) (v t : List ℕ) → most_value < length v → faulty fault.Limit t ≡ lay (line_of k v) t at
unfolding line_of store_from
long_line k at v t h = rw (lt-ltb most_value (length v) h)

-- one that is not
pub short_line : (k : ℕ) (v : List ℕ) → length v ≤ most_value → line_of k v ≡ parse_line k v
unfolding line_of
short_line k v h = rw (le-ltb most_value (length v) h)

-- a line
module _ (k e w i at : ℕ) (v t : List ℕ) (short : length v ≤ most_value) (eq : e ≡ before 44 v) (wq : w ≡ pack (take e v)) (iq : i ≡ index_numbered k w forms) where
  -- the end of the word
  at_comma : before 44 v ≡ e
  at_comma = sym eq

  -- the form that was found is the line's
  the_form : form_of k v ≡ i
  unfolding form_of
  the_form = rw (at_comma, iq, wq) (sym (form_by_number k (take e v)))

  -- no form of its key and word
  pub no_line : 30 ≤ i → faulty fault.Form t ≡ lay (line_of k v) t at
  unfolding parse_line store_from
  no_line h = rw (short_line k v short, the_form, le-ltb i 30 h)

  module _ (h : i < 30) (f : Form) (fq : f ≡ form_at i) (b : ℕ) (bq : b ≡ start_of k (length v) e) (g : Option ℕ) (u : List ℕ) (gq : outcome g u ≡ fill 0 t at (cells_from f 0 (fields_from b v))) where
    -- the line by the fields that were read
    valued_line : lay (line_of k v) t at ≡ judge i f (outcome g u)
    unfolding parse_line
    valued_line = rw (short_line k v short, the_form, lt-ltb i 30 h, ← fq, at_comma, ← bq, gq) (sym (judged i f t at (cells_from f 0 (fields_from b v))))

    -- a field that is not of its kind
    pub bad_line : g ≡ None → faulty fault.Form u ≡ lay (line_of k v) t at
    unfolding judge
    bad_line q = sym (valued_line ∙ ap (λ (x : Option ℕ). judge i f (outcome x u)) q)

    -- n fields of their kinds
    pub good_line : (n : ℕ) (r : Result (ℕ × ℕ) Fault) → g ≡ Some n → r ≡ count_of i f n → shown r u ≡ lay (line_of k v) t at
    unfolding judge
    good_line n r q p = sym (valued_line ∙ ap (λ (x : Option ℕ). judge i f (outcome x u)) q ∙ ap (λ (x : Result (ℕ × ℕ) Fault). shown x u) (sym p))

-- a line has no more fields than were read
pub narrow : (i n : ℕ) (f : Form) (g : Option ℕ) (r : Result (ℕ × ℕ) Fault) (m : ℕ) → r ≡ count_of i f n → g ≡ Some n → count_in g ≤ m → width_of r ≤ m
unfolding count_of
narrow i n f g r m p q h = rw p (go (ltb n f.4) (ltb f.5 n) (rw q at h))
  where
    go : (a b : Bool) → n ≤ m → width_of (cond a (Err fault.Form) (cond b (Err fault.Limit) (Ok (i, n)))) ≤ m
    go true b l = zero-le
    go false true l = zero-le
    go false false l = l

-- a number that is no form's
pub past_forms : (i : ℕ) → 30 ≤ i → no_form.fields ≡ form_at i
unfolding form_at forms
past_forms i h = ap (λ (f : LineForm). f.fields) (sym (get_or-eq_default forms no_form {n = i} h))

-- What is known of a line's value that was read: its form is one of its key, it has as many fields as the form has, each is written in
-- the way of its kind, and takes at least two bytes.
-- Assumes nothing.
use Rattle.std.specs.Prelude.{ℕ, zero, suc, ◌+◌, ◌*◌, ◌/◌, ◌<◌, ◌≤◌, ◌≡◌, refl, List, [], ◌∷◌, Bool, true, false, cond, leb, ltb, eqb, length, get_or, take, drop, None, Option, Result, Some}
use Prim.Native.Char.{code}
use Rattle.std.proofs.Common.{subst, ◌∙◌, add-one, add-zero, add-suc, suc-add, zero-add, arith, length-drop, eqb-true, ltb-true, ltb-false, ne_eqb, lt-ltb}
use Rattle.std.proofs.lemmas.Bool.{eqb-false}
use Rattle.lex.specs.Text.{number_of, before, onto, split, parts_from, fields_from}
use Rattle.forms.specs.declared.Form.{Form}
use Rattle.forms.specs.declared.Cell.{Cell}
use Rattle.forms.specs.declared.Fault.{Fault}
use Rattle.forms.specs.Form.{LineForm, forms, no_form, fits, worded, index_of, form_of, form_at, kind_at, cell, valued, named, letter_of, optional_of, binary_of, unary_of, tag_of, tagged_of, resolution_of, behind_of, pair_of, read_as, read_of, Cells, refused, cells, prepend, cells_from, Parsed, wrong, parsed, start_of, count_of, with_cells, counted, parse_line}
use Rattle.body.specs.Body.{fault_number}
use Rattle.well_formed.specs.Good.{written_as}

-- no field's cell
abbrev pub blank : Cell
blank = cell 0 0 0

-- the cells l of a value v of the key k and the form f
pub record ParsedGood (k : ℕ) (v : List ℕ) (f : ℕ) (l : List Cell) : Type 0 where
  pub form : f < 30
  pub key : (get_or forms f no_form).key ≡ k
  pub least : (form_at f).4 ≤ length l
  pub most : length l ≤ (form_at f).5
  pub bytes : length l * 2 ≤ length v + 1
  pub written : (i : ℕ) → i < length l → written_as (kind_at (form_at f) i / 16) (get_or l i blank).tag (get_or l i blank).value ≡ true

-- what holds of each arm of a test, where the test chooses it, holds of the whole
pub by_test : {A : Type 0} (P : A → Type 0) (b : Bool) (x y : A) → (b ≡ true → P x) → (b ≡ false → P y) → P (cond b x y)
by_test P true x y p q = p refl
by_test P false x y p q = q refl

-- what holds of each arm of a test holds of the whole
pub either : {A : Type 0} (P : A → Type 0) (b : Bool) (x y : A) → P x → P y → P (cond b x y)
either P b x y p q = by_test P b x y (λ e. p) (λ e. q)

-- a field has a tag and a value of the way c, where it was read
unfoldable Writes : ℕ → Option Cell → Type 0
Writes c None = Unit {0}
Writes c (Some x) = written_as c x.tag x.value ≡ true

-- a cell whose tag and value are of the way c is written in it
is_writes : (c a t n : ℕ) → written_as c t n ≡ true → Writes c (Some (cell a t n))
unfolding Writes
is_writes c a t n h = h

-- of a field that was not read nothing is asked
bad_writes : (c : ℕ) → Writes c None
unfolding Writes
bad_writes c = tt

-- a number with the tag b is written in the way c, where the tag is
valued_writes : (c b : ℕ) → ((x : ℕ) → written_as c b x ≡ true) → (n : Option ℕ) → Writes c (valued b n)
unfolding Writes
valued_writes c b h (Some n) = h n
valued_writes c b h None = tt

-- a name before a field changes nothing of the way
named_writes : (c : ℕ) (a : Option ℕ) (r : Option Cell) → Writes c r → Writes c (named a r)
unfolding Writes
named_writes c (Some a) (Some x) h = h
named_writes c (Some a) None h = tt
named_writes c None r h = tt

-- a number or `-` is written in the way 2
optional_writes : (x : ℕ) (s : List ℕ) → Writes 2 (optional_of x s)
unfolding optional_of written_as
optional_writes x s = either (Writes 2) (eqb x (code "-")) _ _ (is_writes 2 0 0 0 refl) (valued_writes 2 1 (λ n. refl) (number_of s))

-- an operator of `bin` is written in the way 4
binary_writes : (x : ℕ) → Writes 4 (binary_of x)
unfolding binary_of written_as
binary_writes x =
    either (Writes 4) (eqb x (code "b")) _ _ (is_writes 4 0 1 0 refl)
    (either (Writes 4) (eqb x (code "c")) _ _ (is_writes 4 0 1 1 refl)
    (either (Writes 4) (eqb x (code "a")) _ _ (is_writes 4 0 1 2 refl) (bad_writes 4)))

-- an operator of `un` is written in the way 5
unary_writes : (x : ℕ) → Writes 5 (unary_of x)
unfolding unary_of written_as
unary_writes x =
    either (Writes 5) (eqb x (code "d")) _ _ (is_writes 5 0 1 0 refl)
    (either (Writes 5) (eqb x (code "r")) _ _ (is_writes 5 0 1 1 refl)
    (either (Writes 5) (eqb x (code "n")) _ _ (is_writes 5 0 1 2 refl)
    (either (Writes 5) (eqb x (code "t")) _ _ (is_writes 5 0 1 3 refl) (bad_writes 5))))

-- the tag of a letter is at most 6
tag_low : (x : ℕ) → tag_of x < 7
unfolding tag_of
tag_low x =
    low (eqb x (code "l")) 1 _ (omega arith)
    (low (eqb x (code "f")) 2 _ (omega arith)
    (low (eqb x (code "c")) 3 _ (omega arith)
    (low (eqb x (code "i")) 4 _ (omega arith)
    (low (eqb x (code "e")) 5 _ (omega arith)
    (low (eqb x (code "o")) 6 0 (omega arith) (omega arith))))))
  where
    low : (b : Bool) (m n : ℕ) → m < 7 → n < 7 → cond b m n < 7
    low = either (λ (n : ℕ). n < 7)

-- a field with the tag b is written in the way c, where the tag is one of that way or 0
tagged_writes : (c b : ℕ) (s : List ℕ) → ((x : ℕ) → (b ≡ 0 → ⊥) → written_as c b x ≡ true) → Writes c (tagged_of b s)
unfolding tagged_of
tagged_writes c b s h =
    by_test (Writes c) (eqb b 0) _ _ (λ e. bad_writes c)
    (λ e. either (Writes c) (leb b 4) _ _ (valued_writes c b (λ x. h x (eqb-false b 0 e)) (number_of (drop 1 s)))
    (either (Writes c) (eqb (length s) 1) _ _ (is_writes c 0 b 0 (h 0 (eqb-false b 0 e))) (bad_writes c)))

-- RES is written in a way whose tags are those of the letters
resolution_writes : (c : ℕ) (s : List ℕ) → ((b x : ℕ) → written_as c b x ≡ cond (eqb b 0) false (ltb b 7)) → Writes c (resolution_of s)
resolution_writes c s h =
    let b : ℕ = tag_of (get_or s 0 0) in
    tagged_writes c b s (λ x n. h b x ∙ rw (ne_eqb b 0 n) (lt-ltb b 7 (tag_low (get_or s 0 0))))

-- a pair is written in the way of what stands behind its name
pair_writes : (c : ℕ) (p : Bool) (s : List ℕ) → ((t : List ℕ) → Writes c (behind_of p t)) → Writes c (pair_of p s)
unfolding pair_of
pair_writes c p s h = named_writes c (number_of (take (before 58 s) s)) (behind_of p (drop (before 58 s + 1) s)) (h _)

-- where c is the way n, it is enough to know it of n
at_way : (c n : ℕ) (r q : Option Cell) → Writes n r → Writes c q → Writes c (cond (eqb c n) r q)
at_way c n r q h g = by_test (Writes c) (eqb c n) r q (λ e. rw (eqb-true c n e) h) (λ e. g)

-- a field that is read is written in its way
read_writes : (c : ℕ) (s : List ℕ) → Writes c (read_as c s)
unfolding read_as written_as
read_writes c s =
    at_way c 1 _ _ (valued_writes 1 1 (λ x. refl) (number_of s))
    (at_way c 2 _ _ (optional_writes (letter_of s) s)
    (at_way c 3 _ _ (pair_writes 3 false s (λ t. valued_writes 3 1 (λ x. refl) (number_of t)))
    (at_way c 4 _ _ (binary_writes (letter_of s))
    (at_way c 5 _ _ (unary_writes (letter_of s))
    (at_way c 6 _ _ (resolution_writes 6 s (λ b x. refl))
    (at_way c 7 _ _ (pair_writes 7 true s (λ t. resolution_writes 7 t (λ b x. refl))) (bad_writes c)))))))

-- a test between two refusals is a refusal
bad_arms : (b : Bool) → cond {A = Option Cell} b None None ≡ None
bad_arms true = refl
bad_arms false = refl

-- an empty field is refused
empty_bad : (c : ℕ) → read_as c [] ≡ None
unfolding read_as letter_of optional_of pair_of binary_of unary_of tag_of tagged_of number_of before
empty_bad c = simp bad_arms

-- a field that is read has a byte
pub read_filled : (c : ℕ) (s : List ℕ) (x : Cell) → read_as c s ≡ Some x → 0 < length s
read_filled c [] x e = let z : ◌≡◌ {A = ℕ} 0 1 = cc (empty_bad c) in omega arith
read_filled c (b ∷ s) x e = omega arith

-- the bytes of some parts, with one more for each part
unfoldable pub size : List (List ℕ) → ℕ
size [] = 0
size (s ∷ ss) = length s + 1 + size ss

-- a byte before the first of some parts adds at most one
onto_size : (x n : ℕ) (ss : List (List ℕ)) → size ss ≤ n + 1 → size (onto x ss) ≤ n + 2
unfolding size
onto_size x n [] h = omega arith
onto_size x n (s ∷ ss) h = omega arith

-- the parts of a text, with one more for each part, are at most one longer than the text
split_size : (c : ℕ) (s : List ℕ) → size (split c s) ≤ length s + 1
unfolding size split
split_size c [] = omega arith
split_size c (x ∷ s) =
    either (λ (ss : List (List ℕ)). size ss ≤ suc (length s) + 1) (eqb x c) ([] ∷ split c s) (onto x (split c s)) (omega (arith, split_size c s))
    (omega (arith, onto_size x (length s) (split c s) (split_size c s)))

-- so are the parts from any place on
pub parts_size : (c p : ℕ) (v : List ℕ) → size (parts_from c p v) ≤ length v + 1
unfolding size parts_from
parts_size c p v =
    either (λ (ss : List (List ℕ)). size ss ≤ length v + 1) (leb p (length v)) (split c (drop p v)) []
    (omega (arith, split_size c (drop p v), length-drop p v)) (omega arith)

-- the cells l of the fields ss from the field i of the form f on
record CellsGood (f : Form) (i : ℕ) (ss : List (List ℕ)) (l : List Cell) : Type 0 where
  bytes : length l * 2 ≤ size ss
  written : (a : ℕ) → a < length l → written_as (kind_at f (i + a) / 16) (get_or l a blank).tag (get_or l a blank).value ≡ true

-- the cells of the fields ss are good, where there are any
abbrev IfCells : Form → ℕ → List (List ℕ) → Cells → Type 0
IfCells f i ss (refused l) = Unit {0}
IfCells f i ss (cells l) = CellsGood f i ss l

-- the cells of no fields are good
none_good : (f : Form) (i : ℕ) → CellsGood f i [] []
none_good f i = record { bytes = omega arith; written = λ a h. absurd (omega arith) }

-- a good cell before good cells: the cells are good
cell_good : (f : Form) (i : ℕ) (s : List ℕ) (ss : List (List ℕ)) (x : Cell) (l : List Cell)
    → written_as (kind_at f i / 16) x.tag x.value ≡ true
    → 0 < length s → CellsGood f (i + 1) ss l → CellsGood f i (s ∷ ss) (x ∷ l)
unfolding size
cell_good f i s ss x l w p g = record { bytes = omega (arith, g.bytes); written = at }
  where
    at : (a : ℕ) → a < suc (length l) → written_as (kind_at f (i + a) / 16) (get_or (x ∷ l) a blank).tag (get_or (x ∷ l) a blank).value ≡ true
    at zero h = rw (add-zero i) w
    at (suc a) h = rw (add-suc i a, ← suc-add i a, ← add-one i) (g.written a (omega arith))

-- the cells of fields of which the first is r and the others are q are good
prepend_good : (f : Form) (i : ℕ) (s : List ℕ) (ss : List (List ℕ)) (r : Option Cell) (q : Cells) → read_of (kind_at f i) s ≡ r → Writes (kind_at f i / 16) r
    → IfCells f (i + 1) ss q → IfCells f i (s ∷ ss) (prepend r q)
unfolding Writes
prepend_good f i s ss None q e w g = tt
prepend_good f i s ss (Some x) (refused l) e w g = tt
prepend_good f i s ss (Some x) (cells l) e w g = cell_good f i s ss x l w (read_filled (kind_at f i / 16) s x e) g

-- the cells that are read are good
cells_good : (f : Form) (i : ℕ) (ss : List (List ℕ)) → IfCells f i ss (cells_from f i ss)
unfolding cells_from
cells_good f i [] = none_good f i
cells_good f i (s ∷ ss) = prepend_good f i s ss _ (cells_from f (i + 1) ss) refl (read_writes (kind_at f i / 16) s) (cells_good f (i + 1) ss)

-- a form that fits is of the key
fits_key : (k : ℕ) (w : List ℕ) (f : LineForm) → fits k w f ≡ true → f.key ≡ k
unfolding fits
fits_key k w f = by (eqb f.key k) refl
  where
    by : (b : Bool) → eqb f.key k ≡ b → cond b (worded f.word w) false ≡ true → f.key ≡ k
    by true e h = eqb-true f.key k e
    by false e h = let z : ◌≡◌ {A = ℕ} 0 1 = cc in omega arith

-- the first form that fits is of the key, where there is one
index_key : (k : ℕ) (w : List ℕ) (fs : List LineForm) → index_of k w fs < length fs → (get_or fs (index_of k w fs) no_form).key ≡ k
unfolding index_of
index_key k w [] h = absurd (omega arith)
index_key k w (f ∷ fs) h = by (fits k w f) refl h (index_key k w fs)
  where
    by : (b : Bool) → fits k w f ≡ b → cond b 0 (suc (index_of k w fs)) < suc (length fs) → (index_of k w fs < length fs → (get_or fs (index_of k w fs) no_form).key ≡ k)
        → (get_or (f ∷ fs) (cond b 0 (suc (index_of k w fs))) no_form).key ≡ k
    by true e l g = fits_key k w f e
    by false e l g = g (omega arith)

-- the form of a line is of its key, where it has one
form_key : (k : ℕ) (v : List ℕ) → form_of k v < 30 → (get_or forms (form_of k v) no_form).key ≡ k
unfolding form_of forms
form_key k v h = index_key k (take (before 44 v) v) forms h

-- a line's value is good, where it is no fault, and no fault of a value is that of levels
abbrev IfParsed : ℕ → List ℕ → Parsed → Type 0
IfParsed k v (wrong x l) = fault_number x < 6
IfParsed k v (parsed f l) = ParsedGood k v f l

-- a value of the form f whose cells are good is good, where it has as many as the form
counted_good : (k : ℕ) (v : List ℕ) (f p : ℕ) (r : Cells) → f < 30 → (get_or forms f no_form).key ≡ k → IfCells (form_at f) 0 (fields_from p v) r
    → IfParsed k v (counted f (form_at f) r)
unfolding count_of
counted_good k v f p (refused l) h e g = omega arith
counted_good k v f p (cells l) h e g =
    by_test (λ (x : Result (ℕ × ℕ) Fault). IfParsed k v (with_cells x l)) (ltb (length l) (form_at f).4) _ _ (λ a. omega arith)
    (λ a. by_test (λ (x : Result (ℕ × ℕ) Fault). IfParsed k v (with_cells x l)) (ltb (form_at f).5 (length l)) _ _ (λ b. omega arith)
    (λ b. record {
      form = h;
      key = e;
      least = ltb-false (length l) (form_at f).4 a;
      most = ltb-false (form_at f).5 (length l) b;
      bytes = omega (arith, g.bytes, parts_size 44 p v);
      written = λ i j. rw zero-add at (g.written i j);
    }))

-- a value is good, where it is no fault
parse_good : (k : ℕ) (v : List ℕ) → IfParsed k v (parse_line k v)
unfolding parse_line
parse_good k v =
    let f : ℕ = form_of k v in
    let p : ℕ = start_of k (length v) (before 44 v) in
    let ss : List (List ℕ) = fields_from p v in
    by_test (IfParsed k v) (ltb f 30) _ _
    (λ h. counted_good k v f p (cells_from (form_at f) 0 ss) (ltb-true f 30 h) (form_key k v (ltb-true f 30 h)) (cells_good (form_at f) 0 ss)) (λ h. omega arith)

-- a value that was read is good
pub parsed_good : (k : ℕ) (v : List ℕ) (f : ℕ) (l : List Cell) → parse_line k v ≡ parsed f l → ParsedGood k v f l
parsed_good k v f l e = subst (IfParsed k v) e (parse_good k v)

-- the fault of a value that was not is not that of levels
pub parsed_fault : (k : ℕ) (v : List ℕ) (x : Fault) (l : List Cell) → parse_line k v ≡ wrong x l → fault_number x < 6
parsed_fault k v x l e = subst (IfParsed k v) e (parse_good k v)

-- What is known of a line whose references are right.
-- Assumes nothing.
use Rattle.std.specs.Prelude.{ℕ, zero, suc, ◌+◌, ◌*◌, ◌-◌, ◌/◌, ◌<◌, ◌≤◌, ◌≡◌, refl, ◌⊎◌, List, [], ◌∷◌, Bool, true, false, cond, not, eqb, ltb, length, get_or, set}
use Rattle.std.proofs.Common.{sym, ap, ◌∙◌, inl, inr, add-zero, arith, length-set, get_or-set_same, get_or-set_other, eqb-true, ltb-true, ltb-false, ne_eqb}
use Rattle.std.proofs.lemmas.Bool.{eqb-false, not-true}
use Rattle.forms.specs.declared.Form.{Form}
use Rattle.forms.specs.Form.{kind_at, LowType, TypeRef, OptType, NamedType, NamedDef, OptExpr, Expr, Block, Stmt, Param, TypedParam, Body, Resolution, Segment}
use Rattle.forms.specs.Words.{both}
use Rattle.refs.specs.declared.Counts.{Counts}
use Rattle.refs.specs.Refs.{nodes_at, fixed_types, diverges, form_in, levels_in, user_in, tag_in, value_in, a_type, a_def, a_node, a_res, no_row, among, refers_to, is_child, is_type, is_expr, stands, is_free, is_local, is_res, right, levels_of, larger, taken, refs_from, Linked, unlinked, linked}
use Rattle.well_formed.specs.Good.{written_as, ChildGood, FieldGood}
use Rattle.well_formed.specs.Columns.{RowStays, form_same, first-same}
use Rattle.well_formed.specs.Kept.{stands_same, field_kept}

-- m fields from the field i of the form f on, the first of which stands at j, behind n: rows become rows', and d levels e
pub record LinkedGood (m : ℕ) (n : Counts) (f : Form) (i j : ℕ) (cells : List ℕ) (d : ℕ) (rows : List ℕ) (e : ℕ) (rows' : List ℕ) : Type 0 where
  pub same_length : length rows' ≡ length rows
  pub columns : (r c : ℕ) → c < 4 → get_or rows' (r * 5 + c) 0 ≡ get_or rows (r * 5 + c) 0
  pub outside : (x : ℕ) → ((y : ℕ) → y < n.nodes → x ≡ (nodes_at + y) * 5 + 4 → ⊥) → get_or rows' x 0 ≡ get_or rows x 0
  pub user_kept : (r : ℕ) → (user_in rows r ≡ 0 → ⊥) → user_in rows' r ≡ user_in rows r
  pub fields : (a : ℕ) → a < m → FieldGood n (kind_at f (i + a)) (j + a) rows' cells
  pub levels : (a : ℕ) → a < m → levels_of (kind_at f (i + a)) (tag_in cells (j + a)) (value_in cells (j + a)) rows ≤ e
  pub levels_before : d ≤ e
  pub attained : (e ≡ d) ⊎ ((a : ℕ) × (a < m) × (e ≡ levels_of (kind_at f (i + a)) (tag_in cells (j + a)) (value_in cells (j + a)) rows))

-- rows' keeps the first four columns of each row
abbrev pub Columns : List ℕ → List ℕ → Type 0
Columns rows rows' = (r : ℕ) → RowStays rows rows' r

-- such rows keep the levels of what a field refers to
part_levels_same : (k tag x : ℕ) (rows rows' : List ℕ) → Columns rows rows' → levels_of k tag x rows' ≡ levels_of k tag x rows
unfolding levels_of levels_in
part_levels_same k tag x rows rows' h = rw (h (nodes_at + x) 3 (omega arith), h (x - fixed_types) 3 (omega arith))

-- to take a child keeps the length of the rows
pub taken_length : (k tag x j : ℕ) (rows : List ℕ) → length (taken k tag x j rows) ≡ length rows
unfolding taken
taken_length k tag x j rows = by (is_child k tag)
  where
    by : (c : Bool) → length (cond c (set rows ((nodes_at + x) * 5 + 4) (j + 1)) rows) ≡ length rows
    by true = length-set rows ((nodes_at + x) * 5 + 4) (j + 1)
    by false = refl

-- and the first four columns
pub taken_columns : (k tag x j : ℕ) (rows : List ℕ) → Columns rows (taken k tag x j rows)
unfolding taken
taken_columns k tag x j rows r c l = by (is_child k tag)
  where
    by : (b : Bool) → get_or (cond b (set rows ((nodes_at + x) * 5 + 4) (j + 1)) rows) (r * 5 + c) 0 ≡ get_or rows (r * 5 + c) 0
    by true = get_or-set_other rows ((nodes_at + x) * 5 + 4) (r * 5 + c) (j + 1) 0 (λ q. omega arith)
    by false = refl

-- a child has the tag 1 and a kind that refers to a node
pub child_kind : (k tag : ℕ) → is_child k tag ≡ true → (refers_to k ≡ a_node) × (tag ≡ 1)
unfolding is_child
child_kind k tag h = let p = both (eqb (refers_to k) a_node) (eqb tag 1) h in (eqb-true _ _ p.0, eqb-true _ _ p.1)

-- a child whose field is right is a lower node, without a user, that may stand there
right_child : (n : Counts) (k tag x : ℕ) (rows cells : List ℕ) → is_child k tag ≡ true → right n k tag x rows cells ≡ true
    → (x < n.nodes) × (user_in rows (nodes_at + x) ≡ 0) × (stands n k x rows cells ≡ true)
unfolding right is_free
right_child n k tag x rows cells c h =
    let q = child_kind k tag c in
    let free = both (ltb x n.nodes) (cond (eqb (user_in rows (nodes_at + x)) 0) (stands n k x rows cells) false) (rw (q.1, q.0) at h) in
    let rest = both (eqb (user_in rows (nodes_at + x)) 0) (stands n k x rows cells) free.1 in
    (ltb-true _ _ free.0, eqb-true _ _ rest.0, rest.1)

-- to take a child keeps all but the users of nodes
taken_outside : (n : Counts) (k tag x j : ℕ) (rows cells : List ℕ) → right n k tag x rows cells ≡ true
    → (z : ℕ) → ((y : ℕ) → y < n.nodes → z ≡ (nodes_at + y) * 5 + 4 → ⊥) → get_or (taken k tag x j rows) z 0 ≡ get_or rows z 0
unfolding taken
taken_outside n k tag x j rows cells h z o = by (is_child k tag) refl
  where
    by : (b : Bool) → is_child k tag ≡ b → get_or (cond b (set rows ((nodes_at + x) * 5 + 4) (j + 1)) rows) z 0 ≡ get_or rows z 0
    by true c = get_or-set_other rows ((nodes_at + x) * 5 + 4) z (j + 1) 0 (o x (right_child n k tag x rows cells c h).0)
    by false c = refl

-- to take a child keeps the users that are there
taken_user : (n : Counts) (k tag x j : ℕ) (rows cells : List ℕ) → right n k tag x rows cells ≡ true
    → (r : ℕ) → (user_in rows r ≡ 0 → ⊥) → user_in (taken k tag x j rows) r ≡ user_in rows r
unfolding taken user_in
taken_user n k tag x j rows cells h r z = by (is_child k tag) refl
  where
    by : (b : Bool) → is_child k tag ≡ b → user_in (cond b (set rows ((nodes_at + x) * 5 + 4) (j + 1)) rows) r ≡ user_in rows r
    by true c = get_or-set_other rows ((nodes_at + x) * 5 + 4) (r * 5 + 4) (j + 1) 0
        (λ q. z (ap (λ i. get_or rows i 0) q ∙ (right_child n k tag x rows cells c h).1))
    by false c = refl

-- a type whose field is right is not Diverges, and lower
right_type : (n : Counts) (k tag x : ℕ) (rows cells : List ℕ) → refers_to k ≡ a_type → (tag ≡ 0 → ⊥) → right n k tag x rows cells ≡ true
    → (x ≡ diverges → ⊥) × (x < n.types + fixed_types)
unfolding right is_type
right_type n k tag x rows cells q z h = by (eqb x diverges) refl (rw (ne_eqb tag 0 z, q) at h)
  where
    by : (c : Bool) → eqb x diverges ≡ c → cond c false (ltb x (n.types + fixed_types)) ≡ true → (x ≡ diverges → ⊥) × (x < n.types + fixed_types)
    by true e o = let y : ◌≡◌ {A = ℕ} 0 1 = cc in absurd (omega arith)
    by false e o = (eqb-false x diverges e, ltb-true x (n.types + fixed_types) o)

-- a kind that refers to a def is NAME:DEF
def_kind : (k : ℕ) → refers_to k ≡ a_def → k ≡ NamedDef
unfolding refers_to
def_kind k h =
    eqb-true k NamedDef (by (among k (LowType ∷ TypeRef ∷ NamedType ∷ OptType ∷ [])) (eqb k NamedDef)
    (among k (Expr ∷ OptExpr ∷ Block ∷ Stmt ∷ Param ∷ TypedParam ∷ Body ∷ [])) (among k (Resolution ∷ Segment ∷ [])) h)
  where
    by : (c₁ c₂ c₃ c₄ : Bool) → cond c₁ a_type (cond (cond c₂ true false) a_def (cond c₃ a_node (cond c₄ a_res no_row))) ≡ a_def → c₂ ≡ true
    by true c₂ c₃ c₄ h = absurd (omega arith)
    by false true c₃ c₄ h = refl
    by false false true c₄ h = absurd (omega arith)
    by false false false true h = absurd (omega arith)
    by false false false false h = absurd (omega arith)

-- NAME:DEF has the tag 1
def_tag : (k tag x : ℕ) → refers_to k ≡ a_def → written_as (k / 16) tag x ≡ true → tag ≡ 1
unfolding written_as
def_tag k tag x q w = eqb-true tag 1 (rw (def_kind k q) at w)

-- a def whose field is right is lower
right_def : (n : Counts) (k tag x : ℕ) (rows cells : List ℕ) → refers_to k ≡ a_def → written_as (k / 16) tag x ≡ true → right n k tag x rows cells ≡ true → x < n.defs
unfolding right
right_def n k tag x rows cells q w h = ltb-true x n.defs (rw (def_tag k tag x q w, q) at h)

-- a local whose field is right is a lower node, and a `let` or a `param`
right_local : (n : Counts) (k tag x : ℕ) (rows cells : List ℕ) → refers_to k ≡ a_res → tag ≡ 1 → right n k tag x rows cells ≡ true
    → (x < n.nodes) × (is_expr (form_in rows (nodes_at + x)) ≡ false)
unfolding right is_res is_local
right_local n k tag x rows cells q t h =
    let p = both (ltb x n.nodes) (not (is_expr (form_in rows (nodes_at + x)))) (rw (t, q) at h) in
    (ltb-true x n.nodes p.0, not-true (is_expr (form_in rows (nodes_at + x))) p.1)

-- a function of RES whose field is right is lower
right_fn : (n : Counts) (k tag x : ℕ) (rows cells : List ℕ) → refers_to k ≡ a_res → tag ≡ 2 → right n k tag x rows cells ≡ true → x < n.defs
unfolding right is_res
right_fn n k tag x rows cells q t h = ltb-true x n.defs (rw (t, q) at h)

-- a constructor of RES whose field is right is lower
right_constructor : (n : Counts) (k tag x : ℕ) (rows cells : List ℕ) → refers_to k ≡ a_res → tag ≡ 3 → right n k tag x rows cells ≡ true → x < n.defs
unfolding right is_res
right_constructor n k tag x rows cells q t h = ltb-true x n.defs (rw (t, q) at h)

-- an instance of RES whose field is right is lower
right_inst : (n : Counts) (k tag x : ℕ) (rows cells : List ℕ) → refers_to k ≡ a_res → tag ≡ 4 → right n k tag x rows cells ≡ true → x < n.insts
unfolding right is_res
right_inst n k tag x rows cells q t h = ltb-true x n.insts (rw (t, q) at h)

-- a child that is taken is used by the field that took it
taken_used : (k tag x j : ℕ) (rows : List ℕ) → is_child k tag ≡ true → (nodes_at + x) * 5 + 4 < length rows → user_in (taken k tag x j rows) (nodes_at + x) ≡ j + 1
unfolding taken user_in
taken_used k tag x j rows c l = rw c (get_or-set_same rows ((nodes_at + x) * 5 + 4) (j + 1) 0 l)

-- a child whose field is right is good once it is taken
right_taken : (n : Counts) (k tag x j : ℕ) (rows cells : List ℕ) → (nodes_at + n.nodes) * 5 ≤ length rows → is_child k tag ≡ true → right n k tag x rows cells ≡ true
    → ChildGood n k j x (taken k tag x j rows) cells
right_taken n k tag x j rows cells room c h =
    let p = right_child n k tag x rows cells c h in
    let same = taken_columns k tag x j rows in
    record {
      lower = p.0;
      used = taken_used k tag x j rows c (omega arith);
      stands_there =
          stands_same n n k x rows (taken k tag x j rows) cells cells (λ q. refl) (form_same _ _ (nodes_at + x) (same (nodes_at + x))) (first-same _ _ (nodes_at + x) (same (nodes_at + x))) (λ q. refl) ∙ p.2;
    }

-- a field that is right is good once its child is taken
right_good : (n : Counts) (k j : ℕ) (rows cells : List ℕ) → (nodes_at + n.nodes) * 5 ≤ length rows → written_as (k / 16) (tag_in cells j) (value_in cells j) ≡ true
    → right n k (tag_in cells j) (value_in cells j) rows cells ≡ true → FieldGood n k j (taken k (tag_in cells j) (value_in cells j) j rows) cells
right_good n k j rows cells room w h =
    let tag = tag_in cells j in
    let x = value_in cells j in
    record {
      written = w;
      type = λ q z. (right_type n k tag x rows cells q z h).1;
      undiverging = λ q z. (right_type n k tag x rows cells q z h).0;
      def = λ q. right_def n k tag x rows cells q w h;
      child = λ c. right_taken n k tag x j rows cells room c h;
      local_lower = λ q t. (right_local n k tag x rows cells q t h).0;
      local = λ q t. rw (form_same rows (taken k tag x j rows) (nodes_at + x) (taken_columns k tag x j rows (nodes_at + x))) (right_local n k tag x rows cells q t h).1;
      res_fn = λ q t. right_fn n k tag x rows cells q t h;
      res_constructor = λ q t. right_constructor n k tag x rows cells q t h;
      res_inst = λ q t. right_inst n k tag x rows cells q t h;
    }

-- a good field stays good in rows that keep their first four columns and the users that are there
good_later : (n : Counts) (k j : ℕ) (rows rows' cells : List ℕ) → Columns rows rows' → ((r : ℕ) → (user_in rows r ≡ 0 → ⊥) → user_in rows' r ≡ user_in rows r)
    → FieldGood n k j rows cells → FieldGood n k j rows' cells
good_later n k j rows rows' cells same users g =
    field_kept n n k j rows rows' cells cells g (omega arith) (omega arith) (omega arith) (omega arith) (λ q. refl)
    (λ x l. form_same rows rows' (nodes_at + x) (same (nodes_at + x))) (λ x l. first-same rows rows' (nodes_at + x) (same (nodes_at + x)))
    (λ x l. users (nodes_at + x)) refl refl (λ x l q. refl)

-- the field suc a is the field a behind the first
later : (i a : ℕ) → i + suc a ≡ i + 1 + a
later i a = omega arith

-- what holds of the first of m fields and of the rest holds of all
all_fields : (P : ℕ → ℕ → Type 0) (m i j : ℕ) → P i j → ((a : ℕ) → a < m → P (i + 1 + a) (j + 1 + a)) → (a : ℕ) → a < suc m → P (i + a) (j + a)
all_fields P m i j p rest zero l = rw (add-zero i, add-zero j) p
all_fields P m i j p rest (suc a) l = rw (later i a, later j a) (rest a (omega arith))

-- what holds of all fields holds of the first
pub first_field : (P : ℕ → ℕ → Type 0) (m i j : ℕ) → ((a : ℕ) → a < suc m → P (i + a) (j + a)) → P i j
first_field P m i j all = rw (add-zero i, add-zero j) at (all 0 (omega arith))

-- and of the rest
pub later_fields : (P : ℕ → ℕ → Type 0) (m i j : ℕ) → ((a : ℕ) → a < suc m → P (i + a) (j + a)) → (a : ℕ) → a < m → P (i + 1 + a) (j + 1 + a)
later_fields P m i j all a l = rw (← later i a, ← later j a) (all (suc a) (omega arith))

-- the larger of two numbers is at least the first
larger_first : (a b : ℕ) → a ≤ larger a b
unfolding larger
larger_first a b = by (ltb a b) refl
  where
    by : (c : Bool) → ltb a b ≡ c → a ≤ cond c b a
    by true e = omega (arith, ltb-true a b e)
    by false e = omega arith

-- and at least the second
larger_second : (a b : ℕ) → b ≤ larger a b
unfolding larger
larger_second a b = by (ltb a b) refl
  where
    by : (c : Bool) → ltb a b ≡ c → b ≤ cond c b a
    by true e = omega arith
    by false e = ltb-false a b e

-- and one of them
larger_one : (a b : ℕ) → (larger a b ≡ a) ⊎ (larger a b ≡ b)
unfolding larger
larger_one a b = by (ltb a b)
  where
    by : (c : Bool) → (cond c b a ≡ a) ⊎ (cond c b a ≡ b)
    by true = inr refl
    by false = inl refl

-- a number that is the larger of d and that of the first of m fields, or that of a later field, is d or that of a field
attained_more : (L L' : ℕ → ℕ → ℕ) → ((p q : ℕ) → L' p q ≡ L p q) → (m i j d e : ℕ)
    → (e ≡ larger d (L i j)) ⊎ ((a : ℕ) × (a < m) × (e ≡ L' (i + 1 + a) (j + 1 + a)))
    → (e ≡ d) ⊎ ((a : ℕ) × (a < suc m) × (e ≡ L (i + a) (j + a)))
attained_more L L' same m i j d e (inl p) = by (larger_one d (L i j))
  where
    by : (larger d (L i j) ≡ d) ⊎ (larger d (L i j) ≡ L i j) → (e ≡ d) ⊎ ((a : ℕ) × (a < suc m) × (e ≡ L (i + a) (j + a)))
    by (inl q) = inl (p ∙ q)
    by (inr q) = inr (0, omega arith, rw (add-zero i, add-zero j) (p ∙ q))
attained_more L L' same m i j d e (inr (a, h, p)) = inr (suc a, omega arith, rw (later i a, later j a) (p ∙ same (i + 1 + a) (j + 1 + a)))

-- no fields: nothing changes
no_fields : (n : Counts) (f : Form) (i j : ℕ) (cells : List ℕ) (d : ℕ) (rows : List ℕ) → LinkedGood zero n f i j cells d rows d rows
no_fields n f i j cells d rows = record {
  same_length = refl;
  columns = λ r c l. refl;
  outside = λ x o. refl;
  user_kept = λ r z. refl;
  fields = λ a l. absurd (omega arith);
  levels = λ a l. absurd (omega arith);
  levels_before = omega arith;
  attained = inl refl;
}

-- a field that is right and good fields behind it are good together
one_more_lem : (m : ℕ) (n : Counts) (f : Form) (i j : ℕ) (cells : List ℕ) (d : ℕ) (rows : List ℕ) (e : ℕ) (rows' : List ℕ)
    → (nodes_at + n.nodes) * 5 ≤ length rows → written_as (kind_at f i / 16) (tag_in cells j) (value_in cells j) ≡ true
    → right n (kind_at f i) (tag_in cells j) (value_in cells j) rows cells ≡ true
    → LinkedGood m n f (i + 1) (j + 1) cells (larger d (levels_of (kind_at f i) (tag_in cells j) (value_in cells j) rows))
    (taken (kind_at f i) (tag_in cells j) (value_in cells j) j rows) e rows'
    → LinkedGood (suc m) n f i j cells d rows e rows'
one_more_lem m n f i j cells d rows e rows' room w h rest =
    let k = kind_at f i in
    let tag = tag_in cells j in
    let x = value_in cells j in
    let now = taken k tag x j rows in
    let same = taken_columns k tag x j rows in
    let kept = taken_user n k tag x j rows cells h in
    let good = good_later n k j now rows' cells rest.columns rest.user_kept (right_good n k j rows cells room w h) in
    record {
      same_length = rest.same_length ∙ taken_length k tag x j rows;
      columns = λ r c l. rest.columns r c l ∙ same r c l;
      outside = λ z o. rest.outside z o ∙ taken_outside n k tag x j rows cells h z o;
      user_kept = λ r z. rest.user_kept r (λ q. z (sym (kept r z) ∙ q)) ∙ kept r z;
      fields = all_fields (λ p q. FieldGood n (kind_at f p) q rows' cells) m i j good rest.fields;
      levels =
          all_fields (λ p q. levels_of (kind_at f p) (tag_in cells q) (value_in cells q) rows ≤ e) m i j
          (omega (arith, larger_second d (levels_of k tag x rows), rest.levels_before)) (λ a l. rw (part_levels_same _ _ _ rows now same) at (rest.levels a l));
      levels_before = omega (arith, larger_first d (levels_of k tag x rows), rest.levels_before);
      attained =
          attained_more (λ p q. levels_of (kind_at f p) (tag_in cells q) (value_in cells q) rows) (λ p q. levels_of (kind_at f p) (tag_in cells q) (value_in cells q) now)
          (λ p q. part_levels_same (kind_at f p) (tag_in cells q) (value_in cells q) rows now same) m i j d e rest.attained;
    }

-- a line that is linked passed its test
pub step : (c : Bool) (l : Linked) (rows : List ℕ) (e : ℕ) (rows' : List ℕ) → cond c l (unlinked rows) ≡ linked e rows' → (c ≡ true) × (l ≡ linked e rows')
step true l rows e rows' h = (refl, h)
step false l rows e rows' h = let z : ◌≡◌ {A = ℕ} 0 1 = cc in absurd (omega arith)

-- a line whose references are right is good
pub linked_good : (m : ℕ) (n : Counts) (f : Form) (i j : ℕ) (cells : List ℕ) (d : ℕ) (rows : List ℕ) (e : ℕ) (rows' : List ℕ)
    → (nodes_at + n.nodes) * 5 ≤ length rows
    → ((a : ℕ) → a < m → written_as (kind_at f (i + a) / 16) (tag_in cells (j + a)) (value_in cells (j + a)) ≡ true)
    → refs_from m n f i j cells d rows ≡ linked e rows'
    → LinkedGood m n f i j cells d rows e rows'
unfolding refs_from
linked_good zero n f i j cells d rows e rows' room w h =
    let p : d ≡ e = cc in
    let q : rows ≡ rows' = cc in
    rw (← p, ← q) (no_fields n f i j cells d rows)
linked_good (suc m) n f i j cells d rows e rows' room w h =
    let k = kind_at f i in
    let tag = tag_in cells j in
    let x = value_in cells j in
    let P : ℕ → ℕ → Type 0 = λ p q. written_as (kind_at f p / 16) (tag_in cells q) (value_in cells q) ≡ true in
    let s = step (right n k tag x rows cells) _ rows e rows' h in
    one_more_lem m n f i j cells d rows e rows' room (first_field P m i j w) s.0
    (linked_good m n f (i + 1) (j + 1) cells _ _ e rows' (rw taken_length room) (later_fields P m i j w) s.1)

-- What is known of the tables of a body that was read: `WellFormed`.
-- Assumes nothing.
use Rattle.std.specs.Prelude.{ℕ, ◌+◌, ◌*◌, ◌/◌, ◌<◌, ◌≤◌, ◌≡◌, ◌⊎◌, List, Bool, true, false, cond, ltb, eqb, length, get_or}
use Rattle.forms.specs.Form.{forms, no_form, form_at, kind_at, key_type, key_def, key_inst, key_bind, key_node, key_fn}
use Rattle.refs.specs.declared.Counts.{Counts}
use Rattle.refs.specs.Refs.{nodes_at, fn_at, fixed_types, diverges, form_in, first_in, count_in, levels_in, user_in, tag_in, value_in, a_type, a_def, a_res, refers_to, is_child, is_expr, stands, levels_of, is_same}
use Rattle.body.specs.Body.{count_of, base_of, levels_over, rows_length, cells_length}

-- a tag and a value that a field written in the way c can have: a number; a number or `-`; NAME:NUMBER; an operator; RES; NAME:RES
unfoldable pub written_as : ℕ → ℕ → ℕ → Bool
written_as c tag x =
    cond (eqb c 1) (eqb tag 1)
    (cond (eqb c 2) (ltb tag 2)
    (cond (eqb c 3) (eqb tag 1)
    (cond (eqb c 4) (cond (eqb tag 1) (ltb x 3) false)
    (cond (eqb c 5) (cond (eqb tag 1) (ltb x 4) false)
    (cond (eqb c 6) (cond (eqb tag 0) false (ltb tag 7)) (cond (eqb c 7) (cond (eqb tag 0) false (ltb tag 7)) false))))))

-- the child x of the field j, of the kind k, before the node of n: lower, used by this field, and of a form that may stand there
pub record ChildGood (n : Counts) (k j x : ℕ) (rows cells : List ℕ) : Type 0 where
  pub lower : x < n.nodes
  pub used : user_in rows (nodes_at + x) ≡ j + 1
  pub stands_there : stands n k x rows cells ≡ true

-- the field j, of the kind k, of a line that was read behind n: what its number refers to is there
pub record FieldGood (n : Counts) (k j : ℕ) (rows cells : List ℕ) : Type 0 where
  pub written : written_as (k / 16) (tag_in cells j) (value_in cells j) ≡ true
  pub type : refers_to k ≡ a_type → (tag_in cells j ≡ 0 → ⊥) → value_in cells j < n.types + fixed_types
  pub undiverging : refers_to k ≡ a_type → (tag_in cells j ≡ 0 → ⊥) → value_in cells j ≡ diverges → ⊥
  pub def : refers_to k ≡ a_def → value_in cells j < n.defs
  pub child : is_child k (tag_in cells j) ≡ true → ChildGood n k j (value_in cells j) rows cells
  pub local_lower : refers_to k ≡ a_res → tag_in cells j ≡ 1 → value_in cells j < n.nodes
  pub local : refers_to k ≡ a_res → tag_in cells j ≡ 1 → is_expr (form_in rows (nodes_at + value_in cells j)) ≡ false
  pub res_fn : refers_to k ≡ a_res → tag_in cells j ≡ 2 → value_in cells j < n.defs
  pub res_constructor : refers_to k ≡ a_res → tag_in cells j ≡ 3 → value_in cells j < n.defs
  pub res_inst : refers_to k ≡ a_res → tag_in cells j ≡ 4 → value_in cells j < n.insts

-- the kind of the field i of the line of the row r
abbrev pub kind_in : List ℕ → ℕ → ℕ → ℕ
kind_in rows r i = kind_at (form_at (form_in rows r)) i

-- the levels d of a line of the form f, whose c fields stand from a on, are those of its form alone or those over one of its parts
abbrev pub Attained : ℕ → ℕ → ℕ → ℕ → List ℕ → List ℕ → Type 0
Attained f a c d rows cells =
    (d ≡ levels_over f 0) ⊎ ((i : ℕ) × (i < c) × (d ≡ levels_over f (levels_of (kind_at (form_at f) i) (tag_in cells (a + i)) (value_in cells (a + i)) rows)))

-- the row r of a line of the key k that was read behind n: a form of its key, its fields among the first m, their numbers good, at least
-- the levels of its form and more than those of its parts where it is a level of its own, and no more than these give
pub record RowGood (n : Counts) (m k r : ℕ) (rows cells : List ℕ) : Type 0 where
  pub form : form_in rows r < 30
  pub key : (get_or forms (form_in rows r) no_form).key ≡ k
  pub least : (form_at (form_in rows r)).4 ≤ count_in rows r
  pub most : count_in rows r ≤ (form_at (form_in rows r)).5
  pub inside : first_in rows r + count_in rows r ≤ m
  pub fields : (i : ℕ) → i < count_in rows r → FieldGood n (kind_in rows r i) (first_in rows r + i) rows cells
  pub level : levels_over (form_in rows r) 0 ≤ levels_in rows r
  pub levels : (i : ℕ) → i < count_in rows r → levels_over (form_in rows r) (levels_of (kind_in rows r i) (tag_in cells (first_in rows r + i)) (value_in cells (first_in rows r + i)) rows) ≤ levels_in rows r
  pub attained : Attained (form_in rows r) (first_in rows r) (count_in rows r) (levels_in rows r) rows cells

-- what stood before the row of the number i of the key k: of its own key i rows, of the others all
unfoldable pub behind : Counts → ℕ → ℕ → Counts
behind n k i = record {
  types = cond (eqb k key_type) i n.types;
  defs = cond (eqb k key_def) i n.defs;
  insts = cond (eqb k key_inst) i n.insts;
  binds = cond (eqb k key_bind) i n.binds;
  nodes = cond (eqb k key_node) i n.nodes;
  fields = n.fields;
}

-- the counts are within document 01's limits, and the fields within their table
pub record Limited (n : Counts) : Type 0 where
  pub types : n.types ≤ 512
  pub defs : n.defs ≤ 256
  pub insts : n.insts ≤ 64
  pub binds : n.binds ≤ 64
  pub nodes : n.nodes ≤ 1024
  pub fields : n.fields * 3 ≤ cells_length

-- the rows of the key k are good
abbrev pub RowsGood : Counts → ℕ → List ℕ → List ℕ → Type 0
RowsGood n k rows cells = (i : ℕ) → i < count_of n k → RowGood (behind n k i) n.fields k (base_of k + i) rows cells

-- the row of the number i of the key k is read before that of the number i' of the key k'
abbrev pub Before : ℕ → ℕ → ℕ → ℕ → Type 0
Before k i k' i' = (k < k') ⊎ ((k ≡ k') × (i < i'))

-- the fields of a row stand before those of each row that is read later
abbrev pub Ordered : Counts → List ℕ → Type 0
Ordered n rows = (k i k' i' : ℕ) → i < count_of n k → i' < count_of n k' → Before k i k' i'
    → first_in rows (base_of k + i) + count_in rows (base_of k + i) ≤ first_in rows (base_of k' + i')

-- the fields of each row stand before those of `fn`
abbrev pub FnLast : Counts → List ℕ → Type 0
FnLast n rows = (k i : ℕ) → i < count_of n k → first_in rows (base_of k + i) + count_in rows (base_of k + i) ≤ first_in rows fn_at

-- no type row has the form and the values of a later one
abbrev pub Distinct : Counts → List ℕ → List ℕ → Type 0
Distinct n rows cells = (i j : ℕ) → i < j → j < n.types → is_same rows cells i (form_in rows j) (first_in rows j) (count_in rows j) ≡ false

-- the tables of a body: long enough; counts within limits; each row good; `fn` good; the fields in the order of the rows; no two type rows
-- equal; K and D of types there; at most 4 levels of fun and 64 of nodes
pub record WellFormed (n : Counts) (rows cells : List ℕ) : Type 0 where
  pub rows_long : rows_length ≤ length rows
  pub cells_long : cells_length ≤ length cells
  pub limited : Limited n
  pub types : RowsGood n key_type rows cells
  pub defs : RowsGood n key_def rows cells
  pub insts : RowsGood n key_inst rows cells
  pub binds : RowsGood n key_bind rows cells
  pub nodes : RowsGood n key_node rows cells
  pub fn : RowGood n n.fields key_fn fn_at rows cells
  pub ordered : Ordered n rows
  pub fn_last : FnLast n rows
  pub distinct : Distinct n rows cells
  pub insts_there : (i : ℕ) → i < n.types → form_in rows i ≡ 2 → value_in cells (first_in rows i) < n.insts
  pub defs_there : (i : ℕ) → i < n.types → form_in rows i ≡ 3 → value_in cells (first_in rows i) < n.defs
  pub nesting : (i : ℕ) → i < n.types → levels_in rows i ≤ 4
  pub depth : (i : ℕ) → i < n.nodes → levels_in rows (nodes_at + i) ≤ 64

-- When the rows of a body are a file that is accepted: `WellFormedRows`, which speaks of rows by key and number alone. Definitions alone.
use Rattle.std.specs.Prelude.{ℕ, ◌+◌, ◌-◌, ◌<◌, ◌≤◌, ◌≡◌, ◌⊎◌, List, [], ◌∷◌, Bool, true, false, cond, not, leb, eqb, length, get_or}
use Rattle.forms.specs.declared.Cell.{Cell}
use Rattle.forms.specs.Form.{key_type, key_node, key_fn, form_at, kind_at, LowType, Block, Param, TypedParam, Stmt, Body}
use Rattle.refs.specs.declared.Counts.{Counts}
use Rattle.refs.specs.Refs.{fixed_types, diverges, form_block, form_param, form_inst, form_fn, a_type, a_def, a_res, refers_to, is_child, is_expr, is_last}
use Rattle.body.specs.Body.{count_of, limit_of, base_of, levels_over}
use Rattle.well_formed.specs.Good.{behind}
use Rattle.well_formed.specs.Parsed.{blank}
use Rattle.body_rows.specs.Text.{Row, key_at, Lookup, row_at, WritableRow}

-- the cell of a row's field a
abbrev pub cell_of : Row → ℕ → Cell
cell_of r a = get_or r.cells a blank

-- the kind of a row's field a
abbrev pub kind_of : Row → ℕ → ℕ
kind_of r a = kind_at (form_at r.form) a

-- the body has a row of the number i of the key k; of `fn` it has one
abbrev pub Has : Counts → ℕ → ℕ → Type 0
Has n k i = (i < count_of n k) ⊎ ((k ≡ key_fn) × (i ≡ 0))

-- a `param` with a type
unfoldable pub is_typed_row : Row → Bool
is_typed_row r = cond (eqb r.form form_param) (eqb (cell_of r 0).tag 1) false

-- the node x, whose row is r, may stand as a child of the kind k (`stands` of refs)
unfoldable pub stands_row : Counts → ℕ → ℕ → Row → Bool
stands_row n k x r =
    cond (eqb k Block) (eqb r.form form_block)
    (cond (eqb k Param) (eqb r.form form_param)
    (cond (eqb k TypedParam) (is_typed_row r)
    (cond (eqb k Stmt) (not (eqb r.form form_param)) (cond (eqb k Body) (is_last n x r.form) (is_expr r.form)))))

-- a field of the kind k with the cell c, behind n: what its number refers to is there
pub record WellFormedField (n : Counts) (look : Lookup) (k : ℕ) (c : Cell) : Type 0 where
  pub type : refers_to k ≡ a_type → (c.tag ≡ 0 → ⊥) → c.value < n.types + fixed_types
  pub undiverging : refers_to k ≡ a_type → (c.tag ≡ 0 → ⊥) → c.value ≡ diverges → ⊥
  pub def : refers_to k ≡ a_def → c.value < n.defs
  pub child_lower : is_child k c.tag ≡ true → c.value < n.nodes
  pub child_stands : is_child k c.tag ≡ true → stands_row n k c.value (look key_node c.value) ≡ true
  pub local_lower : refers_to k ≡ a_res → c.tag ≡ 1 → c.value < n.nodes
  pub local : refers_to k ≡ a_res → c.tag ≡ 1 → is_expr (look key_node c.value).form ≡ false
  pub res_fn : refers_to k ≡ a_res → c.tag ≡ 2 → c.value < n.defs
  pub res_constructor : refers_to k ≡ a_res → c.tag ≡ 3 → c.value < n.defs
  pub res_inst : refers_to k ≡ a_res → c.tag ≡ 4 → c.value < n.insts

-- at most so many levels: of a child, and of a declared type in a type (`levels_of` of refs)
unfoldable pub part_bound : (ℕ → ℕ → ℕ) → ℕ → Cell → ℕ
part_bound bound k c = cond (is_child k c.tag) (bound key_node c.value) (cond (eqb k LowType) (cond (leb fixed_types c.value) (bound key_type (c.value - fixed_types)) 0) 0)

-- the row of the number i of the key k: it has a text, is of its key, its fields refer to what is there, and it has at most bound k i levels
pub record WellFormedRow (n : Counts) (look : Lookup) (bound : ℕ → ℕ → ℕ) (k i : ℕ) : Type 0 where
  pub writable : WritableRow (look k i)
  pub key : key_at (look k i).form ≡ k
  pub fields : (a : ℕ) → a < length (look k i).cells → WellFormedField (behind n k i) look (kind_of (look k i) a) (cell_of (look k i) a)
  pub level : levels_over (look k i).form 0 ≤ bound k i
  pub levels : (a : ℕ) → a < length (look k i).cells → levels_over (look k i).form (part_bound bound (kind_of (look k i) a) (cell_of (look k i) a)) ≤ bound k i

-- the field a of the row of the number i of the key k is a child, the node x
pub record ChildOf (look : Lookup) (k i a x : ℕ) : Type 0 where
  pub there : a < length (look k i).cells
  pub child : is_child (kind_of (look k i) a) (cell_of (look k i) a).tag ≡ true
  pub value : (cell_of (look k i) a).value ≡ x

-- the values of cells
unfoldable pub values_of : List Cell → List ℕ
values_of [] = []
values_of (c ∷ cs) = c.value ∷ values_of cs

-- a body whose text is accepted: counts within the limits, each row well-formed, a child of one field only, no two type rows equal, K and D of types there,
-- and a bound on levels, which whoever makes the body chooses, within the limits
pub record WellFormedRows (n : Counts) (look : Lookup) : Type 0 where
  pub bound : ℕ → ℕ → ℕ
  pub limited : (k : ℕ) → k < 5 → count_of n k ≤ limit_of k
  pub rows : (k i : ℕ) → Has n k i → WellFormedRow n look bound k i
  pub once : (k i a k' i' a' x : ℕ) → Has n k i → Has n k' i' → ChildOf look k i a x → ChildOf look k' i' a' x → (k ≡ k') × (i ≡ i') × (a ≡ a')
  pub distinct : (i j : ℕ) → i < j → j < n.types → (look key_type i).form ≡ (look key_type j).form
      → values_of (look key_type i).cells ≡ values_of (look key_type j).cells → ⊥
  pub insts_there : (i : ℕ) → i < n.types → (look key_type i).form ≡ form_inst → (cell_of (look key_type i) 0).value < n.insts
  pub defs_there : (i : ℕ) → i < n.types → (look key_type i).form ≡ form_fn → (cell_of (look key_type i) 0).value < n.defs
  pub nesting : (i : ℕ) → i < n.types → bound key_type i ≤ 4
  pub depth : (i : ℕ) → i < n.nodes → bound key_node i ≤ 64

-- tables with the counts n' and the rows of a body
pub record HasRows (n : Counts) (look : Lookup) (n' : Counts) (rows cells : List ℕ) : Type 0 where
  pub counts : (k : ℕ) → k < 5 → count_of n' k ≡ count_of n k
  pub seen : (k i : ℕ) → Has n k i → row_at rows cells (base_of k + i) ≡ look k i

-- The tables of a body, and the reference rules of a line by the kinds of its fields.
-- Assumes nothing.
use Rattle.std.specs.Prelude.{ℕ, zero, suc, ◌+◌, ◌*◌, ◌-◌, List, [], ◌∷◌, Bool, true, false, cond, not, leb, ltb, eqb, get_or, set, None, Option, Some}
use Rattle.forms.specs.declared.Form.{Form}
use Rattle.forms.specs.Form.{kind_at, LowType, TypeRef, OptType, NamedType, NamedDef, OptExpr, Expr, Block, Stmt, Param, TypedParam, Body, Resolution, Segment}
use Rattle.refs.specs.declared.Counts.{Counts}
use Rattle.refs.specs.declared.Target.{Target}
use Rattle.refs.specs.declared.Target.TheVariants as target

-- the rows of types, defs, insts, binds, nodes and of `fn` begin here
abbrev pub types_at : ℕ
types_at = 0

abbrev pub defs_at : ℕ
defs_at = 512

abbrev pub insts_at : ℕ
insts_at = 768

abbrev pub binds_at : ℕ
binds_at = 832

abbrev pub nodes_at : ℕ
nodes_at = 896

abbrev pub fn_at : ℕ
fn_at = 1920

-- the types of `Types`, which every body has
abbrev pub fixed_types : ℕ
fixed_types = 14

-- Diverges
abbrev pub diverges : ℕ
diverges = 13

-- the forms that rules name, by their places in the table
abbrev pub form_fun : ℕ
form_fun = 1

abbrev pub form_inst : ℕ
form_inst = 2

abbrev pub form_fn : ℕ
form_fn = 3

-- the first form of a node, and the last
abbrev pub form_bool : ℕ
form_bool = 7

abbrev pub form_path : ℕ
form_path = 28

abbrev pub form_block : ℕ
form_block = 24

abbrev pub form_let : ℕ
form_let = 25

abbrev pub form_param : ℕ
form_param = 26

-- a line's row: its form, its first field, the number of its fields, its levels, and of a node the field that uses it, plus 1
unfoldable pub form_in : List ℕ → ℕ → ℕ
form_in rows r = get_or rows (r * 5) 0

unfoldable pub first_in : List ℕ → ℕ → ℕ
first_in rows r = get_or rows (r * 5 + 1) 0

unfoldable pub count_in : List ℕ → ℕ → ℕ
count_in rows r = get_or rows (r * 5 + 2) 0

unfoldable pub levels_in : List ℕ → ℕ → ℕ
levels_in rows r = get_or rows (r * 5 + 3) 0

unfoldable pub user_in : List ℕ → ℕ → ℕ
user_in rows r = get_or rows (r * 5 + 4) 0

-- a field's row: its name, its tag and its value
unfoldable pub name_in : List ℕ → ℕ → ℕ
name_in cells j = get_or cells (j * 3) 0

unfoldable pub tag_in : List ℕ → ℕ → ℕ
tag_in cells j = get_or cells (j * 3 + 1) 0

unfoldable pub value_in : List ℕ → ℕ → ℕ
value_in cells j = get_or cells (j * 3 + 2) 0

-- what a field's number refers to
abbrev pub no_row : ℕ
no_row = 0

abbrev pub a_type : ℕ
a_type = 1

abbrev pub a_def : ℕ
a_def = 2

abbrev pub a_node : ℕ
a_node = 3

abbrev pub a_res : ℕ
a_res = 4

-- its number, as `refers_to` has it
abbrev pub target_number : Target → ℕ
target_number target.Nothing = no_row
target_number target.Type = a_type
target_number target.Def = a_def
target_number target.Node = a_node
target_number target.Res = a_res

-- a number stands in a list
abbrev pub among : ℕ → List ℕ → Bool
among k [] = false
among k (x ∷ xs) = cond (eqb k x) true (among k xs)

-- what the number of a field of the kind k refers to
unfoldable pub refers_to : ℕ → ℕ
refers_to k =
    cond (among k (LowType ∷ TypeRef ∷ NamedType ∷ OptType ∷ [])) a_type
    (cond (among k (NamedDef ∷ [])) a_def
    (cond (among k (Expr ∷ OptExpr ∷ Block ∷ Stmt ∷ Param ∷ TypedParam ∷ Body ∷ [])) a_node
    (cond (among k (Resolution ∷ Segment ∷ [])) a_res no_row)))

-- a field is a child: it refers to a node, and is not `-`
unfoldable pub is_child : ℕ → ℕ → Bool
is_child k tag = cond (eqb (refers_to k) a_node) (eqb tag 1) false

-- a type with a lower row; a written Diverges is refused
unfoldable pub is_type : Counts → ℕ → Bool
is_type n x = cond (eqb x diverges) false (ltb x (n.types + fixed_types))

-- neither a `let` nor a `param`
unfoldable pub is_expr : ℕ → Bool
is_expr f = cond (eqb f form_let) false (not (eqb f form_param))

-- the row of a `param` with a type
unfoldable pub is_typed : ℕ → List ℕ → List ℕ → Bool
is_typed r rows cells = cond (eqb (form_in rows r) form_param) (eqb (tag_in cells (first_in rows r)) 1) false

-- the last node, and an expression
unfoldable pub is_last : Counts → ℕ → ℕ → Bool
is_last n x f = cond (eqb (x + 1) n.nodes) (is_expr f) false

-- the node x may stand as a child of the kind k: `let` only as S, `param` only as P, BLOCK a `block`, BODY the last node, P of `fn` typed
unfoldable pub stands : Counts → ℕ → ℕ → List ℕ → List ℕ → Bool
stands n k x rows cells =
    cond (eqb k Block) (eqb (form_in rows (nodes_at + x)) form_block)
    (cond (eqb k Param) (eqb (form_in rows (nodes_at + x)) form_param)
    (cond (eqb k TypedParam) (is_typed (nodes_at + x) rows cells)
    (cond (eqb k Stmt) (not (eqb (form_in rows (nodes_at + x)) form_param))
    (cond (eqb k Body) (is_last n x (form_in rows (nodes_at + x))) (is_expr (form_in rows (nodes_at + x)))))))

-- a child is a lower node that no field uses, and may stand there
unfoldable pub is_free : Counts → ℕ → ℕ → List ℕ → List ℕ → Bool
is_free n k x rows cells = cond (ltb x n.nodes) (cond (eqb (user_in rows (nodes_at + x)) 0) (stands n k x rows cells) false) false

-- a lower `let` or `param`
unfoldable pub is_local : Counts → ℕ → List ℕ → Bool
is_local n x rows = cond (ltb x n.nodes) (not (is_expr (form_in rows (nodes_at + x)))) false

-- RES by its tag: lN, fD, cD, iK; e and o refer to nothing
unfoldable pub is_res : Counts → ℕ → ℕ → List ℕ → Bool
is_res n tag x rows =
    cond (eqb tag 1) (is_local n x rows)
    (cond (eqb tag 2) (ltb x n.defs) (cond (eqb tag 3) (ltb x n.defs) (cond (eqb tag 4) (ltb x n.insts) true)))

-- a field's number meets the rule of its kind; `-` meets any
unfoldable pub right : Counts → ℕ → ℕ → ℕ → List ℕ → List ℕ → Bool
right n k tag x rows cells =
    cond (eqb tag 0) true
    (cond (eqb (refers_to k) a_type) (is_type n x)
    (cond (eqb (refers_to k) a_def) (ltb x n.defs)
    (cond (eqb (refers_to k) a_node) (is_free n k x rows cells) (cond (eqb (refers_to k) a_res) (is_res n tag x rows) true))))

-- the levels of what a field refers to: of a child, and of a declared type in a type
unfoldable pub levels_of : ℕ → ℕ → ℕ → List ℕ → ℕ
levels_of k tag x rows =
    cond (is_child k tag) (levels_in rows (nodes_at + x))
    (cond (eqb k LowType) (cond (leb fixed_types x) (levels_in rows (x - fixed_types)) 0) 0)

unfoldable pub larger : ℕ → ℕ → ℕ
larger a b = cond (ltb a b) b a

-- the field j uses its child from now on
unfoldable pub taken : ℕ → ℕ → ℕ → ℕ → List ℕ → List ℕ
taken k tag x j rows = cond (is_child k tag) (set rows ((nodes_at + x) * 5 + 4) (j + 1)) rows

-- the rows with the users of the fields that met their rules, and the most levels of a line's parts where each field did
pub data Linked : Type 0 where
  unlinked : List ℕ → Linked
  linked : ℕ → List ℕ → Linked

-- m fields of a line of the form f from its field i on, the first of which stands at j; d is the most levels of the fields before
unfoldable pub refs_from : ℕ → Counts → Form → ℕ → ℕ → List ℕ → ℕ → List ℕ → Linked
refs_from zero n f i j cells d rows = linked d rows
refs_from (suc m) n f i j cells d rows =
    cond (right n (kind_at f i) (tag_in cells j) (value_in cells j) rows cells)
    (refs_from m n f (i + 1) (j + 1) cells (larger d (levels_of (kind_at f i) (tag_in cells j) (value_in cells j) rows)) (taken (kind_at f i) (tag_in cells j) (value_in cells j) j rows))
    (unlinked rows)

-- the most fields that a body can have: the number of a field, plus 1, is at most 65,535
abbrev pub most_fields : ℕ
most_fields = 65535

-- m fields behind those of the lines before, as those of a line of the form f; where that would be too many for a body, none is linked
unfoldable pub links_of : Counts → Form → ℕ → List ℕ → List ℕ → Linked
links_of n f m cells rows = cond (ltb most_fields (n.fields + m)) (unlinked rows) (refs_from m n f 0 n.fields cells 0 rows)

abbrev pub linking : Option ℕ → List ℕ → Linked
linking (Some d) rows = linked d rows
linking None rows = unlinked rows

-- m values from a on are those from b on
unfoldable pub same_values : ℕ → ℕ → ℕ → List ℕ → Bool
same_values zero a b cells = true
same_values (suc m) a b cells = cond (eqb (value_in cells a) (value_in cells b)) (same_values m (a + 1) (b + 1) cells) false

-- the row r has the form f and the m values that stand from b on
unfoldable pub is_same : List ℕ → List ℕ → ℕ → ℕ → ℕ → ℕ → Bool
is_same rows cells r f b m =
    cond (eqb (form_in rows r) f) (cond (eqb (count_in rows r) m) (same_values m (first_in rows r) b cells) false) false

-- one of n rows from r on is the same
unfoldable pub is_repeated : ℕ → ℕ → List ℕ → List ℕ → ℕ → ℕ → ℕ → Bool
is_repeated zero r rows cells f b m = false
is_repeated (suc n) r rows cells f b m = cond (is_same rows cells r f b m) true (is_repeated n (r + 1) rows cells f b m)

-- The tables of a body as the typing rules read them. Definitions alone.
use Rattle.std.specs.Prelude.{List, [], ◌∷◌, Bool, true, false, ◌&&◌, ◌||◌, ℕ, suc, zero, ◌+◌, ◌-◌, length, eqb, ltb, leb, None, Option as Option·R, Some}
use Rattle.std.proofs.Math.Option.{Option, none, some}
use Rattle.theory.specs.Rules.{Shape, base, var, arr, ref, fn, fun, lam, err, div, row}
use Rattle.type_table.specs.declared.TypeId.{TypeId}
use Rattle.type_table.specs.declared.NodeId.{NodeId}
use Rattle.type_table.specs.declared.DefId.{DefId}
use Rattle.type_table.specs.declared.InstId.{InstId}
use Rattle.type_table.specs.Memory.{pick}
use Rattle.refs.specs.Refs.{defs_at, insts_at, binds_at, nodes_at, fn_at, form_in, first_in, count_in, name_in, tag_in, value_in}
use Rattle.nodes.specs.declared.Items.{Items}
use Rattle.nodes.specs.declared.Res.{Res}
use Rattle.nodes.specs.declared.Res.TheVariants as res
use Rattle.nodes.specs.declared.BinOp.{BinOp}
use Rattle.nodes.specs.declared.BinOp.TheVariants as bin
use Rattle.nodes.specs.declared.UnOp.{UnOp}
use Rattle.nodes.specs.declared.UnOp.TheVariants as un
use Rattle.nodes.specs.declared.Field.{Field}
use Rattle.nodes.specs.declared.Node.{Node}
use Rattle.nodes.specs.declared.Node.TheVariants as form
use Rattle.nodes.specs.declared.TypeRow.{TypeRow}
use Rattle.nodes.specs.declared.TypeRow.TheVariants as row·T
use Rattle.nodes.specs.declared.Function.{Function}
use Rattle.nodes.specs.declared.Callee.{Callee}
use Rattle.nodes.specs.declared.Callee.TheVariants as callee

-- a body that was read: its two tables, and how many binds it has
pub record Body : Type 0 where
  pub rows : List ℕ
  pub cells : List ℕ
  pub binds : ℕ

-- ── fields ──

-- the field j
abbrev pub field_in : List ℕ → ℕ → Field
field_in cells j = record { tag = tag_in cells j; value = value_in cells j }

-- how many fields stand behind the first k of a line; no line has 255
unfoldable pub count_behind : ℕ → ℕ → ℕ
count_behind count k = pick (leb count k) 0 (pick (ltb (count - k) 255) (count - k) 255)

-- what stands behind the first k fields of a line
abbrev pub behind : ℕ → ℕ → ℕ → Items
behind first count k = record { first = first; from = k; count = count_behind count k }

-- a type, or `-`
unfoldable pub maybe_type : Field → Option·R TypeId
maybe_type f = pick (eqb f.tag 0) None (Some (record { 0 = f.value }))

-- a node, or `-`
unfoldable pub maybe_node : Field → Option·R NodeId
maybe_node f = pick (eqb f.tag 0) None (Some (record { 0 = f.value }))

-- OP of `bin`: b, c, a
unfoldable pub bin_op : ℕ → BinOp
bin_op v = pick (eqb v 0) bin.Boolean (pick (eqb v 1) bin.Ordering bin.Other)

-- OP of `un`: d, r, n, t
unfoldable pub un_op : ℕ → UnOp
un_op v = pick (eqb v 0) un.Deref (pick (eqb v 1) un.Address (pick (eqb v 2) un.Negation un.Not))

-- RES by its tag and its number: l, f, c, i, e, o
unfoldable pub res_of : ℕ → ℕ → Res
res_of t v =
    pick (eqb t 1) (res.Local (record { 0 = v }))
    (pick (eqb t 2) (res.Fn (record { 0 = v }))
    (pick (eqb t 3) (res.Ctor (record { 0 = v }))
    (pick (eqb t 4) (res.Inst (record { 0 = v }))
    (pick (eqb t 5) res.Error res.Other))))

-- the number of the item i
unfoldable pub item : List ℕ → Items → ℕ → ℕ
item cells t i = value_in cells (t.first + t.from + i)

-- the numbers of k fields from j on
unfoldable pub numbers_from : List ℕ → ℕ → ℕ → List ℕ
numbers_from cells j zero = []
numbers_from cells j (suc k) = value_in cells j ∷ numbers_from cells (suc j) k

-- the numbers of the items
abbrev pub items_of : List ℕ → Items → List ℕ
items_of cells t = numbers_from cells (t.first + t.from) t.count

-- ── nodes ──

-- a node by the form of its line, its first three fields, and where its fields stand
unfoldable pub node_of : ℕ → Field → Field → Field → ℕ → ℕ → Node
node_of h a b c first count =
    pick (eqb h 7) form.Bool
    (pick (eqb h 8) form.Int
    (pick (eqb h 9) form.Float
    (pick (eqb h 11) (form.Bin (bin_op a.value) (record { 0 = b.value }) (record { 0 = c.value }))
    (pick (eqb h 12) (form.Un (un_op a.value) (record { 0 = b.value }))
    (pick (eqb h 13) (form.Field (record { 0 = a.value }) b.value)
    (pick (eqb h 14) (form.List (behind first count 0))
    (pick (eqb h 15) (form.Index (record { 0 = a.value }) (record { 0 = b.value }))
    (pick (eqb h 16) (form.Assign (record { 0 = a.value }) (record { 0 = b.value }))
    (pick (eqb h 17) (form.OpAssign (record { 0 = a.value }) (record { 0 = b.value }))
    (pick (eqb h 18) (form.If (record { 0 = a.value }) (record { 0 = b.value }) (maybe_node c))
    (pick (eqb h 19) (form.Loop (record { 0 = a.value }))
    (pick (eqb h 20) form.Break
    (pick (eqb h 21) (form.Call (record { 0 = a.value }) (behind first count 1))
    (pick (eqb h 22) (form.MethodCall (record { 0 = a.value }) b.value (behind first count 2))
    (pick (eqb h 23) (form.Return (maybe_node a))
    (pick (eqb h 24) (form.Block (maybe_node a) (behind first count 1))
    (pick (eqb h 25) (form.Let (maybe_type a) (maybe_node b))
    (pick (eqb h 26) (form.Param (maybe_type a))
    (pick (eqb h 27) (form.Lambda (maybe_type a) (record { 0 = b.value }) (behind first count 2))
    (pick (eqb h 28) (form.Path (res_of a.tag a.value) b.value (behind first count 2))
    form.Str))))))))))))))))))))

-- the node n
unfoldable pub node_at : List ℕ → List ℕ → ℕ → Node
node_at rows cells n =
    let r = nodes_at + n in
    let f = first_in rows r in
    node_of (form_in rows r) (field_in cells f) (field_in cells (f + 1)) (field_in cells (f + 2)) f (count_in rows r)

-- the field k of the line of the node n
unfoldable pub field_of : List ℕ → List ℕ → ℕ → ℕ → Field
field_of rows cells n k = field_in cells (first_in rows (nodes_at + n) + k)

-- the declared type of the param n
unfoldable pub declared_at : List ℕ → List ℕ → ℕ → Option·R TypeId
declared_at rows cells n = pick (eqb (form_in rows (nodes_at + n)) 26) (maybe_type (field_of rows cells n 0)) None

-- the type and the init of the let n
unfoldable pub let_at : List ℕ → List ℕ → ℕ → Option·R (Option·R TypeId × Option·R NodeId)
let_at rows cells n = pick (eqb (form_in rows (nodes_at + n)) 25) (Some ((maybe_type (field_of rows cells n 0)), (maybe_node (field_of rows cells n 1)))) None

-- the tail and the statements of the block n
unfoldable pub block_at : List ℕ → List ℕ → ℕ → Option·R (Option·R NodeId × Items)
block_at rows cells n =
    let r = nodes_at + n in
    pick (eqb (form_in rows r) 24) (Some ((maybe_node (field_of rows cells n 0)), (behind (first_in rows r) (count_in rows r) 1))) None

-- ── types and the function ──

-- a type line by its form, its first two numbers, and where its fields stand
unfoldable pub type_row_of : ℕ → ℕ → ℕ → ℕ → ℕ → TypeRow
type_row_of h a b first count =
    pick (eqb h 0) (row·T.Array (record { 0 = a }))
    (pick (eqb h 1) (row·T.Fun a (record { 0 = b }) (behind first count 2))
    (pick (eqb h 2) (row·T.Inst (record { 0 = a }))
    (row·T.Fn (record { 0 = a }))))

-- the type line i
unfoldable pub type_row_at : List ℕ → List ℕ → ℕ → TypeRow
type_row_at rows cells i =
    let f = first_in rows i in
    type_row_of (form_in rows i) (value_in cells f) (value_in cells (f + 1)) f (count_in rows i)

-- the `fn` line: OUT, BODY, P..
unfoldable pub fn_line : List ℕ → List ℕ → Function
fn_line rows cells =
    let f = first_in rows fn_at in
    record { output = record { 0 = value_in cells f }; body = record { 0 = value_in cells (f + 1) }; params = behind f (count_in rows fn_at) 2 }

-- ── signatures ──

-- OUT of the definition d (`fn_sig_for`)
unfoldable pub output_of : List ℕ → List ℕ → ℕ → ℕ
output_of rows cells d = value_in cells (first_in rows (defs_at + d))

-- IN of the definition d
abbrev pub def_inputs : List ℕ → ℕ → Items
def_inputs rows d = behind (first_in rows (defs_at + d)) (count_in rows (defs_at + d)) 1

-- the inputs of a function type or a lambda; none of any other type
abbrev pub shape_inputs : Shape → List ℕ
shape_inputs (base b) = []
shape_inputs (var v) = []
shape_inputs (arr e) = []
shape_inputs (ref e) = []
shape_inputs (fn d) = []
shape_inputs (fun s o i) = i
shape_inputs (lam n o i) = i
shape_inputs err = []
shape_inputs div = []

-- the inputs of what is called, of types with the rows ts
abbrev pub inputs_of : List Shape → List ℕ → List ℕ → Callee → List ℕ
inputs_of ts rows cells (callee.Def d) = items_of cells (def_inputs rows d.0)
inputs_of ts rows cells (callee.Type x) = shape_inputs (row ts x.0)

-- the number at a place of a list, if there is one
abbrev pub nth : List ℕ → ℕ → Option·R TypeId
nth [] i = None
nth (x ∷ xs) zero = Some (record { 0 = x })
nth (x ∷ xs) (suc i) = nth xs i

-- ── fields and methods ──

-- the number of the first of k fields from j on that has a name
unfoldable pub named_from : List ℕ → ℕ → ℕ → ℕ → Option·R ℕ
named_from cells j zero name = None
named_from cells j (suc k) name = pick (eqb (name_in cells j) name) (Some (value_in cells j)) (named_from cells (suc j) k name)

-- the number of the first item of a name
abbrev pub named : List ℕ → Items → ℕ → Option·R ℕ
named cells t name = named_from cells (t.first + t.from) t.count name

-- that number as a type
abbrev pub as_type : Option·R ℕ → Option·R TypeId
as_type (Some x) = Some (record { 0 = x })
as_type None = None

-- that number as a definition
abbrev pub as_def : Option·R ℕ → Option·R DefId
as_def (Some d) = Some (record { 0 = d })
as_def None = None

-- the type of the first field of a name
unfoldable pub field_type : List ℕ → List ℕ → ℕ → ℕ → Option·R TypeId
field_type rows cells k name = as_type (named cells (behind (first_in rows (insts_at + k)) (count_in rows (insts_at + k)) 0) name)

-- the element of an array
abbrev pub as_arr : Shape → Option ℕ
as_arr (base b) = none
as_arr (var v) = none
as_arr (arr e) = some e
as_arr (ref e) = none
as_arr (fn d) = none
as_arr (fun s o i) = none
as_arr (lam n o i) = none
as_arr err = none
as_arr div = none

-- a function type
abbrev pub is_fun : Shape → Bool
is_fun (base b) = false
is_fun (var v) = false
is_fun (arr e) = false
is_fun (ref e) = false
is_fun (fn d) = false
is_fun (fun s o i) = true
is_fun (lam n o i) = false
is_fun err = false
is_fun div = false

-- an array whose element is a function type
abbrev pub of_functions : List Shape → Option ℕ → Bool
of_functions ts none = false
of_functions ts (some e) = is_fun (row ts e)

-- there is one
abbrev pub is_some : Option ℕ → Bool
is_some none = false
is_some (some e) = true

-- a bind on the type w is one for the receiver x: the same type, or an array of functions for an array
unfoldable pub binds_for : List Shape → ℕ → ℕ → Bool
binds_for ts x w = eqb x w || (is_some (as_arr (row ts x)) && of_functions ts (as_arr (row ts w)))

-- the method of a name in the bind j, if it is one for the receiver x
unfoldable pub method_in : List Shape → List ℕ → List ℕ → ℕ → ℕ → ℕ → Option·R DefId
method_in ts rows cells j x name =
    let f = first_in rows (binds_at + j) in
    pick (binds_for ts x (value_in cells f)) (as_def (named cells (behind f (count_in rows (binds_at + j)) 1) name)) None

-- the first one, else the second
abbrev pub or_else : Option·R DefId → Option·R DefId → Option·R DefId
or_else (Some d) r = Some d
or_else None r = r

-- the first method of a name in k binds from j on, in file order
unfoldable pub method_from : List Shape → List ℕ → List ℕ → ℕ → ℕ → ℕ → ℕ → Option·R DefId
method_from ts rows cells j zero x name = None
method_from ts rows cells j (suc k) x name = or_else (method_in ts rows cells j x name) (method_from ts rows cells (suc j) k x name)

-- the method of a name for the receiver x (`binds_for_type`)
abbrev pub method : List Shape → Body → ℕ → ℕ → Option·R DefId
method ts b x name = method_from ts b.rows b.cells 0 b.binds x name

-- ── segments ──

-- one of k fields from j on is `e`
unfoldable pub failed_from : List ℕ → ℕ → ℕ → Bool
failed_from cells j zero = false
failed_from cells j (suc k) = eqb (tag_in cells j) 5 || failed_from cells (suc j) k

-- a partly failed path: some segment is `e`
abbrev pub is_partly_failed : List ℕ → Items → Bool
is_partly_failed cells t = failed_from cells (t.first + t.from) t.count

-- NAME of the segment i
unfoldable pub segment_name : List ℕ → Items → ℕ → ℕ
segment_name cells t i = name_in cells (t.first + t.from + i)

-- RES of the segment i
unfoldable pub segment_res : List ℕ → Items → ℕ → Res
segment_res cells t i = res_of (tag_in cells (t.first + t.from + i)) (value_in cells (t.first + t.from + i))

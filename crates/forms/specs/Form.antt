-- The line forms: the kinds of each form's fields, what a field of each kind holds, and the cells of a line's fields.
-- Assumes nothing.
use Rattle.std.specs.Prelude.{ℕ, suc, ◌+◌, ◌*◌, ◌/◌, List, [], ◌∷◌, Bool, true, false, cond, leb, ltb, eqb, length, get_or, take, drop, Err, None, Ok, Option, Result, Some}
use Prim.Native.String.{String}
use Prim.Native.Char.{code}
use Rattle.std.proofs.lemmas.List.Edits.{sets}
use Rattle.lex.specs.Text.{number_of, before, fields_from, text, same}
use Rattle.forms.specs.declared.Form.{Form}
use Rattle.forms.specs.declared.Cell.{Cell}
use Rattle.forms.specs.declared.Fault.{Fault}
use Rattle.forms.specs.declared.Fault.TheVariants as fault

-- the keys, in the order in which they come
abbrev pub key_type : ℕ
key_type = 0

abbrev pub key_def : ℕ
key_def = 1

abbrev pub key_inst : ℕ
key_inst = 2

abbrev pub key_bind : ℕ
key_bind = 3

abbrev pub key_node : ℕ
key_node = 4

abbrev pub key_fn : ℕ
key_fn = 5

abbrev pub no_key : ℕ
no_key = 6

-- the key that a word is
unfoldable pub key_of : List ℕ → ℕ
key_of w =
    cond (same (text "type") w) key_type
    (cond (same (text "def") w) key_def
    (cond (same (text "inst") w) key_inst
    (cond (same (text "bind") w) key_bind
    (cond (same (text "node") w) key_node
    (cond (same (text "fn") w) key_fn no_key)))))

-- the kinds of a field. A kind's sixteens say how the field is written (`read_as`)
abbrev pub Nothing : ℕ
Nothing = 0

-- a NAME, a SPAN, RESOLVED
abbrev pub Free : ℕ
Free = 16

-- a type in a type
abbrev pub LowType : ℕ
LowType = 17

-- a type
abbrev pub TypeRef : ℕ
TypeRef = 18

-- D of a type, which may come later
abbrev pub DefAhead : ℕ
DefAhead = 19

-- K of a type, which may come later
abbrev pub InstAhead : ℕ
InstAhead = 20

-- an expression
abbrev pub Expr : ℕ
Expr = 21

-- BLOCK
abbrev pub Block : ℕ
Block = 22

-- S
abbrev pub Stmt : ℕ
Stmt = 23

-- P of a lambda
abbrev pub Param : ℕ
Param = 24

-- BODY of `fn`
abbrev pub Body : ℕ
Body = 25

-- P of `fn`
abbrev pub TypedParam : ℕ
TypedParam = 26

-- TYPE|-
abbrev pub OptType : ℕ
OptType = 32

-- E|-
abbrev pub OptExpr : ℕ
OptExpr = 33

-- NAME:TYPE
abbrev pub NamedType : ℕ
NamedType = 48

-- NAME:DEF
abbrev pub NamedDef : ℕ
NamedDef = 49

-- OP of `bin`
abbrev pub BinOp : ℕ
BinOp = 64

-- OP of `un`
abbrev pub UnOp : ℕ
UnOp = 80

-- RES
abbrev pub Resolution : ℕ
Resolution = 96

-- NAME:RES
abbrev pub Segment : ℕ
Segment = 112

-- a form of a line: its key, its word (empty where it has none), and its fields
pub record LineForm : Type 0 where
  pub key : ℕ
  pub word : List ℕ
  pub fields : Form

-- the kinds of the first three fields and of every further one, the least and the greatest number of fields
abbrev pub form : ℕ → String → ℕ → ℕ → ℕ → ℕ → ℕ → ℕ → LineForm
form k w a b c r n m = record { key = k; word = text w; fields = record { 0 = a; 1 = b; 2 = c; 3 = r; 4 = n; 5 = m } }

-- the forms of document 01, in its order
unfoldable pub forms : List LineForm
forms =
    form key_type "array" LowType Nothing Nothing Nothing 1 1 ∷  -- array,E
    form key_type "fun" Free LowType LowType LowType 2 18 ∷  -- fun,SPAN,OUT,IN..
    form key_type "inst" InstAhead Nothing Nothing Nothing 1 1 ∷  -- inst,K
    form key_type "fn" DefAhead Nothing Nothing Nothing 1 1 ∷  -- fn,D
    form key_def "" TypeRef TypeRef TypeRef TypeRef 1 17 ∷  -- def=OUT,IN..
    form key_inst "" NamedType NamedType NamedType NamedType 0 64 ∷  -- inst=NAME:TYPE,..
    form key_bind "" TypeRef NamedDef NamedDef NamedDef 1 65 ∷  -- bind=TYPE,NAME:DEF,..
    form key_node "bool" Nothing Nothing Nothing Nothing 0 0 ∷
    form key_node "int" Nothing Nothing Nothing Nothing 0 0 ∷
    form key_node "float" Nothing Nothing Nothing Nothing 0 0 ∷
    form key_node "str" Nothing Nothing Nothing Nothing 0 0 ∷
    form key_node "bin" BinOp Expr Expr Nothing 3 3 ∷  -- bin,OP,L,R
    form key_node "un" UnOp Expr Nothing Nothing 2 2 ∷  -- un,OP,E
    form key_node "field" Expr Free Nothing Nothing 2 2 ∷  -- field,E,NAME
    form key_node "list" Expr Expr Expr Expr 0 64 ∷  -- list,E..
    form key_node "index" Expr Expr Nothing Nothing 2 2 ∷  -- index,THING,I
    form key_node "assign" Expr Expr Nothing Nothing 2 2 ∷  -- assign,V,E
    form key_node "opassign" Expr Expr Nothing Nothing 2 2 ∷  -- opassign,V,E
    form key_node "if" Expr Block OptExpr Nothing 3 3 ∷  -- if,C,BLOCK,E|-
    form key_node "loop" Block Nothing Nothing Nothing 1 1 ∷  -- loop,BLOCK
    form key_node "break" Nothing Nothing Nothing Nothing 0 0 ∷
    form key_node "call" Expr Expr Expr Expr 1 65 ∷  -- call,F,A..
    form key_node "mcall" Expr Free Expr Expr 2 66 ∷  -- mcall,R,NAME,A..
    form key_node "return" OptExpr Nothing Nothing Nothing 1 1 ∷  -- return,E|-
    form key_node "block" OptExpr Stmt Stmt Stmt 1 65 ∷  -- block,TAIL|-,S..
    form key_node "let" OptType OptExpr Nothing Nothing 2 2 ∷  -- let,TYPE|-,E|-
    form key_node "param" OptType Nothing Nothing Nothing 1 1 ∷  -- param,TYPE|-
    form key_node "lambda" OptType Expr Param Param 2 18 ∷  -- lambda,OUT|-,BODY,P..
    form key_node "path" Resolution Free Segment Segment 2 66 ∷  -- path,RES,RESOLVED,NAME:RES..
    form key_fn "" TypeRef Body TypedParam TypedParam 2 18 ∷  -- fn=OUT,BODY,P..
    []

-- no line's form
abbrev pub no_form : LineForm
no_form = form no_key "" Nothing Nothing Nothing Nothing 0 0

-- the word of a form with none is any
unfoldable pub worded : List ℕ → List ℕ → Bool
worded [] w = true
worded (x ∷ xs) w = same (x ∷ xs) w

-- a form is that of a key and a word
unfoldable pub fits : ℕ → List ℕ → LineForm → Bool
fits k w f = cond (eqb f.key k) (worded f.word w) false

-- how many forms stand before the first that fits
unfoldable pub index_of : ℕ → List ℕ → List LineForm → ℕ
index_of k w [] = 0
index_of k w (f ∷ fs) = cond (fits k w f) 0 (suc (index_of k w fs))

-- the form of a line: its number, 30 where there is none
unfoldable pub form_of : ℕ → List ℕ → ℕ
form_of k v = index_of k (take (before 44 v) v) forms

-- the fields of the form of a number
unfoldable pub form_at : ℕ → Form
form_at i = (get_or forms i no_form).fields

-- the kind of the field i of a form
unfoldable pub kind_at : Form → ℕ → ℕ
kind_at f i = cond (eqb i 0) f.0 (cond (eqb i 1) f.1 (cond (eqb i 2) f.2 f.3))

-- what a field holds: a name; a tag, 0 for `-`, 1 for a number and 1 to 6 for l f c i e o; and a value
abbrev pub cell : ℕ → ℕ → ℕ → Cell
cell a b n = record { name = a; tag = b; value = n }

-- a number with a tag
abbrev pub valued : ℕ → Option ℕ → Option Cell
valued b (Some n) = Some (cell 0 b n)
valued b None = None

-- a name before what stands behind it
abbrev pub named : Option ℕ → Option Cell → Option Cell
named (Some a) (Some c) = Some (cell a c.tag c.value)
named (Some a) None = None
named None r = None

-- the letter that a field is, 0 where it is no single letter
unfoldable pub letter_of : List ℕ → ℕ
letter_of s = cond (eqb (length s) 1) (get_or s 0 0) 0

-- `-` or a number
unfoldable pub optional_of : ℕ → List ℕ → Option Cell
optional_of x s = cond (eqb x (code "-")) (Some (cell 0 0 0)) (valued 1 (number_of s))

-- b c a
unfoldable pub binary_of : ℕ → Option Cell
binary_of x =
    cond (eqb x (code "b")) (Some (cell 0 1 0)) (cond (eqb x (code "c")) (Some (cell 0 1 1)) (cond (eqb x (code "a")) (Some (cell 0 1 2)) None))

-- d r n t
unfoldable pub unary_of : ℕ → Option Cell
unary_of x =
    cond (eqb x (code "d")) (Some (cell 0 1 0))
    (cond (eqb x (code "r")) (Some (cell 0 1 1)) (cond (eqb x (code "n")) (Some (cell 0 1 2)) (cond (eqb x (code "t")) (Some (cell 0 1 3)) None)))

-- the tag of a first letter, 0 of another than l f c i e o
unfoldable pub tag_of : ℕ → ℕ
tag_of x =
    cond (eqb x (code "l")) 1 (cond (eqb x (code "f")) 2 (cond (eqb x (code "c")) 3 (cond (eqb x (code "i")) 4 (cond (eqb x (code "e")) 5 (cond (eqb x (code "o")) 6 0)))))

-- lN fD cD iK e o
unfoldable pub tagged_of : ℕ → List ℕ → Option Cell
tagged_of b s =
    cond (eqb b 0) None
    (cond (leb b 4) (valued b (number_of (drop 1 s)))
    (cond (eqb (length s) 1) (Some (cell 0 b 0)) None))

-- RES
abbrev pub resolution_of : List ℕ → Option Cell
resolution_of s = tagged_of (tag_of (get_or s 0 0)) s

-- what stands behind a name: RES where p, else a number
abbrev pub behind_of : Bool → List ℕ → Option Cell
behind_of true s = resolution_of s
behind_of false s = valued 1 (number_of s)

-- NAME:RES where p, else NAME:NUMBER
unfoldable pub pair_of : Bool → List ℕ → Option Cell
pair_of p s = named (number_of (take (before 58 s) s)) (behind_of p (drop (before 58 s + 1) s))

-- a field, by the way in which it is written
unfoldable pub read_as : ℕ → List ℕ → Option Cell
read_as c s =
    cond (eqb c 1) (valued 1 (number_of s))
    (cond (eqb c 2) (optional_of (letter_of s) s)
    (cond (eqb c 3) (pair_of false s)
    (cond (eqb c 4) (binary_of (letter_of s))
    (cond (eqb c 5) (unary_of (letter_of s))
    (cond (eqb c 6) (resolution_of s)
    (cond (eqb c 7) (pair_of true s) None))))))

-- a field of a kind
abbrev pub read_of : ℕ → List ℕ → Option Cell
read_of k s = read_as (k / 16) s

-- what a field holds, with the place e of its end
abbrev pub ending : ℕ → Option Cell → Option (Cell × ℕ)
ending e (Some c) = Some (c, e)
ending e None = None

-- the field of the kind k from the place p on
unfoldable pub field_at : ℕ → List ℕ → ℕ → Option (Cell × ℕ)
field_at k v p = ending (p + before 44 (drop p v)) (read_of k (take (before 44 (drop p v)) (drop p v)))

-- where it ends, p where it is not of its kind
abbrev pub end_in : ℕ → Option (Cell × ℕ) → ℕ
end_in p (Some (c, e)) = e
end_in p None = p

-- the cells of some fields: of all, or of those before the first that is not of its kind
pub data Cells : Type 0 where
  refused : List Cell → Cells
  cells : List Cell → Cells

abbrev pub prepend : Option Cell → Cells → Cells
prepend None r = refused []
prepend (Some c) (refused l) = refused (c ∷ l)
prepend (Some c) (cells l) = cells (c ∷ l)

-- the cells of a line's fields from field i on
unfoldable pub cells_from : Form → ℕ → List (List ℕ) → Cells
cells_from f i [] = cells []
cells_from f i (s ∷ ss) = prepend (read_of (kind_at f i) s) (cells_from f (i + 1) ss)

-- what a line's value is: a fault and the cells that were read before it, or its form's number and its cells
pub data Parsed : Type 0 where
  wrong : Fault → List Cell → Parsed
  parsed : ℕ → List Cell → Parsed

-- where the fields begin: behind the word, and of a key with no words at the start, where there is any byte
unfoldable pub start_of : ℕ → ℕ → ℕ → ℕ
start_of k n e = cond (eqb k key_type) (e + 1) (cond (eqb k key_node) (e + 1) (cond (eqb n 0) 1 0))

-- 3 where a field is missing, 4 where there are too many
unfoldable pub count_of : ℕ → Form → ℕ → Result (ℕ × ℕ) Fault
count_of i f n = cond (ltb n f.4) (Err fault.Form) (cond (ltb f.5 n) (Err fault.Limit) (Ok (i, n)))

-- the cells of a line of as many fields as the form has
abbrev pub with_cells : Result (ℕ × ℕ) Fault → List Cell → Parsed
with_cells (Err x) l = wrong x l
with_cells (Ok (i, n)) l = parsed i l

abbrev pub counted : ℕ → Form → Cells → Parsed
counted i f (refused l) = wrong fault.Form l
counted i f (cells l) = with_cells (count_of i f (length l)) l

-- a line's value by its key
unfoldable pub parse_line : ℕ → List ℕ → Parsed
parse_line k v =
    cond (ltb (form_of k v) 30)
    (counted (form_of k v) (form_at (form_of k v)) (cells_from (form_at (form_of k v)) 0 (fields_from (start_of k (length v) (before 44 v)) v)))
    (wrong fault.Form [])

-- the most bytes of a value, as many as of a file
abbrev pub most_value : ℕ
most_value = 65536

-- a line's value of at most so many bytes; a longer one is over a limit
unfoldable pub line_of : ℕ → List ℕ → Parsed
line_of k v = cond (ltb most_value (length v)) (wrong fault.Limit []) (parse_line k v)

-- the cell j of a table of fields becomes c, where it is in it
unfoldable pub store : List ℕ → ℕ → Cell → List ℕ
store t j c = cond (leb (j * 3 + 3) (length t)) (sets t (j * 3) (c.name ∷ c.tag ∷ c.value ∷ [])) t

-- cells one after the other
unfoldable pub store_from : List ℕ → ℕ → List Cell → List ℕ
store_from t j [] = t
store_from t j (c ∷ cs) = store_from (store t j c) (j + 1) cs

-- the table with the cells that were read, and their number where each field is of its kind
pub data Filled : Type 0 where
  unfilled : List ℕ → Filled
  filled : ℕ → List ℕ → Filled

-- cells behind i others, stored from j on
unfoldable pub fill : ℕ → List ℕ → ℕ → Cells → Filled
fill i t j (refused l) = unfilled (store_from t j l)
fill i t j (cells l) = filled (i + length l) (store_from t j l)

abbrev pub count_in : Option ℕ → ℕ
count_in None = 0
count_in (Some n) = n

abbrev pub outcome : Option ℕ → List ℕ → Filled
outcome None t = unfilled t
outcome (Some n) t = filled n t

-- a line that was read: the fault, or the form's number and the number of fields, and the table
pub data Laid : Type 0 where
  faulty : Fault → List ℕ → Laid
  laid : ℕ → ℕ → List ℕ → Laid

-- a line's cells stored from j on
abbrev pub lay : Parsed → List ℕ → ℕ → Laid
lay (wrong x l) t j = faulty x (store_from t j l)
lay (parsed i l) t j = laid i (length l) (store_from t j l)

abbrev pub shown : Result (ℕ × ℕ) Fault → List ℕ → Laid
shown (Err x) t = faulty x t
shown (Ok (i, n)) t = laid i n t

abbrev pub width_of : Result (ℕ × ℕ) Fault → ℕ
width_of (Err x) = 0
width_of (Ok (i, n)) = n

-- The rules of unification, as documents 01 and 02 state them. Definitions alone: nothing is proved here.
use Rattle.std.specs.Prelude.{List, [], ◌∷◌, Bool, true, false, cond, not, ◌&&◌, ◌||◌, ℕ, suc, zero, ◌+◌, length, get_or, set, take, eqb, ltb}
use Rattle.std.proofs.Math.Option.{Option, none, some}
use Rattle.std.proofs.Math.Decide.{ℕ_discrete}

-- ── types ──

-- 8, 16, 32 or 64 bits
pub data Width : Type 0 where
  w8 w16 w32 w64 : Width
  deriving Discrete as width_discrete

-- what step 1 compares: Bool, Nil, Float, Double, the integers, and each instance by its number
pub data Base : Type 0 where
  bool nil float double : Base
  uint int : Width → Base
  inst : ℕ → Base
  deriving Discrete as base_discrete

-- a row of the type table; its parts are rows. A function has its SPAN, a lambda its node, both the output and the inputs
pub data Shape : Type 0 where
  base : Base → Shape
  var arr ref fn : ℕ → Shape
  fun lam : ℕ → ℕ → List ℕ → Shape
  err div : Shape

-- `InferKind`: what a variable may stand for
pub data Kind : Type 0 where
  regular integer floating : Kind

-- the places of the heads in `TyKind`, from 0
abbrev pub instance_head : ℕ
instance_head = 5

-- `Param`: a function type
abbrev pub param_head : ℕ
param_head = 6

-- `FnDef`
abbrev pub fn_def_head : ℕ
fn_def_head = 7

-- `Array`
abbrev pub array_head : ℕ
array_head = 8

-- `Nil`
abbrev pub nil_head : ℕ
nil_head = 9

-- `Error`
abbrev pub error_head : ℕ
error_head = 10

-- `Diverges`
abbrev pub diverges_head : ℕ
diverges_head = 11

-- `InferTy`: a variable
abbrev pub infer_head : ℕ
infer_head = 12

-- `Lambda`
abbrev pub lambda_head : ℕ
lambda_head = 13

-- `Ref`
abbrev pub ref_head : ℕ
ref_head = 14

-- the head of a type that step 1 compares
abbrev pub base_head : Base → ℕ
base_head bool = 0
base_head (uint w) = 1
base_head (int w) = 2
base_head float = 3
base_head double = 4
base_head (inst k) = instance_head
base_head nil = nil_head

-- the head of a row
abbrev pub head : Shape → ℕ
head (base b) = base_head b
head (fun s o i) = param_head
head (fn d) = fn_def_head
head (arr e) = array_head
head err = error_head
head div = diverges_head
head (var v) = infer_head
head (lam n o i) = lambda_head
head (ref e) = ref_head

-- the rows that a row is made of: an element; an output and then inputs
abbrev pub kids : Shape → List ℕ
kids (base b) = []
kids (var v) = []
kids (arr e) = e ∷ []
kids (ref e) = e ∷ []
kids (fn d) = []
kids (fun s o i) = o ∷ i
kids (lam n o i) = o ∷ i
kids err = []
kids div = []

-- the variable that a row is, if it is one
abbrev pub as_var : Shape → Option ℕ
as_var (base b) = none
as_var (var v) = some v
as_var (arr e) = none
as_var (ref e) = none
as_var (fn d) = none
as_var (fun s o i) = none
as_var (lam n o i) = none
as_var err = none
as_var div = none

-- ── the choice of the step ──

-- what two heads call for: success; step 1's comparison; the variable of the expected or of the got side; parts against parts, as they
-- stand or with the sides exchanged; mismatch
pub data Step : Type 0 where
  same compare left right down swap differ : Step

-- the heads that step 1 compares
abbrev pub compared : ℕ → Bool
compared h = ltb h param_head || eqb h nil_head

-- steps 1 to 5 in document 01's order, by the heads of the expected and of the got side
unfoldable pub choose : ℕ → ℕ → Step
choose e g =
    cond (compared e && eqb e g) compare
    (cond (eqb g diverges_head) same
    (cond (eqb e array_head && eqb g array_head) down
    (cond (eqb e infer_head) left
    (cond (eqb g infer_head) right
    (cond (eqb e param_head && eqb g lambda_head) down
    (cond (eqb e lambda_head && eqb g param_head) swap
    (cond (eqb e error_head || eqb g error_head) same differ)))))))

-- ── what a step asks for ──

-- success; a mismatch, of cause 1; refused 12; refused 13; out of steps (never of sound tables: `Keep.kept`)
pub data Out : Type 0 where
  success mismatch refused12 refused13 dry : Out

-- document 01's numbers of a result: Check's answer, and the CAUSE of an error row
abbrev pub numbers_of : Out → ℕ × ℕ
numbers_of success = (0, 0)
numbers_of mismatch = (0, 1)
numbers_of refused12 = (12, 0)
numbers_of refused13 = (13, 0)
numbers_of dry = (12, 0)

-- what unification changes: a binding or none for each variable, and the negation marks
pub record Mem : Type 0 where
  pub binds : List (Option ℕ)
  pub marks : List Bool

-- two rows, the expected and the got one
abbrev pub Pair : Type 0
Pair = ℕ × ℕ

-- a result: the answer, and bindings and marks after it
abbrev pub Res : Type 0
Res = Out × Mem

-- pairs of rows in order and then an answer; or a variable against a row
pub data Act : Type 0 where
  go : List Pair → Out → Act
  at : ℕ → ℕ → Act

-- a decision as a test
abbrev pub is_yes {ℓ} : {A : Type ℓ} → Dec A → Bool
is_yes (yes a) = true
is_yes (no f) = false

-- a type that step 1 compares, against a row
abbrev pub alike_base : Base → Shape → Bool
alike_base b (base c) = is_yes (base_discrete width_discrete ℕ_discrete b c)
alike_base b (var v) = false
alike_base b (arr e) = false
alike_base b (ref e) = false
alike_base b (fn d) = false
alike_base b (fun s o i) = false
alike_base b (lam n o i) = false
alike_base b err = false
alike_base b div = false

-- step 1: equal Bool, Float, Double, Nil, Instance, or integers of one sign and width
abbrev pub alike : Shape → Shape → Bool
alike (base b) t = alike_base b t
alike (var v) t = false
alike (arr e) t = false
alike (ref e) t = false
alike (fn d) t = false
alike (fun s o i) t = false
alike (lam n o i) t = false
alike err t = false
alike div t = false

-- two lists in pairs, as far as both go
abbrev pub zip : List ℕ → List ℕ → List Pair
zip [] ys = []
zip (x ∷ xs) [] = []
zip (x ∷ xs) (y ∷ ys) = (x, y) ∷ zip xs ys

-- step 2: elements; step 4: outputs, then lengths, then inputs in order
unfoldable pub split : List ℕ → List ℕ → Act
split xs ys = cond (eqb (length xs) (length ys)) (go (zip xs ys) success) (go (take 1 (zip xs ys)) mismatch)

-- a variable against the row z; a mismatch for what is no variable
unfoldable pub at_var : Option ℕ → ℕ → Act
at_var none z = go [] mismatch
at_var (some v) z = at v z

-- what a step asks for, of the rows x and y with the shapes s and t
unfoldable pub act : ℕ → ℕ → Shape → Shape → Step → Act
act x y s t same = go [] success
act x y s t compare = go [] (cond (alike s t) success mismatch)
act x y s t left = at_var (as_var s) y
act x y s t right = at_var (as_var t) x
act x y s t down = split (kids s) (kids t)
act x y s t swap = split (kids t) (kids s)
act x y s t differ = go [] mismatch

-- ── step 3: the kind test ──

-- integers
abbrev pub int_base : Base → Bool
int_base bool = false
int_base nil = false
int_base float = false
int_base double = false
int_base (uint w) = true
int_base (int w) = true
int_base (inst k) = false

-- Float and Double
abbrev pub float_base : Base → Bool
float_base bool = false
float_base nil = false
float_base float = true
float_base double = true
float_base (uint w) = false
float_base (int w) = false
float_base (inst k) = false

-- what a variable of a kind may be, of the types that step 1 compares
abbrev pub base_fits : Kind → Base → Bool
base_fits regular b = true
base_fits integer b = int_base b
base_fits floating b = float_base b

-- a variable of the first kind against one of the second
abbrev pub kind_fits : Kind → Kind → Bool
kind_fits regular k = true
kind_fits integer regular = false
kind_fits integer integer = true
kind_fits integer floating = false
kind_fits floating regular = false
kind_fits floating integer = false
kind_fits floating floating = true

-- a Regular variable may be anything
abbrev pub is_regular : Kind → Bool
is_regular regular = true
is_regular integer = false
is_regular floating = false

-- a variable's binding, none for what is no variable
abbrev pub bound : List (Option ℕ) → ℕ → Option ℕ
bound b v = get_or b v none

-- a row of the table, Nil for what is none
abbrev pub row : List Shape → ℕ → Shape
row rows x = get_or rows x (base nil)

-- a variable's kind, Regular for what is no variable
abbrev pub kind : List Kind → ℕ → Kind
kind kinds v = get_or kinds v regular

-- integers and integer variables are integer-like; Float, Double and float variables are float-like
abbrev pub fits : List Kind → Kind → Shape → Bool
fits kinds k (base b) = base_fits k b
fits kinds k (var u) = kind_fits k (kind kinds u)
fits kinds k (arr e) = is_regular k
fits kinds k (ref e) = is_regular k
fits kinds k (fn d) = is_regular k
fits kinds k (fun s o i) = is_regular k
fits kinds k (lam n o i) = is_regular k
fits kinds k err = is_regular k
fits kinds k div = is_regular k

-- ── step 3: the roles ──

-- a variable of the first kind expected, one of the second got: an integer or float variable against a Regular one exchanges the roles
abbrev pub kinds_exchange : Kind → Kind → Bool
kinds_exchange regular l = false
kinds_exchange integer l = is_regular l
kinds_exchange floating l = is_regular l

-- whether the roles are exchanged, by the variables that the expected and the got side are
abbrev pub exchanged : List Kind → Option ℕ → Option ℕ → Bool
exchanged kinds none o = false
exchanged kinds (some v) none = false
exchanged kinds (some v) (some u) = kinds_exchange (kind kinds v) (kind kinds u)

-- the step with its roles exchanged, if they are: the variable of the got side is the variable of the step
abbrev pub roles : Bool → Step → Step
roles c same = same
roles c compare = compare
roles c left = cond c right left
roles c right = right
roles c down = down
roles c swap = swap
roles c differ = differ

-- ── step 3: negation marks ──

-- whether a variable carries a negation mark
abbrev pub marked : Mem → ℕ → Bool
marked m v = get_or m.marks v false

-- Int
abbrev pub signed_base : Base → Bool
signed_base bool = false
signed_base nil = false
signed_base float = false
signed_base double = false
signed_base (uint w) = false
signed_base (int w) = true
signed_base (inst k) = false

-- what a marked variable may meet: Int, or a variable
abbrev pub signed : Shape → Bool
signed (base b) = signed_base b
signed (var v) = true
signed (arr e) = false
signed (ref e) = false
signed (fn d) = false
signed (fun s o i) = false
signed (lam n o i) = false
signed err = false
signed div = false

-- a mark, if there is one, goes to the other side, if that is a variable
abbrev pub pass_to : Bool → Option ℕ → List Bool → List Bool
pass_to false o l = l
pass_to true none l = l
pass_to true (some u) l = set l u true

-- a marked variable passes its negation mark to a variable on the other side
unfoldable pub pass : Mem → ℕ → Shape → Mem
pass m v s = record { binds = m.binds; marks = pass_to (marked m v) (as_var s) m.marks }

-- ── step 3: rings and 12 ──

-- a function over the rows by steps, at most n of them
module _ {A : Type 0} (step : (ℕ → A) → ℕ → A) (out : A) where
  -- at most n steps
  abbrev pub iter : ℕ → ℕ → A
  iter zero x = out
  iter (suc n) x = step (iter n) x

-- one row or none
abbrev pub opt_list : Option ℕ → List ℕ
opt_list none = []
opt_list (some r) = r ∷ []

-- where a row leads: a variable to its binding, any other row to its parts
abbrev pub succs : List (Option ℕ) → Shape → Option ℕ → List ℕ
succs b s none = kids s
succs b s (some u) = opt_list (bound b u)

-- where the row x leads
abbrev pub next : List Shape → List (Option ℕ) → ℕ → List ℕ
next rows b x = succs b (row rows x) (as_var (row rows x))

-- whether a test holds of a row of a list
abbrev pub any : (ℕ → Bool) → List ℕ → Bool
any f [] = false
any f (y ∷ ys) = f y || any f ys

-- whether a row is that of v
abbrev pub is_same : ℕ → Option ℕ → Bool
is_same v none = false
is_same v (some u) = eqb u v

-- where a variable stands in what a row leads to: nowhere; at the end of its bindings (a ring); inside it; no end was found
pub data Found : Type 0 where
  free ring inside lost : Found

module _ (rows : List Shape) (b : List (Option ℕ)) (v : ℕ) where
  -- one step of `leads`
  abbrev pub leads_at : (ℕ → Bool) → ℕ → Bool
  leads_at f x = is_same v (as_var (row rows x)) || any f (next rows b x)

  -- the row x is that of v or leads to it, through arrays, references, functions, lambdas or bindings, in fewer than n steps
  unfoldable pub leads : ℕ → ℕ → Bool
  leads n x = iter leads_at false n x

  -- more steps than a way without repetition has
  abbrev pub far : ℕ
  far = suc (length rows + length rows)

  -- the binding, if there is one
  abbrev pub follow : (ℕ → Found) → Option ℕ → Found
  follow f none = free
  follow f (some r) = f r

  -- one step of `seek`, by the variable that the row is
  abbrev pub seek_var : (ℕ → Found) → ℕ → Option ℕ → Found
  seek_var f x none = cond (leads far x) inside free
  seek_var f x (some u) = cond (eqb u v) ring (follow f (bound b u))

  -- one step of `seek`
  abbrev pub seek_at : (ℕ → Found) → ℕ → Found
  seek_at f x = seek_var f x (as_var (row rows x))

  -- following bindings from x, variable by variable; where that ends at another type, v may stand inside it
  unfoldable pub seek : ℕ → ℕ → Found
  seek n x = iter seek_at lost n x

-- a variable is bound
unfoldable pub bind : Mem → ℕ → ℕ → Mem
bind m v z = record { binds = set m.binds v (some z); marks = m.marks }

-- a ring: success, nothing bound; inside its own binding: refused 12; else it is bound
abbrev pub settle : Mem → ℕ → ℕ → Found → Res
settle m v z free = (success, bind m v z)
settle m v z ring = (success, m)
settle m v z inside = (refused12, m)
settle m v z lost = (dry, m)

-- ── unification ──

-- success goes on with what comes next, any other answer ends
abbrev pub onward : Out → Mem → (Mem → Res) → Res
onward success m k = k m
onward mismatch m k = (mismatch, m)
onward refused12 m k = (refused12, m)
onward refused13 m k = (refused13, m)
onward dry m k = (dry, m)

-- go on where that was a success
abbrev pub and_then : Res → (Mem → Res) → Res
and_then r k = onward r.0 r.1 k

module _ (rows : List Shape) (kinds : List Kind) where
  module _ (rec : Mem → ℕ → ℕ → Res) where
    -- a bound variable: its binding as expected against the other side as got
    abbrev pub chase : Mem → ℕ → ℕ → Option ℕ → Res
    chase m v z (some r) = rec m r z
    chase m v z none = settle m v z (seek rows m.binds v (suc (length rows)) z)

    -- a marked variable against a type that is not Int: refused 13
    abbrev pub heed : Mem → ℕ → ℕ → Bool → Res
    heed m v z true = (refused13, m)
    heed m v z false = chase (pass m v (row rows z)) v z (bound m.binds v)

    -- the same variable: success
    abbrev pub other : Mem → ℕ → ℕ → Bool → Res
    other m v z true = (success, m)
    other m v z false = heed m v z (marked m v && not (signed (row rows z)))

    -- step 3, by the kind test
    abbrev pub suits : Mem → ℕ → ℕ → Bool → Res
    suits m v z false = (mismatch, m)
    suits m v z true = other m v z (is_same v (as_var (row rows z)))

    -- pairs in order, then an answer
    abbrev pub each : List Pair → Out → Mem → Res
    each [] o m = (o, m)
    each (p ∷ ps) o m = and_then (rec m p.0 p.1) (λ m'. each ps o m')

    -- what a step asks for is done
    abbrev pub perform : Mem → Act → Res
    perform m (go ps o) = each ps o m
    perform m (at v z) = suits m v z (fits kinds (kind kinds v) (row rows z))

  -- what the rows x, expected, and y, got, ask for
  abbrev pub move : ℕ → ℕ → Act
  move x y = act x y (row rows x) (row rows y) (roles (exchanged kinds (as_var (row rows x)) (as_var (row rows y))) (choose (head (row rows x)) (head (row rows y))))

  -- x expected, y got, in at most n steps one after another
  unfoldable pub unify : ℕ → Mem → ℕ → ℕ → Res
  unify zero m x y = (dry, m)
  unify (suc n) m x y = perform (unify n) m (move x y)

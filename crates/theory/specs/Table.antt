-- Document 01's table of the rules, and further lines of the same form: each line is run, and its whole result compared. Assumes nothing.
use Rattle.std.specs.Prelude.{◌≡◌, refl, List, [], ◌∷◌, map, Bool, true, false, ℕ, set}
use Rattle.std.proofs.Math.Option.{Option, none, some}
use Rattle.std.proofs.Math.Decide.{ℕ_discrete}
use Rattle.theory.specs.Rules.{w16, w32, w64, bool, uint, int, inst, Shape, base, var, arr, ref, fn, fun, lam, err, div, Kind, regular, integer, floating, Out, success, mismatch, refused12, refused13, Mem, Res, choose, split, at_var, act, pass, bind, leads, seek, unify}
use Rattle.theory.specs.Program.{first_equal, solve}

-- ── the rows that the lines speak of ──

-- a Regular variable
abbrev pub v : ℕ
v = 0

-- another
abbrev pub w : ℕ
w = 1

-- an Integer variable
abbrev pub i : ℕ
i = 2

-- a float variable
abbrev pub f : ℕ
f = 3

-- Bool
abbrev pub bool_type : ℕ
bool_type = 4

-- Error
abbrev pub error_type : ℕ
error_type = 5

-- Diverges
abbrev pub diverges_type : ℕ
diverges_type = 6

-- u64
abbrev pub u64_type : ℕ
u64_type = 7

-- i32
abbrev pub i32_type : ℕ
i32_type = 8

-- u32
abbrev pub u32_type : ℕ
u32_type = 9

-- i16
abbrev pub i16_type : ℕ
i16_type = 10

-- array of v
abbrev pub array_v : ℕ
array_v = 11

-- array of w
abbrev pub array_w : ℕ
array_w = 12

-- array of i
abbrev pub array_i : ℕ
array_i = 13

-- array of i16
abbrev pub array_i16 : ℕ
array_i16 = 14

-- array of Bool
abbrev pub array_bool : ℕ
array_bool = 15

-- array of Diverges
abbrev pub array_diverges : ℕ
array_diverges = 16

-- reference to Bool
abbrev pub ref_bool : ℕ
ref_bool = 17

-- an instance
abbrev pub instance_0 : ℕ
instance_0 = 18

-- another instance
abbrev pub instance_1 : ℕ
instance_1 = 19

-- a definition's type
abbrev pub definition_0 : ℕ
definition_0 = 20

-- the function type (i32) → i32
abbrev pub function : ℕ
function = 21

-- a lambda with two i32 inputs and the output w
abbrev pub lambda_w : ℕ
lambda_w = 22

-- a lambda with an i32 input and the output Diverges
abbrev pub lambda_diverges : ℕ
lambda_diverges = 23

-- a lambda with no input and the output v
abbrev pub lambda_v : ℕ
lambda_v = 24

-- array of arrays of i16
abbrev pub array_array_i16 : ℕ
array_array_i16 = 25

-- the table, each row at its number
abbrev pub table_rows : List Shape
table_rows = var 0 ∷ var 1 ∷ var 2 ∷ var 3 ∷ base bool ∷ err ∷ div ∷ base (uint w64) ∷ base (int w32) ∷ base (uint w32) ∷ base (int w16) ∷ arr v ∷ arr w ∷ arr i ∷ arr i16_type ∷ arr bool_type ∷ arr diverges_type ∷ ref bool_type ∷ base (inst 0) ∷ base (inst 1) ∷ fn 0 ∷ fun 0 i32_type (i32_type ∷ []) ∷ lam 0 w (i32_type ∷ i32_type ∷ []) ∷ lam 1 diverges_type (i32_type ∷ []) ∷ lam 2 v [] ∷ arr array_i16 ∷ []

-- the kinds of v, w, i and f
abbrev pub table_kinds : List Kind
table_kinds = regular ∷ regular ∷ integer ∷ floating ∷ []

-- ── a line ──

-- an equation over these rows: the bindings and marks before, the expected and got rows, the answer, the bindings and marks after
pub record Line : Type 0 where
  pub before : Mem
  pub expected : ℕ
  pub got : ℕ
  pub answer : Out
  pub after : Mem

-- no variable is bound
abbrev pub unbound : List (Option ℕ)
unbound = none ∷ none ∷ none ∷ none ∷ []

-- no variable is marked
abbrev pub unmarked : List Bool
unmarked = false ∷ false ∷ false ∷ false ∷ []

-- the variable x is bound to the row r, and no other is bound
abbrev pub binding : ℕ → ℕ → List (Option ℕ)
binding x r = set unbound x (some r)

-- the variable x is marked, and no other is
abbrev pub marking : ℕ → List Bool
marking x = set unmarked x true

-- these bindings and marks
abbrev pub mem : List (Option ℕ) → List Bool → Mem
mem b k = record { binds = b; marks = k }

-- a line that changes the bindings and marks
abbrev pub changes : List (Option ℕ) → List Bool → ℕ → ℕ → Out → List (Option ℕ) → List Bool → Line
changes b k e g o b' k' = record { before = mem b k; expected = e; got = g; answer = o; after = mem b' k' }

-- a line that changes nothing
abbrev pub keeps : List (Option ℕ) → List Bool → ℕ → ℕ → Out → Line
keeps b k e g o = changes b k e g o b k

-- the line's equation, solved
abbrev pub outcome : Line → Res
outcome l = solve table_rows table_kinds l.before l.expected l.got

-- what the line states
abbrev pub stated : Line → Res
stated l = (l.answer, l.after)

-- ── the tables ──

-- document 01, "Proved of the rules, in one table": v, w Regular, i Integer, all unbound where no binding is written; (i, v) as document 02 e)
-- has it
abbrev pub table : List Line
table =
    -- (v, Diverges) binds nothing
    keeps unbound unmarked v diverges_type success ∷
    -- (Diverges, Bool) mismatch
    keeps unbound unmarked diverges_type bool_type mismatch ∷
    -- (Diverges, Error) success
    keeps unbound unmarked diverges_type error_type success ∷
    -- (i, v) binds v
    changes unbound unmarked i v success (binding v i) unmarked ∷
    -- (v, i) binds v
    changes unbound unmarked v i success (binding v i) unmarked ∷
    -- (i, Error) cause 1
    keeps unbound unmarked i error_type mismatch ∷
    -- (v, v) success
    keeps unbound unmarked v v success ∷
    -- v bound to w, (w, v) success
    keeps (binding v w) unmarked w v success ∷
    -- (v, array v) 12
    keeps unbound unmarked v array_v refused12 ∷
    -- marked i with u64 13
    keeps unbound (marking i) i u64_type refused13 ∷
    -- (i32, u32) mismatch
    keeps unbound unmarked i32_type u32_type mismatch ∷
    -- (array i, array i16) binds i
    changes unbound unmarked array_i array_i16 success (binding i i16_type) unmarked ∷
    -- equal Ref mismatch
    keeps unbound unmarked ref_bool ref_bool mismatch ∷
    []

-- each line of document 01's table holds
pub table_holds : map outcome table ≡ map stated table
unfolding solve unify choose act split at_var pass bind leads seek ℕ_discrete
table_holds = refl

-- further lines, by the order of the rules
abbrev pub more : List Line
more =
    -- ── marks ──
    -- a marked variable passes its mark to a variable on the other side
    changes unbound (marking v) v w success (binding v w) (set (marking v) w true) ∷
    -- a mark on the other side does nothing
    changes unbound (marking w) v w success (binding v w) (marking w) ∷
    -- a marked variable may meet Int
    changes unbound (marking v) v i32_type success (binding v i32_type) (marking v) ∷
    -- the kind test comes before the mark: marked i with Bool is a mismatch
    keeps unbound (marking i) i bool_type mismatch ∷
    -- the mark comes before the binding: marked v bound to Bool, with Bool, is 13
    keeps (binding v bool_type) (marking v) v bool_type refused13 ∷
    -- the mark comes before 12: marked v with array v is 13
    keeps unbound (marking v) v array_v refused13 ∷
    -- got Diverges comes before the mark
    keeps unbound (marking v) v diverges_type success ∷
    -- Diverges as the expected side of a marked variable is 13
    keeps unbound (marking v) diverges_type v refused13 ∷
    -- a mark is passed where a ring follows: nothing is bound, v is marked too
    changes (binding v w) (marking w) w v success (binding v w) (set (marking w) v true) ∷
    -- v marked and bound to w, which is not marked: (w, Bool) binds w
    changes (binding v w) (marking v) w bool_type success (set (binding v w) w (some bool_type)) (marking v) ∷
    -- v bound to marked w: (v, Bool) is 13
    keeps (binding v w) (marking w) v bool_type refused13 ∷
    -- ── bindings ──
    -- two variables that meet first are bound
    changes unbound unmarked v w success (binding v w) unmarked ∷
    -- the binding is the expected side: v bound to Diverges, (v, Bool) is a mismatch
    keeps (binding v diverges_type) unmarked v bool_type mismatch ∷
    -- and so where the variable is the got side: (Bool, v)
    keeps (binding v diverges_type) unmarked bool_type v mismatch ∷
    -- v bound to Bool, (Diverges, v): Bool expected, Diverges got
    keeps (binding v bool_type) unmarked diverges_type v success ∷
    -- v bound to i32: (v, i) binds i
    changes (binding v i32_type) unmarked v i success (set (binding v i32_type) i (some i32_type)) unmarked ∷
    -- bindings and arrays in turn, six calls one inside the other: v bound to array w, w to array i, i to i16, with an array of arrays of i16
    keeps (set (set (binding v array_w) w (some array_i)) i (some i16_type)) unmarked v array_array_i16 success ∷
    -- ── roles ──
    -- a float variable too: (f, v) binds v
    changes unbound unmarked f v success (binding v f) unmarked ∷
    -- and so inside arrays: (array i, array v) binds v
    changes unbound unmarked array_i array_v success (binding v i) unmarked ∷
    -- kinds alone are looked at, before bindings: v bound to i32, (i, v) binds i
    changes (binding v i32_type) unmarked i v success (set (binding v i32_type) i (some i32_type)) unmarked ∷
    -- v bound to Bool, (i, v) is a mismatch
    keeps (binding v bool_type) unmarked i v mismatch ∷
    -- i bound to i32, (i, v) binds v
    changes (binding i i32_type) unmarked i v success (set (binding i i32_type) v (some i)) unmarked ∷
    -- v bound to i, (i, v) is a success: i with itself
    keeps (binding v i) unmarked i v success ∷
    -- v is the variable of the step: its mark passes to i
    changes unbound (marking v) i v success (binding v i) (set (marking v) i true) ∷
    -- and the mark of i does nothing
    changes unbound (marking i) i v success (binding v i) (marking i) ∷
    -- two Regular variables keep their roles: v bound to Bool, (w, v) binds w
    changes (binding v bool_type) unmarked w v success (set (binding v bool_type) w (some v)) unmarked ∷
    -- an integer variable with a float variable is a mismatch
    keeps unbound unmarked i f mismatch ∷
    -- and so either way
    keeps unbound unmarked f i mismatch ∷
    -- ── more bindings ──
    -- (Diverges, v) binds v
    changes unbound unmarked diverges_type v success (binding v diverges_type) unmarked ∷
    -- (v, Error) binds v
    changes unbound unmarked v error_type success (binding v error_type) unmarked ∷
    -- (Error, v) binds v
    changes unbound unmarked error_type v success (binding v error_type) unmarked ∷
    -- ── rings and 12 ──
    -- 12 through a binding: w bound to array v, (v, w)
    keeps (binding w array_v) unmarked v w refused12 ∷
    -- 12 through an array and a binding: w bound to v, (v, array w)
    keeps (binding w v) unmarked v array_w refused12 ∷
    -- 12 through a lambda
    keeps unbound unmarked v lambda_v refused12 ∷
    -- not 12 where v stands in another variable that is not reached: w bound to array v, (v, Bool)
    changes (binding w array_v) unmarked v bool_type success (set (binding w array_v) v (some bool_type)) unmarked ∷
    -- ── functions and lambdas ──
    -- bindings made before a mismatch stay: (i32) → i32 with a lambda of two inputs binds the output, and then the lengths differ
    changes unbound unmarked function lambda_w mismatch (binding w i32_type) unmarked ∷
    -- and so either way
    changes unbound unmarked lambda_w function mismatch (binding w i32_type) unmarked ∷
    -- the function's side is expected: its output i32 expected, Diverges got
    keeps unbound unmarked function lambda_diverges success ∷
    -- and so either way
    keeps unbound unmarked lambda_diverges function success ∷
    -- equal function types mismatch
    keeps unbound unmarked function function mismatch ∷
    -- equal lambdas mismatch
    keeps unbound unmarked lambda_diverges lambda_diverges mismatch ∷
    -- equal types of a definition mismatch
    keeps unbound unmarked definition_0 definition_0 mismatch ∷
    -- ── arrays and what step 1 compares ──
    -- got Diverges is a success as an element too
    keeps unbound unmarked array_bool array_diverges success ∷
    -- and not as the expected element
    keeps unbound unmarked array_diverges array_bool mismatch ∷
    -- an array with what is no array is a mismatch
    keeps unbound unmarked array_bool bool_type mismatch ∷
    -- equal instances
    keeps unbound unmarked instance_0 instance_0 success ∷
    -- different instances
    keeps unbound unmarked instance_0 instance_1 mismatch ∷
    -- integers of one sign and different widths
    keeps unbound unmarked i32_type i16_type mismatch ∷
    []

-- each further line holds
pub more_holds : map outcome more ≡ map stated more
unfolding solve unify choose act split at_var pass bind leads seek ℕ_discrete
more_holds = refl

-- ── pooling ──

-- rows to search: two equal arrays, and a lambda
abbrev pub pool_rows : List Shape
pool_rows = fn 0 ∷ arr 0 ∷ arr 0 ∷ arr 1 ∷ ref 0 ∷ base (inst 0) ∷ lam 0 1 [] ∷ []

-- types to find, and the row that each is found at: the first equal one; a lambda is never found
abbrev pub pool_lines : List (Shape × Option ℕ)
pool_lines = (fn 0, some 0) ∷ (fn 1, none) ∷ (arr 0, some 1) ∷ (arr 1, some 3) ∷ (arr 2, none) ∷ (ref 0, some 4) ∷ (ref 1, none) ∷ (base (inst 0), some 5) ∷ (base (inst 1), none) ∷ (lam 0 1 [], none) ∷ []

-- each line of pooling holds
pub pool_holds : map (λ l. first_equal 0 pool_rows l.0) pool_lines ≡ map (λ l. l.1) pool_lines
pool_holds = refl

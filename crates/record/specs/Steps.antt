-- The steps of a typing rule, as programs. Definitions alone.
use Rattle.std.proofs.Math.Option.{Option, none, some}
use Rattle.std.specs.Prelude.{List, map, Bool, cond, ℕ, suc, zero, get_or, length, ltb, Some}
use Rattle.theory.specs.Rules.{Shape, Kind, inst, base, arr, ref, fn, fun, lam, Out, numbers_of, row}
use Rattle.theory.specs.Program.{St, Prog, clip, done, draw, intern, equate, emit, mark, read, write, ◌>>=◌}
use Rattle.type_table.specs.declared.NodeId.{NodeId}
use Rattle.type_table.specs.Memory.{numbered}
use Rattle.type_table.specs.Made.{origin_number}
use Rattle.record.specs.declared.Extra.{Extra}
use Rattle.record.specs.declared.TypingError.{TypingError}
use Rattle.record.specs.Own.{Own, typed, marked, resolved}

-- the state of the walk
abbrev pub State : Type 0
State = St Own TypingError

-- a type, Nil where there is none
abbrev pub or_nil : Option ℕ → ℕ
or_nil none = 0
or_nil (some t) = t

-- a program of a walk
abbrev pub Walk : Type 0 → Type 0
Walk A = Prog Own TypingError A

-- no answer but that it is done
abbrev pub Step : Type 0
Step = Walk (Unit {0})

-- the walk's own is changed
unfoldable pub change : (Own → Own) → Step
change f = read (λ s. write (f s.own) (done tt))

-- RAW of a node
unfoldable pub set_node_type : ℕ → ℕ → Step
set_node_type n t = change (typed n t)

-- EXTRA of a node
unfoldable pub set_extra : ℕ → Extra → Step
set_extra n e = change (marked n e)

-- FINAL of a node
unfoldable pub set_final : ℕ → ℕ → Step
set_final n t = change (resolved n t)

-- RAW of a node, as it stands
unfoldable pub node_type_lem : ℕ → Walk (Option ℕ)
node_type_lem n = read (λ s. done (get_or s.own.raw n none))

-- a type, taken apart
unfoldable pub shape_of_lem : ℕ → Walk Shape
shape_of_lem x = read (λ s. done (row s.rows x))

-- all types
unfoldable pub all_types : Walk (List Shape)
all_types = read (λ s. done s.rows)

-- the type that `return` answers to
unfoldable pub output : Walk ℕ
output = read (λ s. done s.own.output)

-- the origin of a variable that a node draws
abbrev pub drawn_by : ℕ → Option ℕ
drawn_by n = numbered (origin_number (Some (record { 0 = n })))

-- `new_infer_var`: a new variable's type
unfoldable pub new_infer_var : Kind → Option ℕ → Walk ℕ
new_infer_var k o = draw k o done

-- the type array of e
unfoldable pub array_of : ℕ → Walk ℕ
array_of e = intern (arr e) done

-- the type reference to e
unfoldable pub ref_to_lem : ℕ → Walk ℕ
ref_to_lem e = intern (ref e) done

-- the type of the definition d, of 256
unfoldable pub fn_def_lem : ℕ → Walk ℕ
fn_def_lem d = cond (ltb d 256) (intern (fn d) done) (done 0)

-- the type of the instance k, of 64
unfoldable pub instance : ℕ → Walk ℕ
instance k = cond (ltb k 64) (intern (base (inst k)) done) (done 0)

-- the type of a param, as an input of a type that is made: Nil for what has none
unfoldable pub param_type : State → ℕ → ℕ
param_type s n = clip (length s.rows) (or_nil (get_or s.own.raw n none))

-- the type of the lambda of the node n, of its output and its params
unfoldable pub make_lambda : ℕ → ℕ → List ℕ → Walk ℕ
make_lambda n o ps = read (λ s. intern (lam n o (map (param_type s) ps)) done)

-- the type of functions of a SPAN, of its output and inputs
unfoldable pub make_function : ℕ → ℕ → List ℕ → Walk ℕ
make_function a o is = read (λ s. intern (fun a o (map (clip (length s.rows)) is)) done)

-- a variable's negation mark
unfoldable pub mark_var : ℕ → Step
mark_var v = mark v (done tt)

-- one error more
unfoldable pub error : TypingError → Step
error e = emit e (done tt)

-- an error with the CAUSE of a failed equation
abbrev pub caused : TypingError → Out → TypingError
caused e o = record { kind = e.kind; cause = (numbers_of o).1; at = e.at; second = e.second; a = e.a; b = e.b; c = e.c }

-- raise the equation of x, expected, and y, got, in the rule of the node n: whether it is met; a mismatch emits its error
unfoldable pub equation : ℕ → ℕ → ℕ → TypingError → Walk Bool
equation n x y e = equate n x y (caused e) done

-- the k numbers from i on, in order
unfoldable pub for_each : ℕ → ℕ → (ℕ → Step) → Step
for_each i zero f = done tt
for_each i (suc k) f = do
  _ ← f i
  for_each (suc i) k f

-- When a memory and a record hold a state of the walk, and what it is to run a program over them. Definitions alone.
use Rattle.std.specs.Prelude.{◌≡◌, List, [], ◌∷◌, Bool, true, false, ℕ, ◌+◌, ◌*◌, ◌%◌, ◌≤◌, length, Err, Ok, Result}
use Rattle.std.proofs.Math.Option.{none, some}
use Rattle.theory.specs.Rules.{Shape, base, var, arr, ref, fn, fun, lam, err, div, Out, success, mismatch, refused12, refused13, dry}
use Rattle.theory.specs.Program.{Equation, run}
use Rattle.type_table.specs.Memory.{cell, most_types, most_vars, most_inputs}
use Rattle.type_table.specs.Sound.{Sound, state_of}
use Rattle.record.specs.declared.Record.{Record}
use Rattle.record.specs.declared.Given.{Given}
use Rattle.record.specs.declared.TypingError.{TypingError}
use Rattle.record.specs.declared.Equated.{Equated}
use Rattle.record.specs.declared.Equated.TheVariants as equated
use Rattle.record.specs.Own.{most_errors, log_at, own_of, errors_of}
use Rattle.record.specs.Steps.{State, Walk, Step, caused, error, equation}
use Rattle.record.specs.declared.Refusal.{Refusal}
use Rattle.type_table.specs.declared.TypeId.{TypeId}

-- ── what is in the memory ──

-- how many inputs a row has
abbrev pub input_count : Shape → ℕ
input_count (base b) = 0
input_count (var v) = 0
input_count (arr e) = 0
input_count (ref e) = 0
input_count (fn d) = 0
input_count (fun s o i) = length i
input_count (lam n o i) = length i
input_count err = 0
input_count div = 0

-- how many inputs all rows have
unfoldable pub input_total : List Shape → ℕ
input_total [] = 0
input_total (s ∷ l) = input_count s + input_total l

-- the number of an answer in the log: CAUSE, or the refusal
abbrev pub answer_number : Out → ℕ
answer_number success = 0
answer_number mismatch = 1
answer_number refused12 = 12
answer_number refused13 = 13
answer_number dry = 12

-- the third cell of an equation: its answer's number k and its node n, of 4,096
abbrev pub answer_word : ℕ → ℕ → ℕ
answer_word k n = k + n % 4096 * 16

-- the equation i is in the log
abbrev pub LoggedAt : List ℕ → ℕ → Equation → Type 0
LoggedAt m i q = (cell m (log_at + i * 3) ≡ q.expected) × (cell m (log_at + i * 3 + 1) ≡ q.got) × (cell m (log_at + i * 3 + 2) ≡ answer_word (answer_number q.answer) q.node)

-- the equations, the newest first, are in the log as far as the memory reaches
unfoldable pub Logged : List ℕ → List Equation → Type 0
Logged m [] = Unit {0}
Logged m (q ∷ l) = (log_at + length l * 3 + 3 ≤ length m → LoggedAt m (length l) q) × Logged m l

-- the memory and the record hold the state s
pub record Encodes (m : List ℕ) (c : Record) (s : State) : Type 0 where
  -- the memory has all regions
  pub size : log_at ≤ length m
  -- the tables of types and variables are sound,
  pub sound : Sound m c.counts
  -- and those of the state
  pub tables : state_of m c.counts s ≡ s
  -- the inputs are those of the rows
  pub inputs : c.counts.inputs ≡ input_total s.rows
  -- the nodes are those of the state,
  pub own : s.own ≡ own_of m c.output.0
  -- so are the errors,
  pub errors : s.errs ≡ errors_of m c.errors
  -- and the equations
  pub equations : c.equations ≡ length s.log
  -- the log holds them
  pub logged : Logged m s.log

-- ── running a program ──

-- the tables of a state are not over their limits
pub record Fits (s : State) : Type 0 where
  -- the type rows
  pub rows : length s.rows ≤ most_types
  -- the variables
  pub vars : length s.kinds ≤ most_vars
  -- the inputs
  pub inputs : input_total s.rows ≤ most_inputs
  -- the errors
  pub errors : length s.errs ≤ most_errors
  -- the equations
  pub equations : length s.log ≤ 65535

-- from the memory m and the record c to m' and c': the program p, where its tables do not grow over their limits, ends with the answer a
pub record Runs {A : Type 0} (m : List ℕ) (c : Record) (m' : List ℕ) (c' : Record) (p : Walk A) (a : A) : Type 0 where
  pub ran : (s : State) → Encodes m c s → Fits (run p s).1 → ((run p s).0 ≡ some a) × Encodes m' c' (run p s).1

-- the same of a program that refuses, with the number k at the node n
pub record Stops {A : Type 0} (m : List ℕ) (c : Record) (m' : List ℕ) (c' : Record) (p : Walk A) (k n : ℕ) : Type 0 where
  pub stopped : (s : State) → Encodes m c s → Fits (run p s).1 → ((run p s).0 ≡ none) × ((run p s).1.stop ≡ some (k, n)) × Encodes m' c' (run p s).1

-- a program that changes no count
abbrev pub Does : List ℕ → List ℕ → Step → Type 0
Does m m' p = (c : Record) → Runs m c m' c p tt

-- a program that gives a type
abbrev pub Gives : List ℕ → Record → List ℕ → Given → Walk ℕ → Type 0
Gives m c m' r p = Runs m c m' r.record p r.ty.0

-- by the answer
abbrev pub TypesBy : List ℕ → Record → List ℕ → Result (Record × TypeId) Refusal → Walk ℕ → Type 0
TypesBy m c m' (Ok (d, t)) p = Runs m c m' d p t.0
TypesBy m c m' (Err e) p = Stops m c m' e.record p e.number e.node.0

-- a program that gives a type or refuses
pub record Types (m : List ℕ) (c : Record) (m' : List ℕ) (r : Result (Record × TypeId) Refusal) (p : Walk ℕ) : Type 0 where
  pub by : TypesBy m c m' r p

-- by the answer
abbrev pub RulesBy : List ℕ → Record → List ℕ → Result Record Refusal → Step → Type 0
RulesBy m c m' (Ok d) p = Runs m c m' d p tt
RulesBy m c m' (Err e) p = Stops m c m' e.record p e.number e.node.0

-- a program that gives no type, or refuses
pub record Rules (m : List ℕ) (c : Record) (m' : List ℕ) (r : Result Record Refusal) (p : Step) : Type 0 where
  pub by : RulesBy m c m' r p

-- by the answer
abbrev pub EquatesBy : List ℕ → Record → List ℕ → ℕ → Equated → Walk Bool → Type 0
EquatesBy m c m' n (equated.Met d) p = Runs m c m' d p true
EquatesBy m c m' n (equated.Failed d) p = Runs m c m' d p false
EquatesBy m c m' n (equated.Refused k d) p = Stops m c m' d p k n

-- an equation in the rule of the node n
pub record Equates (m : List ℕ) (c : Record) (m' : List ℕ) (n : ℕ) (r : Equated) (p : Walk Bool) : Type 0 where
  pub by : EquatesBy m c m' n r p

-- by the answer: the program `equation` with any error e; where it failed, once that error is emitted
abbrev pub RaisesBy : List ℕ → Record → List ℕ → ℕ → ℕ → ℕ → Equated → TypingError → Type 0
RaisesBy m c m' n x y (equated.Met d) e = Runs m c m' d (equation n x y e) true
RaisesBy m c m' n x y (equated.Failed d) e = (m₂ : List ℕ) (d₂ : Record) → Runs m' d m₂ d₂ (error (caused e mismatch)) tt → Runs m c m₂ d₂ (equation n x y e) false
RaisesBy m c m' n x y (equated.Refused k d) e = Stops m c m' d (equation n x y e) k n

-- the equation of x, expected, and y, got, is raised in the rule of the node n, and the error of one that failed is still to be emitted
pub record Raises (m : List ℕ) (c : Record) (m' : List ℕ) (n x y : ℕ) (r : Equated) : Type 0 where
  pub by : (e : TypingError) → RaisesBy m c m' n x y r e
